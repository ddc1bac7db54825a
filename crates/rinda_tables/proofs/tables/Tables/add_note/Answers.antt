use Rattle.std.proofs.Common.{refl}
use Rattle.rinda_tables.specs.Tabled.{ahead_of}
use Rattle.rinda_tables.proofs.HoldingMinted.{added-notifier}
use Rattle.rinda_tables.proofs.tables.Tables.add_note.Goals as goal

pub returns-in_ok-set-in-Ok-start-clause-added : goal.returns-in_ok-set-in-Ok-start-clause-added
returns-in_ok-set-in-Ok-start-clause-added c = λ s h. added-notifier s (ahead_of c.args.self.now) _ c.in-Ok.id c.args.event c.args.pattern c.args.deadline c.args.renewer h c.in-Ok.ensures.id refl refl c.in-Ok.ensures.minted refl refl (rw c.new.ensures at c.in-Ok-start.ensures.ahead) c.in_ok-set-in-Ok-start.ensures.set.ahead
