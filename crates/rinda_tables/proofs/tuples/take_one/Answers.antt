use Rattle.std.proofs.Common.{ap, sym, ◌∙◌}
use Rattle.std.specs.Prelude.{option_copied}
use Rattle.rinda_tables.proofs.Gone.{without-absent}
use Rattle.rinda_tables.proofs.tuples.take_one.Goals as goal

pub returns-in-None : goal.returns-in-None
returns-in-None c = sym (without-absent (λ t. t.id) c.args.id c.args.bag.now (sym c.row.ensures ∙ ap option_copied c.in-None.is))
