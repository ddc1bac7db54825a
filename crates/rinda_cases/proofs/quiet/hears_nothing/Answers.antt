use Rattle.std.proofs.Common.{◌∙◌, sym, ap}
use Rattle.rinda_tables.specs.Tabled.{ahead_of}
use Rattle.rinda_cases.proofs.Nothings.{idle_in, hears-found}
use Rattle.rinda_cases.proofs.quiet.hears_nothing.Goals as goal

pub returns-in-Some : goal.returns-in-Some
returns-in-Some c = λ s h. c.is_idle.ensures ∙ ap idle_in c.in-Some.ensures ∙ sym (hears-found s (ahead_of c.args.tables.now) c.args.id h)

pub returns-in-None : goal.returns-in-None
returns-in-None c = λ s h. ap idle_in c.in-None.ensures ∙ sym (hears-found s (ahead_of c.args.tables.now) c.args.id h)
