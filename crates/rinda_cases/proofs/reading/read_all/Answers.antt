use Rattle.std.proofs.Common.{◌∙◌, ap}
use Rattle.rinda_rules.specs.declared.out.Out.TheVariants as out
use Rattle.rinda_cases.specs.Reads.{values_at}
use Rattle.rinda_cases.proofs.Values.{values-held}
use Rattle.rinda_cases.proofs.reading.read_all.Goals as goal

pub returns : goal.returns
returns c = λ s h. ap out.All (c.in_ok-all.ensures ∙ ap (values_at c.args.tables.now.tuples.ahead) (c.deref.ensures.value ∙ c.in_ok-ids.ensures) ∙ values-held s c.args.tables.now c.args.pattern.now h)
