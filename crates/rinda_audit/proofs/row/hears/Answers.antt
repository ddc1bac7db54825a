use Rattle.std.proofs.Common.{arith}
use Rattle.std.proofs.lemmas.Grind.{common_steps}
use Rattle.rinda_rules.specs.Space.{hears}
use Rattle.rinda_audit.proofs.row.hears.Goals as goal

pub returns : goal.returns
unfolding hears
returns c = grind (arith, common_steps)
