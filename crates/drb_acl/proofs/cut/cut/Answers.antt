use Rattle.std.proofs.Common.{sym}
use Rattle.drb_acl.proofs.Cutting.{split_at, split_none}
use Rattle.drb_acl.proofs.cut.cut.Goals as goal

pub returns-in-Some-clause-parts : goal.returns-in-Some-clause-parts
returns-in-Some-clause-parts c = split_at c.args.byte c.args.text.now c.in-Some.at (sym c.in-Some.ensures.place)

pub returns-in-None-clause-parts : goal.returns-in-None-clause-parts
returns-in-None-clause-parts c = split_none c.args.byte c.args.text.now (sym c.in-None.ensures.place)
