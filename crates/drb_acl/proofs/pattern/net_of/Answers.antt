use Rattle.std.proofs.Common.{sym, ap}
use Rattle.std.specs.Prelude.{option_copied}
use Rattle.drb_acl.proofs.Cutting.{next, of_parts}
use Rattle.drb_acl.proofs.pattern.net_of.Goals as goal

pub returns-in-Some-rest : goal.returns-in-Some-rest
returns-in-Some-rest c =
    sym (of_parts c.args.text.now c.in-Some.bits.now c.in-Some-rest.field-0.now c.cut.result.0.now c.cut-2.result.0.now
    (next 47 c.args.text.now c.cut.result.0.now c.in-Some.bits.now (option_copied c.cut.result.1) c.cut.ensures.parts (ap option_copied c.in-Some.is))
    (next 47 c.in-Some.bits.now c.cut-2.result.0.now c.in-Some-rest.field-0.now (option_copied c.cut-2.result.1) c.cut-2.ensures.parts (ap option_copied c.in-Some-rest.is)))
