use Rattle.std.proofs.Common.{◌∙◌, sym, ap}
use Rattle.std.specs.Prelude.{option_copied}
use Rattle.drb_acl.proofs.Cutting.{next, last, of_three, of_more, is_there}
use Rattle.drb_acl.proofs.pattern.address_of.Goals as goal

pub returns-in_err-rest-3 : goal.returns-in_err-rest-3
returns-in_err-rest-3 c =
    c.from_residual-in_err-rest-3.ensures
    ∙ sym (of_three c.args.text.now c.in_ok-rest.field-0.now c.in_ok-rest-2.field-0.now c.cut.result.0.now c.cut-2.result.0.now c.cut-3.result.0.now
    (next 46 c.args.text.now c.cut.result.0.now c.in_ok-rest.field-0.now (option_copied c.cut.result.1) c.cut.ensures.parts (ap option_copied c.in_ok-rest.was))
    (next 46 c.in_ok-rest.field-0.now c.cut-2.result.0.now c.in_ok-rest-2.field-0.now (option_copied c.cut-2.result.1) c.cut-2.ensures.parts (ap option_copied c.in_ok-rest-2.was))
    (last 46 c.in_ok-rest-2.field-0.now c.cut-3.result.0.now (option_copied c.cut-3.result.1) c.cut-3.ensures.parts (ap option_copied c.in_err-rest-3.was)))

pub returns-then-is_some : goal.returns-then-is_some
returns-then-is_some c =
    let more = is_there c.cut-4.result.1 c.if-is_some.ensures in
    sym (of_more c.args.text.now c.in_ok-rest.field-0.now c.in_ok-rest-2.field-0.now c.in_ok-rest-3.field-0.now more.0.now c.cut.result.0.now c.cut-2.result.0.now c.cut-3.result.0.now c.cut-4.result.0.now
    (next 46 c.args.text.now c.cut.result.0.now c.in_ok-rest.field-0.now (option_copied c.cut.result.1) c.cut.ensures.parts (ap option_copied c.in_ok-rest.was))
    (next 46 c.in_ok-rest.field-0.now c.cut-2.result.0.now c.in_ok-rest-2.field-0.now (option_copied c.cut-2.result.1) c.cut-2.ensures.parts (ap option_copied c.in_ok-rest-2.was))
    (next 46 c.in_ok-rest-2.field-0.now c.cut-3.result.0.now c.in_ok-rest-3.field-0.now (option_copied c.cut-3.result.1) c.cut-3.ensures.parts (ap option_copied c.in_ok-rest-3.was))
    (next 46 c.in_ok-rest-3.field-0.now c.cut-4.result.0.now more.0.now (option_copied c.cut-4.result.1) c.cut-4.ensures.parts (ap option_copied more.1)))
