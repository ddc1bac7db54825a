use Rattle.std.proofs.Common.{◌≡◌, ◌∙◌, true, sym, arith}
use Rattle.packet_show.proofs.Called.{long_request}
use Rattle.packet_show.proofs.again.request_text.Goals as goal

pub returns-in-Some-clause-too_long : goal.returns-in-Some-clause-too_long
returns-in-Some-clause-too_long c = λ h.
    let plain : c.is_plain.result ≡ true = grind arith in
    long_request c.args.request.now c.in-Some.to (sym c.is_plain.ensures ∙ plain) (sym c.in_ok-called.ensures ∙ c.in-Some.is) (c.call_text-text.ensures.too_long h)
