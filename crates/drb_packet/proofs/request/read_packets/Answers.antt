use Rattle.std.proofs.lemmas.Result.{err_from_is_err_and}
use Rattle.std.specs.Prelude.{Err}
use Rattle.drb_packet.proofs.Chains.{reference_stop, reference_then, name_stop, name_then}
use Rattle.drb_packet.proofs.request.read_packets.Goals as goal

pub returns-in_err-reference-clause-source : goal.returns-in_err-reference-clause-source
returns-in_err-reference-clause-source g c =
    let p = err_from_is_err_and c.from_residual.result c.from_residual.ensures.1 in
    rw (p.1, p.2) (reference_stop c.args.limits.now c.in_err-reference.field-0.0 c.in_err-reference.ensures.source)

pub returns-in_err-name-clause-source : goal.returns-in_err-name-clause-source
returns-in_err-name-clause-source g c =
    let p = err_from_is_err_and c.from_residual-in_err-name.result c.from_residual-in_err-name.ensures.1 in
    rw (p.1, p.2) (reference_then c.args.limits.now c.in_ok-reference.reference (Err c.in_err-name.field-0.0) c.in_ok-reference.ensures.source (name_stop c.args.limits.now c.in_ok-reference.reference c.in_err-name.field-0.0 c.in_err-name.ensures.source))

pub returns-clause-source : goal.returns-clause-source
returns-clause-source g c = reference_then c.args.limits.now c.in_ok-reference.reference c.read_call.result c.in_ok-reference.ensures.source (name_then c.args.limits.now c.in_ok-reference.reference c.in_ok-name.name c.read_call.result c.in_ok-name.ensures.source c.read_call.ensures.source)
