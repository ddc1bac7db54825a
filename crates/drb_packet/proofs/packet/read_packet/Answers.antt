use Rattle.std.proofs.lemmas.Result.{err_from_is_err_and}
use Rattle.drb_packet.proofs.Leaves.{packet_then, packet_stop}
use Rattle.drb_packet.proofs.packet.read_packet.Goals as goal

pub returns-in_err-size-clause-source : goal.returns-in_err-size-clause-source
returns-in_err-size-clause-source g c =
    let p = err_from_is_err_and c.from_residual.result c.from_residual.ensures.1 in
    rw (p.1, p.2) (packet_stop _ _ c.in_err-size.ensures.source)

pub returns-clause-source : goal.returns-clause-source
returns-clause-source g c = packet_then _ _ _ c.in_ok-size.ensures.source c.read_body.ensures.source
