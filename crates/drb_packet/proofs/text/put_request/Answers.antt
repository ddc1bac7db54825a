use Rattle.std.proofs.lemmas.Result.{err_from_is_err_and}
use Rattle.drb_packet.proofs.Texts.{call_then, call_stop}
use Rattle.drb_packet.proofs.text.put_request.Goals as goal

pub returns-in_err-put_packets : goal.returns-in_err-put_packets
returns-in_err-put_packets c =
    let p = err_from_is_err_and c.from_residual-in_err-put_packets.result c.from_residual-in_err-put_packets.ensures.1 in
    rw (p.1, p.2) (call_stop c.args.to.now c.args.name.now c.args.args.now c.in_err-put_packets.field-0.0 _ _ _ c.in_ok-put_call.ensures c.in_err-put_packets.ensures)

pub returns : goal.returns
returns c = call_then c.args.to.now c.args.name.now c.args.args.now c.nil.result c.put_packet-2.result _ _ _ _ c.in_ok-put_call.ensures c.in_ok-put_packets.ensures c.nil.ensures c.put_packet-2.ensures
