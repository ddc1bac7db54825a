use Rattle.std.proofs.lemmas.Result.{err_from_is_err_and}
use Rattle.std.specs.Prelude.{Ok, Err}
use Rattle.rinda_journal.proofs.Packets.{adds_next, adds_ends, adds_done}
use Rattle.rinda_journal.proofs.packet.put_packets.Goals as goal

pub returns-in_err-put_packet : goal.returns-in_err-put_packet
returns-in_err-put_packet c =
    let p = err_from_is_err_and c.from_residual.result c.from_residual.ensures.1 in
    rw (p.1, p.2) (c.loop-value.invariant (Err c.in_err-put_packet.field-0.0) c.put_packet.new.out.items (adds_ends c.args.values.now c.loop-value.value-index c.value-item.result c.in_err-put_packet.field-0.0 c.loop-value.out.items c.put_packet.new.out.items c.loop-value-test.true c.value-item.is c.in_err-put_packet.ensures))

pub loop-value-preserved : goal.loop-value-preserved
loop-value-preserved c = λ r q h. c.loop-value.invariant r q (adds_next c.args.values.now c.loop-value.value-index c.value-item.result r c.loop-value.out.items c.put_packet.new.out.items q c.loop-value-test.true c.value-item.is c.in_ok-put_packet.ensures h)

pub returns : goal.returns
returns c = c.loop-value.invariant (Ok tt) c.loop-value.out.items (adds_done c.args.values.now c.loop-value.value-index c.loop-value.out.items c.loop-value-test.false)
