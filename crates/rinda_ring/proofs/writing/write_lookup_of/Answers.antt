use Rattle.rinda_ring.proofs.Ringing.{writes_replied, writes_halted, halted_tuple}
use Rattle.rinda_ring.proofs.Ruled.{never_untupled}
use Rattle.rinda_ring.proofs.writing.write_lookup_of.Goals as goal

pub returns-in-Ok-clause-writes : goal.returns-in-Ok-clause-writes
returns-in-Ok-clause-writes g c = writes_replied c.args.place.now c.args.lookup c.write_of-call.result _ _ c.in-Ok.reply _ c.write_of-call.ensures c.end_written.ensures c.in-Ok.ensures.runs

pub returns-in-Err-clause-writes : goal.returns-in-Err-clause-writes
returns-in-Err-clause-writes g c = writes_halted c.args.place.now c.args.lookup c.write_of-call.result _ _ c.in-Err.halt _ c.write_of-call.ensures c.end_halted.ensures c.in-Err.ensures.runs

pub returns-in-Ok-clause-never : goal.returns-in-Ok-clause-never
returns-in-Ok-clause-never g c l e = never_untupled c.args.place.now c.args.lookup c.write_of-call.result _ _ c.in-Ok.reply _ c.write_of-call.ensures c.end_written.ensures (c.in-Ok.ensures.lawful l) c.in-Ok.ensures.runs e

pub returns-in-Err-clause-never : goal.returns-in-Err-clause-never
returns-in-Err-clause-never g c l e = halted_tuple c.in-Err.halt _ c.end_halted.ensures e
