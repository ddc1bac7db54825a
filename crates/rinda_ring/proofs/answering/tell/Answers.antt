use Rattle.rinda_ring.proofs.Ringing.{tells_calls, tells_caused}
use Rattle.rinda_ring.proofs.answering.tell.Goals as goal

pub returns-in-Ok-arguments_of-clause-calls : goal.returns-in-Ok-arguments_of-clause-calls
returns-in-Ok-arguments_of-clause-calls g c = tells_calls c.args.place.now c.args.block.now c.in-Ok.front _ c.in-Ok-arguments_of.args _ c.call_back.result _ _ _ c.in-Ok.ensures c.method_of-name.ensures.method c.as_slice.ensures c.in-Ok-arguments_of.ensures.arguments c.call_back.ensures.calls

pub returns-in-Ok-arguments_of-clause-caused : goal.returns-in-Ok-arguments_of-clause-caused
returns-in-Ok-arguments_of-clause-caused g c = tells_caused c.args.place.now _ _ c.args.block.now c.in-Ok.front _ c.in-Ok-arguments_of.args _ c.call_back.result c.in-Ok.ensures c.method_of-name.ensures.method c.as_slice.ensures c.in-Ok-arguments_of.ensures.arguments c.in-Ok-arguments_of.ensures.within
    (record { bad_uri = c.call_back.ensures.bad_uri; too_long = c.call_back.ensures.too_long; every_too_long = c.call_back.ensures.every_too_long; fault = c.call_back.ensures.fault })
