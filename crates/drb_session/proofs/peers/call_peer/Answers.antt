use Rattle.drb_session.proofs.Calling.{says_out, caused_out}
use Rattle.drb_session.proofs.peers.call_peer.Goals as goal

pub returns-in-Ok-clause-calls : goal.returns-in-Ok-clause-calls
returns-in-Ok-clause-calls g c = says_out c.args.place.now c.args.to.now c.args.saying _ c.in-Ok.args _ c.call_back.result _ _ _ c.method_of-name.ensures.method c.as_slice.ensures c.in-Ok.ensures.arguments c.call_back.ensures.calls

pub returns-in-Ok-clause-caused : goal.returns-in-Ok-clause-caused
returns-in-Ok-clause-caused g c = caused_out c.args.place.now _ _ c.args.to.now c.args.saying _ c.in-Ok.args _ c.call_back.result c.method_of-name.ensures.method c.as_slice.ensures c.in-Ok.ensures.arguments c.in-Ok.ensures.within
    (record { bad_uri = c.call_back.ensures.bad_uri; too_long = c.call_back.ensures.too_long; every_too_long = c.call_back.ensures.every_too_long; fault = c.call_back.ensures.fault })
