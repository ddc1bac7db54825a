use Rattle.std.proofs.Common.{inr}
use Rattle.rinda_proxy.proofs.calling.ask_event.Goals as goal

pub returns-clause-caused : goal.returns-clause-caused
returns-clause-caused g c = inr (record { bad_uri = c.call_back.ensures.bad_uri; too_long = c.call_back.ensures.too_long; every_too_long = c.call_back.ensures.every_too_long; fault = c.call_back.ensures.fault })
