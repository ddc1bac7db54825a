use Rattle.std.proofs.Common.{inr, ◌∙◌}
use Rattle.rinda_proxy.proofs.Calls.{caused_as}
use Rattle.rinda_proxy.proofs.calling.ask_first.Goals as goal

pub returns-in-Ok-arguments_of-clause-caused : goal.returns-in-Ok-arguments_of-clause-caused
returns-in-Ok-arguments_of-clause-caused g c = caused_as _ _ c.in-Ok.to _ c.method_of.result.now _ c.as_slice.result.now _ _ c.in-Ok.ensures c.method_of.ensures.method (c.as_slice.ensures ∙ c.in-Ok-arguments_of.ensures.arguments)
    (inr (record { bad_uri = c.call_back.ensures.bad_uri; too_long = c.call_back.ensures.too_long; every_too_long = c.call_back.ensures.every_too_long; fault = c.call_back.ensures.fault }))
