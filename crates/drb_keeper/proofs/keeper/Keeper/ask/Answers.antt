use Rattle.std.proofs.Common.{refl}
use Rattle.drb_keeper.proofs.Keeping.{renewal, asks_settled, asks_memory}
use Rattle.drb_keeper.proofs.Aging.{asks_ages}
use Rattle.drb_keeper.proofs.keeper.Keeper.ask.Goals as goal

pub returns-in-Some-clause-goes : goal.returns-in-Some-clause-goes
returns-in-Some-clause-goes g c = asks_settled c.args.limits.now c.args.id c.args.renewer c.call_back-back.result c.in-Some.life _ _ _ _ _ _ _ _ _ _
    (renewal c.args.limits.now c.args.renewer _ _ c.call_back-back.result _ _ _ _ _ _ c.method_of-name.ensures.method refl (record {
      calls = c.call_back-back.ensures.calls;
      bad_uri = c.call_back-back.ensures.bad_uri;
      too_long = c.call_back-back.ensures.too_long;
      every_too_long = c.call_back-back.ensures.every_too_long;
      fault = c.call_back-back.ensures.fault;
      later = c.call_back-back.ensures.later;
    }))
    c.in-Some.ensures (c.settle.ensures.settled c.args.limits.now)

pub returns-in-None-clause-goes : goal.returns-in-None-clause-goes
returns-in-None-clause-goes g c = asks_memory c.args.limits.now c.args.id c.args.renewer c.call_back-back.result _ _ _ _ _ _
    (renewal c.args.limits.now c.args.renewer _ _ c.call_back-back.result _ _ _ _ _ _ c.method_of-name.ensures.method refl (record {
      calls = c.call_back-back.ensures.calls;
      bad_uri = c.call_back-back.ensures.bad_uri;
      too_long = c.call_back-back.ensures.too_long;
      every_too_long = c.call_back-back.ensures.every_too_long;
      fault = c.call_back-back.ensures.fault;
      later = c.call_back-back.ensures.later;
    }))
    c.in-None.ensures

pub returns-in-Some-clause-ages : goal.returns-in-Some-clause-ages
returns-in-Some-clause-ages g c = asks_ages c.args.limits.now c.args.id c.args.renewer _ _ _ _ (returns-in-Some-clause-goes g c) c.settle.ensures.lawful
