use Rattle.std.proofs.Common.{refl, sym}
use Rattle.rinda_proxy.proofs.Courses.{asks_alone, asks_follow}
use Rattle.rinda_proxy.proofs.Faulting.{faults_of}
use Rattle.rinda_proxy.proofs.client.client_ask.Goals as goal

pub returns-in-Some-clause-asks : goal.returns-in-Some-clause-asks
returns-in-Some-clause-asks g c = asks_follow c.args.limits.now c.args.uri.now c.args.asking.now c.ask_first-back.result c.in-Some.count c.follow.result _ _ _ (sym c.in-Some.ensures)
    (record { calls = c.ask_first-back.ensures.calls; cause = c.ask_first-back.ensures.caused; later = c.ask_first-back.ensures.later; given = refl; prints = refl }) c.follow.ensures

pub returns-in-Some-clause-faults : goal.returns-in-Some-clause-faults
returns-in-Some-clause-faults g c = faults_of _ _ _ _ _ _ (asks_follow c.args.limits.now c.args.uri.now c.args.asking.now c.ask_first-back.result c.in-Some.count c.follow.result _ _ _ (sym c.in-Some.ensures)
    (record { calls = c.ask_first-back.ensures.calls; cause = c.ask_first-back.ensures.caused; later = c.ask_first-back.ensures.later; given = refl; prints = refl }) c.follow.ensures)

pub returns-in-None-clause-asks : goal.returns-in-None-clause-asks
returns-in-None-clause-asks g c = asks_alone c.args.limits.now c.args.uri.now c.args.asking.now c.ask_first-back.result c.answer.result _ _ _ (sym c.in-None.ensures)
    (record { calls = c.ask_first-back.ensures.calls; cause = c.ask_first-back.ensures.caused; later = c.ask_first-back.ensures.later; given = refl; prints = refl })
    (record { calls = refl; faults = refl; tells = c.answer.ensures })

pub returns-in-None-clause-faults : goal.returns-in-None-clause-faults
returns-in-None-clause-faults g c = faults_of _ _ _ _ _ _ (asks_alone c.args.limits.now c.args.uri.now c.args.asking.now c.ask_first-back.result c.answer.result _ _ _ (sym c.in-None.ensures)
    (record { calls = c.ask_first-back.ensures.calls; cause = c.ask_first-back.ensures.caused; later = c.ask_first-back.ensures.later; given = refl; prints = refl })
    (record { calls = refl; faults = refl; tells = c.answer.ensures }))
