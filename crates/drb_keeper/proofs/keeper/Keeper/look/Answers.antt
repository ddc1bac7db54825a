use Rattle.drb_keeper.proofs.Keeping.{ends_so, owes_so, found_so, next_asked, next_idle, next_not}
use Rattle.drb_keeper.proofs.keeper.Keeper.look.Goals as goal

pub returns-in-Ok-Some-clause-goes : goal.returns-in-Ok-Some-clause-goes
returns-in-Ok-Some-clause-goes g c = next_asked c.args.limits.now _ _ _ _ _ _ _ c.in-Ok-Some.id c.in-Ok-Some.renewer _ _ _ c.now-at.ensures (found_so _ _ _ _ _ c.in-Ok-Some.field-0-is c.in-Ok-Some.ensures.asks) c.ask.ensures.goes

pub returns-in-Ok-None-clause-goes : goal.returns-in-Ok-None-clause-goes
returns-in-Ok-None-clause-goes g c = owes_so c.args.limits.now _ _ _ _ _ _ c.requires.free
    (next_idle c.args.limits.now _ _ _ _ _ _ _ c.now-at.ensures c.next_ask.ensures.lawful (found_so _ _ _ _ _ c.in-Ok-None.field-0-is c.in-Ok-None.ensures.asks))

pub returns-in-Err-clause-goes : goal.returns-in-Err-clause-goes
returns-in-Err-clause-goes g c = ends_so c.args.limits.now _ _ _ _ _ _ c.end_of.ensures (owes_so c.args.limits.now _ _ _ _ _ _ c.requires.free
    (next_not c.args.limits.now _ _ _ _ _ _ _ c.in-Err.error c.now-at.ensures c.in-Err.ensures.asks))
