use Rattle.drb_keeper.proofs.Keeping.{ends_so, owes_so, after_tick, looks_not}
use Rattle.drb_keeper.proofs.keeper.Keeper.age.Goals as goal

pub returns-in-Ok-clause-goes : goal.returns-in-Ok-clause-goes
returns-in-Ok-clause-goes g c = after_tick c.args.limits.now _ _ _ _ _ _ _ c.in-Ok.ensures.tells.0 _ _ _ c.now-at.ensures c.in-Ok.ensures.tells.1 c.look.ensures.goes

pub returns-in-Err-clause-goes : goal.returns-in-Err-clause-goes
returns-in-Err-clause-goes g c = ends_so c.args.limits.now _ _ _ _ _ _ c.end_of.ensures (owes_so c.args.limits.now _ _ _ _ _ _ c.requires.free
    (looks_not c.args.limits.now _ _ _ _ _ _ _ c.in-Err.error c.now-at.ensures c.in-Err.ensures.tells))
