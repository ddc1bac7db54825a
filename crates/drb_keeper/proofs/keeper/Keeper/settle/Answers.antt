use Rattle.drb_keeper.proofs.Keeping.{ends_so, settled_by, settled_not}
use Rattle.drb_keeper.proofs.keeper.Keeper.settle.Goals as goal

pub returns-in-Ok-clause-settled : goal.returns-in-Ok-clause-settled
returns-in-Ok-clause-settled g c limits = settled_by limits c.args.id c.args.life _ _ _ _ _ _ c.now-at.ensures c.tell.ensures.lawful c.in-Ok.ensures.tells.1

pub returns-in-Err-clause-settled : goal.returns-in-Err-clause-settled
returns-in-Err-clause-settled g c limits c' n = ends_so limits _ _ _ _ _ _ c.end_of.ensures
    (settled_not limits c.args.id c.args.life _ _ _ _ _ c.in-Err.error c.now-at.ensures c.in-Err.ensures.tells c' n)
