use Rattle.std.proofs.Common.{arith}
use Rattle.rinda_proxy.proofs.Popping.{going_none, going_on, goes_end, goes_all, takes_lost}
use Rattle.rinda_proxy.proofs.watching.pop_all.Goals as goal

pub returns-in_default : goal.returns-in_default
returns-in_default g c = takes_lost _ _ _ _

pub loop-i-init : goal.loop-i-init
loop-i-init g c = going_none _ _ _

pub returns-in-Some : goal.returns-in-Some
returns-in-Some g c = goes_end _ _ _ _ _ _ _ _ c.loop-i-test.true c.loop-i.invariant (rw (c.in-Ok.ensures, c.in-Some.is) at c.pop_once.ensures)

pub loop-i-preserved : goal.loop-i-preserved
loop-i-preserved g c = going_on _ _ _ _ _ _ c.loop-i.invariant (rw (c.in-Ok.ensures, c.in_default-pop_once.is) at c.pop_once.ensures)

pub returns : goal.returns
returns g c = goes_all _ _ _ _ _ _ (omega (arith, c.loop-i-test.false, c.loop-i.auto.i-end)) c.loop-i.invariant
