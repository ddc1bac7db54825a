use Rattle.rinda_proxy.specs.Requests.{pop_of}
use Rattle.rinda_proxy.specs.Commands.{side}
use Rattle.rinda_proxy.proofs.Popping.{Going}
use Rattle.rinda_proxy.proofs.watching.pop_all.Given as goal

abbrev pub invariant-loop-i : goal.invariant-loop-i
invariant-loop-i g l = Going l.limits (pop_of l.fn.notifier) l.i
    (side (g.D.Dialer.calls l.fn.dialer) (g.D.Dialer.faults l.fn.dialer) (g.K.Sink.given l.fn.output) (g.K.Sink.faults l.fn.output))
    (side (g.D.Dialer.calls l.dialer) (g.D.Dialer.faults l.dialer) (g.K.Sink.given l.output) (g.K.Sink.faults l.output))
