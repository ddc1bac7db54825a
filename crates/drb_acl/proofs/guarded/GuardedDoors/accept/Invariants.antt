use Rattle.drb_acl.specs.Judging.{access}
use Rattle.drb_acl.proofs.Guardings.{Going}
use Rattle.drb_acl.proofs.guarded.GuardedDoors.accept.Given as goal

-- guests came and were refused
abbrev pub invariant-loop : goal.invariant-loop
invariant-loop g l = Going (access l.fn.self.order l.fn.self.rules.items) (λ x. g.N.In.Known.peer x.input) g.N.Doors.guests g.N.Doors.faults g.N.Doors.ends l.fn.self.order l.self.order l.fn.self.rules l.self.rules l.fn.self.counts.items l.self.counts.items l.fn.self.doors l.self.doors
