use Rattle.std.proofs.Common.{◌≡◌}
use Rattle.drb_edge.proofs.tcp_doors.TcpDoorsDoors.accept.Given as goal

-- nothing failed yet
abbrev pub invariant-loop : goal.invariant-loop
invariant-loop g l = l.self.faults ≡ l.fn.self.faults
