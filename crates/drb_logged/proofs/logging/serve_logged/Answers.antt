use denote.Param.Send.{sendable}
use Rattle.std.proofs.Common.{ℕ, ap, subst}
use Rattle.drb_serving.specs.Serving.{outside, IsServed}
use Rattle.drb_logged.proofs.Crossing.{journal_send}
use Rattle.drb_logged.proofs.Lasting.{logs_as}
use Rattle.drb_logged.proofs.logging.serve_logged.Goals as goal

pub serve_run-served-requires-send-J : goal.serve_run-served-requires-send-J
serve_run-served-requires-send-J g c κs = search (journal_send, sendable) depth 60

pub returns-clause-logged : goal.returns-clause-logged
returns-clause-logged g c =
    let before = outside (g.N.Doors.faults c.args.doors) (g.N.Doors.ends c.args.doors) (g.C.Clock.readings c.args.clock) in
    let after = outside (g.N.Doors.faults c.serve_run-served.result.1) (g.N.Doors.ends c.serve_run-served.result.1) (g.C.Clock.readings c.serve_run-served.result.2) in
    let guests = g.N.Doors.guests c.serve_run-served.result.1 in
    let served = subst (λ (n : ℕ). IsServed n before after guests c.serve_run-served.result.3 c.serve_run-served.result.0) (ap (λ j. j.cap) c.new.ensures) c.serve_run-served.ensures in
    logs_as c.args.max_turns before after guests c.serve_run-served.result.0 c.serve_run-served.result.3 c.write_down-logged.result.1 c.write_down-logged.result.0 served c.write_down-logged.ensures.kept
