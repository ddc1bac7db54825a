use denote.Param.Send.{sendable}
use Rattle.drb_server.proofs.Crossing.{counted_send}
use Rattle.drb_server.proofs.serve.serve_counting.Goals as goal

pub serve_run-served-requires-send-J : goal.serve_run-served-requires-send-J
serve_run-served-requires-send-J g c κs = search (counted_send, sendable) depth 60
