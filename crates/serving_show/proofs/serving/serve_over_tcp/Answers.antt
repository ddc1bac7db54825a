use denote.Param.Send.{sendable}
use Rattle.serving_show.proofs.Crossing.{journal_send}
use Rattle.serving_show.proofs.serving.serve_over_tcp.Goals as goal

pub serve_run-served-requires-send-J : goal.serve_run-served-requires-send-J
serve_run-served-requires-send-J g c κs = search (journal_send, sendable) depth 60
