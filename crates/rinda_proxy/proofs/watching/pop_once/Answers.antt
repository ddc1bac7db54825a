use Rattle.rinda_proxy.proofs.Telling.{tells_lost}
use Rattle.rinda_proxy.proofs.watching.pop_once.Goals as goal

pub returns-in-Err : goal.returns-in-Err
returns-in-Err g c = record { back = c.ask_event-back.result; calls = c.ask_event-back.ensures.calls; cause = c.ask_event-back.ensures.caused; later = c.ask_event-back.ensures.later; tells = tells_lost _ _ _ _ _ }
