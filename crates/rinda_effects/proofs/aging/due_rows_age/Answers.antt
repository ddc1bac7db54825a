use Rattle.rinda_effects.proofs.Ripening.{due_rows_age}
use Rattle.rinda_effects.proofs.aging.due_rows_age.Goals as goal

pub returns : goal.returns
returns c s gone doubted requests notifiers sound h = due_rows_age s gone doubted requests notifiers sound h
