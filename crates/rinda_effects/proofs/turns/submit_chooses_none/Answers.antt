use Rattle.rinda_effects.proofs.Choosing.{submit_chooses_none}
use Rattle.rinda_effects.proofs.turns.submit_chooses_none.Goals as goal

pub returns : goal.returns
returns c s caller id h = submit_chooses_none s caller id h
