use Rattle.rinda_effects.proofs.Choosing.{submit_chooses}
use Rattle.rinda_effects.proofs.turns.submit_chooses.Goals as goal

pub returns : goal.returns
returns c s caller id r t there own reserved here may = submit_chooses s caller id r t there own reserved here may
