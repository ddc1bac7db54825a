use Rattle.rinda_effects.proofs.Aged.{kept-aged}
use Rattle.rinda_effects.proofs.serving.aging_touches_none.Goals as goal

pub returns : goal.returns
returns c touched s e = kept-aged touched s e
