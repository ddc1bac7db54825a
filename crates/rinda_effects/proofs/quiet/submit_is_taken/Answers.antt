use Rattle.rinda_effects.proofs.Submitted.{submit_is_taken}
use Rattle.rinda_effects.proofs.quiet.submit_is_taken.Goals as goal

pub returns : goal.returns
returns c start old caller at s id r t quiet h = submit_is_taken start old caller at s id r t quiet h
