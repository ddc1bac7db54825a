use Rattle.marshal_grammar.proofs.KeptDumps.{dumps_fit}
use Rattle.marshal_grammar.proofs.laws.dumps_fit.Goals as goal

pub returns : goal.returns
returns c = dumps_fit
