use Rattle.marshal_grammar.proofs.Answering.{any_rest}
use Rattle.marshal_grammar.proofs.laws.any_rest.Goals as goal

pub returns : goal.returns
returns c = any_rest
