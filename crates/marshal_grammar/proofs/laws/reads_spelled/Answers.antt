use Rattle.marshal_grammar.proofs.RoundTrip.{reads_spelled}
use Rattle.marshal_grammar.proofs.laws.reads_spelled.Goals as goal

pub returns : goal.returns
returns c = reads_spelled
