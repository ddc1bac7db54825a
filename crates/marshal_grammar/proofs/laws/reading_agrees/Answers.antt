use Rattle.marshal_grammar.proofs.Answering.{reads_dumps, reads_refusals}
use Rattle.marshal_grammar.proofs.laws.reading_agrees.Goals as goal

pub returns : goal.returns
returns c = record { dumps = reads_dumps; refusals = reads_refusals }
