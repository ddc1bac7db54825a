use Rattle.marshal_grammar.proofs.ShortestLongs.{shortest_longs}
use Rattle.marshal_grammar.proofs.laws.shortest_longs.Goals as goal

pub returns : goal.returns
returns c = shortest_longs
