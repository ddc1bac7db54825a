use Rattle.marshal_read.proofs.Followed.{gives_as}
use Rattle.marshal_read.proofs.Rounds.{begins}
use Rattle.marshal_read.proofs.reader.Reader.symbol_round.Goals as goal

pub returns : goal.returns
returns c =
    gives_as _ _ _ _ _ _ _ (begins _ c.in_ok-first.first c.at-at.result c.args.self.now c.byte.new.self c.at-at.ensures c.in_ok-first.ensures.ok) c.in_ok-first.ensures.kept c.symbol_by.ensures
