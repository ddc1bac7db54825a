use Rattle.rinda_journal.proofs.Texts.{one_turn, one_place}
use Rattle.rinda_journal.proofs.laws.one_turn.Goals as goal

pub returns : goal.returns
returns c = record { fronts = one_turn; places = one_place }
