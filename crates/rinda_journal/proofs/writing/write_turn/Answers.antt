use Rattle.rinda_journal.specs.Texts.{turn_text}
use Rattle.rinda_journal.proofs.writing.write_turn.Goals as goal

pub returns-in-Ok-clause-written : goal.returns-in-Ok-clause-written
unfolding turn_text
returns-in-Ok-clause-written c = c.in-Ok.ensures.0
