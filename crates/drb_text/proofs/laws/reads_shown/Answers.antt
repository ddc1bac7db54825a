use Rattle.drb_text.proofs.Walked.{reads_shown}
use Rattle.drb_text.proofs.laws.reads_shown.Goals as goal

pub returns : goal.returns
returns c = reads_shown
