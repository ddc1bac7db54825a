use Rattle.drb_acl.proofs.Judgings.{stays}
use Rattle.drb_acl.proofs.laws.first_word_stays.Goals as goal

pub returns : goal.returns
returns c = stays
