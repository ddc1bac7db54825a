use Rattle.rinda_journal.proofs.Texts.{some_bytes}
use Rattle.rinda_journal.proofs.laws.some_bytes.Goals as goal

pub returns : goal.returns
returns c = some_bytes
