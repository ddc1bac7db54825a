use Rattle.rinda_tables.proofs.Beginning.{may-begin}
use Rattle.rinda_tables.proofs.laws.sound_start_may_begin.Goals as goal

pub returns : goal.returns
returns c start s stands sound = may-begin start s stands sound
