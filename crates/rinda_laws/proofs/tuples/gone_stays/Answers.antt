use Rattle.rinda_laws.proofs.Balancing.{gone_legal}
use Rattle.rinda_laws.proofs.tuples.gone_stays.Goals as goal

pub returns : goal.returns
returns c start before later id from legal minted none = gone_legal start before later id from legal minted none
