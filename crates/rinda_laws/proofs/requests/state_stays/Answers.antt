use Rattle.rinda_rules.specs.Space.{is_reserved}
use Rattle.rinda_rules.specs.Settled.{grants}
use Rattle.rinda_laws.proofs.Staying.{state_kept, open_reserved, open_granted}
use Rattle.rinda_laws.proofs.requests.state_stays.Goals as goal

pub returns : goal.returns
returns c start h turn caller id from legal other = (
  λ owns. state_kept is_reserved start h turn caller id open_reserved from legal other owns,
  λ tuple owns. state_kept (grants tuple) start h turn caller id (open_granted tuple) from legal other owns,
)
