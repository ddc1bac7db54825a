use Rattle.rinda_laws.proofs.Staying.{submit_answers, settle_answers}
use Rattle.rinda_laws.proofs.requests.own_is_answered.Goals as goal

pub returns : goal.returns
returns c start h turn id from legal = (
  λ is owns. submit_answers start h turn id from legal owns is,
  λ tuple ok is owns. settle_answers start h turn id tuple ok from legal owns is,
)
