use Rattle.rinda_laws.proofs.Staying.{not_nothing}
use Rattle.rinda_laws.proofs.requests.neither_is_nothing.Goals as goal

pub returns : goal.returns
returns c s caller at id ok = not_nothing s caller at id ok
