use Rattle.rinda_laws.proofs.Turning.{settled_from, LegalFrom-front}
use Rattle.rinda_laws.proofs.tuples.nobody_waits.Goals as goal

pub returns : goal.returns
returns c start before later from legal = settled_from start before (LegalFrom-front start before later legal) from.settled
