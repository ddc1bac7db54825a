use Rattle.std.proofs.Common.{ap}
use Rattle.std.specs.Prelude.{Some}
use Rattle.rinda_proxy.proofs.Telling.{tells_cut}
use Rattle.rinda_proxy.proofs.printing.tell.Goals as goal

pub returns-else-write_all : goal.returns-else-write_all
returns-else-write_all g c = tells_cut _ _ _ _ _ _ _ _ c.write_all.ensures.sink.later (rw c.if-write_all.false at c.write_all.ensures.sink.bytes) (c.write_all.ensures.failed c.if-write_all.false) (ap (λ q. Some q) c.unwrap_or.ensures)
