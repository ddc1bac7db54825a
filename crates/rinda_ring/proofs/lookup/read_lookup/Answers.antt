use Rattle.std.proofs.Common.{sym, ◌∙◌, ap}
use Rattle.std.specs.Prelude.{Ok, Err}
use Rattle.rinda_ring.specs.Lookups.{said}
use Rattle.rinda_ring.proofs.Reading.{answer, every_lookup}
use Rattle.rinda_ring.proofs.lookup.read_lookup.Goals as goal

pub returns-in-Ok-clause-every : goal.returns-in-Ok-clause-every
returns-in-Ok-clause-every c = every_lookup c.args.datagram.now (Ok (c.in-Ok.value, c.in-Ok.field-0-1)) _ (c.said.ensures ∙ ap (λ q. said q) c.lookup_of.ensures) c.in-Ok.ensures.every_dump c.in-Ok.ensures.every_refusal

pub returns-in-Err-Refused-clause-every : goal.returns-in-Err-Refused-clause-every
returns-in-Err-Refused-clause-every c = every_lookup c.args.datagram.now (Err c.in-Err-Refused.field-0) _ (ap (λ q. answer (Err q)) (sym c.in-Err-Refused.field-0-is)) c.in-Err-Refused.ensures.every_dump c.in-Err-Refused.ensures.every_refusal
