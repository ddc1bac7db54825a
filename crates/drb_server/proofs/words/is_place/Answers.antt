use Rattle.std.proofs.Common.{refl}
use Rattle.drb_server.proofs.Options.{place_is, no_place_is}
use Rattle.drb_server.proofs.words.is_place.Goals as goal

pub returns-in-Ok : goal.returns-in-Ok
returns-in-Ok c = ((λ q. place_is c.as_bytes.result.now c.args.word.now c.in-Ok.field-0.host.now c.in-Ok.field-0.port c.as_bytes.ensures.value c.in-Ok.ensures.address), (λ q. refl))

pub returns-in-Err : goal.returns-in-Err
returns-in-Err c = ((λ q. absurd (cc)), (λ p. absurd (no_place_is c.as_bytes.result.now c.args.word.now c.as_bytes.ensures.value c.in-Err.ensures.every_uri p)))
