use Rattle.std.proofs.Common.{[], ◌∷◌, subst, sym}
use Rattle.rinda_rules.specs.Space.{Plain, is_reserved}
use Rattle.rinda_laws.specs.Owns.{Owns}
use Rattle.rinda_laws.proofs.Turning.{plain_from-append}
use Rattle.rinda_laws.proofs.Staying.{begins, stays}
use Rattle.rinda_laws.proofs.requests.request_stays.Goals as goal

pub returns : goal.returns
returns c start before later turn kind pattern lease id from legal is e = (
  subst (λ (p : Plain). Owns is_reserved turn.caller id p) (sym (plain_from-append start before (turn ∷ []))) (begins start before later turn kind pattern lease id from legal is e),
  λ none. stays start before later turn kind pattern lease id from legal is e none,
)
