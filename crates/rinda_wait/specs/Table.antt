-- A map of requests by their ids, as the list of them.
use Rattle.std.specs.Prelude.{◌≡◌, ℕ, Bool, true, ◌&&◌, ◌==◌, List, [], ◌∷◌}
use Rattle.std.specs.Map.{values_of}
use Rattle.rinda_rules.specs.declared.plain.Request.{Request}
use Rattle.rinda_rules.specs.Rows.{rising}

-- each request stands at its own id
abbrev pub keyed : List (ℕ × Request) → Bool
keyed [] = true
keyed (e ∷ es) = e.0 == (e.1).id && keyed es

-- so a map is read in rising id
pub record IsTable (es : List (ℕ × Request)) : Type 0 where
  pub keyed : keyed es ≡ true
  pub rising : rising (λ r. r.id) (values_of es) ≡ true
