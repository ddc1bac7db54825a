-- What is left of a text that is cut.
use Rattle.std.specs.Prelude.{ℕ, ◌+◌, List, [], length, Option, Some, None}
use Rattle.drb_acl.specs.Patterns.{parts}

-- the parts of what is left
abbrev pub parts_of : ℕ → Option (List ℕ) → List (List ℕ)
parts_of byte None = []
parts_of byte (Some text) = parts byte text

-- how much there is to cut yet
abbrev pub weight : Option (List ℕ) → ℕ
weight None = 0
weight (Some text) = length text + 1
