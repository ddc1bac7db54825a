-- A table of rows by their ids, as a list.
use Rattle.std.specs.Prelude.{◌≡◌, ℕ, Bool, true, ◌&&◌, ◌==◌, nat_lt, List, [], ◌∷◌}
use Rattle.std.specs.List.{list_all}
use Rattle.std.specs.Map.{values_of}
use Rattle.rinda_rules.specs.declared.plain.Entry.{Entry}
use Rattle.rinda_rules.specs.Rows.{rising}

-- each row stands at its own id
abbrev pub keyed : List (ℕ × Entry) → Bool
keyed [] = true
keyed (e ∷ es) = e.0 == (e.1).id && keyed es

pub record IsTable (es : List (ℕ × Entry)) : Type 0 where
  pub keyed : keyed es ≡ true
  pub rising : rising (λ t. t.id) (values_of es) ≡ true

-- all ids are below that one
abbrev pub below : ℕ → List Entry → Bool
below id rows = list_all (λ t. nat_lt t.id id) rows
