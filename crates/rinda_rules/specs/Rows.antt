-- Lists of rows that are named by their ids. docs/SPACE.md, Rows.
use Rattle.std.specs.Prelude.{ℕ, Bool, true, List, [], ◌∷◌, map, filter, find, not, ◌==◌, ◌&&◌, nat_lt, Option, if◌then◌else◌}
use Rattle.std.specs.List.{list_all}

-- the row with that id
abbrev pub row_of : {R : Type 0} → (R → ℕ) → ℕ → List R → Option R
row_of key id rows = find (λ row. key row == id) rows

-- the rows, with that one changed
abbrev pub changed : {R : Type 0} → (R → ℕ) → ℕ → (R → R) → List R → List R
changed key id change rows = map (λ row. if key row == id then change row else row) rows

-- the rows without that one
abbrev pub without : {R : Type 0} → (R → ℕ) → ℕ → List R → List R
without key id rows = filter (λ row. not (key row == id)) rows

-- the ids rise
abbrev pub rising : {R : Type 0} → (R → ℕ) → List R → Bool
rising key [] = true
rising key (row ∷ rows) = list_all (λ later. nat_lt (key row) (key later)) rows && rising key rows

-- the ids rise, and are below the next one
abbrev pub numbered : {R : Type 0} → (R → ℕ) → ℕ → List R → Bool
numbered key next rows = rising key rows && list_all (λ row. nat_lt (key row) next) rows
