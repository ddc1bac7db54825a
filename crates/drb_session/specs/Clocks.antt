-- Several readings of a clock, some of them for turns: docs/SESSIONS.md, Turns.
use Rattle.std.specs.Prelude.{◌≡◌, ℕ, ◌+◌, ◌^◌, ◌-◌, ◌≤◌, ◌⊎◌, List, [], ◌∷◌, ◌++◌, length, ⊤, None, Some}
use Rattle.std.specs.declared.option.Option.{Option}

-- these stand among those, in their order
abbrev pub Among : List ℕ → List ℕ → Type 0
Among [] readings = ⊤
Among (at ∷ ats) [] = ⊥
Among (at ∷ ats) (reading ∷ readings) =
    ((at ≡ reading) × Among ats readings) ⊎ Among (at ∷ ats) readings

-- the clock gave these readings more; one that has given fewer than 2 ^ 64 - 1 goes on telling them
abbrev pub ReadsAll : Option (List ℕ) → Option (List ℕ) → List ℕ → Type 0
ReadsAll None None more = ⊤
ReadsAll None (Some new) more = ⊥
ReadsAll (Some old) None more = 2 ^ 64 - 1 ≤ length old + length more
ReadsAll (Some old) (Some new) more = new ≡ old ++ more

-- These readings, of turns, are among those that the clock gave. The others were of looks that found nothing to do,
-- or of tries that failed.
pub record ReadsFor (old new : Option (List ℕ)) (ats : List ℕ) : Type 0 where
  pub readings : List ℕ
  pub among : Among ats readings
  pub gave : ReadsAll old new readings
