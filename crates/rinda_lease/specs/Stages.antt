-- What is due when, and whose renewer is to be asked. docs/SPACE.md, Rows.
use Rattle.std.specs.Prelude.{◌≡◌, ℕ, ◌≤◌, Bool, true, false, ◌==◌, nat_le, List, Option, Some, None, if◌then◌else◌}
use Rattle.std.specs.List.{list_any}
use Rattle.std.specs.Map.{lookup}
use Rattle.std.specs.BTreeMap.{is_at}
use Rattle.std.specs.Ordering.{nat_cmp}
use Rattle.rinda_rules.specs.Rows.{rising}
use Rattle.rinda_lease.specs.declared.stage.Stage.{Stage}
use Rattle.rinda_lease.specs.declared.stage.Stage.TheVariants.{Still, Timed, Waiting, Asked}

abbrev pub or_still : Option Stage → Stage
or_still None = Still
or_still (Some stage) = stage

-- the stage of that id, which is still where it has none
abbrev pub stage_at : List (ℕ × Stage) → ℕ → Stage
stage_at leases id = or_still (lookup (is_at (nat_cmp id)) leases)

-- the id has that stage now, and each other has the one that it had
abbrev pub Becomes : ℕ → Stage → List (ℕ × Stage) → List (ℕ × Stage) → Type 0
Becomes id stage old new =
    (q : ℕ) → stage_at new q ≡ (if q == id then stage else stage_at old q)

-- it has that deadline, or none
abbrev pub timed : Option ℕ → Stage
timed None = Still
timed (Some deadline) = Timed deadline

abbrev pub is_timed : Stage → Bool
is_timed Still = false
is_timed (Timed deadline) = true
is_timed Waiting = false
is_timed Asked = false

abbrev pub is_waiting : Stage → Bool
is_waiting Still = false
is_waiting (Timed deadline) = false
is_waiting Waiting = true
is_waiting Asked = false

abbrev pub is_asked : Stage → Bool
is_asked Still = false
is_asked (Timed deadline) = false
is_asked Waiting = false
is_asked Asked = true

-- its deadline is at most now
abbrev pub is_due : ℕ → Stage → Bool
is_due now Still = false
is_due now (Timed deadline) = nat_le deadline now
is_due now Waiting = false
is_due now Asked = false

-- the id stands in the list
abbrev pub is_in : ℕ → List ℕ → Bool
is_in id ids = list_any (λ x. x == id) ids

-- the ids that are due, all of them and no others, in rising order
pub record AreDue (leases : List (ℕ × Stage)) (now : ℕ) (ids : List ℕ) : Type 0 where
  pub rise : rising (λ id. id) ids ≡ true
  pub due : (id : ℕ) → is_in id ids ≡ is_due now (stage_at leases id)

-- the ids that have a deadline, all of them and no others
abbrev pub AreTimed : List (ℕ × Stage) → List ℕ → Type 0
AreTimed leases ids = (id : ℕ) → is_in id ids ≡ is_timed (stage_at leases id)

-- the least id that waits, or that none does
abbrev pub IsNextAsk : List (ℕ × Stage) → Option ℕ → Type 0
IsNextAsk leases None = (id : ℕ) → is_waiting (stage_at leases id) ≡ false
IsNextAsk leases (Some id) =
    (is_waiting (stage_at leases id) ≡ true)
    × ((other : ℕ) → is_waiting (stage_at leases other) ≡ true → id ≤ other)
