-- What serving comes to: docs/SESSIONS.md, Many callers.
use Rattle.std.specs.Prelude.{◌≡◌, ℕ, ◌<◌, ◌≤◌, List, [], ◌∷◌, ◌++◌, length, ⊤, true, None, Some}
use Rattle.std.specs.declared.option.Option.{Option}
use Rattle.drb_outside.specs.Told.{Rose}
use Rattle.drb_doors.specs.Coming.{none_left}
use Rattle.rinda_rules.specs.Space.{Plain}
use Rattle.rinda_rules.specs.Legal.{Legal, plain}
use Rattle.rinda_rules.specs.Phases.{advanced, nothing_due}
use Rattle.rinda_space.specs.Spaces.{Spaced}
use Rattle.drb_serving.specs.declared.settings.Served.{Served}
use Rattle.drb_serving.specs.declared.settings.Served.TheVariants.{Done, AcceptFault, Memory}

-- What the outside tells: how often the doors have failed, and how often they have said that nobody will come; and the
-- readings of the keeper's clock, where it tells them.
pub record Outside : Type 0 where
  pub faults : ℕ
  pub ends : ℕ
  pub readings : Option (List ℕ)

abbrev pub outside : ℕ → ℕ → Option (List ℕ) → Outside
outside faults ends readings = record { faults = faults; ends = ends; readings = readings }

-- no reading was lost, as long as they are told
abbrev pub NotFewer : Option (List ℕ) → Option (List ℕ) → Type 0
NotFewer None None = ⊤
NotFewer None (Some new) = ⊥
NotFewer (Some old) None = ⊤
NotFewer (Some old) (Some new) = length old ≤ length new

-- the clock was read, where it tells that before and after
abbrev pub WasRead : Option (List ℕ) → Option (List ℕ) → Type 0
WasRead None None = ⊤
WasRead None (Some new) = ⊥
WasRead (Some old) None = ⊤
WasRead (Some old) (Some new) = length old < length new

-- no row is due at the larger of the space's now and the clock's last reading, where it tells
abbrev pub NoneDueAtLast : Option (List ℕ) → Plain → Type 0
NoneDueAtLast readings s = (before : List ℕ) (last : ℕ) → readings ≡ Some (before ++ last ∷ []) →
    nothing_due (advanced s last) ≡ true

-- The space that is handed back. It began empty; its turns are one legal run of the rules, so many and no more than
-- there may be; it has so many tuples. The clock was read, and where there is room for a further turn no row is due at
-- its last reading.
pub record HandsBack (cap turns tuples : ℕ) (old new : Option (List ℕ)) (space : Option Spaced) :
    Type 0 where
  pub history : Spaced
  pub there : space ≡ Some history
  pub start : history.start ≡ None
  pub cap_is : history.cap ≡ cap
  pub legal : Legal history.turns
  pub few : length history.turns ≤ cap
  pub turns_are : turns ≡ length history.turns
  pub tuples_are : tuples ≡ length (plain history.turns).tuples
  pub read : WasRead old new
  pub none_due : length history.turns < cap → NoneDueAtLast new (plain history.turns)

-- What serving comes to. Done: the doors said that nobody will come, and none is left of the guests that they tell.
-- AcceptFault: the doors failed. Memory: there is no space.
abbrev pub IsServed : {G : Type 0} → ℕ → Outside → Outside → Option (List G) → Option Spaced →
    Served → Type 0
IsServed cap old new guests space (Done turns tuples) =
    Rose old.ends new.ends × (none_left guests ≡ true)
    × HandsBack cap turns tuples old.readings new.readings space
IsServed cap old new guests space (AcceptFault turns tuples) =
    Rose old.faults new.faults × HandsBack cap turns tuples old.readings new.readings space
IsServed cap old new guests space Memory = space ≡ None
