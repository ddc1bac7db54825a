-- The parts of serving: docs/SESSIONS.md, Many callers.
use Rattle.std.specs.Prelude.{◌≡◌, ℕ, ◌<◌, ◌≤◌, List, length, Bool, true, false, All, None}
use Rattle.std.specs.declared.option.Option.{Option}
use Rattle.drb_monitor.specs.Passes.{Site, Knowledge, IsPassOf}
use Rattle.rinda_rules.specs.declared.turn.Turn.{Turn}
use Rattle.rinda_rules.specs.Legal.{Legal, plain}
use Rattle.rinda_space.specs.Spaces.{Spaced}
use Rattle.rinda_space.specs.Entered.{Basis}
use Rattle.drb_keeper.specs.declared.owed.KeeperEnd.{KeeperEnd}
use Rattle.drb_keeper.specs.declared.owed.KeeperEnd.TheVariants.{Idle, Asked, Full, Memory}
use Rattle.drb_shared.specs.Sharing.{IsReady}
use Rattle.drb_serving.specs.Serving.{WasRead, NoneDueAtLast}

-- a monitor of a space that began empty, under this cap; its first pass, the keeper's and the workers'
pub record IsOpened (cap : ℕ) (monitor : Site Basis) (first keeper : Knowledge Turn Basis)
    (workers : List (Knowledge Turn Basis)) : Type 0 where
  pub basis_is : monitor.basis ≡ (None, cap)
  pub first_of : IsPassOf monitor first
  pub first_is : first.first ≡ true
  pub keeps : IsReady monitor keeper
  pub work : All (λ p. IsReady monitor p) workers

-- a space that began empty, with a legal history under this cap
pub record IsClosed (cap : ℕ) (space : Spaced) : Type 0 where
  pub start : space.start ≡ None
  pub cap_is : space.cap ≡ cap
  pub legal : Legal space.turns
  pub few : length space.turns ≤ cap

-- so it is still after a keeper's step, and the space was kept
pub record Kept (cap : ℕ) (space : Spaced) (old new : Option (List ℕ)) : Type 0 where
  pub closed : IsClosed cap space
  pub read : WasRead old new
  pub none_due : length space.turns < cap → NoneDueAtLast new (plain space.turns)

-- memory ended the step
abbrev pub is_memory : KeeperEnd → Bool
is_memory Idle = false
is_memory (Asked id) = false
is_memory (Full turns) = false
is_memory Memory = true
