-- Which ids are due when, and whose renewers are to be asked: as it stands, and ahead.
use Rattle.std.specs.Prelude.{◌≡◌, ℕ, Bool, true, false, not, ◌==◌, List, [], ◌∷◌, is_some, if◌then◌else◌}
use Rattle.std.specs.List.{list_all}
use Rattle.rinda_rules.specs.declared.plain.Entry.{Entry}
use Rattle.rinda_rules.specs.Rows.{row_of}
use Rattle.rinda_lease.specs.declared.stage.Stage.{Stage}
use Rattle.rinda_lease.specs.declared.stage.Stage.TheVariants.{Still, Timed, Waiting, Asked}
use Rattle.rinda_lease.specs.Stages.{stage_at}
use Rattle.rinda_lease.specs.Orders.{placed, is_still}
use Rattle.rinda_tables.specs.declared.deadlines.Step.{Step}

-- what is asked is as still as what is not there
abbrev pub quiet : Stage → Stage
quiet Still = Still
quiet (Timed deadline) = Timed deadline
quiet Waiting = Waiting
quiet Asked = Still

-- the stages before these steps, of which the last one was made last
abbrev pub undone : List Step → (ℕ → Stage) → ℕ → Stage
undone [] stages = stages
undone (s ∷ steps) stages = placed s.id s.stage (undone steps stages)

-- The stages as they are ahead, and the steps that lead back to those that stand.
pub record Staged : Type 0 where
  pub entries : List (ℕ × Stage)
  pub steps : List Step

abbrev pub ahead_at : Staged → ℕ → Stage
ahead_at t id = quiet (stage_at t.entries id)

abbrev pub list_at : Staged → ℕ → Stage
list_at t id = quiet (undone t.steps (stage_at t.entries) id)

-- ahead one id has that stage, and each other the one that it had; what stands is as it was
pub record Comes (id : ℕ) (stage : Stage) (old new : Staged) : Type 0 where
  pub ahead : (q : ℕ) → ahead_at new q ≡ (if q == id then stage else ahead_at old q)
  pub list : (q : ℕ) → list_at new q ≡ list_at old q

-- both are the same as what was
pub record Stands (was : ℕ → Stage) (new : Staged) : Type 0 where
  pub ahead : (q : ℕ) → ahead_at new q ≡ was q
  pub list : (q : ℕ) → list_at new q ≡ was q

-- each id that a step names is there
abbrev pub are_there : List Step → List (ℕ × Stage) → Bool
are_there steps entries = list_all (λ s. not (is_still (stage_at entries s.id))) steps

-- each step leads back to a stage that is there
abbrev pub are_lively : List Step → Bool
are_lively steps = list_all (λ s. not (is_still s.stage)) steps

pub record IsStaged (steps : List Step) (entries : List (ℕ × Stage)) : Type 0 where
  pub there : are_there steps entries ≡ true
  pub lively : are_lively steps ≡ true

-- there is a tuple with that id
abbrev pub tuple_in : ℕ → List Entry → Bool
tuple_in id rows = is_some (row_of (λ t. t.id) id rows)

-- the stage of an id that is among those whose leases end, unless it is a tuple's
abbrev pub rested : Bool → Bool → Stage → Stage
rested true true stage = stage
rested true false stage = Still
rested false tuple stage = stage
