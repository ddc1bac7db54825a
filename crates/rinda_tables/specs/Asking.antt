-- Requests as they stand and as the turn under way has made them, and the steps that lead back.
use Rattle.std.specs.Prelude.{◌≡◌, ℕ, Bool, true, false, not, ◌||◌, ◌==◌, List, [], ◌∷◌, length, Option, Some, None, if◌then◌else◌}
use Rattle.std.specs.List.{list_all, list_any, filter_map}
use Rattle.rinda_rules.specs.declared.object.Doubt.{Doubt}
use Rattle.rinda_rules.specs.declared.object.Doubt.TheVariants as doubt
use Rattle.rinda_rules.specs.declared.plain.Request.{Request}
use Rattle.rinda_rules.specs.Rows.{changed, without, rising}
use Rattle.rinda_rules.specs.Space.{is_reserved, is_parked}
use Rattle.rinda_rules.specs.Phases.{in_state}
use Rattle.rinda_wait.specs.Waiting.{marked_as, doubted_as, leased}
use Rattle.rinda_tables.specs.declared.requests.Step.{Step}
use Rattle.rinda_tables.specs.declared.requests.Step.TheVariants as step
use Rattle.rinda_tables.specs.Undoing.{is_in}

-- The requests that stand, and those that are ahead; and whether one was added since.
pub record Requested : Type 0 where
  pub list : List Request
  pub ahead : List Request
  pub added : Bool

-- both alike, and none was added
abbrev pub settled : List Request → Requested
settled rows = record { list = rows; ahead = rows; added = false }

-- what stands is as it was, and no request was added since
pub record Keeps (old new : Requested) : Type 0 where
  pub list : new.list ≡ old.list
  pub added : new.added ≡ old.added

-- the requests before that step
abbrev pub undo : Step → List Request → List Request
undo (step.Added id) rows = without (λ r. r.id) id rows
undo (step.State id state) rows = changed (λ r. r.id) id (in_state state) rows
undo (step.Marked id marked) rows = changed (λ r. r.id) id (marked_as marked) rows
undo (step.Leased id deadline renewer doubt) rows =
    changed (λ r. r.id) id (leased deadline renewer doubt) rows
undo (step.Doubted id doubt) rows = changed (λ r. r.id) id (doubted_as doubt) rows

-- the requests before these steps, of which the last one was made last
abbrev pub undone : List Step → List Request → List Request
undone [] rows = rows
undone (s ∷ steps) rows = undo s (undone steps rows)

abbrev pub adds : Step → Bool
adds (step.Added id) = true
adds _ = false

-- one of the steps added a request
abbrev pub any_added : List Step → Bool
any_added steps = list_any adds steps

-- the request that was parked before that step, and left that state by it
abbrev pub left_by : Step → Option ℕ
left_by (step.State id state) = if is_parked state then Some id else None
left_by _ = None

abbrev pub left_ids : List Step → List ℕ
left_ids steps = filter_map left_by steps

-- who is gone is not parked, so that no search finds it
abbrev pub are_hidden : List ℕ → List Request → Bool
are_hidden gone rows = list_all (λ r. not (is_in gone r.id) || is_reserved r.state) rows

-- who is gone was there
abbrev pub are_there : List ℕ → List Request → Bool
are_there gone rows = list_all (λ id. list_any (λ r. r.id == id) rows) gone

-- the requests with who is gone, how many of them stand, and the steps that lead back to those
pub record IsRequested (stands : ℕ) (steps : List Step) (gone : List ℕ)
    (rows : List Request) : Type 0 where
  pub rise : rising (λ r. r.id) rows ≡ true
  pub hidden : are_hidden gone rows ≡ true
  pub there : are_there gone rows ≡ true
  pub counted : stands ≡ length (undone steps rows)

-- How a request stands, if there is one.

abbrev pub deadline_of : Option Request → Option ℕ
deadline_of None = None
deadline_of (Some r) = r.deadline

abbrev pub mark_of : Option Request → Bool
mark_of None = false
mark_of (Some r) = r.marked

abbrev pub doubt_of : Option Request → Doubt
doubt_of None = doubt.No
doubt_of (Some r) = r.doubt

abbrev pub reserved_in : Option Request → Bool
reserved_in None = false
reserved_in (Some r) = is_reserved r.state

abbrev pub parked_in : Option Request → Bool
parked_in None = false
parked_in (Some r) = is_parked r.state

-- the requests, with each of those changed, one after the other
abbrev pub changed_each : List ℕ → (Request → Request) → List Request → List Request
changed_each [] change rows = rows
changed_each (id ∷ ids) change rows =
    changed_each ids change (changed (λ r. r.id) id change rows)
