-- How tables are the space that a history leaves. docs/SPACE.md, Rows.
use Rattle.std.specs.Prelude.{◌≡◌, ℕ, Bool, true, false, List, map, Option, Some, None}
use Rattle.std.specs.List.{list_all}
use Rattle.rinda_rules.specs.declared.object.Doubt.{Doubt}
use Rattle.rinda_rules.specs.declared.object.Doubt.TheVariants.{No, Waiting, Asked}
use Rattle.rinda_rules.specs.declared.plain.Entry.{Entry}
use Rattle.rinda_rules.specs.declared.plain.Request.{Request}
use Rattle.rinda_rules.specs.declared.plain.Notifier.{Notifier}
use Rattle.rinda_rules.specs.Space.{Plain, request_at, tuple_at, notifier_at, is_free, is_parked, is_running}
use Rattle.rinda_rules.specs.Sound.{Numbered, hears_within}
use Rattle.drb_ids.specs.Ids.{Ids}
use Rattle.drb_ids.specs.Found.{IsIdsOf}
use Rattle.rinda_lease.specs.declared.stage.Stage.{Stage}
use Rattle.rinda_lease.specs.declared.stage.Stage.TheVariants as stage
use Rattle.rinda_lease.specs.Stages.{timed}
use Rattle.rinda_notify.specs.declared.note.Note.{Note}
use Rattle.rinda_notify.specs.Notes.{note_of}

-- What tables have: the time, whether the space is shut, its ids, its rows, and the stage of each lease.
pub record Held : Type 0 where
  pub clock : ℕ
  pub shut : Bool
  pub ids : Ids
  pub tuples : List Entry
  pub requests : List Request
  pub notes : List Note
  pub stages : ℕ → Stage

-- Where a row's lease stands: the renewer of one that is doubted is to be asked, or is being asked; of the others those
-- that can expire have their deadline, if they have one.
abbrev pub stage_by : Doubt → Bool → Option ℕ → Stage
stage_by No true deadline = timed deadline
stage_by No false deadline = stage.Still
stage_by Waiting expires deadline = stage.Waiting
stage_by Asked expires deadline = stage.Still

-- a tuple can expire while nobody holds it, a request while it is parked, and a notifier while it runs
abbrev pub tuple_stage : Entry → Stage
tuple_stage t = stage_by t.doubt (is_free t) t.deadline

abbrev pub request_stage : Request → Stage
request_stage r = stage_by r.doubt (is_parked r.state) r.deadline

abbrev pub notifier_stage : Notifier → Stage
notifier_stage n = stage_by n.doubt (is_running n.state) n.deadline

-- the same of the row that has an id, if any
abbrev pub stage_among : Option Request → Option Entry → Option Notifier → Stage
stage_among (Some r) t n = request_stage r
stage_among None (Some t) n = tuple_stage t
stage_among None None (Some n) = notifier_stage n
stage_among None None None = stage.Still

abbrev pub stage_of : Plain → ℕ → Stage
stage_of s id = stage_among (request_at s id) (tuple_at s id) (notifier_at s id)

-- at most one of them is there
abbrev pub at_most_one : Option Request → Option Entry → Option Notifier → Bool
at_most_one (Some r) (Some t) n = false
at_most_one (Some r) None (Some n) = false
at_most_one (Some r) None None = true
at_most_one None (Some t) (Some n) = false
at_most_one None (Some t) None = true
at_most_one None None n = true

-- Tables hold exactly that space: its rows of each kind in rising id, each notifier with its queue in place of the
-- events that it hears. No id is of two rows, the ids are the rows', and each lease stands where its row's does.
pub record Holds (s : Plain) (t : Held) : Type 0 where
  pub clock : t.clock ≡ s.clock
  pub shut : t.shut ≡ s.shut
  pub numbered : Numbered s
  pub alone : (id : ℕ) →
      at_most_one (request_at s id) (tuple_at s id) (notifier_at s id) ≡ true
  pub ids : IsIdsOf s t.ids
  pub tuples : t.tuples ≡ s.tuples
  pub requests : t.requests ≡ s.requests
  pub notes : t.notes ≡ map (note_of s.events) s.notifiers
  pub heard : list_all (hears_within s.events) s.notifiers ≡ true
  pub stages : (id : ℕ) → t.stages id ≡ stage_of s id
