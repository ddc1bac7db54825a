-- The notifiers as they are ahead, and the steps that lead back to those that stand.
use Rattle.std.specs.Prelude.{ℕ, Bool, true, false, not, ◌==◌, List, [], ◌∷◌, ◌++◌, filter, Option, Some, None, if◌then◌else◌}
use Rattle.std.specs.List.{list_all, list_any, filter_map}
use Rattle.drb_tree.specs.declared.Tree.{Tree}
use Rattle.rinda_notify.specs.declared.note.Note.{Note}
use Rattle.rinda_notify.specs.declared.step.Standing.{Standing}
use Rattle.rinda_notify.specs.declared.step.Step.{Step}
use Rattle.rinda_notify.specs.declared.step.Step.TheVariants as step
use Rattle.rinda_notify.specs.Notes.{with_note, without_note, without_last, is_open}

-- the id is one of these
abbrev pub is_in : List ℕ → ℕ → Bool
is_in ids id = list_any (λ i. i == id) ids

-- the notifiers without those with these ids
abbrev pub left : List ℕ → List Note → List Note
left gone notes = filter (λ n. not (is_in gone n.id)) notes

-- what of a notifier can change beside its queue
abbrev pub standing_of : Note → Standing
standing_of n = record {
  deadline = n.deadline;
  renewer = n.renewer;
  doubt = n.doubt;
  state = n.state;
}

-- it stands so
abbrev pub stood : Standing → Note → Note
stood standing n = record n {
  deadline = standing.deadline;
  renewer = standing.renewer;
  doubt = standing.doubt;
  state = standing.state;
}

-- the last event has left its queue
abbrev pub shortened : Note → Note
shortened n = record n { queue = without_last n.queue }

-- the event is the first one of its queue again
abbrev pub given_back : Tree → Note → Note
given_back event n = record n { queue = event ∷ n.queue }

-- the notifiers before that step
abbrev pub undo : Step → List Note → List Note
undo (step.Event id) notes = with_note id shortened notes
undo (step.Popped id event) notes = with_note id (given_back event) notes
undo (step.Stood id standing) notes = with_note id (stood standing) notes
undo (step.Started id) notes = without_note id notes

-- the notifiers before these steps, of which the last one was made last
abbrev pub undone : List Step → List Note → List Note
undone [] notes = notes
undone (s ∷ steps) notes = undo s (undone steps notes)

-- the steps, with how a notifier stands before it changes
abbrev pub noted : ℕ → Option Note → List Step → List Step
noted id None steps = steps
noted id (Some n) steps = steps ++ step.Stood id (standing_of n) ∷ []

abbrev pub starts : ℕ → Step → Bool
starts id (step.Event i) = false
starts id (step.Popped i event) = false
starts id (step.Stood i standing) = false
starts id (step.Started i) = i == id

-- the notifier with that id is new
abbrev pub is_started : ℕ → List Step → Bool
is_started id steps = list_any (starts id) steps

-- the notifier that heard an event by that step, or may have ended by it
abbrev pub changed_by : Step → Option ℕ
changed_by (step.Event id) = Some id
changed_by (step.Popped id event) = None
changed_by (step.Stood id standing) = if is_open standing.state then Some id else None
changed_by (step.Started id) = None

abbrev pub changed_ids : List Step → List ℕ
changed_ids steps = filter_map changed_by steps

-- each of these ids has a notifier
abbrev pub are_there : List ℕ → List Note → Bool
are_there ids notes = list_all (λ q. list_any (λ n. n.id == q) notes) ids

-- no such notifier was closed
abbrev pub has_run : Option Note → Bool
has_run None = true
has_run (Some n) = is_open n.state
