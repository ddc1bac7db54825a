-- Turns that proofs alone know: their events, with who made them and when, and their answers.
use Rattle.std.specs.Prelude.{◌≡◌, ℕ, ◌+◌, ◌≤◌, Bool, List, [], ◌∷◌, length, if◌then◌else◌}
use Rattle.rinda_rules.specs.declared.event.Event.{Event}
use Rattle.rinda_rules.specs.declared.out.Out.{Out}
use Rattle.rinda_rules.specs.declared.turn.Pick.{Pick}
use Rattle.rinda_rules.specs.declared.turn.Turn.{Turn}
use Rattle.rinda_rules.specs.Journals.{made}

-- caller and reading, and the event
abbrev pub Happened : Type 0
Happened = (ℕ × ℕ) × Event

-- the answer and the picks
abbrev pub Answered : Type 0
Answered = Out × List Pick

-- each event with its answer
abbrev pub turns_of : List Happened → List Answered → List Turn
turns_of [] answers = []
turns_of (e ∷ events) [] = []
turns_of (e ∷ events) (a ∷ answers) = made e.0.0 e.0.1 e.1 a.0 a.1 ∷ turns_of events answers

-- the turns after the next commit
abbrev pub ahead_of : Bool → List Happened → List Answered → List Happened → List Answered →
    List Turn
ahead_of ready events answers next_events next_answers =
    if ready then turns_of next_events next_answers else turns_of events answers

-- So many turns there are, and with the one that was prepared, if one was, not more than the cap.
pub record Counts (count cap : ℕ) (ready : Bool) (events : List Happened) (answers : List Answered)
    (next_events : List Happened) (next_answers : List Answered) : Type 0 where
  pub events_are : length events ≡ count
  pub answers_are : length answers ≡ count
  pub within : count + (if ready then 1 else 0) ≤ cap
  pub next_events_are : length next_events ≡ (if ready then count + 1 else length next_events)
  pub next_answers_are : length next_answers ≡ (if ready then count + 1 else length next_answers)
