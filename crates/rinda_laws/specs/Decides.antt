-- When a request is answered Expired or Canceled.
use Rattle.std.specs.Prelude.{◌≡◌, ℕ, Bool, true, false, ◌==◌, List, [], ◌∷◌, ◌++◌, Option, Some, None, is_none}
use Rattle.std.specs.List.{list_any}
use Rattle.rinda_rules.specs.declared.object.Last.{Last}
use Rattle.rinda_rules.specs.declared.object.ObjectKind.TheVariants as object
use Rattle.rinda_rules.specs.declared.event.Event.{Event}
use Rattle.rinda_rules.specs.declared.event.Event.TheVariants.{Write, Reserve, Submit, Collect, Settle, Withdraw, Cancel, Renew, Look, Value, ReadAll, Notify, Pop, NextAsk, Asked, Tick, Shut}
use Rattle.rinda_rules.specs.declared.out.Out.TheVariants as out
use Rattle.rinda_rules.specs.declared.plain.Entry.{Entry}
use Rattle.rinda_rules.specs.declared.plain.Request.{Request}
use Rattle.rinda_rules.specs.declared.turn.Pick.{Pick}
use Rattle.rinda_rules.specs.declared.turn.Turn.{Turn}
use Rattle.rinda_rules.specs.Space.{Plain, HasEnded, found, tuple_at, request_at, is_over, is_waiting, has_match}
use Rattle.rinda_rules.specs.Phases.{advanced}
use Rattle.rinda_rules.specs.Cases.{outcome}
use Rattle.rinda_rules.specs.Steps.{chooser, found_by}
use Rattle.rinda_rules.specs.Legal.{plain_from, LegalFrom}
use Rattle.rinda_laws.specs.Starting.{IsStart}

-- the id of the request or notifier that the event asks for an answer
abbrev pub asks_for : Event → Option ℕ
asks_for (Write value lease) = None
asks_for (Reserve kind pattern lease) = None
asks_for (Submit id) = Some id
asks_for (Collect id) = Some id
asks_for (Settle id ok) = Some id
asks_for (Withdraw id) = Some id
asks_for (Cancel id) = None
asks_for (Renew id lease) = None
asks_for (Look id) = None
asks_for (Value id) = None
asks_for (ReadAll pattern) = None
asks_for (Notify event pattern lease) = None
asks_for (Pop id) = Some id
asks_for NextAsk = None
asks_for (Asked id life) = None
asks_for Tick = None
asks_for Shut = None

-- In that space the request waits, its deadline is at most now, and it has no renewer: aging answers it Expired.
pub record RunsOut (id : ℕ) (s : Plain) : Type 0 where
  pub row : Request
  pub there : request_at s id ≡ Some row
  pub waits : is_waiting row ≡ true
  pub over : is_over s.clock row.deadline ≡ true
  pub alone : is_none row.renewer ≡ true

-- the tuple that the first pick names, where the event makes one for that request
abbrev pub choice_of : Plain → Option Request → List Pick → Option Entry
choice_of s None picks = None
choice_of s (Some r) [] = None
choice_of s (Some r) (pick ∷ picks) = tuple_at s pick.tuple

-- the space as the turn's event leaves it, before it ages again
abbrev pub left_by : Plain → Turn → Plain
left_by s turn = (outcome (found_by s turn.at) turn.caller turn.event
    (choice_of (found_by s turn.at) (chooser (found_by s turn.at) turn.caller turn.event)
    turn.picks)).after

-- A turn lets the space age twice: as it comes, and as its event leaves it. In one of the two the request runs out.
pub data DecidesSo (id : ℕ) (s : Plain) (turn : Turn) : Type 0 where
  as_it_comes : RunsOut id (advanced s turn.at) → DecidesSo id s turn
  as_it_leaves : RunsOut id (left_by s turn) → DecidesSo id s turn

-- one of these turns decided that the request expired
pub record Decided (start : Plain) (id : ℕ) (h : List Turn) : Type 0 where
  pub before : List Turn
  pub turn : Turn
  pub later : List Turn
  pub parts : h ≡ before ++ turn ∷ later
  pub decides : DecidesSo id (plain_from start before) turn

-- At a Submit in that space the request's deadline is at most now, it has no renewer, and no match is there.
pub record SubmitsLate (id : ℕ) (s : Plain) : Type 0 where
  pub row : Request
  pub there : request_at s id ≡ Some row
  pub over : is_over s.clock row.deadline ≡ true
  pub alone : is_none row.renewer ≡ true
  pub unmatched : has_match s row ≡ false

-- Why the last turn of a history is answered Expired: it submits a request that is late; it asks for a request of which
-- this turn or one before decided so; or it asks for a notifier that has ended.
pub data ExpiredBecause (start : Plain) (h : List Turn) (turn : Turn) : Type 0 where
  late : (id : ℕ) → turn.event ≡ Submit id →
      SubmitsLate id (found_by (plain_from start h) turn.at) → ExpiredBecause start h turn
  decided : (id : ℕ) → asks_for turn.event ≡ Some id → Decided start id (h ++ turn ∷ []) →
      ExpiredBecause start h turn
  ended : (id : ℕ) (last : Last) → asks_for turn.event ≡ Some id →
      found (found_by (plain_from start h) turn.at) id ≡ HasEnded object.Notifier last →
      ExpiredBecause start h turn

-- Expired is answered only so.
abbrev pub ExpiredIsDecided : Type 0
ExpiredIsDecided = (start : Plain) (h : List Turn) (turn : Turn) →
    IsStart start → LegalFrom start (h ++ turn ∷ []) → turn.out ≡ out.Expired →
    ExpiredBecause start h turn

-- the event cancels the object with that id: a Cancel of it, or a Shut
abbrev pub is_cancel : ℕ → Event → Bool
is_cancel id (Write value lease) = false
is_cancel id (Reserve kind pattern lease) = false
is_cancel id (Submit i) = false
is_cancel id (Collect i) = false
is_cancel id (Settle i ok) = false
is_cancel id (Withdraw i) = false
is_cancel id (Cancel i) = i == id
is_cancel id (Renew i lease) = false
is_cancel id (Look i) = false
is_cancel id (Value i) = false
is_cancel id (ReadAll pattern) = false
is_cancel id (Notify event pattern lease) = false
is_cancel id (Pop i) = false
is_cancel id NextAsk = false
is_cancel id (Asked i life) = false
is_cancel id Tick = false
is_cancel id Shut = true

-- Canceled is answered only of an id that a Cancel, or a Shut, canceled in that turn or before.
abbrev pub CanceledIsNamed : Type 0
CanceledIsNamed = (start : Plain) (h : List Turn) (turn : Turn) →
    IsStart start → LegalFrom start (h ++ turn ∷ []) → turn.out ≡ out.Canceled →
    (id : ℕ) × (asks_for turn.event ≡ Some id)
    × (list_any (λ t. is_cancel id t.event) (h ++ turn ∷ []) ≡ true)
