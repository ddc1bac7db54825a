-- Who holds a tuple, and what lets it go.
use Rattle.std.specs.Prelude.{◌≡◌, ◌≢◌, ℕ, Bool, true, false, ◌&&◌, ◌==◌, List, [], ◌∷◌, ◌++◌, Some}
use Rattle.std.specs.List.{list_any}
use Rattle.rinda_rules.specs.declared.event.Event.{Event}
use Rattle.rinda_rules.specs.declared.event.Event.TheVariants.{Write, Reserve, Submit, Collect, Settle, Withdraw, Cancel, Renew, Look, Value, ReadAll, Notify, Pop, NextAsk, Asked, Tick, Shut}
use Rattle.rinda_rules.specs.declared.turn.Turn.{Turn}
use Rattle.rinda_rules.specs.declared.plain.Entry.{Entry}
use Rattle.rinda_rules.specs.Space.{Plain, tuple_at}
use Rattle.rinda_rules.specs.Settled.{grants}
use Rattle.rinda_rules.specs.Legal.{plain_from, LegalFrom}
use Rattle.rinda_laws.specs.Starting.{IsStart, raised_since}
use Rattle.rinda_laws.specs.Owns.{Owns, any}
use Rattle.rinda_laws.specs.Balance.{takes}

-- the tuple with that id is there, and that request holds it
pub record Holds (request id : ℕ) (s : Plain) : Type 0 where
  pub row : Entry
  pub there : tuple_at s id ≡ Some row
  pub by : row.holder ≡ Some request

-- the event settles that request
abbrev pub is_settle : ℕ → Event → Bool
is_settle request (Write value lease) = false
is_settle request (Reserve kind pattern lease) = false
is_settle request (Submit i) = false
is_settle request (Collect i) = false
is_settle request (Settle i ok) = i == request
is_settle request (Withdraw i) = false
is_settle request (Cancel i) = false
is_settle request (Renew i lease) = false
is_settle request (Look i) = false
is_settle request (Value i) = false
is_settle request (ReadAll pattern) = false
is_settle request (Notify event pattern lease) = false
is_settle request (Pop i) = false
is_settle request NextAsk = false
is_settle request (Asked i life) = false
is_settle request Tick = false
is_settle request Shut = false

-- A tuple that is held is granted to its holder, and a request that is granted a tuple holds it.
abbrev pub HeldIsGranted : Type 0
HeldIsGranted = (start : Plain) (h : List Turn) (request id : ℕ) →
    IsStart start → LegalFrom start h →
    (Holds request id (plain_from start h) →
    (owner : ℕ) × Owns (grants id) owner request (plain_from start h))
    × ((owner : ℕ) → Owns (grants id) owner request (plain_from start h) →
    Holds request id (plain_from start h))

-- A tuple that is held stays so until the caller of the request that holds it settles.
abbrev pub HeldStays : Type 0
HeldStays = (start : Plain) (h : List Turn) (turn : Turn) (owner request id : ℕ) →
    IsStart start → LegalFrom start (h ++ turn ∷ []) →
    Holds request id (plain_from start h) → Owns any owner request (plain_from start h) →
    (turn.caller == owner && is_settle request turn.event) ≡ false →
    Holds request id (plain_from start (h ++ turn ∷ []))

-- Why a turn may take a tuple that a request holds: its caller settles with yes; or with no, and then a pick of that
-- turn names the tuple.
pub data Settles (request id : ℕ) (turn : Turn) : Type 0 where
  with_yes : turn.event ≡ Settle request true → Settles request id turn
  with_no : turn.event ≡ Settle request false →
      list_any (λ pick. pick.tuple == id) turn.picks ≡ true → Settles request id turn

-- A tuple that is held is taken only so.
abbrev pub HeldIsTakenBySettle : Type 0
HeldIsTakenBySettle = (start : Plain) (h : List Turn) (turn : Turn) (request id : ℕ) →
    IsStart start → LegalFrom start (h ++ turn ∷ []) →
    Holds request id (plain_from start h) →
    takes id (raised_since (plain_from start h) (plain_from start (h ++ turn ∷ []))) ≢ 0 →
    Owns (grants id) turn.caller request (plain_from start h) × Settles request id turn
