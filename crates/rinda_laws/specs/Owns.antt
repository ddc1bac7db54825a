-- Whose a request is, and what ends it.
use Rattle.std.specs.Prelude.{◌≡◌, ℕ, Bool, true, false, not, ◌&&◌, ◌==◌, List, [], ◌∷◌, ◌++◌, Some}
use Rattle.std.specs.List.{list_all}
use Rattle.rinda_tuple.specs.declared.tuple.Template.{Template}
use Rattle.rinda_tuple.specs.declared.lease.Lease.{Lease}
use Rattle.rinda_rules.specs.declared.event.Kind.{Kind}
use Rattle.rinda_rules.specs.declared.event.Event.TheVariants.{Reserve, Submit, Settle}
use Rattle.rinda_rules.specs.declared.out.Out.{Out}
use Rattle.rinda_rules.specs.declared.out.Out.TheVariants as out
use Rattle.rinda_rules.specs.declared.turn.Turn.{Turn}
use Rattle.rinda_rules.specs.declared.row.RequestState.{RequestState}
use Rattle.rinda_rules.specs.declared.plain.Request.{Request}
use Rattle.rinda_rules.specs.Space.{Plain, request_at, is_reserved}
use Rattle.rinda_rules.specs.Settled.{grants}
use Rattle.rinda_rules.specs.Legal.{plain_from, LegalFrom}
use Rattle.rinda_laws.specs.Starting.{IsStart}
use Rattle.rinda_rules.specs.Nothing.{is_nothing}
use Rattle.rinda_rules.specs.Own.{is_of}

-- The request with that id is that caller's, and its state is one of these.
pub record Owns (states : RequestState → Bool) (caller id : ℕ) (s : Plain) : Type 0 where
  pub row : Request
  pub there : request_at s id ≡ Some row
  pub own : row.caller ≡ caller
  pub is : states row.state ≡ true

abbrev pub any : RequestState → Bool
any state = true

-- an answer after which a request is no more
abbrev pub is_last : Out → Bool
is_last (out.Answer value) = true
is_last out.Expired = true
is_last out.Canceled = true
is_last out.WouldWait = true
is_last out.Plain = true
is_last _ = false

-- the turn is one that only that caller makes of that request
abbrev pub is_own : ℕ → ℕ → Turn → Bool
is_own caller id turn = turn.caller == caller && is_of id turn.event

-- the caller's own turn that ends the request
abbrev pub ends_own : ℕ → ℕ → Turn → Bool
ends_own caller id turn = is_own caller id turn && is_last turn.out

-- From a Reserve that is answered Reserved on, until the turn of its own caller that ends it, the request is that
-- caller's, and it begins in the state reserved.
abbrev pub RequestStays : Type 0
RequestStays = (start : Plain) (before later : List Turn) (turn : Turn) (kind : Kind)
    (pattern : Template) (lease : Lease) (id : ℕ) →
    IsStart start → LegalFrom start (before ++ turn ∷ later) →
    turn.event ≡ Reserve kind pattern lease → turn.out ≡ out.Reserved id →
    Owns is_reserved turn.caller id (plain_from start (before ++ turn ∷ []))
    × (list_all (λ next. not (ends_own turn.caller id next)) later ≡ true →
    Owns any turn.caller id (plain_from start (before ++ turn ∷ later)))

-- A request is reserved, or granted a tuple, until its own caller's turn.
abbrev pub StateStays : Type 0
StateStays = (start : Plain) (h : List Turn) (turn : Turn) (caller id : ℕ) →
    IsStart start → LegalFrom start (h ++ turn ∷ []) → is_own caller id turn ≡ false →
    (Owns is_reserved caller id (plain_from start h) →
    Owns is_reserved caller id (plain_from start (h ++ turn ∷ [])))
    × ((tuple : ℕ) → Owns (grants tuple) caller id (plain_from start h) →
    Owns (grants tuple) caller id (plain_from start (h ++ turn ∷ [])))

-- the answers of a Submit of a reserved request
abbrev pub submits_well : Out → Bool
submits_well (out.Answer value) = true
submits_well (out.Granted id value) = true
submits_well (out.Parked id) = true
submits_well out.Expired = true
submits_well out.Canceled = true
submits_well _ = false

-- A Submit by its caller while it is reserved is answered so, a Settle by its caller while it is granted a tuple is
-- answered Plain, and neither is ever nothing.
abbrev pub OwnIsAnswered : Type 0
OwnIsAnswered = (start : Plain) (h : List Turn) (turn : Turn) (id : ℕ) →
    IsStart start → LegalFrom start (h ++ turn ∷ []) →
    (turn.event ≡ Submit id → Owns is_reserved turn.caller id (plain_from start h) →
    submits_well turn.out ≡ true)
    × ((tuple : ℕ) (ok : Bool) → turn.event ≡ Settle id ok →
    Owns (grants tuple) turn.caller id (plain_from start h) → turn.out ≡ out.Plain)

abbrev pub NeitherIsNothing : Type 0
NeitherIsNothing = (s : Plain) (caller at id : ℕ) (ok : Bool) →
    (is_nothing s caller at (Submit id) ≡ false) × (is_nothing s caller at (Settle id ok) ≡ false)
