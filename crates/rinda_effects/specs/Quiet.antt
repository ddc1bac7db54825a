-- Two turns written out, where nothing is due: a Write that lasts, and a Submit of a Take that has a match.
use Rattle.std.specs.Prelude.{◌≡◌, ℕ, ◌==◌, true, false, List, [], ◌∷◌, ◌++◌, Some}
use Rattle.rinda_tuple.specs.declared.tuple.Tuple.{Tuple}
use Rattle.rinda_tuple.specs.declared.lease.Lease.{Lease}
use Rattle.rinda_tuple.specs.Tuples.{value_of}
use Rattle.rinda_rules.specs.declared.event.Event.TheVariants.{Write, Submit}
use Rattle.rinda_rules.specs.declared.event.Kind.TheVariants as kind
use Rattle.rinda_rules.specs.declared.object.Last.TheVariants as last
use Rattle.rinda_rules.specs.declared.row.RequestState.TheVariants as state
use Rattle.rinda_rules.specs.declared.out.Out.TheVariants as out
use Rattle.rinda_rules.specs.declared.turn.Pick.{Pick}
use Rattle.rinda_rules.specs.declared.turn.Turn.{Turn}
use Rattle.rinda_rules.specs.declared.plain.Entry.{Entry}
use Rattle.rinda_rules.specs.declared.plain.Request.{Request}
use Rattle.rinda_rules.specs.Space.{Plain, tuple_at, request_at, is_over, may_have}
use Rattle.rinda_rules.specs.Phases.{advanced, nothing_due, served_as, served_with, request_ended}
use Rattle.rinda_rules.specs.Cases.{new_tuple, written, minted}
use Rattle.rinda_rules.specs.Legal.{plain_from}
use Rattle.rinda_effects.specs.Serves.{read_all, picks_of, takes, no_taker, reader_ids}
use Rattle.rinda_effects.specs.Turns.{Reached, Made}

-- these turns lead there, where nothing is due at that reading
pub record Quiet (start : Plain) (old : List Turn) (at : ℕ) (now : Plain) : Type 0 where
  pub reached : Reached start old
  pub is_now : now ≡ advanced (plain_from start old) at
  pub not_due : nothing_due now ≡ true

-- a space that takes in the tuple, which lasts
pub record Lasts (s : Plain) (value : Tuple) (lease : Lease) : Type 0 where
  pub unshut : s.shut ≡ false
  pub lasting : is_over s.clock (new_tuple s value lease).deadline ≡ false

-- the space with the tuple
abbrev pub with_tuple_of : Plain → Tuple → Lease → Plain
with_tuple_of s value lease = written (new_tuple s value lease) (minted s)

abbrev pub write_turn : Plain → ℕ → ℕ → Tuple → Lease → List Pick → Turn
write_turn s caller at value lease picks = record {
  caller = caller;
  at = at;
  event = Write value lease;
  out = out.Entry s.next;
  picks = picks;
}

-- A Write that nobody waits to take.
abbrev pub WriteIsRead : Type 0
WriteIsRead = (start : Plain) (old : List Turn) (caller at : ℕ) (s : Plain) (value : Tuple)
    (lease : Lease) →
    let t = new_tuple s value lease in
    let w = with_tuple_of s value lease in
    Quiet start old at s → Lasts s value lease → no_taker w t ≡ true →
    Made start old (write_turn s caller at value lease (picks_of t.id (reader_ids w t)))
    (read_all t w)

-- A Write that a request waits to take or to hold.
abbrev pub WriteIsTaken : Type 0
WriteIsTaken = (start : Plain) (old : List Turn) (caller at : ℕ) (s : Plain) (value : Tuple)
    (lease : Lease) (r : Request) →
    let t = new_tuple s value lease in
    let w = with_tuple_of s value lease in
    let picks = picks_of t.id (reader_ids w t) ++ record { request = r.id; tuple = t.id } ∷ [] in
    Quiet start old at s → Lasts s value lease → request_at w r.id ≡ Some r →
    takes w.clock t r ≡ true →
    Made start old (write_turn s caller at value lease picks) (served_with r t (read_all t w))

-- The caller's own reserved Take, with a match.
pub record Submits (s : Plain) (caller id : ℕ) (r : Request) (t : Entry) : Type 0 where
  pub there : request_at s id ≡ Some r
  pub own : r.caller == caller ≡ true
  pub reserved : r.state ≡ state.Reserved
  pub takes : r.kind ≡ kind.Take
  pub here : tuple_at s t.id ≡ Some t
  pub may : may_have s.clock r t ≡ true

abbrev pub submit_turn : ℕ → ℕ → ℕ → Request → Entry → Turn
submit_turn caller at id r t = record {
  caller = caller;
  at = at;
  event = Submit id;
  out = out.Answer (value_of t.value);
  picks = record { request = r.id; tuple = t.id } ∷ [];
}

-- both rows are gone
abbrev pub submitted : Request → Entry → Plain → Plain
submitted r t s = request_ended last.Done r.id (served_as kind.Take r t s)

-- A Submit of a Take that has a match.
abbrev pub SubmitIsTaken : Type 0
SubmitIsTaken = (start : Plain) (old : List Turn) (caller at : ℕ) (s : Plain) (id : ℕ) (r : Request)
    (t : Entry) →
    Quiet start old at s → Submits s caller id r t →
    Made start old (submit_turn caller at id r t) (submitted r t s)
