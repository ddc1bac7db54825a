-- What a request's own caller makes of it. docs/SPACE.md, Cases, Submit, Collect and Settle.
use Rattle.std.specs.Prelude.{◌≡◌, ℕ, Bool, true, false, ◌&&◌, ◌==◌, Option, Some, None, is_none, if◌then◌else◌}
use Rattle.drb_tree.specs.declared.Tree.{Tree}
use Rattle.rinda_rules.specs.declared.event.Kind.{Kind}
use Rattle.rinda_rules.specs.declared.event.Kind.TheVariants as kind
use Rattle.rinda_rules.specs.declared.object.Last.TheVariants as last
use Rattle.rinda_rules.specs.declared.out.Out.{Out}
use Rattle.rinda_rules.specs.declared.out.Out.TheVariants as out
use Rattle.rinda_rules.specs.declared.row.RequestState.TheVariants as state
use Rattle.rinda_rules.specs.declared.turn.Pick.{Pick}
use Rattle.rinda_rules.specs.declared.plain.Entry.{Entry}
use Rattle.rinda_rules.specs.declared.plain.Request.{Request}
use Rattle.rinda_rules.specs.Space.{Plain, Found, TheTuple, TheRequest, TheNotifier, HasEnded, IsRecycled, IsUnknown, tuple_at, request_at, is_over, is_reserved, has_match}
use Rattle.rinda_rules.specs.Phases.{with_tuple, held_by, tuple_ended, request_ended, request_in, served_with, is_match}
use Rattle.rinda_rules.specs.Cases.{collect_served, submit}
use Rattle.rinda_tables.specs.Holds.{Holds}
use Rattle.rinda_tables.specs.Tabled.{ahead_of}
use Rattle.rinda_tables.specs.declared.tables.Tables.{Tables}
use Rattle.rinda_cases.specs.Makes.{Is, least_match}

-- the request is there, and the caller's
abbrev pub is_own : ℕ → Option Request → Bool
is_own caller None = false
is_own caller (Some r) = r.caller == caller

-- the answer of each case that wants a request of the caller, where the id names no such one
abbrev pub not_own : ℕ → Found → Option Out
not_own caller (TheRequest r) = if r.caller == caller then None else Some out.WrongKind
not_own caller (TheTuple t) = Some out.WrongKind
not_own caller (TheNotifier n) = Some out.WrongKind
not_own caller (HasEnded kind last) = Some out.WrongKind
not_own caller IsRecycled = Some out.Recycled
not_own caller IsUnknown = Some out.Unknown

-- its time is over, and nobody is asked for more
abbrev pub expires : ℕ → Request → Bool
expires now r = is_over now r.deadline && is_none r.renewer

-- the request gets its match where it has one, and the case is its own
abbrev pub IsSubmitted : Plain → Request → Tables → Out → Option Pick → Type 0
IsSubmitted s r new out None = ((is_reserved r.state && has_match s r) ≡ false)
    × Is (submit s r None r.state) new out
IsSubmitted s r new out (Some pick) = ((is_reserved r.state && has_match s r) ≡ true)
    × (is_match s r pick ≡ true) × (least_match s r ≡ Some pick.tuple)
    × Is (submit s r (tuple_at s pick.tuple) r.state) new out

-- Where tables held a space ahead, this is the answer to the request that has that id, with this match.
abbrev pub Submits : ℕ → Tables → Tables → Out → Option Pick → Type 0
Submits id old new out pick = (s : Plain) (r : Request) → Holds s (ahead_of old) →
    request_at s id ≡ Some r → IsSubmitted s r new out pick

-- Where they held a space ahead, the answer is that of the request served with the tuple and collected at once.
abbrev pub Serves : ℕ → ℕ → Tables → Tables → Out → Type 0
Serves id tuple old new out = (s : Plain) (r : Request) (t : Entry) → Holds s (ahead_of old) →
    request_at s id ≡ Some r → tuple_at s tuple ≡ Some t →
    Is (collect_served (served_with r t s) r t r.kind) new out

-- what it answers
abbrev pub served_answer : Kind → ℕ → Tree → Out
served_answer kind.Read id value = out.Answer value
served_answer kind.Take id value = out.Answer value
served_answer kind.Move id value = out.Granted id value

-- what it leaves
abbrev pub served_at_once : Kind → ℕ → Entry → Plain → Plain
served_at_once kind.Read id t s = request_ended last.Done id s
served_at_once kind.Take id t s = request_ended last.Done id (tuple_ended last.Taken t s)
served_at_once kind.Move id t s =
    request_in id (state.Granted t.id) (with_tuple t.id (held_by id) s)

-- the same, where tables held the space ahead
abbrev pub ServesAs : Kind → ℕ → ℕ → Tables → Tables → Type 0
ServesAs kind id tuple old new = (s : Plain) (r : Request) (t : Entry) → Holds s (ahead_of old) →
    request_at s id ≡ Some r → tuple_at s tuple ≡ Some t →
    Holds (served_at_once kind id t s) (ahead_of new)
