-- What each event does, between the two agings: the case table, line by line. docs/SPACE.md, Cases.
use Rattle.std.specs.Prelude.{ℕ, ◌+◌, Bool, true, false, not, ◌&&◌, ◌||◌, ◌==◌, nat_le, List, [], ◌∷◌, ◌++◌, map, filter, length, Option, Some, None, is_none, if◌then◌else◌}
use Rattle.drb_tree.specs.declared.Tree.{Tree}
use Rattle.drb_tree.specs.declared.Tree.TheViews.{roll-Tree}
use Rattle.drb_tree.specs.declared.Tree.TheOpen.{Tree-F}
use Rattle.drb_tree.specs.declared.Remote.{Remote}
use Rattle.rinda_tuple.specs.declared.tuple.Tuple.{Tuple}
use Rattle.rinda_tuple.specs.declared.tuple.Template.{Template}
use Rattle.rinda_tuple.specs.declared.lease.Lease.{Lease}
use Rattle.rinda_tuple.specs.Lives.{deadline}
use Rattle.rinda_rules.specs.declared.object.ObjectKind.{ObjectKind}
use Rattle.rinda_rules.specs.declared.object.ObjectKind.TheVariants as object
use Rattle.rinda_rules.specs.declared.object.Last.{Last}
use Rattle.rinda_rules.specs.declared.object.Last.TheVariants as last
use Rattle.rinda_rules.specs.declared.object.Doubt.{Doubt}
use Rattle.rinda_rules.specs.declared.object.Doubt.TheVariants as doubt
use Rattle.rinda_rules.specs.declared.event.Kind.{Kind}
use Rattle.rinda_rules.specs.declared.event.Kind.TheVariants as kind
use Rattle.rinda_rules.specs.declared.event.Event.{Event}
use Rattle.rinda_rules.specs.declared.event.Event.TheVariants.{Write, Reserve, Submit, Collect, Settle, Withdraw, Cancel, Renew, Look, Value, ReadAll, Notify, Pop, NextAsk, Asked, Tick, Shut}
use Rattle.rinda_rules.specs.declared.out.Flags.{Flags}
use Rattle.rinda_rules.specs.declared.out.Out.{Out}
use Rattle.rinda_rules.specs.declared.out.Out.TheVariants as out
use Rattle.rinda_rules.specs.declared.row.RequestState.{RequestState}
use Rattle.rinda_rules.specs.declared.row.RequestState.TheVariants as state
use Rattle.rinda_rules.specs.declared.plain.Entry.{Entry}
use Rattle.rinda_rules.specs.declared.plain.Request.{Request}
use Rattle.rinda_rules.specs.declared.plain.Notifier.{Notifier}
use Rattle.rinda_rules.specs.declared.plain.Hearing.{Hearing}
use Rattle.rinda_rules.specs.declared.plain.Hearing.TheVariants as hearing
use Rattle.rinda_rules.specs.declared.plain.Happening.TheVariants as happening
use Rattle.rinda_rules.specs.declared.plain.Raised.{Raised}
use Rattle.rinda_tuple.specs.Tuples.{value_of}
use Rattle.rinda_tuple.specs.Matching.{matches}
use Rattle.rinda_rules.specs.Space.{Plain, Found, TheTuple, TheRequest, TheNotifier, HasEnded, IsRecycled, IsUnknown, found, tuple_at, is_over, renewer_of, is_doubted, is_free, is_live, is_read, is_reserved, is_parked, is_running, is_waiting, event_value}
use Rattle.rinda_rules.specs.Queue.{queue}
use Rattle.rinda_rules.specs.Phases.{raised, ended, with_tuple, with_request, with_notifier, tuple_ended, request_ended, notifier_ended, in_state, request_in, served_with}

-- An answer, and the space that it leaves.
pub record Outcome : Type 0 where
  pub out : Out
  pub after : Plain

abbrev pub answers : Plain → Out → Outcome
answers s o = record { out = o; after = s }

abbrev pub nil : Tree
nil = roll-Tree Tree-F.Nil

-- A space that is shut takes nothing new.
abbrev pub unless_shut : Plain → Outcome → Outcome
unless_shut s case = if s.shut then answers s out.Shut else case

-- Write.

abbrev pub new_tuple : Plain → Tuple → Lease → Entry
new_tuple s value lease = record {
  id = s.next;
  value = value;
  deadline = deadline lease.life s.clock;
  renewer = renewer_of (deadline lease.life s.clock) lease.renewer s.clock;
  holder = None;
  marked = false;
  doubt = doubt.No;
}

-- a waiting Read whose pattern matches the tuple is answered with it
abbrev pub read_by : Tuple → Request → Request
read_by value r =
    if is_read r.kind && (is_waiting r && matches r.pattern value)
    then in_state (state.Answered (out.Answer (value_of value))) r
    else r

abbrev pub minted : Plain → Plain
minted s = record s { next = s.next + 1 }

-- a tuple whose deadline is at most now is read, raised as written and as deleted, and has ended
abbrev pub written_over : Entry → Plain → Plain
written_over t s =
    ended object.Entry t.id last.Expired
    (raised happening.Delete t
    (raised happening.Write t (record s { requests = map (read_by t.value) s.requests })))

abbrev pub written : Entry → Plain → Plain
written t s = raised happening.Write t (record s { tuples = s.tuples ++ t ∷ [] })

abbrev pub write_tuple : Plain → Entry → Plain
write_tuple s t = if is_over s.clock t.deadline then written_over t (minted s)
    else written t (minted s)

abbrev pub write : Plain → Tuple → Lease → Outcome
write s value lease =
    unless_shut s (answers (write_tuple s (new_tuple s value lease)) (out.Entry s.next))

-- Reserve.

abbrev pub new_request : Plain → ℕ → Kind → Template → Lease → Request
new_request s caller kind pattern lease = record {
  id = s.next;
  caller = caller;
  kind = kind;
  pattern = pattern;
  deadline = deadline lease.life s.clock;
  renewer = renewer_of (deadline lease.life s.clock) lease.renewer s.clock;
  marked = false;
  doubt = doubt.No;
  state = state.Reserved;
}

abbrev pub reserve : Plain → ℕ → Kind → Template → Lease → Outcome
reserve s caller kind pattern lease =
    unless_shut s
    (answers (record (minted s) {
      requests = s.requests ++ new_request s caller kind pattern lease
          ∷ [];
    }) (out.Reserved s.next))

-- An event that names an object: an id that was never minted is Unknown, and one that ended too long ago is Recycled.

-- only the caller's own request, and else WrongKind
abbrev pub on_own : Plain → ℕ → (Request → Outcome) → Found → Outcome
on_own s caller case (TheRequest r) = if r.caller == caller then case r else answers s out.WrongKind
on_own s caller case (TheTuple t) = answers s out.WrongKind
on_own s caller case (TheNotifier n) = answers s out.WrongKind
on_own s caller case (HasEnded kind last) = answers s out.WrongKind
on_own s caller case IsRecycled = answers s out.Recycled
on_own s caller case IsUnknown = answers s out.Unknown

-- Submit.

-- Without a match it is canceled, expires, or is parked.
abbrev pub submit_unmatched : Plain → Request → Outcome
submit_unmatched s r =
    if r.marked then answers (request_ended last.Canceled r.id s) out.Canceled
    else (if is_over s.clock r.deadline && is_none r.renewer
    then answers (request_ended last.Expired r.id s) out.Expired
    else answers (request_in r.id state.Parked s) (out.Parked r.id))

-- what a request that was just served with that tuple answers at once
abbrev pub collect_served : Plain → Request → Entry → Kind → Outcome
collect_served s r t kind.Read =
    answers (request_ended last.Done r.id s) (out.Answer (value_of t.value))
collect_served s r t kind.Take =
    answers (request_ended last.Done r.id s) (out.Answer (value_of t.value))
collect_served s r t kind.Move = answers s (out.Granted r.id (value_of t.value))

-- With a match it is served and collected at once.
abbrev pub submit_matched : Plain → Request → Option Entry → Outcome
submit_matched s r None = submit_unmatched s r
submit_matched s r (Some t) = collect_served (served_with r t s) r t r.kind

abbrev pub submit : Plain → Request → Option Entry → RequestState → Outcome
submit s r choice state.Reserved = submit_matched s r choice
submit s r choice state.Parked = answers s out.WrongKind
submit s r choice (state.Granted tuple) = answers s out.WrongKind
submit s r choice (state.Answered o) = answers s out.WrongKind

-- Collect.

-- how a request ends that is answered so
abbrev pub last_of : Out → Last
last_of out.Expired = last.Expired
last_of out.Canceled = last.Canceled
last_of _ = last.Done

-- the value of a tuple that is there
abbrev pub value_at : Option Entry → Tree
value_at None = nil
value_at (Some t) = value_of t.value

abbrev pub collect : Plain → Request → RequestState → Outcome
collect s r state.Reserved = answers s out.WrongKind
collect s r state.Parked = answers s out.NotYet
collect s r (state.Granted tuple) = answers s (out.Granted r.id (value_at (tuple_at s tuple)))
collect s r (state.Answered o) = answers (request_ended (last_of o) r.id s) o

-- Settle.

-- the tuple that was held is let go, and ends where it was canceled meanwhile
abbrev pub let_go : Entry → Plain → Plain
let_go t s = if t.marked then tuple_ended last.Canceled t s
    else with_tuple t.id (λ t. record t { holder = None }) s

abbrev pub settle_tuple : Bool → Option Entry → Plain → Plain
settle_tuple ok None s = s
settle_tuple true (Some t) s = tuple_ended last.Taken t s
settle_tuple false (Some t) s = let_go t s

abbrev pub settle : Plain → Request → Bool → RequestState → Outcome
settle s r ok state.Reserved = answers s out.WrongKind
settle s r ok state.Parked = answers s out.WrongKind
settle s r ok (state.Granted tuple) =
    answers (request_ended last.Done r.id (settle_tuple ok (tuple_at s tuple) s)) out.Plain
settle s r ok (state.Answered o) = answers s out.WrongKind

-- Pop.

-- the queue of a notifier, with the answer where it is empty and running
abbrev pub pop_empty : Plain → Notifier → Out → Hearing → Outcome
pop_empty s n nothing hearing.Running = answers s nothing
pop_empty s n nothing (hearing.Closed last until) = answers (notifier_ended last n.id s) out.Closed

abbrev pub pop_queue : Plain → Notifier → Out → List Raised → Outcome
pop_queue s n nothing [] = pop_empty s n nothing n.state
pop_queue s n nothing (e ∷ es) =
    answers (with_notifier n.id (λ n. record n { popped = n.popped + 1 }) s)
    (out.Event (event_value e))

abbrev pub pop_notifier : Plain → Out → Notifier → Outcome
pop_notifier s nothing n = pop_queue s n nothing (queue n s.events)

-- a notifier that has ended is Expired
abbrev pub pop_ended : ObjectKind → Out
pop_ended object.Entry = out.WrongKind
pop_ended object.Request = out.WrongKind
pop_ended object.Notifier = out.Expired

abbrev pub pop : Plain → Found → Outcome
pop s (TheRequest r) = answers s out.WrongKind
pop s (TheTuple t) = answers s out.WrongKind
pop s (TheNotifier n) = pop_notifier s out.NotYet n
pop s (HasEnded kind last) = answers s (pop_ended kind)
pop s IsRecycled = answers s out.Recycled
pop s IsUnknown = answers s out.Unknown

-- Withdraw.

abbrev pub withdraw_request : Plain → Request → RequestState → Outcome
withdraw_request s r state.Reserved = answers (request_ended last.Done r.id s) out.Plain
withdraw_request s r state.Parked = answers (request_ended last.Done r.id s) out.WouldWait
withdraw_request s r (state.Granted tuple) = collect s r (state.Granted tuple)
withdraw_request s r (state.Answered o) = collect s r (state.Answered o)

abbrev pub withdraw : Plain → ℕ → Found → Outcome
withdraw s caller (TheRequest r) = if r.caller == caller then withdraw_request s r r.state
    else answers s out.WrongKind
withdraw s caller (TheTuple t) = answers s out.WrongKind
withdraw s caller (TheNotifier n) = pop_notifier s out.WouldWait n
withdraw s caller (HasEnded kind last) = answers s (pop_ended kind)
withdraw s caller IsRecycled = answers s out.Recycled
withdraw s caller IsUnknown = answers s out.Unknown

-- Cancel.

abbrev pub cancel_tuple : Plain → Entry → Option ℕ → Plain
cancel_tuple s t (Some holder) = with_tuple t.id (λ t. record t { marked = true }) s
cancel_tuple s t None = tuple_ended last.Canceled t s

abbrev pub cancel_request : Plain → Request → RequestState → Plain
cancel_request s r state.Reserved = with_request r.id (λ r. record r { marked = true }) s
cancel_request s r state.Parked = request_in r.id (state.Answered out.Canceled) s
cancel_request s r (state.Granted tuple) = s
cancel_request s r (state.Answered o) = s

abbrev pub cancel_notifier : Plain → Notifier → Hearing → Plain
cancel_notifier s n hearing.Running =
    with_notifier n.id (λ n. record n { state = hearing.Closed last.Canceled (length s.events) }) s
cancel_notifier s n (hearing.Closed last until) = s

abbrev pub cancel : Plain → Found → Outcome
cancel s (TheRequest r) = answers (cancel_request s r r.state) out.Plain
cancel s (TheTuple t) = answers (cancel_tuple s t t.holder) out.Plain
cancel s (TheNotifier n) = answers (cancel_notifier s n n.state) out.Plain
cancel s (HasEnded kind last) = answers s out.Plain
cancel s IsRecycled = answers s out.Recycled
cancel s IsUnknown = answers s out.Unknown

-- Renew: the deadline and the renewer of the lease, and no doubt.

abbrev pub renewed_tuple : Option ℕ → Option Remote → Entry → Entry
renewed_tuple deadline renewer t =
    record t { deadline = deadline; renewer = renewer; doubt = doubt.No }

abbrev pub renewed_request : Option ℕ → Option Remote → Request → Request
renewed_request deadline renewer r =
    record r { deadline = deadline; renewer = renewer; doubt = doubt.No }

abbrev pub renewed_notifier : Option ℕ → Option Remote → Notifier → Notifier
renewed_notifier deadline renewer n =
    record n { deadline = deadline; renewer = renewer; doubt = doubt.No }

abbrev pub renew_request : Plain → Option ℕ → Option Remote → Request → RequestState → Plain
renew_request s deadline renewer r state.Reserved =
    with_request r.id (renewed_request deadline renewer) s
renew_request s deadline renewer r state.Parked =
    with_request r.id (renewed_request deadline renewer) s
renew_request s deadline renewer r (state.Granted tuple) = s
renew_request s deadline renewer r (state.Answered o) = s

abbrev pub renew_notifier : Plain → Option ℕ → Option Remote → Notifier → Hearing → Plain
renew_notifier s deadline renewer n hearing.Running =
    with_notifier n.id (renewed_notifier deadline renewer) s
renew_notifier s deadline renewer n (hearing.Closed last until) = s

abbrev pub renew_with : Plain → Option ℕ → Option Remote → Found → Outcome
renew_with s deadline renewer (TheRequest r) =
    answers (renew_request s deadline renewer r r.state) out.Plain
renew_with s deadline renewer (TheTuple t) =
    answers (with_tuple t.id (renewed_tuple deadline renewer) s) out.Plain
renew_with s deadline renewer (TheNotifier n) =
    answers (renew_notifier s deadline renewer n n.state) out.Plain
renew_with s deadline renewer (HasEnded kind last) = answers s out.Plain
renew_with s deadline renewer IsRecycled = answers s out.Recycled
renew_with s deadline renewer IsUnknown = answers s out.Unknown

abbrev pub renew : Plain → Lease → Found → Outcome
renew s lease found =
    renew_with s (deadline lease.life s.clock)
    (renewer_of (deadline lease.life s.clock) lease.renewer s.clock) found

-- Look.

abbrev pub is_expired : Last → Bool
is_expired last.Taken = false
is_expired last.Expired = true
is_expired last.Canceled = false
is_expired last.Done = false

abbrev pub is_canceled : Last → Bool
is_canceled last.Taken = false
is_canceled last.Expired = false
is_canceled last.Canceled = true
is_canceled last.Done = false

-- how an answered request has ended so far
abbrev pub state_last : RequestState → Last
state_last state.Reserved = last.Done
state_last state.Parked = last.Done
state_last (state.Granted tuple) = last.Done
state_last (state.Answered o) = last_of o

abbrev pub hearing_last : Hearing → Last
hearing_last hearing.Running = last.Done
hearing_last (hearing.Closed last until) = last

abbrev pub hearing_runs : Hearing → Bool
hearing_runs hearing.Running = true
hearing_runs (hearing.Closed last until) = false

-- an object is alive where it is neither expired nor canceled nor doubted
abbrev pub flags : Bool → Bool → Doubt → Flags
flags expired canceled doubt = record {
  alive = not expired && (not canceled && not (is_doubted doubt));
  expired = expired;
  canceled = canceled;
}

abbrev pub tuple_flags : ℕ → Entry → Flags
tuple_flags now t = flags (is_free t && (not (is_doubted t.doubt) && is_over now t.deadline))
    t.marked t.doubt

abbrev pub request_flags : ℕ → Request → Flags
request_flags now r =
    flags (is_expired (state_last r.state) || (not (is_doubted r.doubt) && is_over now r.deadline))
    (r.marked || is_canceled (state_last r.state)) r.doubt

abbrev pub notifier_flags : ℕ → Notifier → Flags
notifier_flags now n =
    flags (is_expired (hearing_last n.state)
    || (hearing_runs n.state && (not (is_doubted n.doubt) && is_over now n.deadline)))
    (is_canceled (hearing_last n.state)) n.doubt

abbrev pub ended_flags : Last → Flags
ended_flags last = record { alive = false; expired = is_expired last; canceled = is_canceled last }

abbrev pub look : Plain → Found → Outcome
look s (TheRequest r) = answers s (out.State (request_flags s.clock r))
look s (TheTuple t) = answers s (out.State (tuple_flags s.clock t))
look s (TheNotifier n) = answers s (out.State (notifier_flags s.clock n))
look s (HasEnded kind last) = answers s (out.State (ended_flags last))
look s IsRecycled = answers s out.Recycled
look s IsUnknown = answers s out.Unknown

-- Value.

abbrev pub value_ended : ObjectKind → Out
value_ended object.Entry = out.Answer nil
value_ended object.Request = out.WrongKind
value_ended object.Notifier = out.WrongKind

abbrev pub value : Plain → Found → Outcome
value s (TheRequest r) = answers s out.WrongKind
value s (TheTuple t) = answers s (out.Answer (value_of t.value))
value s (TheNotifier n) = answers s out.WrongKind
value s (HasEnded kind last) = answers s (value_ended kind)
value s IsRecycled = answers s out.Recycled
value s IsUnknown = answers s out.Unknown

-- ReadAll: the rows rise by id.

abbrev pub all_of : Plain → Template → List Tree
all_of s pattern = map (λ t. value_of t.value)
    (filter (λ t. matches pattern t.value && is_live s.clock t) s.tuples)

-- Notify: it hears the events from now on.

abbrev pub new_notifier : Plain → Tree → Template → Lease → Notifier
new_notifier s event pattern lease = record {
  id = s.next;
  event = event;
  pattern = pattern;
  deadline = deadline lease.life s.clock;
  renewer = renewer_of (deadline lease.life s.clock) lease.renewer s.clock;
  doubt = doubt.No;
  state = hearing.Running;
  since = length s.events;
  popped = 0;
}

abbrev pub notify : Plain → Tree → Template → Lease → Outcome
notify s event pattern lease =
    unless_shut s
    (answers (record (minted s) {
      notifiers = s.notifiers ++ new_notifier s event pattern lease
          ∷ [];
    }) (out.Notifier s.next))

-- NextAsk: of the rows that wait for their renewers, the one of least id.

pub record Asking : Type 0 where
  pub id : ℕ
  pub renewer : Remote

abbrev pub asking_of : ℕ → Doubt → Option Remote → List Asking
asking_of id doubt.No renewer = []
asking_of id doubt.Asked renewer = []
asking_of id doubt.Waiting None = []
asking_of id doubt.Waiting (Some renewer) = record { id = id; renewer = renewer } ∷ []

abbrev pub flat : {R : Type 0} → (R → List Asking) → List R → List Asking
flat f [] = []
flat f (row ∷ rows) = f row ++ flat f rows

abbrev pub askings : Plain → List Asking
askings s =
    flat (λ t. asking_of t.id t.doubt t.renewer) s.tuples
    ++ (flat (λ r. asking_of r.id r.doubt r.renewer) s.requests
    ++ flat (λ n. asking_of n.id n.doubt n.renewer) s.notifiers)

abbrev pub earlier : Asking → Option Asking → Asking
earlier a None = a
earlier a (Some b) = if nat_le a.id b.id then a else b

abbrev pub least : List Asking → Option Asking
least [] = None
least (a ∷ rest) = Some (earlier a (least rest))

abbrev pub asked_doubt : Doubt → Doubt
asked_doubt doubt.No = doubt.No
asked_doubt doubt.Waiting = doubt.Asked
asked_doubt doubt.Asked = doubt.Asked

-- the row with that id, which waits, is being asked for
abbrev pub asked_for : ℕ → Plain → Plain
asked_for id s =
    with_tuple id (λ t. record t { doubt = asked_doubt t.doubt })
    (with_request id (λ r. record r { doubt = asked_doubt r.doubt })
    (with_notifier id (λ n. record n { doubt = asked_doubt n.doubt }) s))

abbrev pub ask : Plain → Option Asking → Outcome
ask s None = answers s out.NotYet
ask s (Some a) = answers (asked_for a.id s) (out.Ask a.id a.renewer)

-- Asked: a row that is being asked for has the deadline of the life, and no doubt; where the life is over at once it
-- has no renewer from then on.

abbrev pub is_asked : Doubt → Bool
is_asked doubt.No = false
is_asked doubt.Waiting = false
is_asked doubt.Asked = true

abbrev pub told_tuple : Plain → Option ℕ → Entry → Plain
told_tuple s deadline t =
    if is_asked t.doubt then with_tuple t.id
    (renewed_tuple deadline (renewer_of deadline t.renewer s.clock)) s else s

abbrev pub told_request : Plain → Option ℕ → Request → Plain
told_request s deadline r =
    if is_asked r.doubt then with_request r.id
    (renewed_request deadline (renewer_of deadline r.renewer s.clock)) s else s

abbrev pub told_notifier : Plain → Option ℕ → Notifier → Plain
told_notifier s deadline n =
    if is_asked n.doubt then with_notifier n.id
    (renewed_notifier deadline (renewer_of deadline n.renewer s.clock)) s else s

abbrev pub told : Plain → Option ℕ → Found → Outcome
told s deadline (TheRequest r) = answers (told_request s deadline r) out.Plain
told s deadline (TheTuple t) = answers (told_tuple s deadline t) out.Plain
told s deadline (TheNotifier n) = answers (told_notifier s deadline n) out.Plain
told s deadline (HasEnded kind last) = answers s out.Plain
told s deadline IsRecycled = answers s out.Recycled
told s deadline IsUnknown = answers s out.Unknown

-- Shut: each reserved request is marked, each parked one is answered Canceled, and each running notifier is closed.

abbrev pub shut_request : Request → Request
shut_request r =
    if is_reserved r.state then record r { marked = true }
    else (if is_parked r.state then in_state (state.Answered out.Canceled) r
    else r)

abbrev pub shut_notifier : ℕ → Notifier → Notifier
shut_notifier until n =
    if is_running n.state then record n { state = hearing.Closed last.Canceled until } else n

abbrev pub shut_down : Plain → Plain
shut_down s = record s {
  shut = true;
  requests = map shut_request s.requests;
  notifiers = map (shut_notifier (length s.events)) s.notifiers;
}

abbrev pub shut : Plain → Outcome
shut s = if s.shut then answers s out.NotYet else answers (shut_down s) out.Plain

-- The event's own case, in the space as aging left it. A Submit that has a match gets the choice.
abbrev pub outcome : Plain → ℕ → Event → Option Entry → Outcome
outcome s caller (Write value lease) choice = write s value lease
outcome s caller (Reserve kind pattern lease) choice = reserve s caller kind pattern lease
outcome s caller (Submit id) choice = on_own s caller (λ r. submit s r choice r.state) (found s id)
outcome s caller (Collect id) choice = on_own s caller (λ r. collect s r r.state) (found s id)
outcome s caller (Settle id ok) choice = on_own s caller (λ r. settle s r ok r.state) (found s id)
outcome s caller (Withdraw id) choice = withdraw s caller (found s id)
outcome s caller (Cancel id) choice = cancel s (found s id)
outcome s caller (Renew id lease) choice = renew s lease (found s id)
outcome s caller (Look id) choice = look s (found s id)
outcome s caller (Value id) choice = value s (found s id)
outcome s caller (ReadAll pattern) choice = answers s (out.All (all_of s pattern))
outcome s caller (Notify event pattern lease) choice = notify s event pattern lease
outcome s caller (Pop id) choice = pop s (found s id)
outcome s caller NextAsk choice = ask s (least (askings s))
outcome s caller (Asked id life) choice = told s (deadline life s.clock) (found s id)
outcome s caller Tick choice = answers s out.Plain
outcome s caller Shut choice = shut s
