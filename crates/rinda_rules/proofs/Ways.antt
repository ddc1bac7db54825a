-- The few ways in which a turn changes the space.
use Rattle.std.proofs.Common.{◌≡◌, ◌≢◌, ℕ, Bool, true, false, ◌||◌, ◌++◌, [], ◌∷◌, Some, None}
use Rattle.std.specs.Prelude.{is_none}
use Rattle.drb_tree.specs.declared.Tree.{Tree}
use Rattle.rinda_tuple.specs.declared.tuple.Tuple.{Tuple}
use Rattle.rinda_tuple.specs.declared.tuple.Template.{Template}
use Rattle.rinda_tuple.specs.declared.lease.Lease.{Lease}
use Rattle.rinda_rules.specs.declared.object.Last.{Last}
use Rattle.rinda_rules.specs.declared.object.Last.TheVariants as last
use Rattle.rinda_rules.specs.declared.event.Kind.{Kind}
use Rattle.rinda_rules.specs.declared.event.Kind.TheVariants as kind
use Rattle.rinda_rules.specs.declared.event.Event.{Event}
use Rattle.rinda_rules.specs.declared.event.Event.TheVariants.{Submit, Settle, Cancel, Shut}
use Rattle.rinda_rules.specs.declared.out.Out.{Out}
use Rattle.rinda_rules.specs.declared.out.Out.TheVariants as out
use Rattle.rinda_rules.specs.declared.row.RequestState.TheVariants as state
use Rattle.rinda_rules.specs.declared.plain.Entry.{Entry}
use Rattle.rinda_rules.specs.declared.plain.Request.{Request}
use Rattle.rinda_rules.specs.declared.plain.Notifier.{Notifier}
use Rattle.rinda_rules.specs.Space.{Plain, tuple_at, request_at, notifier_at, is_reserved, is_parked, is_running}
use Rattle.rinda_rules.specs.Phases.{advanced, tuple_ended, request_ended, notifier_ended, with_tuple, with_request, with_notifier, request_in, served_as}
use Rattle.rinda_rules.specs.Cases.{new_tuple, new_request, new_notifier, minted, written, written_over, settle_tuple, asked_doubt, is_asked, shut_down}
use Rattle.rinda_rules.specs.AtOnce.{aged_at_once}
use Rattle.rinda_rules.specs.Sound.{Sound, may_doubt, hears_within}
use Rattle.rinda_rules.specs.Own.{is_of}

-- a tuple is changed in its life and doubt alone
pub record LeasesTuple (f : Entry → Entry) : Type 0 where
  pub id : (t : Entry) → (f t).id ≡ t.id
  pub value : (t : Entry) → (f t).value ≡ t.value
  pub holder : (t : Entry) → (f t).holder ≡ t.holder
  pub marked : (t : Entry) → (f t).marked ≡ t.marked

-- a request is changed in its life and doubt alone
pub record LeasesRequest (f : Request → Request) : Type 0 where
  pub id : (r : Request) → (f r).id ≡ r.id
  pub caller : (r : Request) → (f r).caller ≡ r.caller
  pub kind : (r : Request) → (f r).kind ≡ r.kind
  pub pattern : (r : Request) → (f r).pattern ≡ r.pattern
  pub marked : (r : Request) → (f r).marked ≡ r.marked
  pub state : (r : Request) → (f r).state ≡ r.state

-- a notifier is changed, but for its id, its patterns and its registration
pub record KeepsNotifier (f : Notifier → Notifier) : Type 0 where
  pub id : (n : Notifier) → (f n).id ≡ n.id
  pub event : (n : Notifier) → (f n).event ≡ n.event
  pub pattern : (n : Notifier) → (f n).pattern ≡ n.pattern
  pub since : (n : Notifier) → (f n).since ≡ n.since

-- the change of that tuple doubts none without a renewer
abbrev pub DoubtsTuple : Plain → ℕ → (Entry → Entry) → Type 0
DoubtsTuple s id f = (t : Entry) → tuple_at s id ≡ Some t → may_doubt t.doubt (is_none t.renewer) ≡ true → may_doubt (f t).doubt (is_none (f t).renewer) ≡ true

abbrev pub DoubtsRequest : (Request → Request) → Request → Type 0
DoubtsRequest f r = may_doubt r.doubt (is_none r.renewer) ≡ true → may_doubt (f r).doubt (is_none (f r).renewer) ≡ true

-- a notifier becomes another one: what it heard is within what was raised, only a renewer is doubted, and one that is
-- closed stays so
pub record Becomes (s : Plain) (n new : Notifier) : Type 0 where
  pub heard : hears_within s.events n ≡ true → hears_within s.events new ≡ true
  pub doubts : may_doubt n.doubt (is_none n.renewer) ≡ true → may_doubt new.doubt (is_none new.renewer) ≡ true
  pub closed : is_running n.state ≡ false → is_running new.state ≡ false

abbrev pub BecomesAt : Plain → ℕ → (Notifier → Notifier) → Type 0
BecomesAt s id f = (n : Notifier) → notifier_at s id ≡ Some n → Becomes s n (f n)

-- a request whose life may be changed: it is reserved or parked, or its renewer is being asked
abbrev pub may_lease : Request → Bool
may_lease r = is_asked r.doubt || (is_reserved r.state || is_parked r.state)

-- why a request may be served: it waits, or its caller submits it
pub data Serves (caller : ℕ) (event : Event) (r : Request) : Type 0 where
  waits : r.state ≡ state.Parked → Serves caller event r
  submits : r.state ≡ state.Reserved → r.caller ≡ caller → event ≡ Submit r.id → Serves caller event r

-- why a request is answered so
pub data Answers (caller : ℕ) (event : Event) (r : Request) (o : Out) : Type 0 where
  serves : Serves caller event r → (v : Tree) → o ≡ out.Answer v → Answers caller event r o
  cancels : r.state ≡ state.Parked → event ≡ Cancel r.id → o ≡ out.Canceled → Answers caller event r o

-- the space with one more request, and with one more notifier
abbrev pub with_new_request : Plain → ℕ → Kind → Template → Lease → Plain
with_new_request s caller k pattern lease = record (minted s) { requests = s.requests ++ new_request s caller k pattern lease ∷ [] }

abbrev pub with_new_notifier : Plain → Tree → Template → Lease → Plain
with_new_notifier s e pattern lease = record (minted s) { notifiers = s.notifiers ++ new_notifier s e pattern lease ∷ [] }

-- The ways in which a turn of that caller with that event changes the space, but for aging, each of which keeps P.
pub record Ways (caller : ℕ) (event : Event) (P : Plain → Type 0) : Type 0 where
  pub advances : (s : Plain) (at : ℕ) → P s → P (advanced s at)
  pub writes : (s : Plain) (value : Tuple) (lease : Lease) → s.shut ≡ false → P s → P (written (new_tuple s value lease) (minted s))
  pub writes_over : (s : Plain) (value : Tuple) (lease : Lease) → s.shut ≡ false → P s → P (written_over (new_tuple s value lease) (minted s))
  pub reserves : (s : Plain) (k : Kind) (pattern : Template) (lease : Lease) → s.shut ≡ false → P s → P (with_new_request s caller k pattern lease)
  pub notifies : (s : Plain) (e : Tree) (pattern : Template) (lease : Lease) → s.shut ≡ false → P s → P (with_new_notifier s e pattern lease)
  pub tuple_leaves : (l : Last) (t : Entry) (s : Plain) → tuple_at s t.id ≡ Some t → t.holder ≡ None → P s → P (tuple_ended l t s)
  pub tuple_leases : (id : ℕ) (f : Entry → Entry) (s : Plain) → LeasesTuple f → DoubtsTuple s id f → P s → P (with_tuple id f s)
  pub tuple_marks : (t : Entry) (h : ℕ) (s : Plain) → tuple_at s t.id ≡ Some t → t.holder ≡ Some h → P s → P (with_tuple t.id (λ t. record t { marked = true }) s)
  pub request_leases : (r : Request) (f : Request → Request) (s : Plain) → request_at s r.id ≡ Some r → LeasesRequest f → may_lease r ≡ true → DoubtsRequest f r → P s → P (with_request r.id f s)
  pub request_asks : (id : ℕ) (s : Plain) → P s → P (with_request id (λ r. record r { doubt = asked_doubt r.doubt }) s)
  pub request_marks : (r : Request) (s : Plain) → request_at s r.id ≡ Some r → r.state ≡ state.Reserved → event ≡ Cancel r.id → P s → P (with_request r.id (λ r. record r { marked = true }) s)
  pub request_parks : (r : Request) (s : Plain) → request_at s r.id ≡ Some r → r.state ≡ state.Reserved → r.marked ≡ false → r.caller ≡ caller → event ≡ Submit r.id → P s → P (request_in r.id state.Parked s)
  pub request_answers : (r : Request) (o : Out) (s : Plain) → request_at s r.id ≡ Some r → Answers caller event r o → P s → P (request_in r.id (state.Answered o) s)
  pub request_ends : (l : Last) (r : Request) (s : Plain) → request_at s r.id ≡ Some r → ((t : ℕ) → r.state ≢ state.Granted t) → r.caller ≡ caller → is_of r.id event ≡ true → P s → P (request_ended l r.id s)
  pub grants : (r : Request) (t : Entry) (s : Plain) → request_at s r.id ≡ Some r → tuple_at s t.id ≡ Some t → t.holder ≡ None → Serves caller event r → P s → P (served_as kind.Move r t s)
  pub settles : (r : Request) (tuple : ℕ) (ok : Bool) (s : Plain) → request_at s r.id ≡ Some r → r.state ≡ state.Granted tuple → r.caller ≡ caller → event ≡ Settle r.id ok → P s → P (request_ended last.Done r.id (settle_tuple ok (tuple_at s tuple) s))
  pub notifier_changes : (id : ℕ) (f : Notifier → Notifier) (s : Plain) → KeepsNotifier f → BecomesAt s id f → P s → P (with_notifier id f s)
  pub notifier_ends : (l : Last) (n : Notifier) (s : Plain) → notifier_at s n.id ≡ Some n → P s → P (notifier_ended l n.id s)
  pub shuts : (s : Plain) → s.shut ≡ false → event ≡ Shut → P s → P (shut_down s)

-- The ways in which a turn of that caller with that event changes the space, each of which keeps P. Aging may be taken
-- at once, since it is met in sound spaces alone.
pub record Keeps (caller : ℕ) (event : Event) (P : Plain → Type 0) : Type 0 where
  pub advances : (s : Plain) (at : ℕ) → P s → P (advanced s at)
  pub ages : (s : Plain) → Sound s → P s → P (aged_at_once s)
  pub writes : (s : Plain) (value : Tuple) (lease : Lease) → s.shut ≡ false → P s → P (written (new_tuple s value lease) (minted s))
  pub writes_over : (s : Plain) (value : Tuple) (lease : Lease) → s.shut ≡ false → P s → P (written_over (new_tuple s value lease) (minted s))
  pub reserves : (s : Plain) (k : Kind) (pattern : Template) (lease : Lease) → s.shut ≡ false → P s → P (with_new_request s caller k pattern lease)
  pub notifies : (s : Plain) (e : Tree) (pattern : Template) (lease : Lease) → s.shut ≡ false → P s → P (with_new_notifier s e pattern lease)
  pub tuple_leaves : (l : Last) (t : Entry) (s : Plain) → tuple_at s t.id ≡ Some t → t.holder ≡ None → P s → P (tuple_ended l t s)
  pub tuple_leases : (id : ℕ) (f : Entry → Entry) (s : Plain) → LeasesTuple f → P s → P (with_tuple id f s)
  pub tuple_marks : (t : Entry) (h : ℕ) (s : Plain) → tuple_at s t.id ≡ Some t → t.holder ≡ Some h → P s → P (with_tuple t.id (λ t. record t { marked = true }) s)
  pub request_leases : (r : Request) (f : Request → Request) (s : Plain) → request_at s r.id ≡ Some r → LeasesRequest f → may_lease r ≡ true → P s → P (with_request r.id f s)
  pub request_asks : (id : ℕ) (s : Plain) → P s → P (with_request id (λ r. record r { doubt = asked_doubt r.doubt }) s)
  pub request_marks : (r : Request) (s : Plain) → request_at s r.id ≡ Some r → r.state ≡ state.Reserved → event ≡ Cancel r.id → P s → P (with_request r.id (λ r. record r { marked = true }) s)
  pub request_parks : (r : Request) (s : Plain) → request_at s r.id ≡ Some r → r.state ≡ state.Reserved → r.marked ≡ false → r.caller ≡ caller → event ≡ Submit r.id → P s → P (request_in r.id state.Parked s)
  pub request_answers : (r : Request) (o : Out) (s : Plain) → request_at s r.id ≡ Some r → Answers caller event r o → P s → P (request_in r.id (state.Answered o) s)
  pub request_ends : (l : Last) (r : Request) (s : Plain) → request_at s r.id ≡ Some r → ((t : ℕ) → r.state ≢ state.Granted t) → r.caller ≡ caller → is_of r.id event ≡ true → P s → P (request_ended l r.id s)
  pub grants : (r : Request) (t : Entry) (s : Plain) → request_at s r.id ≡ Some r → tuple_at s t.id ≡ Some t → t.holder ≡ None → Serves caller event r → P s → P (served_as kind.Move r t s)
  pub settles : (r : Request) (tuple : ℕ) (ok : Bool) (s : Plain) → request_at s r.id ≡ Some r → r.state ≡ state.Granted tuple → r.caller ≡ caller → event ≡ Settle r.id ok → P s → P (request_ended last.Done r.id (settle_tuple ok (tuple_at s tuple) s))
  pub notifier_changes : (id : ℕ) (f : Notifier → Notifier) (s : Plain) → KeepsNotifier f → P s → P (with_notifier id f s)
  pub notifier_ends : (l : Last) (n : Notifier) (s : Plain) → P s → P (notifier_ended l n.id s)
  pub shuts : (s : Plain) → s.shut ≡ false → event ≡ Shut → P s → P (shut_down s)

pub ways_of : {caller : ℕ} {event : Event} {P : Plain → Type 0} → Keeps caller event P → Ways caller event P
ways_of k = record {
  advances = k.advances;
  writes = k.writes;
  writes_over = k.writes_over;
  reserves = k.reserves;
  notifies = k.notifies;
  tuple_leaves = k.tuple_leaves;
  tuple_leases = λ id f s leases doubts h. k.tuple_leases id f s leases h;
  tuple_marks = k.tuple_marks;
  request_leases = λ r f s there leases may doubts h. k.request_leases r f s there leases may h;
  request_asks = k.request_asks;
  request_marks = k.request_marks;
  request_parks = k.request_parks;
  request_answers = k.request_answers;
  request_ends = k.request_ends;
  grants = k.grants;
  settles = k.settles;
  notifier_changes = λ id f s keeps becomes h. k.notifier_changes id f s keeps h;
  notifier_ends = λ l n s there h. k.notifier_ends l n s h;
  shuts = k.shuts;
}
