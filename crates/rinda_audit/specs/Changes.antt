-- What is done to one row, as a function of the row. docs/SPACE.md, Cases.
use Rattle.std.specs.Prelude.{ℕ, true, false, None}
use Rattle.drb_tree.specs.declared.Tree.{Tree}
use Rattle.rinda_tuple.specs.declared.tuple.Tuple.{Tuple}
use Rattle.rinda_tuple.specs.declared.tuple.Template.{Template}
use Rattle.rinda_tuple.specs.declared.lease.Lease.{Lease}
use Rattle.rinda_tuple.specs.Lives.{deadline}
use Rattle.rinda_rules.specs.declared.event.Kind.{Kind}
use Rattle.rinda_rules.specs.declared.row.RequestState.TheVariants as state
use Rattle.rinda_rules.specs.declared.object.Doubt.TheVariants as doubt
use Rattle.rinda_rules.specs.declared.plain.Entry.{Entry}
use Rattle.rinda_rules.specs.declared.plain.Request.{Request}
use Rattle.rinda_rules.specs.declared.plain.Notifier.{Notifier}
use Rattle.rinda_rules.specs.declared.plain.Hearing.TheVariants as hearing
use Rattle.rinda_rules.specs.Space.{renewer_of}
use Rattle.rinda_rules.specs.Phases.{in_state, held_by, doubt_tuple, doubt_request, doubt_notifier}
use Rattle.rinda_rules.specs.Cases.{asked_doubt, renewed_tuple, renewed_request, renewed_notifier}
use Rattle.rinda_audit.specs.declared.changes.TupleChange.{TupleChange}
use Rattle.rinda_audit.specs.declared.changes.TupleChange.TheVariants as to_tuple
use Rattle.rinda_audit.specs.declared.changes.RequestChange.{RequestChange}
use Rattle.rinda_audit.specs.declared.changes.RequestChange.TheVariants as to_request
use Rattle.rinda_audit.specs.declared.changes.NotifierChange.{NotifierChange}
use Rattle.rinda_audit.specs.declared.changes.NotifierChange.TheVariants as to_notifier

-- a tuple is held, let go, marked, renewed, doubted, or its renewer is being asked
abbrev pub tuple_after : TupleChange → Entry → Entry
tuple_after (to_tuple.Hold request) = held_by request
tuple_after to_tuple.Free = λ t. record t { holder = None }
tuple_after to_tuple.Mark = λ t. record t { marked = true }
tuple_after (to_tuple.Renew deadline renewer) = renewed_tuple deadline renewer
tuple_after to_tuple.Doubt = doubt_tuple
tuple_after to_tuple.Ask = λ t. record t { doubt = asked_doubt t.doubt }

-- a request comes to a state, is marked, renewed, doubted, or its renewer is being asked
abbrev pub request_after : RequestChange → Request → Request
request_after (to_request.Enter next) = in_state next
request_after to_request.Mark = λ r. record r { marked = true }
request_after (to_request.Renew deadline renewer) = renewed_request deadline renewer
request_after to_request.Doubt = doubt_request
request_after to_request.Ask = λ r. record r { doubt = asked_doubt r.doubt }

-- a notifier is closed, renewed, doubted, or its renewer is being asked
abbrev pub notifier_after : NotifierChange → Notifier → Notifier
notifier_after (to_notifier.Hear next) = λ n. record n { state = next }
notifier_after (to_notifier.Renew deadline renewer) = renewed_notifier deadline renewer
notifier_after to_notifier.Doubt = doubt_notifier
notifier_after to_notifier.Ask = λ n. record n { doubt = asked_doubt n.doubt }

-- a tuple with that id, written at that time
abbrev pub tuple_from : ℕ → ℕ → Tuple → Lease → Entry
tuple_from id now value lease = record {
  id = id;
  value = value;
  deadline = deadline lease.life now;
  renewer = renewer_of (deadline lease.life now) lease.renewer now;
  holder = None;
  marked = false;
  doubt = doubt.No;
}

-- a request with that id, made at that time
abbrev pub request_from : ℕ → ℕ → ℕ → Kind → Template → Lease → Request
request_from id now caller kind pattern lease = record {
  id = id;
  caller = caller;
  kind = kind;
  pattern = pattern;
  deadline = deadline lease.life now;
  renewer = renewer_of (deadline lease.life now) lease.renewer now;
  marked = false;
  doubt = doubt.No;
  state = state.Reserved;
}

-- a notifier with that id, made at that time, after so many events
abbrev pub notifier_from : ℕ → ℕ → ℕ → Tree → Template → Lease → Notifier
notifier_from id now since event pattern lease = record {
  id = id;
  event = event;
  pattern = pattern;
  deadline = deadline lease.life now;
  renewer = renewer_of (deadline lease.life now) lease.renewer now;
  doubt = doubt.No;
  state = hearing.Running;
  since = since;
  popped = 0;
}
