-- Aging at once: what aging row by row leaves, as one map over each list. In a sound space both are equal
-- (`aging_at_once`), and code that ages whole lists is proved against this. docs/SPACE.md, Age.
use Rattle.std.specs.Prelude.{ℕ, ◌+◌, Bool, not, ◌&&◌, nat_lt, List, ◌++◌, map, filter, length, is_none, if◌then◌else◌}
use Rattle.rinda_rules.specs.declared.object.ObjectKind.TheVariants as object
use Rattle.rinda_rules.specs.declared.object.Last.TheVariants as last
use Rattle.rinda_rules.specs.declared.object.Doubt.TheVariants as doubt
use Rattle.rinda_rules.specs.declared.out.Out.TheVariants as out
use Rattle.rinda_rules.specs.declared.row.RequestState.TheVariants as state
use Rattle.rinda_rules.specs.declared.plain.Entry.{Entry}
use Rattle.rinda_rules.specs.declared.plain.Request.{Request}
use Rattle.rinda_rules.specs.declared.plain.Notifier.{Notifier}
use Rattle.rinda_rules.specs.declared.plain.Hearing.TheVariants as hearing
use Rattle.rinda_rules.specs.declared.plain.Happening.TheVariants as happening
use Rattle.rinda_rules.specs.declared.plain.Raised.{Raised}
use Rattle.rinda_rules.specs.declared.plain.Ended.{Ended}
use Rattle.rinda_rules.specs.Space.{Plain, retained, is_due_tuple, is_due_request, is_due_notifier}

-- a due tuple without a renewer
abbrev pub expires : ℕ → Entry → Bool
expires now t = is_due_tuple now t && is_none t.renewer

abbrev pub aged_tuple : ℕ → Entry → Entry
aged_tuple now t = if is_due_tuple now t then record t { doubt = doubt.Waiting } else t

abbrev pub aged_request : ℕ → Request → Request
aged_request now r =
    if is_due_request now r
    then (if is_none r.renewer then record r { state = state.Answered out.Expired }
    else record r { doubt = doubt.Waiting })
    else r

-- how many tuples of lower id expire
abbrev pub expire_before : ℕ → ℕ → List Entry → ℕ
expire_before now id tuples = length (filter (λ t. expires now t && nat_lt t.id id) tuples)

abbrev pub aged_notifier : Plain → Notifier → Notifier
aged_notifier s n =
    if is_due_notifier s.clock n
    then (if is_none n.renewer
    then record n {
      state = hearing.Closed last.Expired
          (length s.events + expire_before s.clock n.id s.tuples);
    }
    else record n { doubt = doubt.Waiting })
    else n

abbrev pub deleted : Entry → Raised
deleted t = record { what = happening.Delete; id = t.id; tuple = t.value }

abbrev pub expired : Entry → Ended
expired t = record { id = t.id; kind = object.Entry; last = last.Expired }

abbrev pub aged_at_once : Plain → Plain
aged_at_once s = record {
  clock = s.clock;
  next = s.next;
  shut = s.shut;
  tuples = map (aged_tuple s.clock) (filter (λ t. not (expires s.clock t)) s.tuples);
  requests = map (aged_request s.clock) s.requests;
  notifiers = map (aged_notifier s) s.notifiers;
  events = s.events ++ map deleted (filter (expires s.clock) s.tuples);
  ended = retained (s.ended ++ map expired (filter (expires s.clock) s.tuples));
}
