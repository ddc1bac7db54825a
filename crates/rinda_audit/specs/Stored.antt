-- When a space may be stored, and what is stored of it. docs/SPACE.md, Opening again.
use Rattle.std.specs.Prelude.{ℕ, ◌^◌, Bool, true, false, not, ◌&&◌, nat_lt, List, [], ◌∷◌, ◌++◌, map, filter, Option, is_none}
use Rattle.std.specs.List.{list_all}
use Rattle.drb_tree.specs.declared.Remote.{Remote}
use Rattle.rinda_rules.specs.declared.object.Doubt.{Doubt}
use Rattle.rinda_rules.specs.declared.object.Doubt.TheVariants.{No, Waiting, Asked}
use Rattle.rinda_rules.specs.declared.row.TupleRow.{TupleRow}
use Rattle.rinda_rules.specs.declared.row.NoteRow.{NoteRow}
use Rattle.rinda_rules.specs.declared.plain.Entry.{Entry}
use Rattle.rinda_rules.specs.declared.plain.Request.{Request}
use Rattle.rinda_rules.specs.declared.plain.Notifier.{Notifier}
use Rattle.rinda_rules.specs.declared.plain.Raised.{Raised}
use Rattle.rinda_rules.specs.declared.start.Start.{Start}
use Rattle.rinda_rules.specs.declared.start.StartNote.{StartNote}
use Rattle.rinda_rules.specs.declared.start.StartLease.{StartLease}
use Rattle.rinda_rules.specs.Space.{Plain, is_doubted}
use Rattle.rinda_rules.specs.Queue.{queue_values}
use Rattle.rinda_rules.specs.Starts.{closed_as}

-- its renewer is not being asked just now
abbrev pub is_unasked : Doubt → Bool
is_unasked No = true
is_unasked Waiting = true
is_unasked Asked = false

abbrev pub nobody_is_asked : Plain → Bool
nobody_is_asked s =
    list_all (λ t. is_unasked t.doubt) s.tuples && list_all (λ n. is_unasked n.doubt) s.notifiers

abbrev pub has_none : List Request → Bool
has_none [] = true
has_none (r ∷ rest) = false

-- A space may be stored where it has no requests, is not shut, asks no renewer just now, and its next id is a u64.
abbrev pub may_be_stored : Plain → Bool
may_be_stored s =
    has_none s.requests && (not s.shut && (nobody_is_asked s && nat_lt s.next (2 ^ 64)))

-- a tuple without its renewer, which stands with the leases
abbrev pub tuple_row : Entry → TupleRow
tuple_row t = record {
  id = t.id;
  value = t.value;
  deadline = t.deadline;
  holder = t.holder;
  marked = t.marked;
  doubted = is_doubted t.doubt;
}

-- a notifier without its lease, and what is left of its queue
abbrev pub note_row : Notifier → NoteRow
note_row n =
    record { id = n.id; event = n.event; pattern = n.pattern; state = closed_as n.state }

abbrev pub start_note : List Raised → Notifier → StartNote
start_note events n = record { row = note_row n; events = queue_values n events }

-- the lease of a row
abbrev pub lease_with : ℕ → Option ℕ → Option Remote → Doubt → StartLease
lease_with id deadline renewer doubt =
    record { id = id; deadline = deadline; renewer = renewer; doubted = is_doubted doubt }

abbrev pub tuple_lease : Entry → StartLease
tuple_lease t = lease_with t.id t.deadline t.renewer t.doubt

abbrev pub note_lease : Notifier → StartLease
note_lease n = lease_with n.id n.deadline n.renewer n.doubt

-- a row has a lease of its own where it has a deadline, a renewer or a doubt
abbrev pub is_needed : Option ℕ → Option Remote → Doubt → Bool
is_needed deadline renewer doubt =
    not (is_none deadline && (is_none renewer && not (is_doubted doubt)))

abbrev pub tuple_leases : List Entry → List StartLease
tuple_leases ts = map tuple_lease (filter (λ t. is_needed t.deadline t.renewer t.doubt) ts)

abbrev pub note_leases : List Notifier → List StartLease
note_leases ns = map note_lease (filter (λ n. is_needed n.deadline n.renewer n.doubt) ns)

-- all that is stored of a space
abbrev pub stored : Plain → Start
stored s = record {
  now = s.clock;
  next = s.next;
  tuples = map tuple_row s.tuples;
  notes = map (start_note s.events) s.notifiers;
  leases = tuple_leases s.tuples ++ note_leases s.notifiers;
  ended = s.ended;
}
