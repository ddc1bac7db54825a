-- Which plain spaces a stored start stands for. docs/SPACE.md, Opening again.
use Rattle.std.specs.Prelude.{◌≡◌, ℕ, Bool, true, false, not, ◌&&◌, ◌||◌, ◌==◌, List, [], ◌∷◌, map, Option, Some, None, is_none}
use Rattle.std.specs.List.{list_any}
use Rattle.drb_tree.specs.declared.Remote.{Remote}
use Rattle.rinda_rules.specs.declared.object.Doubt.{Doubt}
use Rattle.rinda_rules.specs.declared.object.Doubt.TheVariants.{No, Waiting}
use Rattle.rinda_rules.specs.declared.row.TupleRow.{TupleRow}
use Rattle.rinda_rules.specs.declared.row.NoteState.{NoteState}
use Rattle.rinda_rules.specs.declared.row.NoteState.TheVariants as note
use Rattle.rinda_rules.specs.declared.plain.Entry.{Entry}
use Rattle.rinda_rules.specs.declared.plain.Notifier.{Notifier}
use Rattle.rinda_rules.specs.declared.plain.Hearing.{Hearing}
use Rattle.rinda_rules.specs.declared.plain.Hearing.TheVariants as hearing
use Rattle.rinda_rules.specs.declared.plain.Raised.{Raised}
use Rattle.rinda_rules.specs.declared.start.Start.{Start}
use Rattle.rinda_rules.specs.declared.start.StartNote.{StartNote}
use Rattle.rinda_rules.specs.declared.start.StartLease.{StartLease}
use Rattle.rinda_rules.specs.Rows.{row_of}
use Rattle.rinda_rules.specs.Space.{Plain}
use Rattle.rinda_rules.specs.Queue.{queue_values}

-- What a lease says of its row: a deadline, a renewer, and whether that has to be asked. A row without one has none.

abbrev pub lease_of : ℕ → List StartLease → Option StartLease
lease_of id leases = row_of (λ l. l.id) id leases

abbrev pub deadline_of : Option StartLease → Option ℕ
deadline_of None = None
deadline_of (Some l) = l.deadline

abbrev pub renewer_by : Option StartLease → Option Remote
renewer_by None = None
renewer_by (Some l) = l.renewer

abbrev pub is_doubted_by : Option StartLease → Bool
is_doubted_by None = false
is_doubted_by (Some l) = l.doubted

abbrev pub doubt_of : Bool → Doubt
doubt_of true = Waiting
doubt_of false = No

-- the tuple with that row and that lease
abbrev pub entry_of : TupleRow → Option StartLease → Entry
entry_of row lease = record {
  id = row.id;
  value = row.value;
  deadline = deadline_of lease;
  renewer = renewer_by lease;
  holder = row.holder;
  marked = row.marked;
  doubt = doubt_of (is_doubted_by lease);
}

-- a stored tuple row has the deadline and the doubt of its lease
pub record RowMatches (leases : List StartLease) (row : TupleRow) : Type 0 where
  pub deadline : row.deadline ≡ deadline_of (lease_of row.id leases)
  pub doubted : row.doubted ≡ is_doubted_by (lease_of row.id leases)

-- it runs, or ended so
abbrev pub closed_as : Hearing → NoteState
closed_as hearing.Running = note.Running
closed_as (hearing.Closed last until) = note.Closed last

-- the notifier has the row's patterns and state, its queue is the stored one, and its lease is the stored one
pub record NoteMatches (leases : List StartLease) (events : List Raised) (stored : StartNote)
    (n : Notifier) : Type 0 where
  pub id : n.id ≡ stored.row.id
  pub event : n.event ≡ stored.row.event
  pub pattern : n.pattern ≡ stored.row.pattern
  pub state : closed_as n.state ≡ stored.row.state
  pub queue : queue_values n events ≡ stored.events
  pub deadline : n.deadline ≡ deadline_of (lease_of n.id leases)
  pub renewer : n.renewer ≡ renewer_by (lease_of n.id leases)
  pub doubt : n.doubt ≡ doubt_of (is_doubted_by (lease_of n.id leases))

-- one after the other
abbrev pub Each : {A B : Type 0} → (A → B → Type 0) → List A → List B → Type 0
Each Holds [] [] = Unit {0}
Each Holds (a ∷ rest) (b ∷ bs) = Holds a b × Each Holds rest bs
Each Holds [] (b ∷ bs) = ⊥
Each Holds (a ∷ rest) [] = ⊥

abbrev pub All : {A : Type 0} → (A → Type 0) → List A → Type 0
All Holds [] = Unit {0}
All Holds (a ∷ rest) = Holds a × All Holds rest

-- each lease is of a row that is there, no two are of one row, and who is doubted has a renewer
abbrev pub is_there : List TupleRow → List StartNote → ℕ → Bool
is_there tuples notes id = list_any (λ t. t.id == id) tuples || list_any (λ n. n.row.id == id) notes

abbrev pub leases_fit : List TupleRow → List StartNote → List StartLease → Bool
leases_fit tuples notes [] = true
leases_fit tuples notes (l ∷ ls) =
    is_there tuples notes l.id
    && (not (list_any (λ other. other.id == l.id) ls)
    && (not (l.doubted && is_none l.renewer) && leases_fit tuples notes ls))

-- A start stands for a space that has its time, its next id, its rows, leases and ended ids, that is not shut and has
-- no requests, and in which each notifier has still to give what is stored of its queue.
pub record StandsFor (start : Start) (s : Plain) : Type 0 where
  pub clock : s.clock ≡ start.now
  pub next : s.next ≡ start.next
  pub unshut : s.shut ≡ false
  pub leases : leases_fit start.tuples start.notes start.leases ≡ true
  pub rows : All (RowMatches start.leases) start.tuples
  pub tuples : s.tuples ≡ map (λ row. entry_of row (lease_of row.id start.leases)) start.tuples
  pub requests : s.requests ≡ []
  pub notifiers : Each (NoteMatches start.leases s.events) start.notes s.notifiers
  pub ended : s.ended ≡ start.ended
