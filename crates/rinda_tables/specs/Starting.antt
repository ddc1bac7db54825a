-- What a space has that starts from stored rows. docs/SPACE.md, Opening again.
use Rattle.std.specs.Prelude.{◌≡◌, ℕ, Bool, true, List, ◌++◌, map, Option, Some, None, is_none}
use Rattle.std.specs.List.{slice_get}
use Rattle.std.specs.Map.{lookup}
use Rattle.std.specs.BTreeMap.{is_at}
use Rattle.std.specs.Ordering.{nat_cmp}
use Rattle.rinda_rules.specs.declared.object.ObjectKind.TheVariants as kind
use Rattle.rinda_rules.specs.declared.row.TupleRow.{TupleRow}
use Rattle.rinda_rules.specs.declared.plain.Entry.{Entry}
use Rattle.rinda_rules.specs.declared.start.Start.{Start}
use Rattle.rinda_rules.specs.declared.start.StartNote.{StartNote}
use Rattle.rinda_rules.specs.declared.start.StartLease.{StartLease}
use Rattle.rinda_rules.specs.Rows.{rising, row_of}
use Rattle.rinda_rules.specs.Space.{Plain}
use Rattle.rinda_rules.specs.Sound.{Sound}
use Rattle.rinda_rules.specs.Starts.{StandsFor, lease_of, deadline_of, is_doubted_by, doubt_of, entry_of}
use Rattle.drb_ids.specs.declared.object.LiveId.{LiveId}
use Rattle.drb_ids.specs.Ids.{MayStart}
use Rattle.rinda_lease.specs.declared.stage.Stage.{Stage}
use Rattle.rinda_lease.specs.declared.stage.Stage.TheVariants.{Still}
use Rattle.rinda_notify.specs.declared.note.Note.{Note}
use Rattle.rinda_notify.specs.Notes.{loaded, is_open}
use Rattle.rinda_tables.specs.Holds.{Holds, stage_by}
use Rattle.rinda_tables.specs.Tabled.{ahead_of, list_of}
use Rattle.rinda_tables.specs.declared.tables.Tables.{Tables}

-- the ids of its rows: those of the tuples, then those of the notifiers
abbrev pub live_tuple : TupleRow → LiveId
live_tuple row = record { id = row.id; kind = kind.Entry }

abbrev pub live_note : StartNote → LiveId
live_note stored = record { id = stored.row.id; kind = kind.Notifier }

abbrev pub live_in : Start → List LiveId
live_in start = map live_tuple start.tuples ++ map live_note start.notes

-- Tables may start from these rows: those of each kind rise by id, and a table of ids may start with their ids.
pub record MayBegin (start : Start) : Type 0 where
  pub ids : MayStart start.next (live_in start) start.ended
  pub tuples : rising (λ t. t.id) start.tuples ≡ true
  pub notes : rising (λ n. n.row.id) start.notes ≡ true

-- rows that stand for a sound space are such
abbrev pub SoundMayBegin : Type 0
SoundMayBegin = (start : Start) (s : Plain) → StandsFor start s → Sound s → MayBegin start

-- both what is ahead and what stands are each sound space that the rows stand for
abbrev pub StartsFrom : Start → Tables → Type 0
StartsFrom start t = (s : Plain) → StandsFor start s → Sound s →
    Holds s (ahead_of t) × Holds s (list_of t)

-- Each row with its lease.

abbrev pub tuple_by : List StartLease → TupleRow → Entry
tuple_by leases row = entry_of row (lease_of row.id leases)

abbrev pub note_by : List StartLease → StartNote → Note
note_by leases stored = loaded stored (lease_of stored.row.id leases)

-- Where a lease stands: as its row's does, which can expire or not.

abbrev pub stage_with : Option StartLease → Bool → Stage
stage_with lease expires = stage_by (doubt_of (is_doubted_by lease)) expires (deadline_of lease)

abbrev pub tuple_stage_by : List StartLease → TupleRow → Stage
tuple_stage_by leases row = stage_with (lease_of row.id leases) (is_none row.holder)

abbrev pub note_stage_by : List StartLease → StartNote → Stage
note_stage_by leases stored = stage_with (lease_of stored.row.id leases) (is_open stored.row.state)

-- the stage of a row, if there is one
abbrev pub stage_or : {R : Type 0} → (R → Stage) → Option R → Stage → Stage
stage_or of None stage = stage
stage_or of (Some row) stage = of row

-- where each id stands
abbrev pub stage_in : Start → ℕ → Stage
stage_in start q = stage_or (tuple_stage_by start.leases) (row_of (λ t. t.id) q start.tuples)
    (stage_or (note_stage_by start.leases) (row_of (λ n. n.row.id) q start.notes) Still)

-- An index of the leases: where the first one of each id is.

abbrev pub lease_in : List StartLease → Option ℕ → Option StartLease
lease_in leases None = None
lease_in leases (Some place) = slice_get leases place

abbrev pub ArePlaces : List StartLease → List (ℕ × ℕ) → Type 0
ArePlaces leases places =
    (id : ℕ) → lease_in leases (lookup (is_at (nat_cmp id)) places) ≡ lease_of id leases
