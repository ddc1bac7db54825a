-- What a space has that starts from stored rows.
use Rattle.std.proofs.Common.{◌≡◌, ◌∙◌, ℕ, ◌+◌, ◌<◌, ◌≤◌, zero, suc, Bool, true, false, List, [], ◌∷◌, ◌++◌, map, take, drop, length, get_or, Option, Some, None, refl, sym, ap, arith}
use Rattle.std.specs.Prelude.{◌==◌, nat_lt, if◌then◌else◌}
use Rattle.std.specs.List.{list_all}
use Rattle.std.specs.Map.{lookup}
use Rattle.std.specs.BTreeMap.{is_at, insert_entry}
use Rattle.std.specs.Ordering.{nat_cmp}
use Rattle.std.proofs.lemmas.List.{take_more, drop_more}
use Rattle.std.proofs.lemmas.Option.{slice_get-get_or}
use Rattle.std.specs.Option.{option_map}
use Rattle.std.proofs.lemmas.Bool.Decides.{nat_tests}
use Rattle.rinda_rules.specs.declared.object.ObjectKind.TheVariants as object
use Rattle.rinda_rules.specs.declared.object.Doubt.{Doubt}
use Rattle.rinda_rules.specs.declared.row.TupleRow.{TupleRow}
use Rattle.rinda_rules.specs.declared.plain.Entry.{Entry}
use Rattle.rinda_rules.specs.declared.plain.Request.{Request}
use Rattle.rinda_rules.specs.declared.plain.Notifier.{Notifier}
use Rattle.rinda_rules.specs.declared.plain.Hearing.{Hearing}
use Rattle.rinda_rules.specs.declared.plain.Hearing.TheVariants as hearing
use Rattle.rinda_rules.specs.declared.plain.Raised.{Raised}
use Rattle.rinda_rules.specs.declared.row.NoteState.{NoteState}
use Rattle.rinda_rules.specs.declared.start.Start.{Start}
use Rattle.rinda_rules.specs.declared.start.StartNote.{StartNote}
use Rattle.rinda_rules.specs.declared.start.StartLease.{StartLease}
use Rattle.rinda_rules.specs.Rows.{row_of, rising}
use Rattle.rinda_rules.specs.Space.{Plain, request_at, tuple_at, notifier_at, is_running}
use Rattle.rinda_rules.specs.Sound.{Sound, named, objects}
use Rattle.rinda_rules.specs.Starts.{StandsFor, Each, NoteMatches, closed_as, lease_of, deadline_of, is_doubted_by, doubt_of}
use Rattle.rinda_rules.proofs.Lists.{row_has_id}
use Rattle.drb_ids.specs.declared.object.LiveId.{LiveId}
use Rattle.drb_ids.specs.Ids.{StartsWith}
use Rattle.drb_ids.specs.Found.{living}
use Rattle.rinda_lease.specs.declared.stage.Stage.{Stage}
use Rattle.rinda_lease.specs.declared.stage.Stage.TheVariants as stage
use Rattle.rinda_lease.specs.Orders.{placed}
use Rattle.rinda_notify.specs.Notes.{is_open}
use Rattle.rinda_notify.specs.Tables.{below as notes_below}
use Rattle.rinda_tables.specs.Undoing.{below}
use Rattle.rinda_tables.specs.Deadlines.{Staged, Stands, ahead_at}
use Rattle.rinda_notify.proofs.Ended.{loads_all}
use Rattle.rinda_tables.specs.Holds.{Held, Holds, stage_by, stage_among, notifier_stage, at_most_one}
use Rattle.rinda_tables.specs.Starting.{live_tuple, live_note, live_in, tuple_by, note_by, tuple_stage_by, note_stage_by, stage_or, stage_in, lease_in}
use Rattle.rinda_tables.proofs.HoldingTuples.{row-pushed}

-- Rows that rise.

all-get : {R : Type 0} (p : R → Bool) (xs : List R) (i : ℕ) (d : R) → i < length xs → list_all p xs ≡ true → p (get_or xs i d) ≡ true
all-get p [] i d l e = absurd (omega (arith, l))
all-get p (x ∷ xs) zero d l e = grind arith
all-get p (x ∷ xs) (suc i) d l e = grind (arith, all-get p xs i d)

-- the rows before one have lesser ids
pub below-at : {R : Type 0} (key : R → ℕ) (xs : List R) (i : ℕ) (d : R) → i < length xs → rising key xs ≡ true → list_all (λ y. nat_lt (key y) (key (get_or xs i d))) (take i xs) ≡ true
below-at key xs zero d l e = refl
below-at key [] (suc i) d l e = refl
below-at key (x ∷ xs) (suc i) d l e = grind (arith, nat_tests, all-get (λ y. nat_lt (key x) (key y)) xs i d, below-at key xs i d)

pub all-mapped : {R S : Type 0} (p : S → Bool) (f : R → S) (xs : List R) → list_all p (map f xs) ≡ list_all (λ x. p (f x)) xs
all-mapped p f [] = refl
all-mapped p f (x ∷ xs) = grind (arith, all-mapped p f xs)

none-below : {R : Type 0} (key : R → ℕ) (n : ℕ) (xs : List R) → list_all (λ y. nat_lt (key y) n) xs ≡ true → row_of key n xs ≡ None
none-below key n [] e = refl
none-below key n (x ∷ xs) e = grind (arith, nat_tests, none-below key n xs)

-- one more row stands where it does
pub stage-more : {R : Type 0} (key : R → ℕ) (of : R → Stage) (xs : List R) (x : R) (q : ℕ) (o : Stage) → list_all (λ y. nat_lt (key y) (key x)) xs ≡ true → (if q == key x then of x else stage_or of (row_of key q xs) o) ≡ stage_or of (row_of key q (xs ++ x ∷ [])) o
stage-more key of xs x q o e = by_test (q == key x) (row_of key q xs) ∙ sym (ap (λ r. stage_or of r o) (row-pushed key q xs x (none-below key (key x) xs e)))
  where
    by_test : (b : Bool) (r : Option _) → (if b then of x else stage_or of r o) ≡ stage_or of (if b then Some x else r) o
    by_test true r = refl
    by_test false r = refl

pub stands-more : {R : Type 0} (key : R → ℕ) (of : R → Stage) (xs : List R) (i : ℕ) (x : R) (st : Stage) (old mid new : Staged) → i < length xs → x ≡ get_or xs i x → rising key xs ≡ true → st ≡ of x → Stands (λ q. stage_or of (row_of key q (take i xs)) (ahead_at old q)) mid → Stands (placed (key x) st (ahead_at mid)) new → Stands (λ q. stage_or of (row_of key q (take (i + 1) xs)) (ahead_at old q)) new
stands-more key of xs i x st old mid new l at up same m n = record { ahead = λ q. n.ahead q ∙ step q; list = λ q. n.list q ∙ step q }
  where
    before : list_all (λ y. nat_lt (key y) (key x)) (take i xs) ≡ true
    before = ap (λ (z : _). list_all (λ y. nat_lt (key y) (key z)) (take i xs)) at ∙ below-at key xs i x l up

    rest : take i xs ++ x ∷ [] ≡ take (i + 1) xs
    rest = ap (λ (z : _). take i xs ++ z ∷ []) at ∙ sym (take_more xs i x l)

    step : (q : ℕ) → placed (key x) st (ahead_at mid) q ≡ stage_or of (row_of key q (take (i + 1) xs)) (ahead_at old q)
    step q =
        ap (λ (s : Stage). if q == key x then s else ahead_at mid q) same
        ∙ ap (λ (s : Stage). if q == key x then of x else s) (m.ahead q)
        ∙ stage-more key of (take i xs) x q (ahead_at old q) before
        ∙ ap (λ (ys : List _). stage_or of (row_of key q ys) (ahead_at old q)) rest

-- each one that is loaded is above all before it
pub tuples-below : (leases : List StartLease) (rows : List TupleRow) (i : ℕ) (x : TupleRow) → i < length rows → x ≡ get_or rows i x → rising (λ t. t.id) rows ≡ true → below (λ t. t.id) x.id (map (tuple_by leases) (take i rows)) ≡ true
tuples-below leases rows i x l at up =
    all-mapped (λ t. nat_lt t.id x.id) (tuple_by leases) (take i rows)
    ∙ ap (λ (z : TupleRow). list_all (λ y. nat_lt y.id z.id) (take i rows)) at
    ∙ below-at (λ t. t.id) rows i x l up

pub notes-below : (leases : List StartLease) (stored : List StartNote) (i : ℕ) (x : StartNote) → i < length stored → x ≡ get_or stored i x → rising (λ n. n.row.id) stored ≡ true → notes_below x.row.id (map (note_by leases) (take i stored)) ≡ true
notes-below leases stored i x l at up =
    all-mapped (λ n. nat_lt n.id x.row.id) (note_by leases) (take i stored)
    ∙ ap (λ (z : StartNote). list_all (λ y. nat_lt y.row.id z.row.id) (take i stored)) at
    ∙ below-at (λ n. n.row.id) stored i x l up

-- The index of the leases.

lookup-placed : (q id : ℕ) (es : List (ℕ × ℕ)) (v : ℕ) → lookup (is_at (nat_cmp q)) (insert_entry nat_cmp es id v) ≡ (if q == id then Some v else lookup (is_at (nat_cmp q)) es)
lookup-placed q id [] v = grind (arith, nat_tests)
lookup-placed q id (x ∷ es) v = grind (arith, nat_tests, lookup-placed q id es v)

-- one more lease, which is before the others
pub place-more : (leases : List StartLease) (i next : ℕ) (x : StartLease) (places : List (ℕ × ℕ)) → i < length leases → i + 1 ≡ next → x ≡ get_or leases i x → ((id : ℕ) → lease_in leases (lookup (is_at (nat_cmp id)) places) ≡ lease_of id (drop next leases)) → (id : ℕ) → lease_in leases (lookup (is_at (nat_cmp id)) (insert_entry nat_cmp places x.id i)) ≡ lease_of id (drop i leases)
place-more leases i next x places l step at so_far id =
    ap (λ (o : Option ℕ). lease_in leases o) (lookup-placed id x.id places i)
    ∙ by_test (id == x.id) refl
    ∙ ap (λ (y : StartLease). lease_of id (y ∷ drop next leases)) at
    ∙ ap (λ (n : ℕ). lease_of id (get_or leases i x ∷ drop n leases)) (sym step)
    ∙ ap (λ (ls : List StartLease). lease_of id ls) (sym (drop_more leases i x l))
  where
    by_test : (b : Bool) → (id == x.id) ≡ b → lease_in leases (if b then Some i else lookup (is_at (nat_cmp id)) places) ≡ lease_of id (x ∷ drop next leases)
    by_test true e = slice_get-get_or leases i x l ∙ ap Some (sym at) ∙ grind (arith, nat_tests)
    by_test false e = so_far id ∙ grind (arith, nat_tests)

-- Rows that are looked up.

row-mapped : {R S : Type 0} (key : R → ℕ) (key' : S → ℕ) (f : R → S) (q : ℕ) (xs : List R) → ((x : R) → key' (f x) ≡ key x) → row_of key' q (map f xs) ≡ option_map f (row_of key q xs)
row-mapped key key' f q [] keeps = refl
row-mapped key key' f q (x ∷ xs) keeps = grind (arith, nat_tests, keeps x, row-mapped key key' f q xs keeps)

abbrev or_else : {A : Type 0} → Option A → Option A → Option A
or_else None b = b
or_else (Some a) b = Some a

row-either : {R : Type 0} (key : R → ℕ) (q : ℕ) (xs ys : List R) → row_of key q (xs ++ ys) ≡ or_else (row_of key q xs) (row_of key q ys)
row-either key q [] ys = refl
row-either key q (x ∷ xs) ys = grind (arith, nat_tests, row-either key q xs ys)

named-some : {R : Type 0} (key : R → ℕ) (id : ℕ) (xs : List R) (r : R) → row_of key id xs ≡ Some r → 1 ≤ named key id xs
named-some key id [] r e = cc
named-some key id (x ∷ xs) r e = grind (arith, nat_tests, named-some key id xs r)

-- an id is of one row at most
alone-sound : (s : Plain) → Sound s → (id : ℕ) → at_most_one (request_at s id) (tuple_at s id) (notifier_at s id) ≡ true
alone-sound s sound id = by_rows (request_at s id) (tuple_at s id) (notifier_at s id) refl refl refl
  where
    request_tuple : 1 ≤ named (λ r. r.id) id s.requests → 1 ≤ named (λ t. t.id) id s.tuples → objects s id ≤ 1 → ⊥
    request_tuple p q r = omega (arith, p, q, r)

    request_notifier : 1 ≤ named (λ r. r.id) id s.requests → 1 ≤ named (λ n. n.id) id s.notifiers → objects s id ≤ 1 → ⊥
    request_notifier p q r = omega (arith, p, q, r)

    tuple_notifier : 1 ≤ named (λ t. t.id) id s.tuples → 1 ≤ named (λ n. n.id) id s.notifiers → objects s id ≤ 1 → ⊥
    tuple_notifier p q r = omega (arith, p, q, r)

    by_rows : (r : Option Request) (t : Option Entry) (n : Option Notifier) → request_at s id ≡ r → tuple_at s id ≡ t → notifier_at s id ≡ n → at_most_one r t n ≡ true
    by_rows (Some r) (Some t) n ir it inn = absurd (request_tuple (named-some (λ (r : Request). r.id) id s.requests r ir) (named-some (λ (t : Entry). t.id) id s.tuples t it) (sound.apart.once id))
    by_rows (Some r) None (Some n) ir it inn = absurd (request_notifier (named-some (λ (r : Request). r.id) id s.requests r ir) (named-some (λ (n : Notifier). n.id) id s.notifiers n inn) (sound.apart.once id))
    by_rows (Some r) None None ir it inn = refl
    by_rows None (Some t) (Some n) ir it inn = absurd (tuple_notifier (named-some (λ (t : Entry). t.id) id s.tuples t it) (named-some (λ (n : Notifier). n.id) id s.notifiers n inn) (sound.apart.once id))
    by_rows None (Some t) None ir it inn = refl
    by_rows None None n ir it inn = refl

-- Notifiers and what is stored of them.

abbrev BothOrNone : (StartNote → Notifier → Type 0) → Option StartNote → Option Notifier → Type 0
BothOrNone M None None = Unit {0}
BothOrNone M (Some a) (Some b) = M a b
BothOrNone M None (Some b) = ⊥
BothOrNone M (Some a) None = ⊥

found-one : (M : StartNote → Notifier → Type 0) (x : StartNote) (n : Notifier) (o : Option StartNote) (p : Option Notifier) (a b : Bool) → a ≡ b → M x n → BothOrNone M o p → BothOrNone M (if a then Some x else o) (if b then Some n else p)
found-one M x n o p true true e m rest = m
found-one M x n o p false false e m rest = rest
found-one M x n o p true false e m rest = cc
found-one M x n o p false true e m rest = cc

found-both : (leases : List StartLease) (events : List Raised) (q : ℕ) (xs : List StartNote) (ns : List Notifier) → Each (NoteMatches leases events) xs ns → BothOrNone (NoteMatches leases events) (row_of (λ x. x.row.id) q xs) (row_of (λ n. n.id) q ns)
found-both leases events q [] [] m = tt
found-both leases events q (x ∷ xs) [] m = absurd m
found-both leases events q [] (n ∷ ns) m = absurd m
found-both leases events q (x ∷ xs) (n ∷ ns) m = found-one (NoteMatches leases events) x n (row_of (λ x. x.row.id) q xs) (row_of (λ n. n.id) q ns) (x.row.id == q) (n.id == q) (ap (λ (i : ℕ). i == q) (sym (m.0).id)) m.0 (found-both leases events q xs ns m.1)

open-runs : (h : Hearing) → is_open (closed_as h) ≡ is_running h
open-runs hearing.Running = refl
open-runs (hearing.Closed last until) = refl

stage-noted : (leases : List StartLease) (events : List Raised) (x : StartNote) (n : Notifier) → NoteMatches leases events x n → note_stage_by leases x ≡ notifier_stage n
stage-noted leases events x n m =
    ap (λ (id : ℕ). stage_by (doubt_of (is_doubted_by (lease_of id leases))) (is_open x.row.state) (deadline_of (lease_of id leases))) (sym m.id)
    ∙ ap (λ (d : Doubt). stage_by d (is_open x.row.state) (deadline_of (lease_of n.id leases))) (sym m.doubt)
    ∙ ap (λ (d : Option ℕ). stage_by n.doubt (is_open x.row.state) d) (sym m.deadline)
    ∙ ap (λ (st : NoteState). stage_by n.doubt (is_open st) n.deadline) (sym m.state)
    ∙ ap (λ (b : Bool). stage_by n.doubt b n.deadline) (open-runs n.state)

-- All together.

among-stage : (leases : List StartLease) (events : List Raised) (row : Option TupleRow) (x : Option StartNote) (n : Option Notifier) → BothOrNone (NoteMatches leases events) x n → stage_or (tuple_stage_by leases) row (stage_or (note_stage_by leases) x stage.Still) ≡ stage_among None (option_map (tuple_by leases) row) n
among-stage leases events (Some row) x n m = refl
among-stage leases events None None None m = refl
among-stage leases events None (Some x) (Some n) m = stage-noted leases events x n m
among-stage leases events None None (Some n) m = absurd m
among-stage leases events None (Some x) None m = absurd m

among-living : (leases : List StartLease) (events : List Raised) (q : ℕ) (row : Option TupleRow) (x : Option StartNote) (n : Option Notifier) → ((r : TupleRow) → row ≡ Some r → r.id ≡ q) → ((y : StartNote) → x ≡ Some y → y.row.id ≡ q) → BothOrNone (NoteMatches leases events) x n → or_else (option_map live_tuple row) (option_map live_note x) ≡ living q None (option_map (tuple_by leases) row) n
among-living leases events q (Some row) x n at_row at_note m = ap (λ (i : ℕ). Some (record { id = i; kind = object.Entry })) (at_row row refl)
among-living leases events q None None None at_row at_note m = refl
among-living leases events q None (Some x) (Some n) at_row at_note m = ap (λ (i : ℕ). Some (record { id = i; kind = object.Notifier })) (at_note x refl)
among-living leases events q None None (Some n) at_row at_note m = absurd m
among-living leases events q None (Some x) None at_row at_note m = absurd m

-- tables that have all that is stored hold the space
pub holds-started : (start : Start) (s : Plain) (t : Held) → StandsFor start s → Sound s → t.clock ≡ start.now → t.shut ≡ false → StartsWith start.next (live_in start) start.ended t.ids → t.tuples ≡ map (tuple_by start.leases) start.tuples → t.requests ≡ [] → t.notes ≡ map (note_by start.leases) start.notes → ((q : ℕ) → t.stages q ≡ stage_in start q) → Holds s t
holds-started start s t f sound clock shut ids tuples requests notes stages = record {
  clock = clock ∙ sym f.clock;
  shut = shut ∙ sym f.unshut;
  numbered = sound.numbered;
  alone = alone-sound s sound;
  ids = record {
    next = ids.next_is ∙ sym f.next;
    live = λ q. ids.live_are q
        ∙ row-either (λ l. l.id) q (map live_tuple start.tuples) (map live_note start.notes)
        ∙ ap (λ (o : Option LiveId). or_else o (row_of (λ l. l.id) q (map live_note start.notes))) (row-mapped (λ t. t.id) (λ l. l.id) live_tuple q start.tuples (λ x. refl))
        ∙ ap (λ (o : Option LiveId). or_else (option_map live_tuple (row_of (λ t. t.id) q start.tuples)) o) (row-mapped (λ n. n.row.id) (λ l. l.id) live_note q start.notes (λ x. refl))
        ∙ among-living start.leases s.events q (row_of (λ t. t.id) q start.tuples) (row_of (λ n. n.row.id) q start.notes) (notifier_at s q) (row_has_id (λ (t : TupleRow). t.id) q start.tuples) (row_has_id (λ (n : StartNote). n.row.id) q start.notes) (both q)
        ∙ sym (ap (λ (o : Option Request). living q o (option_map (tuple_by start.leases) (row_of (λ t. t.id) q start.tuples)) (notifier_at s q)) (no_request q))
        ∙ sym (ap (λ (o : Option Entry). living q (request_at s q) o (notifier_at s q)) (the_tuple q));
    ended = ids.ended_are ∙ sym f.ended;
  };
  tuples = tuples ∙ sym f.tuples;
  requests = requests ∙ sym f.requests;
  notes = notes ∙ sym (loads_all start.leases s.events start.notes s.notifiers f.notifiers);
  heard = sound.heard;
  stages = λ q. stages q
      ∙ among-stage start.leases s.events (row_of (λ t. t.id) q start.tuples) (row_of (λ n. n.row.id) q start.notes) (notifier_at s q) (both q)
      ∙ sym (ap (λ (o : Option Request). stage_among o (option_map (tuple_by start.leases) (row_of (λ t. t.id) q start.tuples)) (notifier_at s q)) (no_request q))
      ∙ sym (ap (λ (o : Option Entry). stage_among (request_at s q) o (notifier_at s q)) (the_tuple q));
}
  where
    both : (q : ℕ) → BothOrNone (NoteMatches start.leases s.events) (row_of (λ n. n.row.id) q start.notes) (notifier_at s q)
    both q = found-both start.leases s.events q start.notes s.notifiers f.notifiers

    no_request : (q : ℕ) → request_at s q ≡ None
    no_request q = ap (λ (rs : List Request). row_of (λ r. r.id) q rs) f.requests

    the_tuple : (q : ℕ) → tuple_at s q ≡ option_map (tuple_by start.leases) (row_of (λ t. t.id) q start.tuples)
    the_tuple q = ap (λ (ts : List Entry). row_of (λ t. t.id) q ts) f.tuples ∙ row-mapped (λ t. t.id) (λ t. t.id) (tuple_by start.leases) q start.tuples (λ x. refl)
