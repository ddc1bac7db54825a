-- Requests that the steps of a turn may have taken out of waiting, and all that a turn may have changed.
use Rattle.std.proofs.Common.{◌≡◌, ◌∙◌, ℕ, Bool, true, false, List, [], ◌∷◌, ◌++◌, map, length, Option, Some, None, refl, sym, ap, arith}
use Rattle.std.specs.Prelude.{not, ◌&&◌, ◌||◌, ◌==◌, nat_lt, if◌then◌else◌}
use Rattle.std.specs.Option.{option_map}
use Rattle.std.proofs.lemmas.Bool.Decides.{nat_tests}
use Rattle.rinda_rules.specs.declared.plain.Notifier.{Notifier}
use Rattle.rinda_rules.specs.declared.plain.Raised.{Raised}
use Rattle.rinda_rules.specs.declared.plain.Request.{Request}
use Rattle.rinda_rules.specs.declared.row.RequestState.{RequestState}
use Rattle.rinda_rules.specs.Phases.{in_state}
use Rattle.rinda_rules.specs.Rows.{row_of, changed, without}
use Rattle.rinda_rules.specs.Space.{Plain, request_at, notifier_at, is_parked}
use Rattle.rinda_wait.specs.Waiting.{marked_as, doubted_as, leased}
use Rattle.rinda_notify.specs.declared.note.Note.{Note}
use Rattle.rinda_notify.specs.Notes.{Standing, note_of, note_at}
use Rattle.rinda_notify.specs.Changed as N
use Rattle.rinda_tables.specs.declared.requests.Step.{Step}
use Rattle.rinda_tables.specs.declared.requests.Step.TheVariants as step
use Rattle.rinda_tables.specs.declared.tables.Tables.{Tables}
use Rattle.rinda_tables.specs.Asking.{Requested, undone, left_ids, are_hidden, parked_in}
use Rattle.rinda_tables.specs.Changed.{left_parked, heard_or_closed, is_changed, NamesChanged, NamesLeft}
use Rattle.rinda_tables.specs.Holds.{Held, Holds}
use Rattle.rinda_tables.specs.Tabled.{ahead_of, list_of}
use Rattle.rinda_tables.specs.Undoing.{is_in, left}
use Rattle.rinda_tables.proofs.Asked.{never-parked}
use Rattle.rinda_tables.proofs.Gone.{row-left}
use Rattle.rinda_tables.proofs.Holding.{row-in, row-out}
use Rattle.rinda_tables.proofs.HoldingNoted.{open-runs}

-- Requests.

still-parked : (f : Request → Request) (o : Option Request) → ((r : Request) → (f r).state ≡ r.state) → parked_in (option_map f o) ≡ parked_in o
still-parked f None same = refl
still-parked f (Some r) same = ap is_parked (same r)

in-state : (state : RequestState) (o : Option Request) → is_parked state ≡ false → parked_in (option_map (in_state state) o) ≡ false
in-state state None e = refl
in-state state (Some r) e = e

-- a change that keeps the states
stays : (q id : ℕ) (f : Request → Request) (rows : List Request) → ((r : Request) → (f r).id ≡ r.id) → ((r : Request) → (f r).state ≡ r.state) → parked_in (row_of (λ r. r.id) id (changed (λ r. r.id) q f rows)) ≡ parked_in (row_of (λ r. r.id) id rows)
stays q id f rows keeps same = ap parked_in (row-in (λ (r : Request). r.id) q id f rows keeps) ∙ by_test (id == q)
  where
    by_test : (b : Bool) → parked_in (if b then option_map f (row_of (λ r. r.id) id rows) else row_of (λ r. r.id) id rows) ≡ parked_in (row_of (λ r. r.id) id rows)
    by_test true = still-parked f (row_of (λ r. r.id) id rows) same
    by_test false = refl

unnamed-undone : (id : ℕ) (steps : List Step) (rows : List Request) → parked_in (row_of (λ r. r.id) id rows) ≡ false → is_in (left_ids steps) id ≡ false → parked_in (row_of (λ r. r.id) id (undone steps rows)) ≡ false
unnamed-undone id [] rows off none = off
unnamed-undone id (step.Added q ∷ steps) rows off none =
    grind (arith, nat_tests, row-out (λ r. r.id) q id (undone steps rows), unnamed-undone id steps rows off)
unnamed-undone id (step.State q state ∷ steps) rows off none = by_state (is_parked state) refl (unnamed-undone id steps rows off)
  where
    by_state : (b : Bool) → is_parked state ≡ b → (is_in (left_ids steps) id ≡ false → parked_in (row_of (λ r. r.id) id (undone steps rows)) ≡ false) → parked_in (row_of (λ r. r.id) id (undone (step.State q state ∷ steps) rows)) ≡ false
    by_state true e rest = grind (arith, nat_tests, row-in (λ r. r.id) q id (in_state state) (undone steps rows) (λ r. refl), rest)
    by_state false e rest = grind (arith, nat_tests, row-in (λ r. r.id) q id (in_state state) (undone steps rows) (λ r. refl), in-state state (row_of (λ r. r.id) id (undone steps rows)) e, rest)
unnamed-undone id (step.Marked q marked ∷ steps) rows off none =
    stays q id (marked_as marked) (undone steps rows) (λ r. refl) (λ r. refl) ∙ unnamed-undone id steps rows off none
unnamed-undone id (step.Leased q deadline renewer doubt ∷ steps) rows off none =
    stays q id (leased deadline renewer doubt) (undone steps rows) (λ r. refl) (λ r. refl) ∙ unnamed-undone id steps rows off none
unnamed-undone id (step.Doubted q doubt ∷ steps) rows off none =
    stays q id (doubted_as doubt) (undone steps rows) (λ r. refl) (λ r. refl) ∙ unnamed-undone id steps rows off none

-- who is gone is not parked
gone-unparked : (gone : List ℕ) (id : ℕ) (rows : List Request) → are_hidden gone rows ≡ true → is_in gone id ≡ true → parked_in (row_of (λ r. r.id) id rows) ≡ false
gone-unparked gone id [] e f = refl
gone-unparked gone id (r ∷ rows) e f = by_id (r.id == id) refl (gone-unparked gone id rows (grind arith) f)
  where
    by_id : (b : Bool) → (r.id == id) ≡ b → parked_in (row_of (λ r. r.id) id rows) ≡ false → parked_in (row_of (λ r. r.id) id (r ∷ rows)) ≡ false
    by_id true same rest =
        let is : r.id ≡ id = grind (arith, nat_tests) in
        let hid : is_in gone r.id ≡ true = ap (is_in gone) is ∙ f in
        grind (arith, nat_tests, never-parked r.state)
    by_id false other rest = grind (arith, nat_tests)

unnamed : (id : ℕ) (steps : List Step) (gone : List ℕ) (rows : List Request) → are_hidden gone rows ≡ true → is_in (left_ids steps) id ≡ false → left_parked (row_of (λ r. r.id) id (undone steps rows)) (row_of (λ r. r.id) id (left (λ r. r.id) gone rows)) ≡ false
unnamed id steps gone rows hidden none = by_gone (is_in gone id) refl (parked_in (row_of (λ r. r.id) id rows)) refl
  where
    by_gone : (b : Bool) → is_in gone id ≡ b → (p : Bool) → parked_in (row_of (λ r. r.id) id rows) ≡ p → left_parked (row_of (λ r. r.id) id (undone steps rows)) (row_of (λ r. r.id) id (left (λ r. r.id) gone rows)) ≡ false
    by_gone true e p is = grind (arith, unnamed-undone id steps rows (gone-unparked gone id rows hidden e) none)
    by_gone false e true is = grind (arith, row-left (λ (r : Request). r.id) gone id rows e)
    by_gone false e false is = grind (arith, unnamed-undone id steps rows is none)

-- those that the steps name are all that stopped being parked
pub names-left : (steps : List Step) (gone : List ℕ) (rows : List Request) (added : Bool) (ids : List ℕ) → are_hidden gone rows ≡ true → ids ≡ left_ids steps → NamesLeft (record { list = undone steps rows; ahead = left (λ r. r.id) gone rows; added = added }) ids
names-left steps gone rows added ids hidden are id e = by_test (is_in ids id) refl
  where
    by_test : (b : Bool) → is_in ids id ≡ b → is_in ids id ≡ true
    by_test true t = t
    by_test false f =
        let not_so : left_parked (row_of (λ r. r.id) id (undone steps rows)) (row_of (λ r. r.id) id (left (λ r. r.id) gone rows)) ≡ false = unnamed id steps gone rows hidden (ap (λ (xs : List ℕ). is_in xs id) (sym are) ∙ f) in
        cc

-- All.

row-seen : {A B : Type 0} (key : A → ℕ) (k : B → ℕ) (see : A → B) (id : ℕ) (xs : List A) → ((x : A) → k (see x) ≡ key x) → row_of k id (map see xs) ≡ option_map see (row_of key id xs)
row-seen key k see id [] same = refl
row-seen key k see id (x ∷ xs) same = grind (arith, nat_tests, same x, row-seen key k see id xs same)

note-held : (s : Plain) (t : Held) (id : ℕ) → Holds s t → note_at id t.notes ≡ option_map (note_of s.events) (notifier_at s id)
note-held s t id h = ap (note_at id) h.notes ∙ row-seen (λ (n : Notifier). n.id) (λ (n : Note). n.id) (note_of s.events) id s.notifiers (λ n. refl)

map-long : {A B : Type 0} (f : A → B) (xs : List A) → length (map f xs) ≡ length xs
map-long f [] = refl
map-long f (x ∷ xs) = grind (arith, map-long f xs)

-- a notifier has changed where its note has
notes-changed : (events later : List Raised) (before after : Option Notifier) → N.has_changed (option_map (note_of events) before) (option_map (note_of later) after) ≡ heard_or_closed events later before after
notes-changed events later None after = refl
notes-changed events later (Some n) None = ap (λ (b : Bool). b && true) (open-runs n.state)
notes-changed events later (Some n) (Some m) = rw (open-runs n.state, open-runs m.state) refl

in-append : (xs ys : List ℕ) (id : ℕ) → is_in (xs ++ ys) id ≡ (is_in xs id || is_in ys id)
in-append [] ys id = refl
in-append (x ∷ xs) ys id = grind (arith, in-append xs ys id)

either : (a b c d : Bool) → (a ≡ true → c ≡ true) → (b ≡ true → d ≡ true) → (a || b) ≡ true → (c || d) ≡ true
either true b c d f g e = grind (arith, f refl)
either false true c d f g e = grind (arith, g refl)
either false false c d f g e = cc

pub names-all : (t : Tables) (requests notes ids : List ℕ) → NamesLeft t.requests requests → N.NamesChanged t.notes notes → ids ≡ requests ++ notes → NamesChanged t ids
names-all t requests notes ids left heard are before after h k id e =
    ap (λ (xs : List ℕ). is_in xs id) are ∙ in-append requests notes id
    ∙ either (left_parked (request_at before id) (request_at after id)) (heard_or_closed before.events after.events (notifier_at before id) (notifier_at after id)) (is_in requests id) (is_in notes id) of_requests of_notes e
  where
    of_requests : left_parked (request_at before id) (request_at after id) ≡ true → is_in requests id ≡ true
    of_requests p = left id (ap (λ (o : Option Request). left_parked o (row_of (λ r. r.id) id t.requests.ahead)) (ap (row_of (λ (r : Request). r.id) id) h.requests) ∙ ap (left_parked (request_at before id)) (ap (row_of (λ (r : Request). r.id) id) k.requests) ∙ p)

    of_notes : heard_or_closed before.events after.events (notifier_at before id) (notifier_at after id) ≡ true → is_in notes id ≡ true
    of_notes p = heard id (ap (λ (o : Option Note). N.has_changed o (note_at id t.notes.ahead)) (note-held before (list_of t) id h) ∙ ap (N.has_changed (option_map (note_of before.events) (notifier_at before id))) (note-held after (ahead_of t) id k) ∙ notes-changed before.events after.events (notifier_at before id) (notifier_at after id) ∙ p)
