-- What is stored of a sound space stands for it.
use Rattle.std.proofs.Common.{◌≡◌, ℕ, ◌+◌, ◌≤◌, Bool, true, false, cond, not, ◌&&◌, ◌||◌, List, [], ◌∷◌, ◌++◌, map, length, Option, Some, None, refl, sym, ap, ◌∙◌, subst, arith, length-append}
use Rattle.std.specs.Prelude.{filter, ◌==◌, is_none, Result, Ok, Err, IfOk}
use Rattle.std.specs.List.{list_all, list_any}
use Rattle.std.proofs.lemmas.Bool.Decides.{nat_tests}
use Rattle.std.proofs.lemmas.List.Elements.{filter-append}
use Rattle.std.proofs.lemmas.List.Folds.{list_all-map}
use Rattle.drb_tree.specs.declared.Remote.{Remote}
use Rattle.rinda_rules.specs.declared.object.Doubt.{Doubt}
use Rattle.rinda_rules.specs.declared.object.Doubt.TheVariants.{No, Waiting, Asked}
use Rattle.rinda_rules.specs.declared.row.TupleRow.{TupleRow}
use Rattle.rinda_rules.specs.declared.plain.Entry.{Entry}
use Rattle.rinda_rules.specs.declared.plain.Request.{Request}
use Rattle.rinda_rules.specs.declared.plain.Notifier.{Notifier}
use Rattle.rinda_rules.specs.declared.plain.Raised.{Raised}
use Rattle.rinda_rules.specs.declared.start.Start.{Start}
use Rattle.rinda_rules.specs.declared.start.StartNote.{StartNote}
use Rattle.rinda_rules.specs.declared.start.StartLease.{StartLease}
use Rattle.rinda_rules.specs.Space.{Plain, is_doubted}
use Rattle.rinda_rules.specs.Sound.{Sound, named, may_doubt}
use Rattle.rinda_rules.specs.Starts.{StandsFor, RowMatches, NoteMatches, Each, All, lease_of, deadline_of, renewer_by, is_doubted_by, doubt_of, entry_of, is_there, leases_fit}
use Rattle.rinda_rules.proofs.Lists.{all_imp, all_append}
use Rattle.rinda_audit.specs.Stored.{is_unasked, has_none, may_be_stored, tuple_row, start_note, tuple_lease, note_lease, tuple_leases, note_leases, stored}

-- Lists.

filter_map : {A B : Type 0} (p : B → Bool) (f : A → B) (xs : List A) → filter p (map f xs) ≡ map f (filter (λ x. p (f x)) xs)
filter_map p f [] = refl
filter_map {A = A} {B = B} p f (x ∷ xs) = by_test (p (f x)) (filter p (map f xs)) (filter (λ x. p (f x)) xs) (filter_map p f xs)
  where
    by_test : (b : Bool) (ys : List B) (zs : List A) → ys ≡ map f zs → cond b (f x ∷ ys) ys ≡ map f (cond b (x ∷ zs) zs)
    by_test true ys zs e = ap (λ (ws : List B). f x ∷ ws) e
    by_test false ys zs e = e

any_filter : {A : Type 0} (p q : A → Bool) (xs : List A) → list_any p xs ≡ false → list_any p (filter q xs) ≡ false
any_filter p q [] e = refl
any_filter p q (x ∷ xs) e = grind (arith, nat_tests, any_filter p q xs)

any_map : {A B : Type 0} (p : B → Bool) (f : A → B) (xs : List A) → list_any p (map f xs) ≡ list_any (λ x. p (f x)) xs
any_map p f [] = refl
any_map p f (x ∷ xs) = grind (arith, nat_tests, any_map p f xs)

all_left : {A : Type 0} (Holds : A → Type 0) (xs ys : List A) → All Holds (xs ++ ys) → All Holds xs
all_left Holds [] ys h = tt
all_left Holds (x ∷ xs) ys h = (h.0, all_left Holds xs ys h.1)

all_right : {A : Type 0} (Holds : A → Type 0) (xs ys : List A) → All Holds (xs ++ ys) → All Holds ys
all_right Holds [] ys h = h
all_right Holds (x ∷ xs) ys h = all_right Holds xs ys h.1

-- Ids that stand once.

named_map : {A B : Type 0} (key : B → ℕ) (f : A → B) (id : ℕ) (xs : List A) → named key id (map f xs) ≡ named (λ x. key (f x)) id xs
named_map key f id [] = refl
named_map key f id (x ∷ xs) = grind (arith, nat_tests, named_map key f id xs)

named_append : {A : Type 0} (key : A → ℕ) (id : ℕ) (xs ys : List A) → named key id (xs ++ ys) ≡ named key id xs + named key id ys
named_append key id xs ys = ap length (filter-append (λ x. key x == id) xs ys) ∙ length-append (filter (λ x. key x == id) xs) (filter (λ x. key x == id) ys)

none_named : {A : Type 0} (key : A → ℕ) (id : ℕ) (xs : List A) → named key id xs ≡ 0 → list_any (λ x. key x == id) xs ≡ false
none_named key id [] e = refl
none_named key id (x ∷ xs) e = grind (arith, nat_tests, none_named key id xs)

-- no two leases are of one row
abbrev once : List StartLease → Bool
once [] = true
once (l ∷ ls) = not (list_any (λ other. other.id == l.id) ls) && once ls

fewer : (l : StartLease) (ls : List StartLease) (id : ℕ) → named (λ m. m.id) id (l ∷ ls) ≤ 1 → named (λ m. m.id) id ls ≤ 1
fewer l ls id h = grind (arith, nat_tests)

alone : (l : StartLease) (ls : List StartLease) → named (λ m. m.id) l.id (l ∷ ls) ≤ 1 → named (λ m. m.id) l.id ls ≡ 0
alone l ls h = grind (arith, nat_tests)

stand_once : (ls : List StartLease) → ((id : ℕ) → named (λ l. l.id) id ls ≤ 1) → once ls ≡ true
stand_once [] h = refl
stand_once (l ∷ ls) h =
    let here : list_any (λ other. other.id == l.id) ls ≡ false = none_named (λ m. m.id) l.id ls (alone l ls (h l.id)) in
    let later : once ls ≡ true = stand_once ls (λ id. fewer l ls id (h id)) in
    grind (arith, nat_tests)

-- Leases that are looked up.

-- what was found says the same as the lease
record Says (found : Option StartLease) (l : StartLease) : Type 0 where
  deadline : deadline_of found ≡ l.deadline
  renewer : renewer_by found ≡ l.renewer
  doubted : is_doubted_by found ≡ l.doubted

none_is : {A : Type 0} (o : Option A) → is_none o ≡ true → None ≡ o
none_is None e = refl
none_is (Some a) e = cc

-- it has a deadline, a renewer or a doubt
abbrev says_more : StartLease → Bool
says_more l = not (is_none l.deadline && (is_none l.renewer && not l.doubted))

-- a lease that says no more says what no lease says
says_nothing : (l : StartLease) → says_more l ≡ false → Says None l
says_nothing l e = record {
  deadline = none_is l.deadline (grind (arith, nat_tests));
  renewer = none_is l.renewer (grind (arith, nat_tests));
  doubted = grind (arith, nat_tests);
}

not_found : (id : ℕ) (ls : List StartLease) → list_any (λ other. other.id == id) ls ≡ false → lease_of id ls ≡ None
not_found id [] e = refl
not_found id (l ∷ ls) e = grind (arith, nat_tests, not_found id ls)

found_first : (l : StartLease) (ls : List StartLease) → lease_of l.id (l ∷ ls) ≡ Some l
found_first l ls = grind (arith, nat_tests)

found_later : (id : ℕ) (l : StartLease) (ls : List StartLease) → (l.id == id) ≡ false → lease_of id (l ∷ ls) ≡ lease_of id ls
found_later id l ls e = grind (arith, nat_tests)

says_as : (found other : Option StartLease) (l : StartLease) → found ≡ other → Says other l → Says found l
says_as found other l e h = subst (λ (o : Option StartLease). Says o l) (sym e) h

-- each of these leases says what is looked up among those
abbrev SaidBy : List StartLease → StartLease → Type 0
SaidBy kept l = Says (lease_of l.id kept) l

said_here : (l : StartLease) (kept : List StartLease) (b : Bool) → says_more l ≡ b → list_any (λ other. other.id == l.id) kept ≡ false → SaidBy (cond b (l ∷ kept) kept) l
said_here l kept true e none = says_as _ (Some l) l (found_first l kept) (record { deadline = refl; renewer = refl; doubted = refl })
said_here l kept false e none = says_as _ None l (not_found l.id kept none) (says_nothing l e)

apart : (l m : StartLease) (ls : List StartLease) → list_any (λ other. other.id == l.id) (m ∷ ls) ≡ false → (l.id == m.id) ≡ false
apart l m ls e = grind (arith, nat_tests)

apart_later : (l m : StartLease) (ls : List StartLease) → list_any (λ other. other.id == l.id) (m ∷ ls) ≡ false → list_any (λ other. other.id == l.id) ls ≡ false
apart_later l m ls e = grind (arith, nat_tests)

said_still : (l : StartLease) (kept ls : List StartLease) → list_any (λ other. other.id == l.id) ls ≡ false → All (SaidBy kept) ls → All (SaidBy (l ∷ kept)) ls
said_still l kept [] e h = tt
said_still l kept (m ∷ ls) e h = (says_as _ (lease_of m.id kept) m (found_later m.id l kept (apart l m ls e)) h.0, said_still l kept ls (apart_later l m ls e) h.1)

said_with : (l : StartLease) (kept ls : List StartLease) (b : Bool) → list_any (λ other. other.id == l.id) ls ≡ false → All (SaidBy kept) ls → All (SaidBy (cond b (l ∷ kept) kept)) ls
said_with l kept ls true e h = said_still l kept ls e h
said_with l kept ls false e h = h

once_here : (l : StartLease) (ls : List StartLease) → once (l ∷ ls) ≡ true → list_any (λ other. other.id == l.id) ls ≡ false
once_here l ls e = grind (arith, nat_tests)

once_later : (l : StartLease) (ls : List StartLease) → once (l ∷ ls) ≡ true → once ls ≡ true
once_later l ls e = grind (arith, nat_tests)

all_said : (ls : List StartLease) → once ls ≡ true → All (SaidBy (filter says_more ls)) ls
all_said [] e = tt
all_said (l ∷ ls) e =
    let none : list_any (λ other. other.id == l.id) ls ≡ false = once_here l ls e in (
      said_here l (filter says_more ls) (says_more l) refl (any_filter (λ other. other.id == l.id) says_more ls none),
      said_with l (filter says_more ls) ls (says_more l) none (all_said ls (once_later l ls e)),
    )

-- Rows.

doubt_back : (d : Doubt) (b : Bool) → is_unasked d ≡ true → b ≡ is_doubted d → d ≡ doubt_of b
doubt_back No b u e = ap doubt_of (sym e)
doubt_back Waiting b u e = ap doubt_of (sym e)
doubt_back Asked b u e = cc

rows_match : (kept : List StartLease) (ts : List Entry) → All (SaidBy kept) (map tuple_lease ts) → All (RowMatches kept) (map tuple_row ts)
rows_match kept [] h = tt
rows_match kept (t ∷ ts) h = (record { deadline = sym h.0.deadline; doubted = sym h.0.doubted }, rows_match kept ts h.1)

same_entry : (t : Entry) (deadline : Option ℕ) (renewer : Option Remote) (doubt : Doubt) → deadline ≡ t.deadline → renewer ≡ t.renewer → t.doubt ≡ doubt → t ≡ record t { deadline = deadline; renewer = renewer; doubt = doubt }
same_entry t deadline renewer doubt d r u =
    ap (λ (x : Option ℕ). record t { deadline = x }) (sym d)
    ∙ ap (λ (x : Option Remote). record t { deadline = deadline; renewer = x }) (sym r)
    ∙ ap (λ (x : Doubt). record t { deadline = deadline; renewer = renewer; doubt = x }) u

first_all : {A : Type 0} (p : A → Bool) (x : A) (xs : List A) → list_all p (x ∷ xs) ≡ true → p x ≡ true
first_all p x xs e = grind (arith, nat_tests)

later_all : {A : Type 0} (p : A → Bool) (x : A) (xs : List A) → list_all p (x ∷ xs) ≡ true → list_all p xs ≡ true
later_all p x xs e = grind (arith, nat_tests)

entries_are : (kept : List StartLease) (ts : List Entry) → list_all (λ t. is_unasked t.doubt) ts ≡ true → All (SaidBy kept) (map tuple_lease ts) → ts ≡ map (λ row. entry_of row (lease_of row.id kept)) (map tuple_row ts)
entries_are kept [] u h = refl
entries_are kept (t ∷ ts) u h =
    let said = h.0 in
    let doubt = doubt_back t.doubt (is_doubted_by (lease_of t.id kept)) (first_all (λ t. is_unasked t.doubt) t ts u) said.doubted in
    let here : t ≡ entry_of (tuple_row t) (lease_of t.id kept) = same_entry t _ _ _ said.deadline said.renewer doubt in
    let later : ts ≡ map (λ row. entry_of row (lease_of row.id kept)) (map tuple_row ts) = entries_are kept ts (later_all (λ t. is_unasked t.doubt) t ts u) h.1 in
    ap (λ (x : Entry). x ∷ ts) here ∙ ap (λ (xs : List Entry). entry_of (tuple_row t) (lease_of t.id kept) ∷ xs) later

notes_match : (kept : List StartLease) (es : List Raised) (ns : List Notifier) → list_all (λ n. is_unasked n.doubt) ns ≡ true → All (SaidBy kept) (map note_lease ns) → Each (NoteMatches kept es) (map (start_note es) ns) ns
notes_match kept es [] u h = tt
notes_match kept es (n ∷ ns) u h = (
  record {
    id = refl;
    event = refl;
    pattern = refl;
    state = refl;
    queue = refl;
    deadline = sym h.0.deadline;
    renewer = sym h.0.renewer;
    doubt = doubt_back n.doubt _ (first_all (λ n. is_unasked n.doubt) n ns u) h.0.doubted;
  },
  notes_match kept es ns (later_all (λ n. is_unasked n.doubt) n ns u) h.1,
)

-- Leases that fit.

or_else : (a b : Bool) → b ≡ true → (a || b) ≡ true
or_else a b e = grind arith

itself : {A : Type 0} (key : A → ℕ) (xs : List A) → list_all (λ x. list_any (λ y. key y == key x) xs) xs ≡ true
itself key [] = refl
itself {A = A} key (x ∷ xs) =
    let later : list_all (λ (y : A). key x == key y || list_any (λ z. key z == key y) xs) xs ≡ true = all_imp (λ (y : A). list_any (λ z. key z == key y) xs) (λ y. key x == key y || list_any (λ z. key z == key y) xs) (λ y h. or_else (key x == key y) (list_any (λ z. key z == key y) xs) h) xs (itself key xs) in
    grind (arith, nat_tests)

fits : (rows : List TupleRow) (notes : List StartNote) (ls : List StartLease) → list_all (λ l. is_there rows notes l.id) ls ≡ true → once ls ≡ true → list_all (λ l. not (l.doubted && is_none l.renewer)) ls ≡ true → leases_fit rows notes (filter says_more ls) ≡ true
fits rows notes [] there once_is sure = refl
fits rows notes (l ∷ ls) there once_is sure =
    let rest = fits rows notes ls (later_all (λ l. is_there rows notes l.id) l ls there) (once_later l ls once_is) (later_all (λ l. not (l.doubted && is_none l.renewer)) l ls sure) in
    with_one (says_more l) (filter says_more ls)
    (first_all (λ l. is_there rows notes l.id) l ls there)
    (any_filter (λ other. other.id == l.id) says_more ls (once_here l ls once_is))
    (first_all (λ l. not (l.doubted && is_none l.renewer)) l ls sure) rest
  where
    with_one : (b : Bool) (kept : List StartLease) → is_there rows notes l.id ≡ true → list_any (λ other. other.id == l.id) kept ≡ false → not (l.doubted && is_none l.renewer) ≡ true → leases_fit rows notes kept ≡ true → leases_fit rows notes (cond b (l ∷ kept) kept) ≡ true
    with_one true kept here none sure rest = grind (arith, nat_tests)
    with_one false kept here none sure rest = rest

-- a lease of each row, whether it says more or not
abbrev every : List Entry → List Notifier → List StartLease
every ts ns = map tuple_lease ts ++ map note_lease ns

kept_are : (ts : List Entry) (ns : List Notifier) → tuple_leases ts ++ note_leases ns ≡ filter says_more (every ts ns)
kept_are ts ns = sym (filter-append says_more (map tuple_lease ts) (map note_lease ns) ∙ ap (λ (xs : List StartLease). xs ++ filter says_more (map note_lease ns)) (filter_map says_more tuple_lease ts) ∙ ap (λ (xs : List StartLease). tuple_leases ts ++ xs) (filter_map says_more note_lease ns))

-- A sound space.

at_most_once : (s : Plain) → Sound s → (id : ℕ) → named (λ l. l.id) id (every s.tuples s.notifiers) ≤ 1
at_most_once s sound id = omega (
  arith,
  named_append (λ (l : StartLease). l.id) id (map tuple_lease s.tuples) (map note_lease s.notifiers),
  named_map (λ (l : StartLease). l.id) tuple_lease id s.tuples,
  named_map (λ (l : StartLease). l.id) note_lease id s.notifiers,
  sound.apart.once id,
)

tuples_there : (es : List Raised) (ts : List Entry) (ns : List Notifier) → list_all (λ l. is_there (map tuple_row ts) (map (start_note es) ns) l.id) (map tuple_lease ts) ≡ true
tuples_there es ts ns =
    list_all-map (λ (l : StartLease). is_there (map tuple_row ts) (map (start_note es) ns) l.id) tuple_lease ts
    ∙ all_imp (λ t. list_any (λ u. u.id == t.id) ts) (λ t. is_there (map tuple_row ts) (map (start_note es) ns) t.id) (λ t h. found_there t (any_map (λ (row : TupleRow). row.id == t.id) tuple_row ts ∙ h)) ts (itself (λ t. t.id) ts)
  where
    found_there : (t : Entry) → list_any (λ row. row.id == t.id) (map tuple_row ts) ≡ true → is_there (map tuple_row ts) (map (start_note es) ns) t.id ≡ true
    found_there t h = grind (arith, nat_tests)

notes_there : (es : List Raised) (ts : List Entry) (ns : List Notifier) → list_all (λ l. is_there (map tuple_row ts) (map (start_note es) ns) l.id) (map note_lease ns) ≡ true
notes_there es ts ns =
    list_all-map (λ (l : StartLease). is_there (map tuple_row ts) (map (start_note es) ns) l.id) note_lease ns
    ∙ all_imp (λ n. list_any (λ m. m.id == n.id) ns) (λ n. is_there (map tuple_row ts) (map (start_note es) ns) n.id) (λ n h. found_there n (any_map (λ (note : StartNote). note.row.id == n.id) (start_note es) ns ∙ h)) ns (itself (λ n. n.id) ns)
  where
    found_there : (n : Notifier) → list_any (λ note. note.row.id == n.id) (map (start_note es) ns) ≡ true → is_there (map tuple_row ts) (map (start_note es) ns) n.id ≡ true
    found_there n h = grind (arith, nat_tests)

surely_renewed : (s : Plain) → Sound s → list_all (λ l. not (l.doubted && is_none l.renewer)) (every s.tuples s.notifiers) ≡ true
surely_renewed s sound =
    all_append (λ l. not (l.doubted && is_none l.renewer)) (map tuple_lease s.tuples) (map note_lease s.notifiers)
    (list_all-map (λ (l : StartLease). not (l.doubted && is_none l.renewer)) tuple_lease s.tuples ∙ sound.doubts.tuples)
    (list_all-map (λ (l : StartLease). not (l.doubted && is_none l.renewer)) note_lease s.notifiers ∙ sound.doubts.notifiers)

-- what a space that may be stored is
record Ready (s : Plain) : Type 0 where
  requests : s.requests ≡ []
  unshut : s.shut ≡ false
  tuples : list_all (λ t. is_unasked t.doubt) s.tuples ≡ true
  notifiers : list_all (λ n. is_unasked n.doubt) s.notifiers ≡ true

none_are : (rs : List Request) → has_none rs ≡ true → rs ≡ []
none_are [] e = refl
none_are (r ∷ rs) e = cc

ready : (s : Plain) → may_be_stored s ≡ true → Ready s
ready s may = record {
  requests = none_are s.requests (grind (arith, nat_tests));
  unshut = grind (arith, nat_tests);
  tuples = grind (arith, nat_tests);
  notifiers = grind (arith, nat_tests);
}

pub stands_for : (s : Plain) → may_be_stored s ≡ true → Sound s → StandsFor (stored s) s
stands_for s may sound =
    let ts = s.tuples in
    let ns = s.notifiers in
    let all = every ts ns in
    let is_ready : Ready s = ready s may in
    let are : filter says_more all ≡ tuple_leases ts ++ note_leases ns = sym (kept_are ts ns) in
    let once_is : once all ≡ true = stand_once all (at_most_once s sound) in
    let said : All (SaidBy (filter says_more all)) all = all_said all once_is in
    let of_tuples = all_left (SaidBy (filter says_more all)) (map tuple_lease ts) (map note_lease ns) said in
    let of_notes = all_right (SaidBy (filter says_more all)) (map tuple_lease ts) (map note_lease ns) said in
    let there = all_append (λ l. is_there (map tuple_row ts) (map (start_note s.events) ns) l.id) (map tuple_lease ts) (map note_lease ns) (tuples_there s.events ts ns) (notes_there s.events ts ns) in
    record {
      clock = refl;
      next = refl;
      unshut = is_ready.unshut;
      leases = subst (λ (kept : List StartLease). leases_fit (map tuple_row ts) (map (start_note s.events) ns) kept ≡ true) are (fits (map tuple_row ts) (map (start_note s.events) ns) all there once_is (surely_renewed s sound));
      rows = subst (λ (kept : List StartLease). All (RowMatches kept) (map tuple_row ts)) are (rows_match (filter says_more all) ts of_tuples);
      tuples = subst (λ (kept : List StartLease). ts ≡ map (λ row. entry_of row (lease_of row.id kept)) (map tuple_row ts)) are (entries_are (filter says_more all) ts is_ready.tuples of_tuples);
      requests = is_ready.requests;
      notifiers = subst (λ (kept : List StartLease). Each (NoteMatches kept s.events) (map (start_note s.events) ns) ns) are (notes_match (filter says_more all) s.events ns is_ready.notifiers of_notes);
      ended = refl;
    }

-- the same of a call that may want memory
pub stands_ok : {E : Type 0} (s : Plain) (result : Result Start E) → may_be_stored s ≡ true → IfOk result (λ start. start ≡ stored s) → IfOk result (λ start. Sound s → StandsFor start s)
stands_ok s (Ok start) may e = λ sound. subst (λ (x : Start). StandsFor x s) (sym e) (stands_for s may sound)
stands_ok s (Err x) may e = tt
