-- Whose renewer is asked next.
use Rattle.std.proofs.Common.{◌≡◌, ◌∙◌, ℕ, ◌≤◌, Bool, true, false, List, [], ◌∷◌, ◌++◌, Option, Some, None, refl, sym, ap, subst, arith}
use Rattle.std.specs.Prelude.{not, ◌||◌, ◌==◌, nat_le, nat_lt, find, is_none}
use Rattle.std.specs.List.{list_all}
use Rattle.std.proofs.lemmas.Bool.Decides.{nat_tests}
use Rattle.std.proofs.lemmas.List.{append_assoc, append-nil}
use Rattle.drb_tree.specs.declared.Remote.{Remote}
use Rattle.rinda_lease.specs.declared.stage.Stage.{Stage}
use Rattle.rinda_lease.specs.declared.stage.Stage.TheVariants as stage
use Rattle.rinda_lease.specs.Stages.{is_waiting, stage_at, IsNextAsk}
use Rattle.rinda_rules.specs.declared.object.Doubt.{Doubt}
use Rattle.rinda_rules.specs.declared.object.Doubt.TheVariants as doubt
use Rattle.rinda_rules.specs.declared.out.Out.TheVariants as out
use Rattle.rinda_rules.specs.declared.plain.Entry.{Entry}
use Rattle.rinda_rules.specs.declared.plain.Request.{Request}
use Rattle.rinda_rules.specs.declared.plain.Notifier.{Notifier}
use Rattle.rinda_rules.specs.Rows.{row_of, changed, rising, numbered}
use Rattle.rinda_rules.specs.declared.plain.Ended.{Ended}
use Rattle.rinda_rules.specs.Space.{Plain, found_among, ended_at, request_at, tuple_at, notifier_at, is_free, is_parked, is_running}
use Rattle.rinda_rules.specs.Phases.{with_tuple, with_request, with_notifier}
use Rattle.rinda_rules.specs.Cases.{Asking, asking_of, flat, askings, earlier, least, ask, asked_for, asked_doubt, answers}
use Rattle.rinda_rules.specs.Sound.{may_doubt, Sound}
use Rattle.rinda_rules.proofs.Lists.{all_append, all_at}
use Rattle.rinda_bag.specs.Changes.{asked as asked_tuple}
use Rattle.rinda_wait.specs.Waiting.{asked as asked_request}
use Rattle.rinda_tables.specs.Deadlines.{quiet}
use Rattle.drb_ids.specs.declared.object.Looked.{Looked}
use Rattle.drb_ids.specs.declared.object.Looked.TheVariants as looked
use Rattle.drb_ids.specs.Ids.{looked_up}
use Rattle.drb_ids.specs.Found.{looked_as}
use Rattle.rinda_tables.specs.Holds.{Held, Holds, stage_by, stage_of, stage_among}
use Rattle.rinda_tables.specs.Tabled.{ahead_of}
use Rattle.rinda_tables.specs.declared.tables.Tables.{Tables}
use Rattle.rinda_cases.proofs.Named.{named as named-found}
use Rattle.rinda_tables.proofs.Gone.{changed-absent}
use Rattle.rinda_tables.proofs.Holding.{alone-tuple, alone-request, alone-notifier}

-- Rows in rising id.

first-row : {R : Type 0} (key : R → ℕ) (x : R) (rows : List R) → row_of key (key x) (x ∷ rows) ≡ Some x
first-row key x rows = grind (arith, nat_tests)

later-row : {R : Type 0} (key : R → ℕ) (x r : R) (rows : List R) → list_all (λ y. nat_lt (key x) (key y)) rows ≡ true → row_of key (key r) rows ≡ Some r → row_of key (key r) (x ∷ rows) ≡ Some r
later-row key x r rows later e = let apart : nat_lt (key x) (key r) ≡ true = all_at (λ y. nat_lt (key x) (key y)) key (key r) rows r e later in grind (arith, nat_tests)

-- what is so of each that is found by its id is so of all
each-row : {R : Type 0} (p : R → Bool) (key : R → ℕ) (rows : List R) → rising key rows ≡ true → ((r : R) → row_of key (key r) rows ≡ Some r → p r ≡ true) → list_all p rows ≡ true
each-row p key [] up k = refl
each-row {R = R} p key (x ∷ rows) up k =
    let first : p x ≡ true = k x (first-row key x rows) in
    let later : list_all (λ y. nat_lt (key x) (key y)) rows ≡ true = grind arith in
    let up' : rising key rows ≡ true = grind arith in
    let rest : list_all p rows ≡ true = each-row p key rows up' (λ r e. k r (later-row key x r rows later e)) in
    grind arith

rises : {R : Type 0} (key : R → ℕ) (next : ℕ) (rows : List R) → numbered key next rows ≡ true → rising key rows ≡ true
rises key next rows h = grind arith

-- The least of those that are to be asked for.

least-keeps : (p : Asking → Bool) (xs : List Asking) (b : Asking) → list_all p xs ≡ true → least xs ≡ Some b → p b ≡ true
least-keeps p [] b all is = cc
least-keeps p (x ∷ xs) b all is = by-least (least xs) refl (λ c rest e. least-keeps p xs c rest e)
  where
    by-least : (o : Option Asking) → least xs ≡ o → ((c : Asking) → list_all p xs ≡ true → least xs ≡ Some c → p c ≡ true) → p b ≡ true
    by-least None e k = grind (arith, e)
    by-least (Some c) e k =
        let rest : list_all p xs ≡ true = grind arith in
        let there : p c ≡ true = k c rest e in
        grind (arith, e)

earlier-first : (x : Asking) (o : Option Asking) → ((b : Asking) → o ≡ Some b → nat_le x.id b.id ≡ true) → earlier x o ≡ x
earlier-first x None k = refl
earlier-first x (Some b) k = rw (k b refl) refl

same-some : (x y : Asking) → Some x ≡ Some y → x ≡ y
same-some x y e = cc

-- the one with the least id, where no other comes before it that has that id
least-is : (xs : List Asking) (a : Asking) → find (λ (x : Asking). x.id == a.id) xs ≡ Some a → list_all (λ (x : Asking). nat_le a.id x.id) xs ≡ true → least xs ≡ Some a
least-is [] a there all = cc
least-is (x ∷ xs) a there all = by-id (x.id == a.id) refl (λ there' rest. least-is xs a there' rest)
  where
    by-id : (b : Bool) → (x.id == a.id) ≡ b → (find (λ (y : Asking). y.id == a.id) xs ≡ Some a → list_all (λ (y : Asking). nat_le a.id y.id) xs ≡ true → least xs ≡ Some a) → Some (earlier x (least xs)) ≡ Some a
    by-id true e k =
        let same : x ≡ a = same-some x a (grind (arith, e, there)) in
        let rest : list_all (λ (y : Asking). nat_le a.id y.id) xs ≡ true = grind arith in
        ap (λ (y : Asking). Some y) (earlier-first x (least xs) (λ b is. subst (λ (y : Asking). nat_le y.id b.id ≡ true) (sym same) (least-keeps (λ (y : Asking). nat_le a.id y.id) xs b rest is)) ∙ same)
    by-id false e k =
        let there' : find (λ (y : Asking). y.id == a.id) xs ≡ Some a = grind (arith, e, there) in
        let rest : list_all (λ (y : Asking). nat_le a.id y.id) xs ≡ true = grind arith in
        let later : nat_le x.id a.id ≡ false = grind (arith, nat_tests) in
        rw (k there' rest, later) refl

-- Which rows are to be asked for.

abbrev pub waits : Doubt → Bool
waits doubt.No = false
waits doubt.Waiting = true
waits doubt.Asked = false

abbrev asks : {R : Type 0} → (R → ℕ) → (R → Doubt) → (R → Option Remote) → List R → List Asking
asks key d w rows = flat (λ row. asking_of (key row) (d row) (w row)) rows

abbrev asking_with : ℕ → List Asking → Option Asking
asking_with id xs = find (λ (x : Asking). x.id == id) xs

still-asking : (id : ℕ) (x : Doubt) (w : Option Remote) → not (waits x) ≡ true → asking_of id x w ≡ []
still-asking id doubt.No w e = refl
still-asking id doubt.Asked w e = refl
still-asking id doubt.Waiting w e = cc

none-asks : {R : Type 0} (key : R → ℕ) (d : R → Doubt) (w : R → Option Remote) (rows : List R) → list_all (λ row. not (waits (d row))) rows ≡ true → asks key d w rows ≡ []
none-asks key d w [] e = refl
none-asks key d w (x ∷ rows) e =
    let first : not (waits (d x)) ≡ true = grind arith in
    let rest : list_all (λ row. not (waits (d row))) rows ≡ true = grind arith in
    rw (still-asking (key x) (d x) (w x) first) (none-asks key d w rows rest)

other-asking : (id k : ℕ) (x : Doubt) (w : Option Remote) (ys : List Asking) → (k == id) ≡ false → asking_with id (asking_of k x w ++ ys) ≡ asking_with id ys
other-asking id k doubt.No w ys e = refl
other-asking id k doubt.Asked w ys e = refl
other-asking id k doubt.Waiting None ys e = refl
other-asking id k doubt.Waiting (Some r) ys e = rw e refl

own-asking : (id k : ℕ) (x : Doubt) (w : Option Remote) (r : Remote) (ys : List Asking) → (k == id) ≡ true → x ≡ doubt.Waiting → w ≡ Some r → asking_with id (asking_of k x w ++ ys) ≡ Some (record { id = id; renewer = r })
own-asking id k x w r ys e is there =
    let same : k ≡ id = grind (arith, nat_tests) in
    rw (is, there, e) (ap (λ (i : ℕ). Some (record { id = i; renewer = r })) same)

same-row : {R : Type 0} (x y : R) → Some x ≡ Some y → x ≡ y
same-row x y e = cc

asks-for : {R : Type 0} (key : R → ℕ) (d : R → Doubt) (w : R → Option Remote) (id : ℕ) (rows : List R) (e : R) (r : Remote) (ys : List Asking) → row_of key id rows ≡ Some e → d e ≡ doubt.Waiting → w e ≡ Some r → asking_with id (asks key d w rows ++ ys) ≡ Some (record { id = id; renewer = r })
asks-for key d w id [] e r ys there is renews = cc
asks-for {R = R} key d w id (x ∷ rows) e r ys there is renews = by-id (key x == id) refl (λ there'. asks-for key d w id rows e r ys there' is renews)
  where
    by-id : (b : Bool) → (key x == id) ≡ b → (row_of key id rows ≡ Some e → asking_with id (asks key d w rows ++ ys) ≡ Some (record { id = id; renewer = r })) → asking_with id ((asking_of (key x) (d x) (w x) ++ asks key d w rows) ++ ys) ≡ Some (record { id = id; renewer = r })
    by-id true t k =
        let same : x ≡ e = same-row x e (grind (arith, t, there)) in
        rw (append_assoc (asking_of (key x) (d x) (w x)) (asks key d w rows) ys) (own-asking id (key x) (d x) (w x) r (asks key d w rows ++ ys) t (ap d same ∙ is) (ap w same ∙ renews))
    by-id false t k =
        let there' : row_of key id rows ≡ Some e = grind (arith, t, there) in
        rw (append_assoc (asking_of (key x) (d x) (w x)) (asks key d w rows) ys) (other-asking id (key x) (d x) (w x) (asks key d w rows ++ ys) t ∙ k there')

asks-not : {R : Type 0} (key : R → ℕ) (d : R → Doubt) (w : R → Option Remote) (id : ℕ) (rows : List R) (ys : List Asking) → row_of key id rows ≡ None → asking_with id (asks key d w rows ++ ys) ≡ asking_with id ys
asks-not key d w id [] ys there = refl
asks-not {R = R} key d w id (x ∷ rows) ys there = by-id (key x == id) refl (λ there'. asks-not key d w id rows ys there')
  where
    by-id : (b : Bool) → (key x == id) ≡ b → (row_of key id rows ≡ None → asking_with id (asks key d w rows ++ ys) ≡ asking_with id ys) → asking_with id ((asking_of (key x) (d x) (w x) ++ asks key d w rows) ++ ys) ≡ asking_with id ys
    by-id true t k = no-row x (grind (arith, t, there))
      where
        no-row : {P : Type 0} (y : R) → Some y ≡ None → P
        no-row y e = cc
    by-id false t k =
        let there' : row_of key id rows ≡ None = grind (arith, t, there) in
        rw (append_assoc (asking_of (key x) (d x) (w x)) (asks key d w rows) ys) (other-asking id (key x) (d x) (w x) (asks key d w rows ++ ys) t ∙ k there')

later-asking : (id k : ℕ) (x : Doubt) (w : Option Remote) → (not (waits x) || nat_le id k) ≡ true → list_all (λ (a : Asking). nat_le id a.id) (asking_of k x w) ≡ true
later-asking id k doubt.No w e = refl
later-asking id k doubt.Asked w e = refl
later-asking id k doubt.Waiting None e = refl
later-asking id k doubt.Waiting (Some r) e = grind arith

asks-later : {R : Type 0} (key : R → ℕ) (d : R → Doubt) (w : R → Option Remote) (id : ℕ) (rows : List R) → list_all (λ row. not (waits (d row)) || nat_le id (key row)) rows ≡ true → list_all (λ (a : Asking). nat_le id a.id) (asks key d w rows) ≡ true
asks-later key d w id [] e = refl
asks-later key d w id (x ∷ rows) e =
    let first : (not (waits (d x)) || nat_le id (key x)) ≡ true = grind arith in
    let rest : list_all (λ row. not (waits (d row)) || nat_le id (key row)) rows ≡ true = grind arith in
    all_append (λ (a : Asking). nat_le id a.id) (asking_of (key x) (d x) (w x)) (asks key d w rows) (later-asking id (key x) (d x) (w x) first) (asks-later key d w id rows rest)

-- Who waits for the renewer, by the stage of each id.

stage-waits : (d : Doubt) (b : Bool) (deadline : Option ℕ) → is_waiting (stage_by d b deadline) ≡ waits d
stage-waits doubt.No true None = refl
stage-waits doubt.No true (Some n) = refl
stage-waits doubt.No false deadline = refl
stage-waits doubt.Waiting b deadline = refl
stage-waits doubt.Asked b deadline = refl

pub quiet-waits : (x : Stage) → is_waiting (quiet x) ≡ is_waiting x
quiet-waits stage.Still = refl
quiet-waits (stage.Timed deadline) = refl
quiet-waits stage.Waiting = refl
quiet-waits stage.Asked = refl

tuple-waits : (s : Plain) (t : Held) (q : ℕ) (e : Entry) → Holds s t → tuple_at s q ≡ Some e → is_waiting (stage_of s q) ≡ waits e.doubt
tuple-waits s t q e h there =
    let a = alone-tuple (request_at s q) (tuple_at s q) (notifier_at s q) e there (h.alone q) in
    rw (a.0, there) (stage-waits e.doubt (is_free e) e.deadline)

request-waits : (s : Plain) (t : Held) (q : ℕ) (e : Request) → Holds s t → request_at s q ≡ Some e → is_waiting (stage_of s q) ≡ waits e.doubt
request-waits s t q e h there = rw there (stage-waits e.doubt (is_parked e.state) e.deadline)

notifier-waits : (s : Plain) (t : Held) (q : ℕ) (e : Notifier) → Holds s t → notifier_at s q ≡ Some e → is_waiting (stage_of s q) ≡ waits e.doubt
notifier-waits s t q e h there =
    let a = alone-notifier (request_at s q) (tuple_at s q) (notifier_at s q) e there (h.alone q) in
    rw (a.0, a.1, there) (stage-waits e.doubt (is_running e.state) e.deadline)

is-waiting : (d : Doubt) → waits d ≡ true → d ≡ doubt.Waiting
is-waiting doubt.No e = cc
is-waiting doubt.Waiting e = refl
is-waiting doubt.Asked e = cc

-- who is doubted has a renewer
renewer-there : (d : Doubt) (w : Option Remote) → d ≡ doubt.Waiting → may_doubt d (is_none w) ≡ true → (r : Remote) × (w ≡ Some r)
renewer-there d (Some r) is e = (r, refl)
renewer-there doubt.No None is e = cc
renewer-there doubt.Waiting None is e = cc
renewer-there doubt.Asked None is e = cc

later : (b : Bool) (id q : ℕ) → (b ≡ true → id ≤ q) → (not b || nat_le id q) ≡ true
later true id q k = let le : id ≤ q = k refl in grind (arith, nat_tests)
later false id q k = refl

-- no id that waits is less
abbrev pub Least : Plain → ℕ → Type 0
Least s id = (q : ℕ) → is_waiting (stage_of s q) ≡ true → id ≤ q

least-of-all : (s : Plain) (t : Held) (id : ℕ) → Holds s t → Least s id → list_all (λ (a : Asking). nat_le id a.id) (askings s) ≡ true
least-of-all s t id h k =
    all_append (λ (a : Asking). nat_le id a.id) _ _
    (asks-later (λ (e : Entry). e.id) (λ (e : Entry). e.doubt) (λ (e : Entry). e.renewer) id s.tuples
    (each-row (λ (e : Entry). not (waits e.doubt) || nat_le id e.id) (λ (e : Entry). e.id) s.tuples (rises (λ (e : Entry). e.id) s.next s.tuples h.numbered.tuples) (λ e there. later (waits e.doubt) id e.id (λ w. k e.id (tuple-waits s t e.id e h there ∙ w)))))
    (all_append (λ (a : Asking). nat_le id a.id) _ _
    (asks-later (λ (e : Request). e.id) (λ (e : Request). e.doubt) (λ (e : Request). e.renewer) id s.requests
    (each-row (λ (e : Request). not (waits e.doubt) || nat_le id e.id) (λ (e : Request). e.id) s.requests (rises (λ (e : Request). e.id) s.next s.requests h.numbered.requests) (λ e there. later (waits e.doubt) id e.id (λ w. k e.id (request-waits s t e.id e h there ∙ w)))))
    (asks-later (λ (e : Notifier). e.id) (λ (e : Notifier). e.doubt) (λ (e : Notifier). e.renewer) id s.notifiers
    (each-row (λ (e : Notifier). not (waits e.doubt) || nat_le id e.id) (λ (e : Notifier). e.id) s.notifiers (rises (λ (e : Notifier). e.id) s.next s.notifiers h.numbered.notifiers) (λ e there. later (waits e.doubt) id e.id (λ w. k e.id (notifier-waits s t e.id e h there ∙ w))))))

none-of-all : (s : Plain) (t : Held) → Holds s t → ((q : ℕ) → is_waiting (stage_of s q) ≡ false) → askings s ≡ []
none-of-all s t h none =
    rw (
      none-asks (λ (e : Entry). e.id) (λ (e : Entry). e.doubt) (λ (e : Entry). e.renewer) s.tuples
          (each-row (λ (e : Entry). not (waits e.doubt)) (λ (e : Entry). e.id) s.tuples (rises (λ (e : Entry). e.id) s.next s.tuples h.numbered.tuples) (λ e there. ap not (sym (tuple-waits s t e.id e h there) ∙ none e.id))),
      none-asks (λ (e : Request). e.id) (λ (e : Request). e.doubt) (λ (e : Request). e.renewer) s.requests
          (each-row (λ (e : Request). not (waits e.doubt)) (λ (e : Request). e.id) s.requests (rises (λ (e : Request). e.id) s.next s.requests h.numbered.requests) (λ e there. ap not (sym (request-waits s t e.id e h there) ∙ none e.id))),
      none-asks (λ (e : Notifier). e.id) (λ (e : Notifier). e.doubt) (λ (e : Notifier). e.renewer) s.notifiers
          (each-row (λ (e : Notifier). not (waits e.doubt)) (λ (e : Notifier). e.id) s.notifiers (rises (λ (e : Notifier). e.id) s.next s.notifiers h.numbered.notifiers) (λ e there. ap not (sym (notifier-waits s t e.id e h there) ∙ none e.id))),
    ) refl

-- nobody waits: there is nobody to ask
pub asks-nobody : (s : Plain) (t : Held) → Holds s t → ((q : ℕ) → is_waiting (stage_of s q) ≡ false) → ask s (least (askings s)) ≡ answers s out.NotYet
asks-nobody s t h none = ap (λ (xs : List Asking). ask s (least xs)) (none-of-all s t h none)

-- Whoever has the least id of those that wait is to be asked for.

pub least-tuple : (s : Plain) (t : Held) (id : ℕ) (e : Entry) → Sound s → Holds s t → tuple_at s id ≡ Some e → is_waiting (stage_of s id) ≡ true → Least s id → least (askings s) ≡ least (asking_of id doubt.Waiting e.renewer)
least-tuple s t id e sound h there waits-here k =
    let is : e.doubt ≡ doubt.Waiting = is-waiting e.doubt (sym (tuple-waits s t id e h there) ∙ waits-here) in
    let r = renewer-there e.doubt e.renewer is (all_at (λ (e : Entry). may_doubt e.doubt (is_none e.renewer)) (λ (e : Entry). e.id) id s.tuples e there sound.doubts.tuples) in
    let found = asks-for (λ (e : Entry). e.id) (λ (e : Entry). e.doubt) (λ (e : Entry). e.renewer) id s.tuples e r.0 _ there is r.1 in
    rw r.1 (least-is (askings s) (record { id = id; renewer = r.0 }) found (least-of-all s t id h k))

pub least-request : (s : Plain) (t : Held) (id : ℕ) (e : Request) → Sound s → Holds s t → request_at s id ≡ Some e → is_waiting (stage_of s id) ≡ true → Least s id → least (askings s) ≡ least (asking_of id doubt.Waiting e.renewer)
least-request s t id e sound h there waits-here k =
    let is : e.doubt ≡ doubt.Waiting = is-waiting e.doubt (sym (request-waits s t id e h there) ∙ waits-here) in
    let r = renewer-there e.doubt e.renewer is (all_at (λ (e : Request). may_doubt e.doubt (is_none e.renewer)) (λ (e : Request). e.id) id s.requests e there sound.doubts.requests) in
    let a = alone-request (request_at s id) (tuple_at s id) (notifier_at s id) e there (h.alone id) in
    let found = asks-not (λ (e : Entry). e.id) (λ (e : Entry). e.doubt) (λ (e : Entry). e.renewer) id s.tuples _ a.0 ∙ asks-for (λ (e : Request). e.id) (λ (e : Request). e.doubt) (λ (e : Request). e.renewer) id s.requests e r.0 _ there is r.1 in
    rw r.1 (least-is (askings s) (record { id = id; renewer = r.0 }) found (least-of-all s t id h k))

pub least-notifier : (s : Plain) (t : Held) (id : ℕ) (e : Notifier) → Sound s → Holds s t → notifier_at s id ≡ Some e → is_waiting (stage_of s id) ≡ true → Least s id → least (askings s) ≡ least (asking_of id doubt.Waiting e.renewer)
least-notifier s t id e sound h there waits-here k =
    let is : e.doubt ≡ doubt.Waiting = is-waiting e.doubt (sym (notifier-waits s t id e h there) ∙ waits-here) in
    let r = renewer-there e.doubt e.renewer is (all_at (λ (e : Notifier). may_doubt e.doubt (is_none e.renewer)) (λ (e : Notifier). e.id) id s.notifiers e there sound.doubts.notifiers) in
    let a = alone-notifier (request_at s id) (tuple_at s id) (notifier_at s id) e there (h.alone id) in
    let last = asks-for (λ (e : Notifier). e.id) (λ (e : Notifier). e.doubt) (λ (e : Notifier). e.renewer) id s.notifiers e r.0 [] there is r.1 in
    let found = asks-not (λ (e : Entry). e.id) (λ (e : Entry). e.doubt) (λ (e : Entry). e.renewer) id s.tuples _ a.1 ∙ asks-not (λ (e : Request). e.id) (λ (e : Request). e.doubt) (λ (e : Request). e.renewer) id s.requests _ a.0 ∙ ap (asking_with id) (sym (append-nil (asks (λ (e : Notifier). e.id) (λ (e : Notifier). e.doubt) (λ (e : Notifier). e.renewer) s.notifiers))) ∙ last in
    rw r.1 (least-is (askings s) (record { id = id; renewer = r.0 }) found (least-of-all s t id h k))

-- Whoever waits has a row.

abbrev lives : Looked → Bool
lives (looked.Live k) = true
lives (looked.Ended k l) = false
lives looked.Recycled = false
lives looked.Never = false

waiting-lives : (s : Plain) (id : ℕ) (r : Option Request) (t : Option Entry) (n : Option Notifier) (o : Option Ended) → is_waiting (stage_among r t n) ≡ true → lives (looked_as (found_among s id r t n o)) ≡ true
waiting-lives s id (Some r) t n o e = refl
waiting-lives s id None (Some t) n o e = refl
waiting-lives s id None None (Some n) o e = refl
waiting-lives s id None None None o e = cc

pub unasked : {P : Type 0} (s : Plain) (t : Held) (id : ℕ) (l : Looked) → Holds s t → l ≡ looked_up t.ids id → is_waiting (stage_of s id) ≡ true → lives l ≡ false → P
unasked s t id l h is waits-here dead = never (sym (waiting-lives s id (request_at s id) (tuple_at s id) (notifier_at s id) (ended_at s id) waits-here) ∙ ap lives (named-found s t id l h is) ∙ dead)
  where
    never : {P : Type 0} → true ≡ false → P
    never e = cc

-- The stages of the tables are those of the rows.

pub next-waits : (s : Plain) (t : Tables) (id : ℕ) → Holds s (ahead_of t) → IsNextAsk t.deadlines.entries (Some id) → is_waiting (stage_of s id) ≡ true
next-waits s t id h next = ap is_waiting (sym (h.stages id)) ∙ quiet-waits (stage_at t.deadlines.entries id) ∙ next.0

pub next-least : (s : Plain) (t : Tables) (id : ℕ) → Holds s (ahead_of t) → IsNextAsk t.deadlines.entries (Some id) → Least s id
next-least s t id h next = λ q w. next.1 q (sym (quiet-waits (stage_at t.deadlines.entries q)) ∙ ap is_waiting (h.stages q) ∙ w)

pub none-waits : (s : Plain) (t : Tables) → Holds s (ahead_of t) → IsNextAsk t.deadlines.entries None → (q : ℕ) → is_waiting (stage_of s q) ≡ false
none-waits s t h next q = ap is_waiting (sym (h.stages q)) ∙ quiet-waits (stage_at t.deadlines.entries q) ∙ next q

-- Of three rows with one id, only one is there.

abbrev asked_all : Plain → List Entry → List Request → List Notifier → Plain
asked_all s es rs ns = record s { tuples = es; requests = rs; notifiers = ns }

pub asked-tuple : (s : Plain) (t : Held) (id : ℕ) (e : Entry) → Holds s t → tuple_at s id ≡ Some e → asked_for id s ≡ with_tuple id asked_tuple s
asked-tuple s t id e h there =
    let a = alone-tuple (request_at s id) (tuple_at s id) (notifier_at s id) e there (h.alone id) in
    ap (λ (rs : List Request). asked_all s (changed (λ x. x.id) id asked_tuple s.tuples) rs (changed (λ x. x.id) id (λ n. record n { doubt = asked_doubt n.doubt }) s.notifiers)) (changed-absent (λ (x : Request). x.id) id asked_request s.requests a.0)
    ∙ ap (λ (ns : List Notifier). asked_all s (changed (λ x. x.id) id asked_tuple s.tuples) s.requests ns) (changed-absent (λ (x : Notifier). x.id) id (λ n. record n { doubt = asked_doubt n.doubt }) s.notifiers a.1)

pub asked-request : (s : Plain) (t : Held) (id : ℕ) (e : Request) → Holds s t → request_at s id ≡ Some e → asked_for id s ≡ with_request id asked_request s
asked-request s t id e h there =
    let a = alone-request (request_at s id) (tuple_at s id) (notifier_at s id) e there (h.alone id) in
    ap (λ (es : List Entry). asked_all s es (changed (λ x. x.id) id asked_request s.requests) (changed (λ x. x.id) id (λ n. record n { doubt = asked_doubt n.doubt }) s.notifiers)) (changed-absent (λ (x : Entry). x.id) id asked_tuple s.tuples a.0)
    ∙ ap (λ (ns : List Notifier). asked_all s s.tuples (changed (λ x. x.id) id asked_request s.requests) ns) (changed-absent (λ (x : Notifier). x.id) id (λ n. record n { doubt = asked_doubt n.doubt }) s.notifiers a.1)

pub asked-notifier : (s : Plain) (t : Held) (id : ℕ) (e : Notifier) → Holds s t → notifier_at s id ≡ Some e → asked_for id s ≡ with_notifier id (λ n. record n { doubt = asked_doubt n.doubt }) s
asked-notifier s t id e h there =
    let a = alone-notifier (request_at s id) (tuple_at s id) (notifier_at s id) e there (h.alone id) in
    ap (λ (es : List Entry). asked_all s es (changed (λ x. x.id) id asked_request s.requests) (changed (λ x. x.id) id (λ n. record n { doubt = asked_doubt n.doubt }) s.notifiers)) (changed-absent (λ (x : Entry). x.id) id asked_tuple s.tuples a.1)
    ∙ ap (λ (rs : List Request). asked_all s s.tuples rs (changed (λ x. x.id) id (λ n. record n { doubt = asked_doubt n.doubt }) s.notifiers)) (changed-absent (λ (x : Request). x.id) id asked_request s.requests a.0)
