-- Aging over the ids that are due, one after the other.
use Rattle.std.proofs.Common.{◌≡◌, ◌≢◌, ◌∙◌, ℕ, suc, zero, ◌≤◌, ◌<◌, Bool, true, false, List, [], ◌∷◌, drop, None, refl, sym, ap, subst, arith}
use Rattle.std.specs.Prelude.{◌==◌, nat_le, nat_lt, is_none, if◌then◌else◌, length}
use Rattle.std.specs.List.{list_all}
use Rattle.std.proofs.lemmas.Bool.Decides.{nat_tests}
use Rattle.std.proofs.lemmas.Grind.{common_steps}
use Rattle.rinda_lease.specs.declared.stage.Stage.{Stage}
use Rattle.rinda_lease.specs.declared.stage.Stage.TheVariants as stage
use Rattle.rinda_lease.specs.Stages.{is_due, is_in, stage_at, AreDue}
use Rattle.rinda_rules.specs.declared.object.Last.TheVariants as last
use Rattle.rinda_rules.specs.declared.out.Out.TheVariants as out
use Rattle.rinda_rules.specs.declared.row.RequestState.TheVariants as state
use Rattle.rinda_rules.specs.Rows.{row_of, rising, numbered}
use Rattle.rinda_rules.specs.Sound.{Numbered}
use Rattle.rinda_rules.specs.Space.{Plain, Found, TheTuple, TheRequest, TheNotifier, HasEnded, IsUnknown, IsRecycled, found, is_due_tuple, is_due_request, is_due_notifier}
use Rattle.rinda_rules.specs.Phases.{aged, aged_below, age_found, age_tuple, age_request, age_notifier, with_tuple, with_request, with_notifier, request_in, tuple_ended, close_after, doubt_tuple, doubt_request, doubt_notifier}
use Rattle.rinda_tables.specs.Deadlines.{quiet, ahead_at}
use Rattle.rinda_tables.specs.declared.tables.Tables.{Tables}
use Rattle.rinda_tables.specs.Holds.{Holds, stage_of}
use Rattle.rinda_tables.specs.Tabled.{ahead_of, Becomes, Stays, AddsNone}
use Rattle.rinda_tables.proofs.AgingAll.{aged-through, others-stay, own-not-due}

-- Aging gives out no id.

same-next : (b : Bool) (x y : Plain) (n : ℕ) → x.next ≡ n → y.next ≡ n → (if b then x else y).next ≡ n
same-next true x y n e f = e
same-next false x y n e f = f

either-next : (s : Plain) (f : Found) → (age_found s f).next ≡ s.next
either-next s (TheTuple t) = same-next (is_due_tuple s.clock t) (age_tuple s t) s _ (same-next (is_none t.renewer) (tuple_ended last.Expired t s) (with_tuple t.id doubt_tuple s) _ refl refl) refl
either-next s (TheRequest r) = same-next (is_due_request s.clock r) (age_request s r) s _ (same-next (is_none r.renewer) (request_in r.id (state.Answered out.Expired) s) (with_request r.id doubt_request s) _ refl refl) refl
either-next s (TheNotifier n) = same-next (is_due_notifier s.clock n) (age_notifier s n) s _ (same-next (is_none n.renewer) (with_notifier n.id (close_after last.Expired (length s.events)) s) (with_notifier n.id doubt_notifier s) _ refl refl) refl
either-next s (HasEnded kind last) = refl
either-next s IsRecycled = refl
either-next s IsUnknown = refl

pub aged-next : (n : ℕ) (s : Plain) → (aged_below n s).next ≡ s.next
aged-next zero s = refl
aged-next (suc n) s = either-next (aged_below n s) (found (aged_below n s) n) ∙ aged-next n s

-- An id that is due was given out.

row-above : {R : Type 0} (key : R → ℕ) (next q : ℕ) (xs : List R) → next ≤ q → numbered key next xs ≡ true → row_of key q xs ≡ None
row-above key next q [] le e = refl
row-above key next q (x ∷ xs) le e = grind (arith, nat_tests, row-above key next q xs le)

above-still : (s : Plain) (q : ℕ) → Numbered s → s.next ≤ q → stage_of s q ≡ stage.Still
above-still s q n le = rw (row-above (λ r. r.id) s.next q s.requests le n.requests, row-above (λ t. t.id) s.next q s.tuples le n.tuples, row-above (λ n. n.id) s.next q s.notifiers le n.notifiers) refl

below-next : (b : Bool) (s : Plain) (q : ℕ) → nat_lt q s.next ≡ b → Numbered s → is_due s.clock (stage_of s q) ≡ true → q < s.next
below-next true s q e n due = grind (arith, nat_tests)
below-next false s q e n due =
    let none : is_due s.clock (stage_of s q) ≡ false = ap (is_due s.clock) (above-still s q n (grind (arith, nat_tests))) in
    absurd-due (sym none ∙ due)
  where
    absurd-due : false ≡ true → q < s.next
    absurd-due x = cc

due-below : (s : Plain) (q : ℕ) → Numbered s → is_due s.clock (stage_of s q) ≡ true → q < s.next
due-below s q n due = below-next (nat_lt q s.next) s q refl n due

-- Lists of ids that rise.

above-out : (q h : ℕ) (xs : List ℕ) → q ≤ h → list_all (λ y. nat_lt h y) xs ≡ true → is_in q xs ≡ false
above-out q h [] le e = refl
above-out q h (x ∷ xs) le e = grind (arith, nat_tests, above-out q h xs le)

rest-above : (h : ℕ) (xs : List ℕ) → rising (λ id. id) (h ∷ xs) ≡ true → list_all (λ y. nat_lt h y) xs ≡ true
rest-above h xs e = grind arith

rest-rises : (h : ℕ) (xs : List ℕ) → rising (λ id. id) (h ∷ xs) ≡ true → rising (λ id. id) xs ≡ true
rest-rises h xs e = grind arith

rest-later : (h : ℕ) (xs : List ℕ) → list_all (λ y. nat_lt h y) xs ≡ true → list_all (λ y. nat_le (suc h) y) xs ≡ true
rest-later h [] e = refl
rest-later h (x ∷ xs) e = grind (arith, nat_tests, rest-later h xs)

all-from : (xs : List ℕ) → list_all (λ y. nat_le 0 y) xs ≡ true
all-from [] = refl
all-from (x ∷ xs) = grind (arith, nat_tests, all-from xs)

less-out : (q h : ℕ) (xs : List ℕ) → q < h → rising (λ id. id) (h ∷ xs) ≡ true → is_in q (h ∷ xs) ≡ false
less-out q h xs less e =
    let out : is_in q xs ≡ false = above-out q h xs (grind arith) (rest-above h xs e) in
    grind (arith, nat_tests)

not-head : (q h : ℕ) (xs : List ℕ) → (q == h) ≡ false → is_in q (h ∷ xs) ≡ is_in q xs
not-head q h xs ne = grind (arith, nat_tests)

head-in : (h : ℕ) (xs : List ℕ) → is_in h (h ∷ xs) ≡ true
head-in h xs = grind (arith, nat_tests)

quiet-due : (now : ℕ) (x : Stage) → is_due now (quiet x) ≡ is_due now x
quiet-due now stage.Still = refl
quiet-due now (stage.Timed d) = refl
quiet-due now stage.Waiting = refl
quiet-due now stage.Asked = refl

-- Tables that held a space have aged it up to some id, and these ids are still due, and no others.
pub record Aging (ids : List ℕ) (s0 : Plain) (t : Tables) : Type 0 where
  pub from : ℕ
  pub holds : Holds (aged_below from s0) (ahead_of t)
  pub within : from ≤ s0.next
  pub later : list_all (λ y. nat_le from y) ids ≡ true
  pub rise : rising (λ id. id) ids ≡ true
  pub due : (q : ℕ) → is_in q ids ≡ is_due t.clock (ahead_at t.deadlines q)

pub aging-begins : (ids : List ℕ) (s0 : Plain) (t : Tables) → AreDue t.deadlines.entries t.clock ids → Holds s0 (ahead_of t) → Aging ids s0 t
aging-begins ids s0 t due h = record {
  from = 0;
  holds = h;
  within = grind arith;
  later = all-from ids;
  rise = due.rise;
  due = λ q. due.due q ∙ sym (quiet-due t.clock (stage_at t.deadlines.entries q));
}

-- what is due in the space is due in the tables
due-there : (s : Plain) (t : Tables) (q : ℕ) → Holds s (ahead_of t) → is_due s.clock (stage_of s q) ≡ is_due t.clock (ahead_at t.deadlines q)
due-there s t q h = ap (λ now. is_due now (stage_of s q)) (sym h.clock) ∙ ap (is_due t.clock) (sym (h.stages q))

pub aging-goes : (id : ℕ) (ids : List ℕ) (s0 : Plain) (t b : Tables) → Aging (id ∷ ids) s0 t → Becomes (λ s. age_found s (found s id)) t b → b.clock ≡ t.clock → Aging ids s0 b
aging-goes id ids s0 t b a becomes clock = record {
  from = suc id;
  holds = subst (λ (s : Plain). Holds (age_found s (found s id)) (ahead_of b)) (sym before) next;
  within = subst (λ n. suc id ≤ n) (aged-next a.from s0) (grind (arith, below));
  later = rest-later id ids above;
  rise = rest-rises id ids a.rise;
  due = λ q. by q (q == id) refl;
}
  where
    s : Plain
    s = aged_below a.from s0

    above : list_all (λ y. nat_lt id y) ids ≡ true
    above = rest-above id ids a.rise

    from_here : a.from ≤ id
    from_here = let e : list_all (λ y. nat_le a.from y) (id ∷ ids) ≡ true = a.later in grind (arith, nat_tests)

    before : aged_below id s0 ≡ aged_below a.from s0
    before = aged-through s0 a.from id from_here (λ q x y. due-there (aged_below a.from s0) t q a.holds ∙ sym (a.due q) ∙ less-out q id ids y a.rise)

    next : Holds (age_found (aged_below a.from s0) (found (aged_below a.from s0) id)) (ahead_of b)
    next = becomes (aged_below a.from s0) a.holds

    below : id < (aged_below a.from s0).next
    below = due-below (aged_below a.from s0) id a.holds.numbered (due-there (aged_below a.from s0) t id a.holds ∙ sym (a.due id) ∙ head-in id ids)

    by : (q : ℕ) (same : Bool) → (q == id) ≡ same → is_in q ids ≡ is_due b.clock (ahead_at b.deadlines q)
    by q true e =
        let is : q ≡ id = grind (arith, nat_tests) in
        let own : is_due b.clock (ahead_at b.deadlines id) ≡ false = ap (is_due b.clock) (next.stages id) ∙ ap (λ now. is_due now (stage_of (age_found (aged_below a.from s0) (found (aged_below a.from s0) id)) id)) (clock ∙ a.holds.clock) ∙ own-not-due (aged_below a.from s0) id (a.holds.alone id) in
        above-out q id ids (grind arith) above ∙ sym (ap (λ i. is_due b.clock (ahead_at b.deadlines i)) is ∙ own)
    by q false e =
        let ne : q ≢ id = grind (arith, nat_tests) in
        sym (not-head q id ids e) ∙ a.due q ∙ ap (λ now. is_due now (ahead_at t.deadlines q)) (sym clock) ∙ ap (is_due b.clock) (a.holds.stages q ∙ sym (others-stay (aged_below a.from s0) id q ne) ∙ sym (next.stages q))

pub aging-ends : (s0 : Plain) (t : Tables) → Aging [] s0 t → Holds (aged s0) (ahead_of t)
unfolding aged
aging-ends s0 t a = subst (λ (s : Plain). Holds s (ahead_of t)) (sym (aged-through s0 a.from s0.next a.within (λ q x y. due-there (aged_below a.from s0) t q a.holds ∙ sym (a.due q)))) a.holds

-- What stands through several steps.

pub stays-same : (t : Tables) → Stays t t
stays-same t = record { stood_at = refl; stood_shut = refl; clock = refl; ids = refl; tuples = refl; requests = refl; notes = refl; deadlines = λ q. refl }

pub stays-on : (a b c : Tables) → Stays a b → Stays b c → Stays a c
stays-on a b c x y = record {
  stood_at = y.stood_at ∙ x.stood_at;
  stood_shut = y.stood_shut ∙ x.stood_shut;
  clock = y.clock ∙ x.clock;
  ids = y.ids ∙ x.ids;
  tuples = y.tuples ∙ x.tuples;
  requests = y.requests ∙ x.requests;
  notes = y.notes ∙ x.notes;
  deadlines = λ q. y.deadlines q ∙ x.deadlines q;
}

pub adds-none : (t : Tables) → AddsNone t t
adds-none t = record { tuple = refl; request = refl }

pub adds-on : (a b c : Tables) → AddsNone a b → AddsNone b c → AddsNone a c
adds-on a b c x y = record { tuple = y.tuple ∙ x.tuple; request = y.request ∙ x.request }

pub none-left : (xs : List ℕ) (i : ℕ) → length xs ≤ i → drop i xs ≡ []
none-left xs i le = grind (arith, common_steps)
