-- Aging row by row over the ids that are due.
use Rattle.std.proofs.Common.{◌≡◌, ◌≢◌, ◌∙◌, ℕ, suc, zero, ◌≤◌, ◌<◌, Bool, true, false, Option, Some, None, refl, sym, ap, subst, arith}
use Rattle.std.specs.Prelude.{not, ◌&&◌, ◌||◌, ◌==◌, nat_le, is_none, if◌then◌else◌, length}
use Rattle.std.specs.Option.{option_map}
use Rattle.std.proofs.lemmas.Bool.Decides.{nat_tests}
use Rattle.rinda_lease.specs.declared.stage.Stage.{Stage}
use Rattle.rinda_lease.specs.declared.stage.Stage.TheVariants as stage
use Rattle.rinda_lease.specs.Stages.{is_due}
use Rattle.rinda_rules.specs.declared.object.Doubt.{Doubt}
use Rattle.rinda_rules.specs.declared.object.Doubt.TheVariants as doubt
use Rattle.rinda_rules.specs.declared.object.Last.TheVariants as last
use Rattle.rinda_rules.specs.declared.out.Out.TheVariants as out
use Rattle.rinda_rules.specs.declared.row.RequestState.TheVariants as state
use Rattle.rinda_rules.specs.declared.plain.Entry.{Entry}
use Rattle.rinda_rules.specs.declared.plain.Request.{Request}
use Rattle.rinda_rules.specs.declared.plain.Notifier.{Notifier}
use Rattle.rinda_rules.specs.declared.plain.Ended.{Ended}
use Rattle.rinda_rules.specs.Rows.{row_of, without}
use Rattle.rinda_rules.specs.Space.{Plain, IsUnknown, IsRecycled, request_at, tuple_at, notifier_at, ended_at, found, found_among, is_doubted, is_over, is_free, is_parked, is_running, is_due_tuple, is_due_request, is_due_notifier}
use Rattle.rinda_rules.specs.Phases.{aged_below, age_found, age_tuple, age_request, age_notifier, with_tuple, with_request, with_notifier, request_in, in_state, tuple_ended, close_after, doubt_tuple, doubt_request, doubt_notifier}
use Rattle.rinda_rules.proofs.Lists.{row_has_id}
use Rattle.rinda_tables.specs.Holds.{stage_by, stage_among, stage_of, at_most_one, tuple_stage, request_stage, notifier_stage}
use Rattle.rinda_tables.proofs.Holding.{row-in, row-out, alone-tuple}

-- A row is due where its lease is.

pub due-stage : (now : ℕ) (d : Doubt) (b : Bool) (o : Option ℕ) → is_due now (stage_by d b o) ≡ (b && (not (is_doubted d) && is_over now o))
due-stage now doubt.No true None = refl
due-stage now doubt.No true (Some deadline) = refl
due-stage now doubt.No false o = refl
due-stage now doubt.Waiting true o = refl
due-stage now doubt.Waiting false o = refl
due-stage now doubt.Asked true o = refl
due-stage now doubt.Asked false o = refl

regroup : (a b c : Bool) → (a && (b && c)) ≡ ((a && b) && c)
regroup true b c = refl
regroup false b c = refl

due-tuple : (now : ℕ) (t : Entry) → is_due now (tuple_stage t) ≡ is_due_tuple now t
due-tuple now t = due-stage now t.doubt (is_free t) t.deadline

due-request : (now : ℕ) (r : Request) → is_due now (request_stage r) ≡ is_due_request now r
due-request now r = due-stage now r.doubt (is_parked r.state) r.deadline ∙ regroup (is_parked r.state) (not (is_doubted r.doubt)) (is_over now r.deadline)

due-notifier : (now : ℕ) (n : Notifier) → is_due now (notifier_stage n) ≡ is_due_notifier now n
due-notifier now n = due-stage now n.doubt (is_running n.state) n.deadline

if-no : {A : Type 0} (b : Bool) (x y : A) → b ≡ false → (if b then x else y) ≡ y
if-no true x y e = cc
if-no false x y e = refl

either : (s : Plain) (b : Bool) → age_found s (if b then IsUnknown else IsRecycled) ≡ s
either s true = refl
either s false = refl

-- What isn't due doesn't age.
pub not-due : (s : Plain) (id : ℕ) (r : Option Request) (t : Option Entry) (n : Option Notifier) (e : Option Ended) → is_due s.clock (stage_among r t n) ≡ false → age_found s (found_among s id r t n e) ≡ s
not-due s id (Some r) t n e h = if-no (is_due_request s.clock r) (age_request s r) s (sym (due-request s.clock r) ∙ h)
not-due s id None (Some t) n e h = if-no (is_due_tuple s.clock t) (age_tuple s t) s (sym (due-tuple s.clock t) ∙ h)
not-due s id None None (Some n) e h = if-no (is_due_notifier s.clock n) (age_notifier s n) s (sym (due-notifier s.clock n) ∙ h)
not-due s id None None None (Some e) h = refl
not-due s id None None None None h = either s (id == 0 || nat_le s.next id)

pub quiet-found : (s : Plain) (id : ℕ) → is_due s.clock (stage_of s id) ≡ false → age_found s (found s id) ≡ s
quiet-found s id h = not-due s id (request_at s id) (tuple_at s id) (notifier_at s id) (ended_at s id) h

-- Between two ids that are due nothing ages.
pub aged-through : (s0 : Plain) (from n : ℕ) → from ≤ n → ((q : ℕ) → from ≤ q → q < n → is_due (aged_below from s0).clock (stage_of (aged_below from s0) q) ≡ false) → aged_below n s0 ≡ aged_below from s0
aged-through s0 from zero le h =
    let none : zero ≡ from = grind arith in
    ap (λ m. aged_below m s0) none
aged-through s0 from (suc m) le h = by (from == suc m) refl (λ less. aged-through s0 from m less (λ q a b. h q a (grind arith)))
  where
    by : (b : Bool) → (from == suc m) ≡ b → (from ≤ m → aged_below m s0 ≡ aged_below from s0) → aged_below (suc m) s0 ≡ aged_below from s0
    by true e again =
        let same : suc m ≡ from = grind (arith, nat_tests) in
        ap (λ k. aged_below k s0) same
    by false e again =
        let less : from ≤ m = grind (arith, nat_tests) in
        ap (λ (s : Plain). age_found s (found s m)) (again less) ∙ quiet-found (aged_below from s0) m (h m less (grind arith))

-- What ages leaves all others as they are, and isn't due any more.

abbrev no : (b : Bool) (x y : Plain) (q : ℕ) (k : Stage) → stage_of x q ≡ k → stage_of y q ≡ k → stage_of (if b then x else y) q ≡ k
no true x y q k e f = e
no false x y q k e f = f

apart : {A : Type 0} (q id : ℕ) (x y : A) → q ≢ id → (if q == id then x else y) ≡ y
apart q id x y ne = if-no (q == id) x y (grind (arith, nat_tests))

other-request : (s : Plain) (id q : ℕ) (f : Request → Request) → ((x : Request) → (f x).id ≡ x.id) → q ≢ id → stage_of (with_request id f s) q ≡ stage_of s q
other-request s id q f keeps ne = ap (λ (o : Option Request). stage_among o (tuple_at s q) (notifier_at s q)) (row-in (λ r. r.id) id q f s.requests keeps ∙ apart q id _ _ ne)

other-tuple : (s : Plain) (id q : ℕ) (f : Entry → Entry) → ((x : Entry) → (f x).id ≡ x.id) → q ≢ id → stage_of (with_tuple id f s) q ≡ stage_of s q
other-tuple s id q f keeps ne = ap (λ (o : Option Entry). stage_among (request_at s q) o (notifier_at s q)) (row-in (λ t. t.id) id q f s.tuples keeps ∙ apart q id _ _ ne)

other-notifier : (s : Plain) (id q : ℕ) (f : Notifier → Notifier) → ((x : Notifier) → (f x).id ≡ x.id) → q ≢ id → stage_of (with_notifier id f s) q ≡ stage_of s q
other-notifier s id q f keeps ne = ap (λ (o : Option Notifier). stage_among (request_at s q) (tuple_at s q) o) (row-in (λ n. n.id) id q f s.notifiers keeps ∙ apart q id _ _ ne)

gone-tuple : (s : Plain) (t : Entry) (q : ℕ) → q ≢ t.id → stage_of (tuple_ended last.Expired t s) q ≡ stage_of s q
gone-tuple s t q ne = ap (λ (o : Option Entry). stage_among (request_at s q) o (notifier_at s q)) (row-out (λ t. t.id) t.id q s.tuples ∙ apart q t.id _ _ ne)

others : (s : Plain) (id q : ℕ) (r : Option Request) (t : Option Entry) (n : Option Notifier) (e : Option Ended) → request_at s id ≡ r → tuple_at s id ≡ t → notifier_at s id ≡ n → q ≢ id → stage_of (age_found s (found_among s id r t n e)) q ≡ stage_of s q
others s id q (Some r) t n e a b c ne =
    let ne' : q ≢ r.id = subst (λ i. q ≢ i) (sym (row_has_id (λ (r : Request). r.id) id s.requests r a)) ne in
    no (is_due_request s.clock r) (age_request s r) s q _
    (no (is_none r.renewer) (request_in r.id (state.Answered out.Expired) s) (with_request r.id doubt_request s) q _
    (other-request s r.id q (in_state (state.Answered out.Expired)) (λ x. refl) ne')
    (other-request s r.id q doubt_request (λ x. refl) ne')) refl
others s id q None (Some t) n e a b c ne =
    let ne' : q ≢ t.id = subst (λ i. q ≢ i) (sym (row_has_id (λ (t : Entry). t.id) id s.tuples t b)) ne in
    no (is_due_tuple s.clock t) (age_tuple s t) s q _
    (no (is_none t.renewer) (tuple_ended last.Expired t s) (with_tuple t.id doubt_tuple s) q _
    (gone-tuple s t q ne')
    (other-tuple s t.id q doubt_tuple (λ x. refl) ne')) refl
others s id q None None (Some n) e a b c ne =
    let ne' : q ≢ n.id = subst (λ i. q ≢ i) (sym (row_has_id (λ (n : Notifier). n.id) id s.notifiers n c)) ne in
    no (is_due_notifier s.clock n) (age_notifier s n) s q _
    (no (is_none n.renewer) (with_notifier n.id (close_after last.Expired (length s.events)) s) (with_notifier n.id doubt_notifier s) q _
    (other-notifier s n.id q (close_after last.Expired (length s.events)) (λ x. refl) ne')
    (other-notifier s n.id q doubt_notifier (λ x. refl) ne')) refl
others s id q None None None (Some e) a b c ne = refl
others s id q None None None None a b c ne = ap (λ (x : Plain). stage_of x q) (either s (id == 0 || nat_le s.next id))

pub others-stay : (s : Plain) (id q : ℕ) → q ≢ id → stage_of (age_found s (found s id)) q ≡ stage_of s q
others-stay s id q ne = others s id q (request_at s id) (tuple_at s id) (notifier_at s id) (ended_at s id) refl refl refl ne

-- what has aged isn't due

unripe : (now : ℕ) (b : Bool) (x y s : Plain) (id : ℕ) → is_due now (stage_of x id) ≡ false → (b ≡ false → is_due now (stage_of y id) ≡ false) → is_due now (stage_of (if b then x else y) id) ≡ false
unripe now true x y s id e f = e
unripe now false x y s id e f = f refl

at-id : {A : Type 0} (q : ℕ) (x y : A) → (if q == q then x else y) ≡ x
at-id q x y = grind (arith, nat_tests)

own-request : (s : Plain) (id : ℕ) (f : Request → Request) (r : Request) → ((x : Request) → (f x).id ≡ x.id) → request_at s id ≡ Some r → stage_of (with_request id f s) id ≡ request_stage (f r)
own-request s id f r keeps there = ap (λ (o : Option Request). stage_among o (tuple_at s id) (notifier_at s id)) (row-in (λ r. r.id) id id f s.requests keeps ∙ at-id id _ _ ∙ ap (option_map f) there)

own-tuple : (s : Plain) (id : ℕ) (f : Entry → Entry) (t : Entry) → ((x : Entry) → (f x).id ≡ x.id) → request_at s id ≡ None → tuple_at s id ≡ Some t → stage_of (with_tuple id f s) id ≡ tuple_stage (f t)
own-tuple s id f t keeps none there = ap (λ (o : Option Request). stage_among o (tuple_at (with_tuple id f s) id) (notifier_at s id)) none ∙ ap (λ (o : Option Entry). stage_among None o (notifier_at s id)) (row-in (λ t. t.id) id id f s.tuples keeps ∙ at-id id _ _ ∙ ap (option_map f) there)

own-notifier : (s : Plain) (id : ℕ) (f : Notifier → Notifier) (n : Notifier) → ((x : Notifier) → (f x).id ≡ x.id) → request_at s id ≡ None → tuple_at s id ≡ None → notifier_at s id ≡ Some n → stage_of (with_notifier id f s) id ≡ notifier_stage (f n)
own-notifier s id f n keeps r t there = ap (λ (o : Option Request). stage_among o (tuple_at s id) (notifier_at (with_notifier id f s) id)) r ∙ ap (λ (o : Option Entry). stage_among None o (notifier_at (with_notifier id f s) id)) t ∙ ap (λ (o : Option Notifier). stage_among None None o) (row-in (λ n. n.id) id id f s.notifiers keeps ∙ at-id id _ _ ∙ ap (option_map f) there)

own-gone : (s : Plain) (id : ℕ) (t : Entry) → t.id ≡ id → request_at s id ≡ None → notifier_at s id ≡ None → stage_of (tuple_ended last.Expired t s) id ≡ stage.Still
own-gone s id t is r n = ap (λ (o : Option Request). stage_among o (tuple_at (tuple_ended last.Expired t s) id) (notifier_at s id)) r ∙ ap (λ (o : Option Notifier). stage_among None (tuple_at (tuple_ended last.Expired t s) id) o) n ∙ ap (λ (o : Option Entry). stage_among None o None) (ap (λ i. row_of (λ t. t.id) id (without (λ t. t.id) i s.tuples)) is ∙ row-out (λ t. t.id) id id s.tuples ∙ at-id id _ _)

still-here : (now : ℕ) (s : Plain) (id : ℕ) (r : Option Request) (t : Option Entry) (n : Option Notifier) → request_at s id ≡ r → tuple_at s id ≡ t → notifier_at s id ≡ n → stage_of s id ≡ stage_among r t n
still-here now s id r t n a b c = rw (a, b, c) refl

own : (s : Plain) (id : ℕ) (r : Option Request) (t : Option Entry) (n : Option Notifier) (e : Option Ended) → request_at s id ≡ r → tuple_at s id ≡ t → notifier_at s id ≡ n → at_most_one r t n ≡ true → is_due s.clock (stage_of (age_found s (found_among s id r t n e)) id) ≡ false
own s id (Some r) t n e a b c one =
    let is = row_has_id (λ (r : Request). r.id) id s.requests r a in
    unripe s.clock (is_due_request s.clock r) (age_request s r) s s id
    (unripe s.clock (is_none r.renewer) (request_in r.id (state.Answered out.Expired) s) (with_request r.id doubt_request s) s id
    (ap (λ i. is_due s.clock (stage_of (with_request i (in_state (state.Answered out.Expired)) s) id)) is ∙ ap (is_due s.clock) (own-request s id (in_state (state.Answered out.Expired)) r (λ x. refl) a) ∙ due-request s.clock (in_state (state.Answered out.Expired) r))
    (λ _. ap (λ i. is_due s.clock (stage_of (with_request i doubt_request s) id)) is ∙ ap (is_due s.clock) (own-request s id doubt_request r (λ x. refl) a)))
    (λ no. ap (is_due s.clock) (still-here s.clock s id (Some r) t n a b c) ∙ due-request s.clock r ∙ no)
own s id None (Some t) n e a b c one =
    let is = row_has_id (λ (t : Entry). t.id) id s.tuples t b in
    unripe s.clock (is_due_tuple s.clock t) (age_tuple s t) s s id
    (unripe s.clock (is_none t.renewer) (tuple_ended last.Expired t s) (with_tuple t.id doubt_tuple s) s id
    (ap (is_due s.clock) (own-gone s id t is a (c ∙ (alone-tuple None (Some t) n t refl one).1)))
    (λ _. ap (λ i. is_due s.clock (stage_of (with_tuple i doubt_tuple s) id)) is ∙ ap (is_due s.clock) (own-tuple s id doubt_tuple t (λ x. refl) a b)))
    (λ no. ap (is_due s.clock) (still-here s.clock s id None (Some t) n a b c) ∙ due-tuple s.clock t ∙ no)
own s id None None (Some n) e a b c one =
    let is = row_has_id (λ (n : Notifier). n.id) id s.notifiers n c in
    unripe s.clock (is_due_notifier s.clock n) (age_notifier s n) s s id
    (unripe s.clock (is_none n.renewer) (with_notifier n.id (close_after last.Expired (length s.events)) s) (with_notifier n.id doubt_notifier s) s id
    (ap (λ i. is_due s.clock (stage_of (with_notifier i (close_after last.Expired (length s.events)) s) id)) is ∙ ap (is_due s.clock) (own-notifier s id (close_after last.Expired (length s.events)) n (λ x. refl) a b c) ∙ due-notifier s.clock (close_after last.Expired (length s.events) n))
    (λ _. ap (λ i. is_due s.clock (stage_of (with_notifier i doubt_notifier s) id)) is ∙ ap (is_due s.clock) (own-notifier s id doubt_notifier n (λ x. refl) a b c)))
    (λ no. ap (is_due s.clock) (still-here s.clock s id None None (Some n) a b c) ∙ due-notifier s.clock n ∙ no)
own s id None None None (Some e) a b c one = ap (is_due s.clock) (still-here s.clock s id None None None a b c)
own s id None None None None a b c one = ap (λ (x : Plain). is_due s.clock (stage_of x id)) (either s (id == 0 || nat_le s.next id)) ∙ ap (is_due s.clock) (still-here s.clock s id None None None a b c)

pub own-not-due : (s : Plain) (id : ℕ) → at_most_one (request_at s id) (tuple_at s id) (notifier_at s id) ≡ true → is_due s.clock (stage_of (age_found s (found s id)) id) ≡ false
own-not-due s id one = own s id (request_at s id) (tuple_at s id) (notifier_at s id) (ended_at s id) refl refl refl one
