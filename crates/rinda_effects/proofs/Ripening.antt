-- Aging of the rows that are due alone.
use Rattle.std.proofs.Common.{◌≡◌, ℕ, Bool, true, false, cond, not, ◌&&◌, ◌||◌, List, [], ◌∷◌, ◌++◌, map, refl, sym, ◌∙◌, ap, arith}
use Rattle.std.specs.Prelude.{◌==◌, filter, is_none}
use Rattle.std.specs.List.{list_any}
use Rattle.std.proofs.lemmas.Bool.Decides.{nat_tests}
use Rattle.rinda_rules.specs.declared.object.Doubt.TheVariants as doubt
use Rattle.rinda_rules.specs.declared.out.Out.TheVariants as out
use Rattle.rinda_rules.specs.declared.row.RequestState.TheVariants as state
use Rattle.rinda_rules.specs.declared.plain.Entry.{Entry}
use Rattle.rinda_rules.specs.declared.plain.Request.{Request}
use Rattle.rinda_rules.specs.declared.plain.Notifier.{Notifier}
use Rattle.rinda_rules.specs.Rows.{changed, without}
use Rattle.rinda_rules.specs.Space.{Plain, is_due_tuple, is_due_request, is_due_notifier}
use Rattle.rinda_rules.specs.AtOnce.{aged_at_once, aged_tuple, aged_request, aged_notifier, expires}
use Rattle.rinda_rules.proofs.AtOnce.{aging_at_once}
use Rattle.rinda_effects.specs.Ages.{changed_all, without_all, has_all, has_only, DueRowsAge}

-- a change that is made of all due rows one after another
pub record Ripens {R : Type 0} (key : R → ℕ) (due : R → Bool) (f : R → R) : Type 0 where
  pub keeps : (x : R) → key (f x) ≡ key x
  pub done : (x : R) → due (f x) ≡ false
  pub same : (x : R) → due x ≡ false → f x ≡ x

again : {R : Type 0} (key : R → ℕ) (due : R → Bool) (f : R → R) → Ripens key due f → (x : R) → f (f x) ≡ f x
again key due f h x = h.same (f x) (h.done x)

map_after : {R : Type 0} (key : R → ℕ) (f : R → R) (id : ℕ) → ((x : R) → f (f x) ≡ f x) → (xs : List R) → map f (changed key id f xs) ≡ map f xs
map_after key f id h [] = refl
map_after key f id h (x ∷ xs) = grind (arith, nat_tests, h x, map_after key f id h xs)

due_left : {R : Type 0} (key : R → ℕ) (due : R → Bool) (f : R → R) (id : ℕ) (ids : List ℕ) → ((x : R) → key (f x) ≡ key x) → ((x : R) → due (f x) ≡ false) → (xs : List R) → has_all key due (id ∷ ids) xs ≡ true → has_all key due ids (changed key id f xs) ≡ true
due_left key due f id ids keeps done [] e = refl
due_left key due f id ids keeps done (x ∷ xs) e = grind (arith, nat_tests, keeps x, done x, due_left key due f id ids keeps done xs)

none_due : {R : Type 0} (key : R → ℕ) (due : R → Bool) (f : R → R) → ((x : R) → due x ≡ false → f x ≡ x) → (xs : List R) → has_all key due [] xs ≡ true → map f xs ≡ xs
none_due key due f same [] e = refl
none_due key due f same (x ∷ xs) e = grind (arith, same x, none_due key due f same xs)

pub changed_all_is : {R : Type 0} (key : R → ℕ) (due : R → Bool) (f : R → R) → Ripens key due f → (ids : List ℕ) (xs : List R) → has_all key due ids xs ≡ true → map f xs ≡ changed_all key f ids xs
changed_all_is key due f h [] xs e = none_due key due f h.same xs e
changed_all_is key due f h (id ∷ ids) xs e = sym (map_after key f id (again key due f h) xs) ∙ changed_all_is key due f h ids (changed key id f xs) (due_left key due f id ids h.keeps h.done xs e)

-- rows that leave

keeps_none : {R : Type 0} (key : R → ℕ) (test : R → Bool) (xs : List R) → has_all key test [] xs ≡ true → filter (λ x. not (test x)) xs ≡ xs
keeps_none key test [] e = refl
keeps_none key test (x ∷ xs) e = grind (arith, keeps_none key test xs)

filter_after : {R : Type 0} (key : R → ℕ) (test : R → Bool) (id : ℕ) (ids : List ℕ) (xs : List R) → has_only key test (id ∷ ids) xs ≡ true → filter (λ x. not (test x)) (without key id xs) ≡ filter (λ x. not (test x)) xs
filter_after key test id ids [] e = refl
filter_after key test id ids (x ∷ xs) e = grind (arith, nat_tests, filter_after key test id ids xs)

all_left : {R : Type 0} (key : R → ℕ) (test : R → Bool) (id : ℕ) (ids : List ℕ) (xs : List R) → has_all key test (id ∷ ids) xs ≡ true → has_all key test ids (without key id xs) ≡ true
all_left key test id ids [] e = refl
all_left key test id ids (x ∷ xs) e = grind (arith, nat_tests, all_left key test id ids xs)

only_left : {R : Type 0} (key : R → ℕ) (test : R → Bool) (id : ℕ) (ids : List ℕ) (xs : List R) → has_only key test (id ∷ ids) xs ≡ true → has_only key test ids (without key id xs) ≡ true
only_left key test id ids [] e = refl
only_left key test id ids (x ∷ xs) e = grind (arith, nat_tests, only_left key test id ids xs)

pub without_all_is : {R : Type 0} (key : R → ℕ) (test : R → Bool) (ids : List ℕ) (xs : List R) → has_all key test ids xs ≡ true → has_only key test ids xs ≡ true → filter (λ x. not (test x)) xs ≡ without_all key ids xs
without_all_is key test [] xs e f = keeps_none key test xs e
without_all_is key test (id ∷ ids) xs e f = sym (filter_after key test id ids xs f) ∙ without_all_is key test ids (without key id xs) (all_left key test id ids xs e) (only_left key test id ids xs f)

-- rows of the space

tuples_ripen : (now : ℕ) → Ripens (λ t. t.id) (is_due_tuple now) (aged_tuple now)
tuples_ripen now = record { keeps = keeps; done = λ t. grind (arith, nat_tests); same = λ t e. ap (λ (b : Bool). cond {A = Entry} b (record t { doubt = doubt.Waiting }) t) e }
  where
    keeps : (t : Entry) → (aged_tuple now t).id ≡ t.id
    keeps t = by_test (is_due_tuple now t)
      where
        by_test : (b : Bool) → (cond {A = Entry} b (record t { doubt = doubt.Waiting }) t).id ≡ t.id
        by_test true = refl
        by_test false = refl

requests_ripen : (now : ℕ) → Ripens (λ r. r.id) (is_due_request now) (aged_request now)
requests_ripen now = record { keeps = keeps; done = λ r. grind (arith, nat_tests); same = λ r e. ap (λ (b : Bool). cond {A = Request} b (cond {A = Request} (is_none r.renewer) (record r { state = state.Answered out.Expired }) (record r { doubt = doubt.Waiting })) r) e }
  where
    keeps : (r : Request) → (aged_request now r).id ≡ r.id
    keeps r = grind (arith, nat_tests)

notifiers_ripen : (s : Plain) → Ripens (λ n. n.id) (is_due_notifier s.clock) (aged_notifier s)
notifiers_ripen s = record { keeps = λ n. grind (arith, nat_tests); done = λ n. grind (arith, nat_tests); same = λ n e. grind (arith, nat_tests) }

any_append : (p : ℕ → Bool) (xs ys : List ℕ) → list_any p (xs ++ ys) ≡ (list_any p xs || list_any p ys)
any_append p [] ys = refl
any_append p (x ∷ xs) ys = grind (arith, any_append p xs ys)

doubted_test : (due ends gone both doubted : Bool) → ends ≡ false → both ≡ (gone || doubted) → (not due || both) ≡ true → (ends || not gone) ≡ true → (not due || doubted) ≡ true
doubted_test due ends gone both doubted e f g h = grind arith

-- of the tuples that stay, those that are due are among the doubted
doubted_left : (now : ℕ) (gone doubted : List ℕ) (ts : List Entry) → has_all (λ t. t.id) (is_due_tuple now) (gone ++ doubted) ts ≡ true → has_only (λ t. t.id) (expires now) gone ts ≡ true → has_all (λ t. t.id) (is_due_tuple now) doubted (filter (λ t. not (expires now t)) ts) ≡ true
doubted_left now gone doubted [] e f = refl
doubted_left now gone doubted (t ∷ ts) e f = by_test (expires now t) refl (doubted_left now gone doubted ts (back _ _ e) (back _ _ f))
  where
    front : (a b : Bool) → (a && b) ≡ true → a ≡ true
    front a b e = grind arith

    back : (a b : Bool) → (a && b) ≡ true → b ≡ true
    back a b e = grind arith

    both : (a b : Bool) → a ≡ true → b ≡ true → (a && b) ≡ true
    both a b e f = grind arith

    by_test : (b : Bool) → expires now t ≡ b → has_all (λ t. t.id) (is_due_tuple now) doubted (filter (λ t. not (expires now t)) ts) ≡ true → has_all (λ t. t.id) (is_due_tuple now) doubted (cond {A = List Entry} (not b) (t ∷ filter (λ t. not (expires now t)) ts) (filter (λ t. not (expires now t)) ts)) ≡ true
    by_test true is rest = rest
    by_test false is rest = both _ _ (doubted_test (is_due_tuple now t) (expires now t) (list_any (λ i. i == t.id) gone) (list_any (λ i. i == t.id) (gone ++ doubted)) (list_any (λ i. i == t.id) doubted) is (any_append (λ i. i == t.id) gone doubted) (front _ _ e) (front _ _ f)) rest

pub due_rows_age : DueRowsAge
due_rows_age s gone doubted requests notifiers sound h =
    let stay : List Entry = filter (λ t. not (expires s.clock t)) s.tuples in
    aging_at_once s sound
    ∙ same_aged s (changed_all_is (λ t. t.id) (is_due_tuple s.clock) (aged_tuple s.clock) (tuples_ripen s.clock) doubted stay (doubted_left s.clock gone doubted s.tuples h.all_doubted h.only_gone)
    ∙ ap (changed_all (λ (t : Entry). t.id) (aged_tuple s.clock) doubted) (without_all_is (λ t. t.id) (expires s.clock) gone s.tuples h.all_gone h.only_gone))
    (changed_all_is (λ r. r.id) (is_due_request s.clock) (aged_request s.clock) (requests_ripen s.clock) requests s.requests h.all_requests)
    (changed_all_is (λ n. n.id) (is_due_notifier s.clock) (aged_notifier s) (notifiers_ripen s) notifiers s.notifiers h.all_notifiers)
  where
    same_aged : (s : Plain) {ts : List Entry} {rs : List Request} {ns : List Notifier} → (aged_at_once s).tuples ≡ ts → (aged_at_once s).requests ≡ rs → (aged_at_once s).notifiers ≡ ns → aged_at_once s ≡ record { clock = s.clock; next = s.next; shut = s.shut; tuples = ts; requests = rs; notifiers = ns; events = (aged_at_once s).events; ended = (aged_at_once s).ended }
    same_aged s a b c = rw (← a, ← b, ← c) refl
