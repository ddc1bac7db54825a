-- Searching among the rows that have a mark finds what searching among all does.
use Rattle.std.proofs.Common.{◌≡◌, ℕ, ◌≤◌, ◌+◌, Bool, true, false, ◌&&◌, List, [], ◌∷◌, map, Option, Some, None, refl, sym, ◌∙◌, ap, subst, arith}
use Rattle.std.specs.Prelude.{filter, find, length, IfSome}
use Rattle.std.specs.Option.{option_map}
use Rattle.std.proofs.lemmas.Bool.Decides.{nat_tests}
use Rattle.rinda_tuple.specs.declared.tuple.Template.{Template}
use Rattle.rinda_tuple.specs.declared.tuple.Tuple.{Tuple}
use Rattle.rinda_tuple.specs.Matching.{matches}
use Rattle.rinda_rules.specs.declared.plain.Entry.{Entry}
use Rattle.rinda_marks.specs.declared.secret.Secret.{Secret}
use Rattle.rinda_marks.specs.Marks.{has_mark, marks_of, fixed_by, best}
use Rattle.rinda_marks.specs.Opening.{opens}
use Rattle.rinda_marks.proofs.Marking.{matched-has-best, matched-opens}
use Rattle.rinda_bag.specs.Indexes.{is_of, row_has, IsIndexed, rows_at}
use Rattle.rinda_bag.specs.Wanted.{is_wanted, least_wanted, all_wanted, opening_rows}
use Rattle.rinda_bag.proofs.Indexed.{rows-under}

find-filter : (p q : Entry → Bool) → ((t : Entry) → p t ≡ true → q t ≡ true) → (ts : List Entry) → find p (filter q ts) ≡ find p ts
find-filter p q h [] = refl
find-filter p q h (t ∷ ts) = grind (arith, h t, find-filter p q h ts)

filter-filter : (p q : Entry → Bool) → ((t : Entry) → p t ≡ true → q t ≡ true) → (ts : List Entry) → filter p (filter q ts) ≡ filter p ts
filter-filter p q h [] = refl
filter-filter p q h (t ∷ ts) = grind (arith, h t, filter-filter p q h ts)

fewer : (p q : Entry → Bool) (ts : List Entry) → length (filter p (filter q ts)) ≤ length (filter p ts)
fewer p q [] = grind arith
fewer p q (t ∷ ts) = grind (arith, nat_tests, fewer p q ts)

front : (a b : Bool) → (a && b) ≡ true → a ≡ true
front a b e = grind arith

-- a row that the template matches has the template's best mark
best_is : (o : Option ℕ) (m : ℕ) (p : ℕ → Bool) → o ≡ Some m → IfSome o (λ m. p m ≡ true) → p m ≡ true
best_is None m p e h = cc
best_is (Some n) m p e h = subst (λ (m : ℕ). p m ≡ true) (some_same e) h
  where
    some_same : {a b : ℕ} → Some a ≡ Some b → a ≡ b
    some_same e = cc

wanted-has : (secret : Secret) (now : ℕ) (free : Bool) (pattern : Template) (m : ℕ) → best (fixed_by secret pattern) ≡ Some m → (t : Entry) → is_wanted now free pattern t ≡ true → row_has secret m t ≡ true
wanted-has secret now free pattern m is t w = best_is (best (fixed_by secret pattern)) m (λ m. has_mark m (marks_of secret t.value)) is (matched-has-best secret pattern t.value (front (matches pattern t.value) _ w))

pub least-under : (secret : Secret) (now : ℕ) (free : Bool) (pattern : Template) (m : ℕ) (rows : List Entry) (keys : List ℕ) → IsIndexed secret rows keys → best (fixed_by secret pattern) ≡ Some m → least_wanted now free pattern (rows_at rows (filter (is_of m) keys)) ≡ least_wanted now free pattern rows
least-under secret now free pattern m rows keys h is =
    ap (least_wanted now free pattern) (rows-under secret m rows keys h)
    ∙ ap (option_map (λ (t : Entry). t.id)) (find-filter (is_wanted now free pattern) (row_has secret m) (wanted-has secret now free pattern m is) rows)

pub all-under : (secret : Secret) (now : ℕ) (pattern : Template) (m : ℕ) (rows : List Entry) (keys : List ℕ) → IsIndexed secret rows keys → best (fixed_by secret pattern) ≡ Some m → all_wanted now pattern (rows_at rows (filter (is_of m) keys)) ≡ all_wanted now pattern rows
all-under secret now pattern m rows keys h is =
    ap (all_wanted now pattern) (rows-under secret m rows keys h)
    ∙ ap (map (λ (t : Entry). t.id)) (filter-filter (is_wanted now false pattern) (row_has secret m) (wanted-has secret now false pattern m is) rows)

pub opening-under : (secret : Secret) (pattern : Template) (m : ℕ) (rows : List Entry) (keys : List ℕ) → IsIndexed secret rows keys → opening_rows pattern (rows_at rows (filter (is_of m) keys)) ≤ opening_rows pattern rows
opening-under secret pattern m rows keys h = rw (rows-under secret m rows keys h) (fewer (λ t. opens pattern t.value) (row_has secret m) rows)

-- the steps of a search under a mark are few among all rows
pub few-under : (secret : Secret) (pattern : Template) (m : ℕ) (rows : List Entry) (keys : List ℕ) (all : List Entry) (before after : ℕ) → IsIndexed secret rows keys → rows ≡ all → after ≤ before + opening_rows pattern (rows_at rows (filter (is_of m) keys)) → after ≤ before + opening_rows pattern all
few-under secret pattern m rows keys all before after h is e = subst (λ (all : List Entry). after ≤ before + opening_rows pattern all) is (longer after before _ _ e (opening-under secret pattern m rows keys h))
  where
    longer : (after before a b : ℕ) → after ≤ before + a → a ≤ b → after ≤ before + b
    longer after before a b e f = omega arith

-- a tuple that does not open as the template does is no match
pub unopened : (t : Template) (u : Tuple) → opens t u ≡ false → matches t u ≡ false
unopened t u e = by_test (matches t u) refl
  where
    by_test : (b : Bool) → matches t u ≡ b → b ≡ false
    by_test false is = refl
    by_test true is = sym (matched-opens t u is) ∙ e
