-- Values that are the same have the same mark, and a tuple has the marks that a template asks for that matches it.
use Rattle.std.proofs.Common.{◌≡◌, ℕ, Bool, true, false, not, ◌&&◌, ◌||◌, List, [], ◌∷◌, Option, Some, None, refl, sym, ◌∙◌, ap, subst, cond, arith}
use Rattle.std.specs.Prelude.{◌==◌, bytes_eq, length, if◌then◌else◌, IfSome}
use Rattle.std.specs.Ordering.{int_eq}
use Rattle.std.specs.List.{list_any, list_all}
use Rattle.std.proofs.lemmas.Bool.Decides.{nat_tests, Decides-int_eq}
use Rattle.std.proofs.lemmas.Slice.Eq.{bytes_eq-Decides}
use lib.IntN.{ℤ}
use Rattle.drb_tree.specs.declared.Text.{Text}
use Rattle.drb_tree.specs.declared.Tree.{Tree}
use Rattle.drb_tree.specs.declared.Tree.TheViews.{out-Tree, roll-Tree, roll-out-Tree}
use Rattle.drb_tree.specs.declared.Tree.TheOpen.{Tree-F}
use Rattle.drb_tree.specs.declared.Tree.TheFolds.{map-Tree}
use Rattle.drb_tree.specs.Same.{same, same_at}
use Rattle.drb_tree.proofs.Same.{same_roll}
use Rattle.rinda_tuple.specs.declared.tuple.Tuple.{Tuple}
use Rattle.rinda_tuple.specs.declared.tuple.Tuple.TheVariants as tuple
use Rattle.rinda_tuple.specs.declared.tuple.Template.{Template}
use Rattle.rinda_tuple.specs.declared.tuple.Template.TheVariants as template
use Rattle.rinda_tuple.specs.Classes.{is_nil}
use Rattle.rinda_tuple.specs.Matching.{name_suits, matches, suits, each_suits}
use Rattle.rinda_tuple.specs.Ranges.{range_suits}
use Rattle.rinda_marks.specs.declared.secret.Secret.{Secret}
use Rattle.rinda_marks.specs.Hashes.{hash_of, both}
use Rattle.rinda_marks.specs.Marks.{int_bytes, mark_at, mark_of, no_marks, second_mark, next_mark, marks_from, front_marks, marks_of, fixed_by, best_of, best, listed, mark_list, has_mark}
use Rattle.rinda_marks.specs.Opening.{fixes, fixes_value, lets, lets_next, opens_list, opens}
use Rattle.rinda_marks.specs.Laws.{Has}

same_bytes : (a b : List ℕ) → bytes_eq a b ≡ true → a ≡ b
same_bytes a b e = (bytes_eq-Decides a b).0 e

same_ints : (a b : ℤ) → int_eq a b ≡ true → a ≡ b
same_ints a b e = (Decides-int_eq a b).0 e

front : (a b : Bool) → (a && b) ≡ true → a ≡ true
front a b e = grind arith

back : (a b : Bool) → (a && b) ≡ true → b ≡ true
back a b e = grind arith

-- the values are the same where the outer part of one is known
same_outer : (e x : Tree) → same e x ≡ same_at (map-Tree Tree (Tree → Bool) same (out-Tree e)) (out-Tree x)
same_outer e x = ap (λ (t : Tree). same t x) (sym (roll-out-Tree e)) ∙ ap (same (roll-Tree (out-Tree e))) (sym (roll-out-Tree x)) ∙ same_roll (out-Tree e) (out-Tree x)

-- Values of each kind, and what is the same.

with_int : (secret : Secret) (i : ℤ) (x : Tree-F Tree) → same_at (Tree-F.Int i) x ≡ true → mark_at secret x ≡ Some (hash_of secret 0 (int_bytes i))
with_int secret i (Tree-F.Int j) e = ap (λ (i : ℤ). Some (hash_of secret 0 (int_bytes i))) (sym (same_ints i j e))
with_int secret i x e = cc

with_sym : (secret : Secret) (n : List ℕ) (x : Tree-F Tree) → same_at (Tree-F.Sym n) x ≡ true → mark_at secret x ≡ Some (hash_of secret 1 n)
with_sym secret n (Tree-F.Sym m) e = ap (λ (bs : List ℕ). Some (hash_of secret 1 bs)) (sym (same_bytes n m e))
with_sym secret n x e = cc

with_text : (secret : Secret) (t : Text) (x : Tree-F Tree) → same_at (Tree-F.Text t) x ≡ true → mark_at secret x ≡ Some (hash_of secret 2 t.bytes)
with_text secret t (Tree-F.Text u) e = ap (λ (bs : List ℕ). Some (hash_of secret 2 bs)) (sym (same_bytes t.bytes u.bytes (front _ _ e)))
with_text secret t x e = cc

-- the same level of two values
marks_at : (secret : Secret) (l : Tree-F Tree) (x : Tree-F Tree) → same_at (map-Tree Tree (Tree → Bool) same l) x ≡ true → mark_at secret l ≡ mark_at secret x
marks_at secret (Tree-F.Int i) x e = sym (with_int secret i x e)
marks_at secret (Tree-F.Sym n) x e = sym (with_sym secret n x e)
marks_at secret (Tree-F.Text t) x e = sym (with_text secret t x e)
marks_at secret l (Tree-F.Int j) e = cc
marks_at secret l (Tree-F.Sym m) e = cc
marks_at secret l (Tree-F.Text u) e = cc
marks_at secret l x e = refl

pub same-marks : (secret : Secret) (a b : Tree) → same a b ≡ true → mark_of secret a ≡ mark_of secret b
same-marks secret a b e = marks_at secret (out-Tree a) (out-Tree b) (sym (same_outer a b) ∙ e)

-- What fixes its place has a mark, and suits only what is the same.

only_same : (s : Bool) → (false || s || false || false) ≡ true → s ≡ true
only_same s e = grind arith

suits_at : (l x : Tree-F Tree) (s : Bool) → fixes l ≡ true → (is_nil l || s || name_suits l x || range_suits l x) ≡ true → s ≡ true
suits_at (Tree-F.Int i) x s f e = only_same s e
suits_at (Tree-F.Sym n) x s f e = only_same s e
suits_at (Tree-F.Text t) x s f e = only_same s e
suits_at l x s f e = cc

fixed-same : (e x : Tree) → fixes_value e ≡ true → suits e x ≡ true → same e x ≡ true
fixed-same e x f s = suits_at (out-Tree e) (out-Tree x) (same e x) f s

marked_fixes : (secret : Secret) (l : Tree-F Tree) (m : ℕ) → mark_at secret l ≡ Some m → fixes l ≡ true
marked_fixes secret (Tree-F.Int i) m e = refl
marked_fixes secret (Tree-F.Sym n) m e = refl
marked_fixes secret (Tree-F.Text t) m e = refl
marked_fixes secret l m e = cc

-- a value that an element with a mark suits has that mark
suited : (secret : Secret) (e x : Tree) (m : ℕ) → mark_of secret e ≡ Some m → suits e x ≡ true → mark_of secret x ≡ Some m
suited secret e x m is s = sym (same-marks secret e x (fixed-same e x (marked_fixes secret (out-Tree e) m is) s)) ∙ is

-- Lists.

second_has : (first : ℕ) (o p : Option ℕ) → ((m : ℕ) → o ≡ Some m → p ≡ Some m) → IfSome (second_mark first o) (λ m. second_mark first p ≡ Some m)
second_has first None p h = tt
second_has first (Some n) p h = by_mark p (h n refl)
  where
    by_test : (b : Bool) → IfSome (cond {A = Option ℕ} b None (Some (both first n))) (λ m. cond {A = Option ℕ} b None (Some (both first n)) ≡ Some m)
    by_test true = tt
    by_test false = refl

    by_mark : (p : Option ℕ) → p ≡ Some n → IfSome (second_mark first (Some n)) (λ m. second_mark first p ≡ Some m)
    by_mark p e = subst (λ (p : Option ℕ). IfSome (second_mark first (Some n)) (λ m. second_mark first p ≡ Some m)) (sym e) (by_test (both first n == first))

next_has : (secret : Secret) (first : ℕ) (es xs : List Tree) → each_suits es xs ≡ true → IfSome (next_mark secret first es) (λ m. next_mark secret first xs ≡ Some m)
next_has secret first [] xs e = tt
next_has secret first (a ∷ es) [] e = cc
next_has secret first (a ∷ es) (x ∷ xs) e = second_has first (mark_of secret a) (mark_of secret x) (λ m is. suited secret a x m is (front _ _ e))

front_has : (secret : Secret) (es xs : List Tree) → each_suits es xs ≡ true → Has (front_marks secret xs) (front_marks secret es)
front_has secret [] xs e = record { first = tt; second = tt }
front_has secret (a ∷ es) [] e = cc
front_has secret (a ∷ es) (x ∷ xs) e = by_mark (mark_of secret a) refl
  where
    by_mark : (o : Option ℕ) → mark_of secret a ≡ o → Has (marks_from secret (mark_of secret x) xs) (marks_from secret o es)
    by_mark None is = record { first = tt; second = tt }
    by_mark (Some m) is =
        subst (λ (o : Option ℕ). Has (marks_from secret o xs) (marks_from secret (Some m) es)) (sym (suited secret a x m is (front _ _ e)))
        (record { first = refl; second = next_has secret m es xs (back _ _ e) })

empty_of : (es : List Tree) (b : Bool) → ((length es == 0) && b) ≡ true → es ≡ []
empty_of [] b e = refl
empty_of (a ∷ es) b e = grind arith

pub matched-has : (secret : Secret) (t : Template) (u : Tuple) → matches t u ≡ true → Has (marks_of secret u) (fixed_by secret t)
unfolding matches
matched-has secret (template.List es) (tuple.List xs) e = front_has secret es xs e
matched-has secret (template.Named es) u e = record { first = tt; second = tt }
matched-has secret (template.List es) (tuple.Named xs) e = subst (λ (es : List Tree). Has no_marks (front_marks secret es)) (sym (empty_of es _ e)) (record { first = tt; second = tt })

-- The best mark.

itself : (m : ℕ) (b : Bool) → (m == m || b) ≡ true
itself m b = grind (arith, nat_tests)

never_some : {n : ℕ} (b : Bool) → Some n ≡ None → b ≡ true
never_some b e = cc

best_has : (a b p q : Option ℕ) → IfSome a (λ m. p ≡ Some m) → IfSome b (λ m. q ≡ Some m) → (a ≡ None → b ≡ None) → IfSome (best_of a b) (λ m. list_any (λ n. n == m) (listed p q) ≡ true)
best_has None None p q e f h = tt
best_has None (Some n) p q e f h = never_some _ (h refl)
best_has (Some m) None p None e f h = rw e (itself m false)
best_has (Some m) None p (Some k) e f h = rw e (itself m _)
best_has (Some m) (Some n) p q e f h = rw (e, f) (second_there m n)
  where
    second_there : (m n : ℕ) → (m == n || (n == n || false)) ≡ true
    second_there m n = grind (arith, nat_tests)

no_second : (secret : Secret) (o : Option ℕ) (xs : List Tree) → (marks_from secret o xs).first ≡ None → (marks_from secret o xs).second ≡ None
no_second secret None xs e = refl
no_second secret (Some m) xs e = cc

-- no second mark is asked for without a first
first_first : (secret : Secret) (es : List Tree) → (front_marks secret es).first ≡ None → (front_marks secret es).second ≡ None
first_first secret [] e = refl
first_first secret (a ∷ es) e = no_second secret (mark_of secret a) es e

pub first-of-fixed : (secret : Secret) (t : Template) → (fixed_by secret t).first ≡ None → (fixed_by secret t).second ≡ None
first-of-fixed secret (template.List es) e = first_first secret es e
first-of-fixed secret (template.Named es) e = refl

pub matched-has-best : (secret : Secret) (t : Template) (u : Tuple) → matches t u ≡ true → IfSome (best (fixed_by secret t)) (λ m. has_mark m (marks_of secret u) ≡ true)
matched-has-best secret t u e =
    let h : Has (marks_of secret u) (fixed_by secret t) = matched-has secret t u e in
    best_has (fixed_by secret t).first (fixed_by secret t).second (marks_of secret u).first (marks_of secret u).second h.first h.second (first-of-fixed secret t)

-- Opening.

lets_suits : (f s u : Bool) → (f ≡ true → u ≡ true → s ≡ true) → u ≡ true → (not f || s) ≡ true
lets_suits false s u h e = refl
lets_suits true s u h e = h refl e

suits-lets : (e x : Tree) → suits e x ≡ true → lets e x ≡ true
suits-lets e x s = lets_suits (fixes_value e) (same e x) (suits e x) (λ f s. fixed-same e x f s) s

suits-lets_next : (es xs : List Tree) → each_suits es xs ≡ true → lets_next es xs ≡ true
suits-lets_next [] xs e = refl
suits-lets_next (a ∷ es) [] e = cc
suits-lets_next (a ∷ es) (x ∷ xs) e = suits-lets a x (front _ _ e)

suits-opens : (es xs : List Tree) → each_suits es xs ≡ true → opens_list es xs ≡ true
suits-opens [] xs e = refl
suits-opens (a ∷ es) [] e = cc
suits-opens (a ∷ es) (x ∷ xs) e = by_test (fixes_value a) refl
  where
    both_hold : (a b : Bool) → a ≡ true → b ≡ true → (a && b) ≡ true
    both_hold a b e f = grind arith

    by_test : (b : Bool) → fixes_value a ≡ b → (if b then same a x && lets_next es xs else true) ≡ true
    by_test false is = refl
    by_test true is = both_hold (same a x) (lets_next es xs) (fixed-same a x is (front _ _ e)) (suits-lets_next es xs (back _ _ e))

pub matched-opens : (t : Template) (u : Tuple) → matches t u ≡ true → opens t u ≡ true
unfolding matches
matched-opens (template.List es) (tuple.List xs) e = suits-opens es xs e
matched-opens (template.List es) (tuple.Named xs) e = refl
matched-opens (template.Named es) u e = refl

-- The marks of one tuple differ.

abbrev pub distinct : List ℕ → Bool
distinct [] = true
distinct (m ∷ ms) = list_all (λ k. not (k == m)) ms && distinct ms

one_distinct : (first : ℕ) (o : Option ℕ) → distinct (listed (Some first) (second_mark first o)) ≡ true
one_distinct first None = refl
one_distinct first (Some n) = by_test (both first n == first) refl
  where
    by_test : (b : Bool) → both first n == first ≡ b → distinct (listed (Some first) (cond {A = Option ℕ} b None (Some (both first n)))) ≡ true
    by_test true e = refl
    by_test false e = grind arith

next_distinct : (secret : Secret) (first : ℕ) (xs : List Tree) → distinct (listed (Some first) (next_mark secret first xs)) ≡ true
next_distinct secret first [] = refl
next_distinct secret first (x ∷ xs) = one_distinct first (mark_of secret x)

from_distinct : (secret : Secret) (o : Option ℕ) (xs : List Tree) → distinct (mark_list (marks_from secret o xs)) ≡ true
from_distinct secret None xs = refl
from_distinct secret (Some m) xs = next_distinct secret m xs

front_distinct : (secret : Secret) (xs : List Tree) → distinct (mark_list (front_marks secret xs)) ≡ true
front_distinct secret [] = refl
front_distinct secret (x ∷ xs) = from_distinct secret (mark_of secret x) xs

pub distinct-marks : (secret : Secret) (u : Tuple) → distinct (mark_list (marks_of secret u)) ≡ true
distinct-marks secret (tuple.List xs) = front_distinct secret xs
distinct-marks secret (tuple.Named xs) = refl
