-- Notifiers of which some are gone.
use Rattle.std.proofs.Common.{◌≡◌, ◌∙◌, ℕ, Bool, true, false, List, [], ◌∷◌, ◌++◌, map, length, Option, Some, None, Result, Ok, Err, refl, sym, ap, arith}
use Rattle.std.specs.Prelude.{◌||◌, ◌==◌, nat_lt, if◌then◌else◌, IsSome, OnErr}
use Rattle.std.specs.List.{list_any}
use Rattle.std.proofs.lemmas.Bool.Decides.{nat_tests}
use Rattle.drb_tree.specs.declared.Tree.{Tree}
use Rattle.rinda_tuple.specs.declared.tuple.Tuple.{Tuple}
use Rattle.rinda_rules.specs.declared.object.Last.{Last}
use Rattle.rinda_rules.specs.declared.plain.Happening.{Happening}
use Rattle.rinda_notify.specs.declared.note.Popped.TheVariants as popped
use Rattle.rinda_notify.specs.declared.note.Note.{Note}
use Rattle.rinda_notify.specs.declared.step.Standing.{Standing as Stance}
use Rattle.rinda_notify.specs.declared.step.Step.{Step}
use Rattle.rinda_notify.specs.declared.step.Step.TheVariants as step
use Rattle.rinda_notify.specs.Notes.{Standing, settled, note_at, with_note, without_note, first_at, told, queued, listens, event_of, closed, shut_note, is_open}
use Rattle.rinda_notify.specs.Undoing.{is_in, left, undone, shortened, given_back, stood, is_started, are_there}
use Rattle.rinda_notify.specs.Tables.{below}

-- no id is among none
pub left-none : (ns : List Note) → left [] ns ≡ ns
left-none [] = refl
left-none (n ∷ ns) = ap (λ (ms : List Note). n ∷ ms) (left-none ns)

pub left-append : (gone : List ℕ) (ns ms : List Note) → left gone (ns ++ ms) ≡ left gone ns ++ left gone ms
left-append gone [] ms = refl
left-append gone (n ∷ ns) ms = grind (arith, left-append gone ns ms)

-- a change that keeps the id changes what is left
pub left-changed : (gone : List ℕ) (id : ℕ) (f : Note → Note) (ns : List Note) → ((n : Note) → (f n).id ≡ n.id) → left gone (with_note id f ns) ≡ with_note id f (left gone ns)
left-changed gone id f [] keeps = refl
left-changed gone id f (n ∷ ns) keeps = grind (arith, nat_tests, keeps n, left-changed gone id f ns keeps)

pub left-map : (gone : List ℕ) (f : Note → Note) (ns : List Note) → ((n : Note) → (f n).id ≡ n.id) → left gone (map f ns) ≡ map f (left gone ns)
left-map gone f [] keeps = refl
left-map gone f (n ∷ ns) keeps = grind (arith, keeps n, left-map gone f ns keeps)

in-last : (gone : List ℕ) (id q : ℕ) → is_in (gone ++ id ∷ []) q ≡ (is_in gone q || id == q)
in-last [] id q = grind (arith, nat_tests)
in-last (g ∷ gone) id q = grind (arith, nat_tests, in-last gone id q)

-- one more is gone
pub left-more : (gone : List ℕ) (id : ℕ) (ns : List Note) → left (gone ++ id ∷ []) ns ≡ without_note id (left gone ns)
left-more gone id [] = refl
left-more gone id (n ∷ ns) = grind (arith, nat_tests, in-last gone id n.id, left-more gone id ns)

-- one leaves after the other
pub left-last : (gone : List ℕ) (id : ℕ) (ns : List Note) → left (gone ++ id ∷ []) ns ≡ left gone (without_note id ns)
left-last gone id [] = refl
left-last gone id (n ∷ ns) = grind (arith, nat_tests, in-last gone id n.id, left-last gone id ns)

pub left-without : (gone : List ℕ) (id : ℕ) (ns : List Note) → left gone (without_note id ns) ≡ without_note id (left gone ns)
left-without gone id ns = sym (left-last gone id ns) ∙ left-more gone id ns

none-left : (gone : List ℕ) (id : ℕ) (ns : List Note) → is_in gone id ≡ true → note_at id (left gone ns) ≡ None
none-left gone id [] e = refl
none-left gone id (n ∷ ns) e = grind (arith, nat_tests, none-left gone id ns)

-- whoever is gone has no row
pub row-gone : (gone : List ℕ) (id : ℕ) (ns : List Note) → is_in gone id ≡ true → None ≡ note_at id (left gone ns)
row-gone gone id ns e = sym (none-left gone id ns e)

pub row-left : (gone : List ℕ) (id : ℕ) (ns : List Note) → is_in gone id ≡ false → note_at id ns ≡ note_at id (left gone ns)
row-left gone id [] e = refl
row-left gone id (n ∷ ns) e = grind (arith, nat_tests, row-left gone id ns)

-- who is left was there
pub row-was : (gone : List ℕ) (id : ℕ) (ns : List Note) (n : Note) → note_at id (left gone ns) ≡ Some n → note_at id ns ≡ Some n
row-was gone id ns n e = by_test (is_in gone id) refl
  where
    by_test : (b : Bool) → is_in gone id ≡ b → note_at id ns ≡ Some n
    by_test true f = grind (arith, none-left gone id ns f)
    by_test false f = row-left gone id ns f ∙ e

pub first-was : (gone : List ℕ) (id : ℕ) (ns : List Note) (e : Tree) → first_at (note_at id (left gone ns)) ≡ Some e → first_at (note_at id ns) ≡ Some e
first-was gone id ns e f = by_row (note_at id (left gone ns)) refl
  where
    by_row : (o : Option Note) → note_at id (left gone ns) ≡ o → first_at (note_at id ns) ≡ Some e
    by_row None g = cc
    by_row (Some n) g = ap (λ (o : Option Note). first_at o) (row-was gone id ns n g ∙ sym g) ∙ f

-- Ids that are there.

any-changed : (q id : ℕ) (f : Note → Note) (ns : List Note) → ((n : Note) → (f n).id ≡ n.id) → list_any (λ n. n.id == q) (with_note id f ns) ≡ list_any (λ n. n.id == q) ns
any-changed q id f [] keeps = refl
any-changed q id f (n ∷ ns) keeps = grind (arith, nat_tests, keeps n, any-changed q id f ns keeps)

any-without : (q id : ℕ) (ns : List Note) → (id == q) ≡ false → list_any (λ n. n.id == q) (without_note id ns) ≡ list_any (λ n. n.id == q) ns
any-without q id [] e = refl
any-without q id (n ∷ ns) e = grind (arith, nat_tests, any-without q id ns)

shortened-id : (n : Note) → (shortened n).id ≡ n.id
shortened-id n = refl

given-id : (event : Tree) (n : Note) → (given_back event n).id ≡ n.id
given-id event n = refl

stood-id : (standing : Stance) (n : Note) → (stood standing n).id ≡ n.id
stood-id standing n = refl

-- one that is not new stands
pub stands : (q : ℕ) (steps : List Step) (ns : List Note) → is_started q steps ≡ false → list_any (λ n. n.id == q) (undone steps ns) ≡ list_any (λ n. n.id == q) ns
stands q [] ns e = refl
stands q (step.Event id ∷ steps) ns e = any-changed q id shortened (undone steps ns) shortened-id ∙ stands q steps ns e
stands q (step.Popped id event ∷ steps) ns e = any-changed q id (given_back event) (undone steps ns) (given-id event) ∙ stands q steps ns e
stands q (step.Stood id standing ∷ steps) ns e = any-changed q id (stood standing) (undone steps ns) (stood-id standing) ∙ stands q steps ns e
stands q (step.Started id ∷ steps) ns e = any-without q id (undone steps ns) (grind arith) ∙ stands q steps ns (grind arith)

any_there : (id : ℕ) (ns : List Note) (n : Note) → note_at id ns ≡ Some n → list_any (λ n. n.id == id) ns ≡ true
any_there id [] n e = cc
any_there id (x ∷ ns) n e = grind (arith, nat_tests, any_there id ns n)

there-more : (gone : List ℕ) (id : ℕ) (ns : List Note) → are_there gone ns ≡ true → list_any (λ n. n.id == id) ns ≡ true → are_there (gone ++ id ∷ []) ns ≡ true
there-more [] id ns e f = grind (arith, nat_tests)
there-more (g ∷ gone) id ns e f = grind (arith, nat_tests, there-more gone id ns)

-- one more is gone, which stands
pub there-gone : (gone : List ℕ) (id : ℕ) (steps : List Step) (ns : List Note) → are_there gone (undone steps ns) ≡ true → is_started id steps ≡ false → IsSome (note_at id (left gone ns)) → are_there (gone ++ id ∷ []) (undone steps ns) ≡ true
there-gone gone id steps ns e f some = by_row (note_at id (left gone ns)) refl some
  where
    by_row : (o : Option Note) → note_at id (left gone ns) ≡ o → IsSome o → are_there (gone ++ id ∷ []) (undone steps ns) ≡ true
    by_row None g some = cc
    by_row (Some n) g some = there-more gone id (undone steps ns) e (stands id steps ns f ∙ any_there id ns n (row-was gone id ns n g))

-- what stands is the same
pub there-still : (gone : List ℕ) (ns ms : List Note) → ms ≡ ns → are_there gone ns ≡ true → are_there gone ms ≡ true
there-still gone ns ms e f = ap (λ (z : List Note). are_there gone z) e ∙ f

-- One that is new leaves.

without-changed : (q id : ℕ) (f : Note → Note) (ns : List Note) → ((n : Note) → (f n).id ≡ n.id) → without_note q (with_note id f ns) ≡ with_note id f (without_note q ns)
without-changed q id f [] keeps = refl
without-changed q id f (n ∷ ns) keeps = grind (arith, nat_tests, keeps n, without-changed q id f ns keeps)

without-both : (q id : ℕ) (ns : List Note) → without_note q (without_note id ns) ≡ without_note id (without_note q ns)
without-both q id [] = refl
without-both q id (n ∷ ns) = grind (arith, nat_tests, without-both q id ns)

without-twice : (q : ℕ) (ns : List Note) → without_note q (without_note q ns) ≡ without_note q ns
without-twice q [] = refl
without-twice q (n ∷ ns) = grind (arith, nat_tests, without-twice q ns)

without-undone : (q : ℕ) (steps : List Step) (ns : List Note) → undone steps (without_note q ns) ≡ without_note q (undone steps ns)
without-undone q [] ns = refl
without-undone q (step.Event id ∷ steps) ns = ap (with_note id shortened) (without-undone q steps ns) ∙ sym (without-changed q id shortened (undone steps ns) shortened-id)
without-undone q (step.Popped id event ∷ steps) ns = ap (with_note id (given_back event)) (without-undone q steps ns) ∙ sym (without-changed q id (given_back event) (undone steps ns) (given-id event))
without-undone q (step.Stood id standing ∷ steps) ns = ap (with_note id (stood standing)) (without-undone q steps ns) ∙ sym (without-changed q id (stood standing) (undone steps ns) (stood-id standing))
without-undone q (step.Started id ∷ steps) ns = ap (without_note id) (without-undone q steps ns) ∙ sym (without-both q id (undone steps ns))

-- nor did it stand
pub new-leaves : (q : ℕ) (steps : List Step) (ns : List Note) → is_started q steps ≡ true → undone steps (without_note q ns) ≡ undone steps ns
new-leaves q [] ns e = cc
new-leaves q (step.Event id ∷ steps) ns e = ap (with_note id shortened) (new-leaves q steps ns e)
new-leaves q (step.Popped id event ∷ steps) ns e = ap (with_note id (given_back event)) (new-leaves q steps ns e)
new-leaves q (step.Stood id standing ∷ steps) ns e = ap (with_note id (stood standing)) (new-leaves q steps ns e)
new-leaves q (step.Started id ∷ steps) ns e = by_id (id == q) refl (λ f. new-leaves q steps ns f)
  where
    same : (a b : ℕ) → (a == b) ≡ true → a ≡ b
    same a b f = grind (arith, nat_tests)

    this : id ≡ q → without_note id (undone steps (without_note q ns)) ≡ without_note id (undone steps ns)
    this f = ap (λ (i : ℕ). without_note i (undone steps (without_note q ns))) f ∙ ap (without_note q) (without-undone q steps ns) ∙ without-twice q (undone steps ns) ∙ ap (λ (i : ℕ). without_note i (undone steps ns)) (sym f)

    by_id : (b : Bool) → (id == q) ≡ b → (is_started q steps ≡ true → undone steps (without_note q ns) ≡ undone steps ns) → without_note id (undone steps (without_note q ns)) ≡ without_note id (undone steps ns)
    by_id true f rest = this (same id q f)
    by_id false f rest = ap (without_note id) (rest (grind arith))

-- A new one.

low-gone : (id q : ℕ) (ns : List Note) → below id ns ≡ true → list_any (λ n. n.id == q) ns ≡ true → nat_lt q id ≡ true
low-gone id q [] low any = cc
low-gone id q (n ∷ ns) low any = grind (arith, nat_tests, low-gone id q ns)

low-there : (id q : ℕ) (gone : List ℕ) (ns : List Note) → below id ns ≡ true → are_there gone ns ≡ true → is_in gone q ≡ true → nat_lt q id ≡ true
low-there id q [] ns low e f = cc
low-there id q (g ∷ gone) ns low e f = grind (arith, nat_tests, low-gone id g ns, low-there id q gone ns)

-- ids that are below what is ahead and what stands are below all
pub below-all : (id : ℕ) (gone : List ℕ) (ns list : List Note) → below id list ≡ true → are_there gone list ≡ true → below id (left gone ns) ≡ true → below id ns ≡ true
below-all id gone [] list low e f = refl
below-all id gone (n ∷ ns) list low e f = grind (arith, nat_tests, low-there id n.id gone list, below-all id gone ns list)

not-gone : (id : ℕ) (gone : List ℕ) (list : List Note) → below id list ≡ true → are_there gone list ≡ true → is_in gone id ≡ false
not-gone id gone list low e = by_test (is_in gone id) refl
  where
    by_test : (b : Bool) → is_in gone id ≡ b → is_in gone id ≡ false
    by_test true f = grind (arith, nat_tests, low-there id id gone list low e f)
    by_test false f = f

new-left : (gone : List ℕ) (n : Note) → is_in gone n.id ≡ false → left gone (n ∷ []) ≡ n ∷ []
new-left gone n e = grind arith

pub left-new : (gone : List ℕ) (ns : List Note) (n : Note) (list : List Note) → below n.id list ≡ true → are_there gone list ≡ true → left gone (ns ++ n ∷ []) ≡ left gone ns ++ n ∷ []
left-new gone ns n list low e = left-append gone ns (n ∷ []) ∙ ap (λ (z : List Note). left gone ns ++ z) (new-left gone n (not-gone n.id gone list low e))

-- Both alike.

pub view-settled : (ns list : List Note) → ns ≡ list → record { list = ns; ahead = left [] ns } ≡ settled list
view-settled ns list e = ap (λ (z : List Note). record { list = ns; ahead = z }) (left-none ns) ∙ ap settled e

pub view-emptied : (steps : List Step) (gone : List ℕ) (ns list : List Note) → steps ≡ [] → gone ≡ [] → ns ≡ list → record { list = undone steps ns; ahead = left gone ns } ≡ settled list
view-emptied steps gone ns list e f g = rw (e, f) (view-settled ns list g)

pub settled-was : (s : Standing) → s.list ≡ s.ahead → settled s.ahead ≡ s
settled-was s e = ap (λ (z : List Note). record { list = z; ahead = s.ahead }) (sym e)

pub left-nobody : (gone : List ℕ) (ns : List Note) → (length gone == 0) ≡ true → length ns ≡ length (left gone ns)
left-nobody [] ns e = ap length (sym (left-none ns))
left-nobody (g ∷ gone) ns e = grind (arith, nat_tests)

-- Answers.

pub told-id : (what : Happening) (tuple : Tuple) (n : Note) → (told what tuple n).id ≡ n.id
told-id what tuple n = by_test (listens what tuple n)
  where
    by_test : (b : Bool) → (if b then queued (event_of what tuple) n else n).id ≡ n.id
    by_test true = refl
    by_test false = refl

pub shut-id : (last : Last) (n : Note) → (shut_note last n).id ≡ n.id
shut-id last n = by_test (is_open n.state)
  where
    by_test : (b : Bool) → (if b then closed last n else n).id ≡ n.id
    by_test true = refl
    by_test false = refl

pub given-same : (a b : Tree) → Some a ≡ Some b → popped.Event a ≡ popped.Event b
given-same a b e = cc

pub on-err : {A B : Type 0} (r : Result A B) (P : Type 0) → P → OnErr r P
on-err (Ok a) P p = tt
on-err (Err b) P p = p
