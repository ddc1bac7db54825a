-- What a step undoes.
use Rattle.std.proofs.Common.{◌≡◌, ℕ, ◌-◌, ◌+◌, Bool, true, false, ltb, List, [], ◌∷◌, ◌++◌, map, length, take, Option, Some, None, refl, ◌∙◌, ap, arith}
use Rattle.std.specs.Prelude.{if◌then◌else◌, ◌==◌, filter}
use Rattle.std.specs.List.{list_all}
use Rattle.std.proofs.lemmas.Bool.Decides.{nat_tests}
use Rattle.drb_tree.specs.declared.Tree.{Tree}
use Rattle.rinda_tuple.specs.declared.tuple.Tuple.{Tuple}
use Rattle.rinda_rules.specs.declared.object.Last.{Last}
use Rattle.rinda_rules.specs.declared.plain.Happening.{Happening}
use Rattle.rinda_rules.specs.Rows.{row_of, changed, rising}
use Rattle.rinda_rules.specs.Space.{text_of}
use Rattle.rinda_effects.specs.Ages.{changed_all}
use Rattle.rinda_notify.specs.declared.note.Note.{Note}
use Rattle.rinda_notify.specs.declared.step.Step.{Step}
use Rattle.rinda_notify.specs.declared.step.Step.TheVariants as step
use Rattle.drb_tree.specs.declared.Remote.{Remote}
use Rattle.rinda_notify.specs.Notes.{note_at, with_note, without_note, without_last, queued, told, listens_to, event_of, closed, shut_note, is_open, first, rest, first_at, advanced, renewed, answered, doubted, asked}
use Rattle.rinda_notify.specs.Undoing.{undo, undone, shortened, given_back, stood, standing_of, noted}
use Rattle.rinda_notify.specs.Tables.{below, listeners, running}

undone-append : (xs ys : List Step) (notes : List Note) → undone (xs ++ ys) notes ≡ undone xs (undone ys notes)
undone-append [] ys notes = refl
undone-append (x ∷ xs) ys notes = ap (undo x) (undone-append xs ys notes)

-- what was done to each row with an id is taken back
each_back : {R : Type 0} (key : R → ℕ) (id : ℕ) (f g : R → R) (xs : List R) → ((x : R) → key (f x) ≡ key x) → ((x : R) → g (f x) ≡ x) → changed key id g (changed key id f xs) ≡ xs
each_back key id f g [] keeps back = refl
each_back key id f g (x ∷ xs) keeps back = grind (arith, nat_tests, keeps x, back x, each_back key id f g xs keeps back)

none-above : {R : Type 0} (key : R → ℕ) (id : ℕ) (f : R → R) (xs : List R) → list_all (λ later. ltb id (key later)) xs ≡ true → changed key id f xs ≡ xs
none-above key id f [] e = refl
none-above key id f (x ∷ xs) e = grind (arith, nat_tests, none-above key id f xs)

-- what was done to the one row with an id is taken back
changed-back : {R : Type 0} (key : R → ℕ) (id : ℕ) (f g : R → R) (xs : List R) (r : R) → ((x : R) → key (f x) ≡ key x) → rising key xs ≡ true → row_of key id xs ≡ Some r → g (f r) ≡ r → changed key id g (changed key id f xs) ≡ xs
changed-back key id f g [] r keeps up there back = refl
changed-back {R = R} key id f g (x ∷ xs) r keeps up there back = by_id (key x == id) refl (λ up there. changed-back key id f g xs r keeps up there back)
  where
    by_id : (b : Bool) → (key x == id) ≡ b → (rising key xs ≡ true → row_of key id xs ≡ Some r → changed key id g (changed key id f xs) ≡ xs) → changed key id g (changed key id f (x ∷ xs)) ≡ x ∷ xs
    by_id true e rest = grind (arith, nat_tests, keeps x, none-above key id f xs, none-above key id g xs, back)
    by_id false e rest = grind (arith, nat_tests, keeps x, rest)

changed-absent : {R : Type 0} (key : R → ℕ) (id : ℕ) (f : R → R) (xs : List R) → row_of key id xs ≡ None → changed key id f xs ≡ xs
changed-absent key id f [] e = refl
changed-absent key id f (x ∷ xs) e = grind (arith, nat_tests, changed-absent key id f xs)

without_last-push : (es : List Tree) (e : Tree) → without_last (es ++ e ∷ []) ≡ es
without_last-push es e = ap (λ (n : ℕ). take (n - 1) (es ++ e ∷ [])) (long es) ∙ taken es
  where
    long : (es : List Tree) → length (es ++ e ∷ []) ≡ length es + 1
    long [] = refl
    long (x ∷ xs) = grind (arith, long xs)

    drop_one : (n : ℕ) → n + 1 - 1 ≡ n
    drop_one n = omega arith

    all : (es : List Tree) → take (length es) (es ++ e ∷ []) ≡ es
    all [] = refl
    all (x ∷ xs) = ap (λ (ys : List Tree). x ∷ ys) (all xs)

    taken : (es : List Tree) → take (length es + 1 - 1) (es ++ e ∷ []) ≡ es
    taken es = ap (λ (n : ℕ). take n (es ++ e ∷ [])) (drop_one (length es)) ∙ all es

shortened-queued : (e : Tree) (n : Note) → shortened (queued e n) ≡ n
shortened-queued e n = ap (λ (q : List Tree). record n { queue = q }) (without_last-push n.queue e)

-- An event was queued.
pub undone-queued : (steps : List Step) (id : ℕ) (e : Tree) (notes : List Note) → undone (steps ++ step.Event id ∷ []) (with_note id (queued e) notes) ≡ undone steps notes
undone-queued steps id e notes =
    undone-append steps (step.Event id ∷ []) (with_note id (queued e) notes)
    ∙ ap (undone steps) (each_back (λ (n : Note). n.id) id (queued e) shortened notes (λ n. refl) (shortened-queued e))

-- It keeps the id, and what stood before takes it back.
pub record Changes (f : Note → Note) : Type 0 where
  pub id : (n : Note) → (f n).id ≡ n.id
  pub back : (n : Note) → stood (standing_of n) (f n) ≡ n

noted-changed : (id : ℕ) (f : Note → Note) (steps : List Step) (notes : List Note) (o : Option Note) → Changes f → rising (λ n. n.id) notes ≡ true → note_at id notes ≡ o → undone (noted id o steps) (with_note id f notes) ≡ undone steps notes
noted-changed id f steps notes None k up there = ap (undone steps) (changed-absent (λ (n : Note). n.id) id f notes there)
noted-changed id f steps notes (Some n) k up there =
    undone-append steps (step.Stood id (standing_of n) ∷ []) (with_note id f notes)
    ∙ ap (undone steps) (changed-back (λ (n : Note). n.id) id f (stood (standing_of n)) notes n k.id up there (k.back n))

-- A notifier changed, and how it stood was kept.
pub undone-changed : (id : ℕ) (f : Note → Note) (steps : List Step) (notes : List Note) → Changes f → rising (λ n. n.id) notes ≡ true → undone (noted id (note_at id notes) steps) (with_note id f notes) ≡ undone steps notes
undone-changed id f steps notes k up = noted-changed id f steps notes (note_at id notes) k up refl

pub changes-close : (last : Last) → Changes (closed last)
changes-close last = record { id = λ n. refl; back = λ n. refl }

pub changes-renew : (deadline : Option ℕ) (renewer : Option Remote) → Changes (renewed deadline renewer)
changes-renew deadline renewer = record { id = λ n. refl; back = λ n. refl }

pub changes-answer : (deadline : Option ℕ) (now : ℕ) → Changes (answered deadline now)
changes-answer deadline now = record { id = λ n. refl; back = λ n. refl }

pub changes-doubt : Changes doubted
changes-doubt = record { id = λ n. refl; back = λ n. refl }

pub changes-ask : Changes asked
changes-ask = record { id = λ n. refl; back = λ n. refl }

given-rest : (e : Tree) (q : List Tree) → first q ≡ Some e → e ∷ rest q ≡ q
given-rest e [] f = cc
given-rest e (x ∷ xs) f = grind arith

first-there : (e : Tree) (o : Option Note) → first_at o ≡ Some e → (n : Note) × (o ≡ Some n) × (first n.queue ≡ Some e)
first-there e None f = cc
first-there e (Some n) f = (n, refl, f)

-- The first event left a queue.
pub undone-popped : (steps : List Step) (id : ℕ) (e : Tree) (notes : List Note) → rising (λ n. n.id) notes ≡ true → first_at (note_at id notes) ≡ Some e → undone (steps ++ step.Popped id e ∷ []) (with_note id advanced notes) ≡ undone steps notes
undone-popped steps id e notes up f =
    let t = first-there e (note_at id notes) f in
    undone-append steps (step.Popped id e ∷ []) (with_note id advanced notes)
    ∙ ap (undone steps) (changed-back (λ (n : Note). n.id) id advanced (given_back e) notes t.0 (λ n. refl) up t.1 (ap (λ (q : List Tree). record t.0 { queue = q }) (given-rest e (t.0).queue t.2)))

without-last : (ns : List Note) (n : Note) → below n.id ns ≡ true → without_note n.id (ns ++ n ∷ []) ≡ ns
without-last [] n low = grind (arith, nat_tests)
without-last (x ∷ xs) n low = grind (arith, nat_tests, without-last xs n)

-- A notifier came behind all others.
pub undone-started : (steps : List Step) (n : Note) (notes : List Note) → below n.id notes ≡ true → undone (steps ++ step.Started n.id ∷ []) (notes ++ n ∷ []) ≡ undone steps notes
undone-started steps n notes low =
    undone-append steps (step.Started n.id ∷ []) (notes ++ n ∷ [])
    ∙ ap (undone steps) (without-last notes n low)

-- Steps that lead back to what was there are undone with what was undone before.
pub undone-more : (xs ys : List Step) (notes before : List Note) → undone ys notes ≡ before → undone (xs ++ ys) notes ≡ undone xs before
undone-more xs ys notes before e = undone-append xs ys notes ∙ ap (undone xs) e

pub undone-last : (xs : List Step) (s : Step) (notes : List Note) → undone (xs ++ s ∷ []) notes ≡ undone xs (undo s notes)
undone-last xs s notes = undone-append xs (s ∷ []) notes

-- Each row that passes a test is changed, one after the other by its id.

skips : {R : Type 0} (key : R → ℕ) (f : R → R) (ids : List ℕ) (x : R) (xs : List R) → list_all (λ i. ltb (key x) i) ids ≡ true → changed_all key f ids (x ∷ xs) ≡ x ∷ changed_all key f ids xs
skips key f [] x xs e = refl
skips key f (i ∷ is) x xs e = grind (arith, nat_tests, skips key f is x (changed key i f xs))

later_ids : {R : Type 0} (key : R → ℕ) (q : R → Bool) (k : ℕ) (xs : List R) → list_all (λ y. ltb k (key y)) xs ≡ true → list_all (λ i. ltb k i) (map key (filter q xs)) ≡ true
later_ids key q k [] e = refl
later_ids key q k (x ∷ xs) e = grind (arith, nat_tests, later_ids key q k xs)

unchanged : {R : Type 0} (key : R → ℕ) (k : ℕ) (f : R → R) (xs : List R) → list_all (λ y. ltb k (key y)) xs ≡ true → changed key k f xs ≡ xs
unchanged key k f [] e = refl
unchanged key k f (x ∷ xs) e = grind (arith, nat_tests, unchanged key k f xs)

each_changed : {R : Type 0} (key : R → ℕ) (q : R → Bool) (f : R → R) (xs : List R) → ((x : R) → key (f x) ≡ key x) → rising key xs ≡ true → changed_all key f (map key (filter q xs)) xs ≡ map (λ x. if q x then f x else x) xs
each_changed key q f [] keeps up = refl
each_changed key q f (x ∷ xs) keeps up = grind (arith, nat_tests, keeps x, unchanged key (key x) f xs, later_ids key q (key x) xs, skips key f (map key (filter q xs)) (f x) xs, skips key f (map key (filter q xs)) x xs, each_changed key q f xs keeps)

-- What is raised is queued at one listener after the other.
pub told_all : (what : Happening) (tuple : Tuple) (notes : List Note) → rising (λ n. n.id) notes ≡ true → changed_all (λ n. n.id) (queued (event_of what tuple)) (listeners (text_of what) tuple notes) notes ≡ map (told what tuple) notes
told_all what tuple notes up = each_changed (λ (n : Note). n.id) (listens_to (text_of what) tuple) (queued (event_of what tuple)) notes (λ n. refl) up

-- Those that run are closed, one after the other.
pub shut_all : (last : Last) (notes : List Note) → rising (λ n. n.id) notes ≡ true → changed_all (λ n. n.id) (closed last) (running notes) notes ≡ map (shut_note last) notes
shut_all last notes up = each_changed (λ (n : Note). n.id) (λ n. is_open n.state) (closed last) notes (λ n. refl) up
