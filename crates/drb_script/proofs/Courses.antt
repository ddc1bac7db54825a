-- Laws on courses.
use Rattle.std.proofs.Common.{◌≡◌, ℕ, zero, suc, ◌<◌, ◌≤◌, List, length, refl, ap, arith}
use Rattle.std.specs.Prelude.{None, Some}
use Rattle.std.specs.declared.option.Option.{Option}
use Rattle.drb_script.specs.Acting.{Answer, Course, does, holds, replied, wants, lost, strange, Acting, on, found_or, tries, repeat}

-- one after another, however they are grouped
pub on_on : {A B C : Type 0} (q : Course A) (f : A → Acting B) (g : B → Acting C) →
    on (on q f) g ≡ on q (λ a rest. on (f a rest) g)
on_on (does d q) f g = ap (λ r. does d r) (on_on q f g)
on_on (holds a rest) f g = refl
on_on (replied r rest) f g = refl
on_on (wants loose d) f g = refl
on_on (lost loose rest) f g = refl
on_on strange f g = refl

-- fewer answers than so many are left
abbrev pub Within : {A : Type 0} → ℕ → Course A → Type 0
Within k (does d q) = Within k q
Within k (holds a rest) = length rest < k
Within k (replied r rest) = Unit {0}
Within k (wants loose d) = Unit {0}
Within k (lost loose rest) = Unit {0}
Within k strange = Unit {0}

-- each time it takes an answer
abbrev pub Shrinks : {A : Type 0} → Acting A → Type 0
Shrinks p = (answers : List Answer) → Within (length answers) (p answers)

pub within_more : {A : Type 0} (j k : ℕ) (q : Course A) → j ≤ k → Within j q → Within k q
within_more j k (does d q) le h = within_more j k q le h
within_more j k (holds a rest) le h = omega arith
within_more j k (replied r rest) le h = tt
within_more j k (wants loose d) le h = tt
within_more j k (lost loose rest) le h = tt
within_more j k strange le h = tt

pub on_within : {A B : Type 0} (k : ℕ) (q : Course A) (f g : A → Acting B) → Within k q →
    ((a : A) (rest : List Answer) → length rest < k → f a rest ≡ g a rest) → on q f ≡ on q g
on_within k (does d q) f g h e = ap (λ r. does d r) (on_within k q f g h e)
on_within k (holds a rest) f g h e = e a rest h
on_within k (replied r rest) f g h e = refl
on_within k (wants loose d) f g h e = refl
on_within k (lost loose rest) f g h e = refl
on_within k strange f g h e = refl

pub on_same : {A B : Type 0} (q : Course A) (f g : A → Acting B) →
    ((a : A) (rest : List Answer) → f a rest ≡ g a rest) → on q f ≡ on q g
on_same (does d q) f g e = ap (λ r. does d r) (on_same q f g e)
on_same (holds a rest) f g e = e a rest
on_same (replied r rest) f g e = refl
on_same (wants loose d) f g e = refl
on_same (lost loose rest) f g e = refl
on_same strange f g e = refl

pub on_shrinks : {A B : Type 0} (k : ℕ) (q : Course A) (f : A → Acting B) → Within k q →
    ((a : A) (rest : List Answer) → length rest < k → Within k (f a rest)) → Within k (on q f)
on_shrinks k (does d q) f h e = on_shrinks k q f h e
on_shrinks k (holds a rest) f h e = e a rest h
on_shrinks k (replied r rest) f h e = tt
on_shrinks k (wants loose d) f h e = tt
on_shrinks k (lost loose rest) f h e = tt
on_shrinks k strange f h e = tt

found_same : {A : Type 0} (p q : Acting A) (o : Option A) (rest : List Answer) → p rest ≡ q rest →
    found_or p o rest ≡ found_or q o rest
found_same p q None rest e = e
found_same p q (Some a) rest e = refl

tries_same : {A : Type 0} (p : Acting (Option A)) → Shrinks p → (m n : ℕ) (answers : List Answer) →
    length answers < m → length answers < n → tries m p answers ≡ tries n p answers
tries_same p s zero n answers h k = absurd (omega arith)
tries_same p s (suc m) zero answers h k = absurd (omega arith)
tries_same p s (suc m) (suc n) answers h k =
    on_within (length answers) (p answers) (found_or (tries m p)) (found_or (tries n p)) (s answers)
    (λ o rest lt. found_same (tries m p) (tries n p) o rest
    (tries_same p s m n rest (omega arith) (omega arith)))

-- the first time, and then again where nothing was found
pub repeat_once : {A : Type 0} (p : Acting (Option A)) → Shrinks p → (answers : List Answer) →
    repeat p answers ≡ on (p answers) (found_or (repeat p))
unfolding repeat
repeat_once p s answers =
    on_within (length answers) (p answers) (found_or (tries (length answers) p))
    (found_or (repeat p)) (s answers)
    (λ o rest lt. found_same (tries (length answers) p) (repeat p) o rest
    (tries_same p s (length answers) (suc (length rest)) rest lt (omega arith)))

found_within : {A : Type 0} (k : ℕ) (p : Acting A) (o : Option A) (rest : List Answer) →
    Within k (p rest) → length rest < k → Within k (found_or p o rest)
found_within k p None rest h lt = h
found_within k p (Some a) rest h lt = lt

tries_shrinks : {A : Type 0} (p : Acting (Option A)) → Shrinks p → (n : ℕ) (answers : List Answer) →
    Within (length answers) (tries n p answers)
tries_shrinks p s zero answers = tt
tries_shrinks p s (suc n) answers =
    on_shrinks (length answers) (p answers) (found_or (tries n p)) (s answers)
    (λ o rest lt. found_within (length answers) (tries n p) o rest
    (within_more (length rest) (length answers) (tries n p rest) (omega arith)
    (tries_shrinks p s n rest)) lt)

pub repeat_shrinks : {A : Type 0} (p : Acting (Option A)) → Shrinks p → Shrinks (repeat p)
unfolding repeat
repeat_shrinks p s answers = tries_shrinks p s (suc (length answers)) answers
