-- What a loop has so far, before what it has still to read.
use Rattle.std.proofs.Common.{◌≡◌, ℕ, suc, ◌+◌, ◌-◌, ◌≤◌, ◌<◌, List, [], ◌∷◌, ◌++◌, length, length-append, refl, sym, ◌∙◌, ap, append_assoc, arith}
use Rattle.std.specs.Prelude.{Option, Some, None}
use Rattle.std.proofs.lemmas.List.{append-nil}
use Rattle.drb_tree.specs.declared.Tree.{Tree}
use Rattle.rinda_rules.specs.declared.turn.Pick.{Pick}
use Rattle.rinda_journal.specs.declared.field.Field.{Field}
use Rattle.rinda_journal.specs.Parsers.{Left, on, gives, ◌>>=◌}
use Rattle.rinda_journal.specs.Reading.{next_value, values_of, number_in, pick_of, pick_before, picks_in, before}

-- a list before another, where that is there
abbrev pub joined : {A : Type 0} → List A → Option (List A) → Option (List A)
joined xs None = None
joined xs (Some ys) = Some (xs ++ ys)

pub joined_none : {A : Type 0} → (o : Option (List A)) → o ≡ joined [] o
joined_none None = refl
joined_none (Some ys) = refl

-- Picks.

joined_pick : (xs : List Pick) (p : Pick) (o : Option (List Pick)) → joined xs (pick_before (Some p) o) ≡ joined (xs ++ p ∷ []) o
joined_pick xs p None = refl
joined_pick xs p (Some ys) = ap (λ (zs : List Pick). Some zs) (sym (append_assoc xs (p ∷ []) ys))

-- a pick more
pub picks_more : (all : Option (List Pick)) (xs ys : List Pick) (a b : Field) (fs : List Field) (p : Pick) → pick_of (number_in a) (number_in b) ≡ Some p → ys ≡ xs ++ p ∷ [] → all ≡ joined xs (picks_in (a ∷ b ∷ fs)) → all ≡ joined ys (picks_in fs)
picks_more all xs ys a b fs p e s h = h ∙ ap (λ (q : Option Pick). joined xs (pick_before q (picks_in fs))) e ∙ joined_pick xs p (picks_in fs) ∙ ap (λ (zs : List Pick). joined zs (picks_in fs)) (sym s)

-- no pick there
pub picks_stop : (all : Option (List Pick)) (xs : List Pick) (a b : Field) (fs : List Field) → pick_of (number_in a) (number_in b) ≡ None → all ≡ joined xs (picks_in (a ∷ b ∷ fs)) → all ≡ None
picks_stop all xs a b fs e h = h ∙ ap (λ (q : Option Pick). joined xs (pick_before q (picks_in fs))) e

pub picks_done : (all : Option (List Pick)) (xs : List Pick) (fs : List Field) → fs ≡ [] → all ≡ joined xs (picks_in fs) → all ≡ Some xs
picks_done all xs fs e h = h ∙ ap (λ (gs : List Field). joined xs (picks_in gs)) e ∙ ap (λ (ys : List Pick). Some ys) (append-nil xs)

-- Values.

-- values before those that are still to be read
abbrev pub followed : List Tree → Option (List Tree × Left) → Option (List Tree × Left)
followed xs None = None
followed xs (Some r) = Some (xs ++ r.0, r.1)

pub followed_none : (o : Option (List Tree × Left)) → o ≡ followed [] o
followed_none None = refl
followed_none (Some r) = refl

followed_one : (xs : List Tree) (v : Tree) (o : Option (List Tree × Left)) → followed xs (on o (λ (us : List Tree). gives (v ∷ us))) ≡ followed (xs ++ v ∷ []) o
followed_one xs v None = refl
followed_one xs v (Some r) = ap (λ (zs : List Tree). Some (zs, r.1)) (sym (append_assoc xs (v ∷ []) r.0))

one_less : (n m : ℕ) → m < n → n - m ≡ suc (n - (m + 1))
one_less n m h = omega arith

-- a value more
pub values_more : (all : Option (List Tree × Left)) (n : ℕ) (xs ys : List Tree) (v : Tree) (a b : Left) → length xs < n → next_value a ≡ Some (v, b) → ys ≡ xs ++ v ∷ [] → all ≡ followed xs (values_of (n - length xs) a) → all ≡ followed ys (values_of (n - length ys) b)
values_more all n xs ys v a b lt e s h =
    let l : length ys ≡ length xs + 1 = ap length s ∙ length-append xs (v ∷ []) in
    h ∙ ap (λ (m : ℕ). followed xs (values_of m a)) (one_less n (length xs) lt)
    ∙ ap (λ (o : Option (Tree × Left)). followed xs (on o (λ (u : Tree). values_of (n - (length xs + 1)) >>= (λ (us : List Tree). gives (u ∷ us))))) e
    ∙ followed_one xs v (values_of (n - (length xs + 1)) b)
    ∙ ap (λ (zs : List Tree). followed zs (values_of (n - (length xs + 1)) b)) (sym s)
    ∙ ap (λ (m : ℕ). followed ys (values_of (n - m) b)) (sym l)

-- no value there
pub values_stop : (all : Option (List Tree × Left)) (n : ℕ) (xs : List Tree) (a : Left) → length xs < n → next_value a ≡ None → all ≡ followed xs (values_of (n - length xs) a) → all ≡ None
values_stop all n xs a lt e h =
    h ∙ ap (λ (m : ℕ). followed xs (values_of m a)) (one_less n (length xs) lt)
    ∙ ap (λ (o : Option (Tree × Left)). followed xs (on o (λ (u : Tree). values_of (n - (length xs + 1)) >>= (λ (us : List Tree). gives (u ∷ us))))) e

-- all are there
pub values_done : (all : Option (List Tree × Left)) (n : ℕ) (xs : List Tree) (a : Left) → n ≤ length xs → all ≡ followed xs (values_of (n - length xs) a) → all ≡ Some (xs, a)
values_done all n xs a le h =
    let z : n - length xs ≡ 0 = omega arith in
    h ∙ ap (λ (m : ℕ). followed xs (values_of m a)) z ∙ ap (λ (zs : List Tree). Some (zs, a)) (append-nil xs)

-- Fields.

joined_field : (xs : List Field) (f : Field) (o : Option (List Field)) → joined xs (before (Some f) o) ≡ joined (xs ++ f ∷ []) o
joined_field xs f None = refl
joined_field xs f (Some ys) = ap (λ (zs : List Field). Some zs) (sym (append_assoc xs (f ∷ []) ys))
