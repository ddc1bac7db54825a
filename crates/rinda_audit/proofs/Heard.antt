-- What is left of a queue, one event further.
use Rattle.std.proofs.Common.{◌≡◌, ℕ, zero, suc, ◌+◌, ◌-◌, ◌<◌, Bool, true, false, cond, ◌&&◌, List, [], ◌∷◌, ◌++◌, map, drop, length, get_or, append_assoc, refl, sym, ap, ◌∙◌, arith}
use Rattle.std.specs.Prelude.{filter, ◌==◌}
use Rattle.std.proofs.lemmas.List.{at_drop_more}

-- one fewer is left to skip where this one counts
one_further : {A : Type 0} (b : Bool) (left : ℕ) (y : A) (ys : List A) → (b && left == 0) ≡ false → drop left (cond b (y ∷ ys) ys) ≡ drop (cond b (left - 1) left) ys
one_further false left y ys h = refl
one_further true zero y ys h = cc
one_further true (suc left) y ys h = ap (λ (k : ℕ). drop k ys) (omega arith)

pub heard_further : {A : Type 0} (p : A → Bool) (xs : List A) (i left : ℕ) (x : A) (heard : Bool) → i < length xs → x ≡ get_or xs i x → heard ≡ p x → (heard && left == 0) ≡ false → drop left (filter p (drop i xs)) ≡ drop (cond heard (left - 1) left) (filter p (drop (i + 1) xs))
heard_further {A = A} p xs i left x heard h e same more =
    at_drop_more (λ (ys : List A). drop left (filter p ys)) xs i x h
    ∙ ap (λ (y : A). drop left (filter p (y ∷ drop (i + 1) xs))) (sym e)
    ∙ ap (λ (b : Bool). drop left (cond b (x ∷ filter p (drop (i + 1) xs)) (filter p (drop (i + 1) xs)))) (sym same)
    ∙ one_further heard left x (filter p (drop (i + 1) xs)) more

none_to_skip : {A : Type 0} (b : Bool) (left : ℕ) (y : A) (ys : List A) → b ≡ true → left ≡ 0 → drop left (cond b (y ∷ ys) ys) ≡ y ∷ ys
none_to_skip true zero y ys b l = refl
none_to_skip true (suc left) y ys b l = cc
none_to_skip false left y ys b l = cc

-- the next one that is heard is given, where none is left to skip
pub given_further : {A B : Type 0} (p : A → Bool) (f : A → B) (xs : List A) (i left left' : ℕ) (x : A) (heard : Bool) (given given' : List B) → i < length xs → x ≡ get_or xs i x → heard ≡ p x → heard ≡ true → left ≡ 0 → given' ≡ given ++ f x ∷ [] → left' ≡ left
    → given ++ map f (drop left (filter p (drop i xs))) ≡ given' ++ map f (drop left' (filter p (drop (i + 1) xs)))
given_further {A = A} {B = B} p f xs i left left' x heard given given' h e same is_heard none made stays =
    let later : List A = filter p (drop (i + 1) xs) in
    ap (λ (ys : List A). given ++ map f ys) (at_drop_more (λ (ys : List A). drop left (filter p ys)) xs i x h
    ∙ ap (λ (y : A). drop left (filter p (y ∷ drop (i + 1) xs))) (sym e)
    ∙ ap (λ (b : Bool). drop left (cond b (x ∷ later) later)) (sym same)
    ∙ none_to_skip heard left x later is_heard none)
    ∙ sym (append_assoc given (f x ∷ []) (map f later))
    ∙ ap (λ (front : List B). front ++ map f later) (sym made)
    ∙ ap (λ (k : ℕ). given' ++ map f (drop k later)) (sym (stays ∙ none))

-- one that is not heard, or is skipped, is not given
pub passed_further : {A B : Type 0} (p : A → Bool) (f : A → B) (xs : List A) (i left left' : ℕ) (x : A) (heard : Bool) (given given' : List B) → i < length xs → x ≡ get_or xs i x → heard ≡ p x → (heard && left == 0) ≡ false → given' ≡ given → left' ≡ cond heard (left - 1) left
    → given ++ map f (drop left (filter p (drop i xs))) ≡ given' ++ map f (drop left' (filter p (drop (i + 1) xs)))
passed_further {A = A} {B = B} p f xs i left left' x heard given given' h e same more keeps skips =
    let later : List A = filter p (drop (i + 1) xs) in
    ap (λ (ys : List A). given ++ map f ys) (heard_further p xs i left x heard h e same more)
    ∙ ap (λ (front : List B). front ++ map f (drop (cond heard (left - 1) left) later)) (sym keeps)
    ∙ ap (λ (k : ℕ). given' ++ map f (drop k later)) (sym skips)
