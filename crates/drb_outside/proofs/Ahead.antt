-- Bytes that were read ahead, and those behind them.
use Rattle.std.proofs.Common.{◌≡◌, ℕ, ◌+◌, ◌-◌, ◌≤◌, ◌<◌, min, List, [], ◌∷◌, ◌++◌, length, take, drop, refl, sym, ◌∙◌, ap, subst, append_assoc, arith}
use Rattle.std.proofs.lemmas.Grind.{common_steps}
use Rattle.std.proofs.lemmas.List.{append-nil}
use Rattle.std.specs.Prelude.{None, Some, Ok, Err}
use Rattle.std.specs.declared.option.Option.{Option}
use Rattle.std.specs.declared.result.Result.{Result}
use Rattle.drb_outside.specs.Told.{Told, ReadTakes}
use Rattle.drb_outside.specs.Buffers.{held, in_front}

pub held_none : (buffer : List ℕ) (at end : ℕ) → end ≤ at → held buffer at end ≡ []
held_none buffer at end e = grind (arith, common_steps)

pub held_first : (buffer : List ℕ) (n : ℕ) → held buffer 0 n ≡ take n buffer
held_first buffer n = grind (arith, common_steps)

moved_at : {E : Type 0} (r : Result ℕ E) (n : ℕ) (h h' chunk x y : List ℕ) → h ≡ [] → r ≡ Ok n → h' ≡ take n chunk → ReadTakes r chunk x y → h' ++ y ≡ h ++ x
moved_at {E = E} r n h h' chunk x y e is f t =
    let k : ReadTakes {E = E} (Ok n) chunk x y = subst (λ (v : Result ℕ E). ReadTakes v chunk x y) is t in
    ap (λ q. q ++ y) f ∙ sym k.0 ∙ ap (λ q. q ++ x) (sym e)

-- a read of the inner source moves bytes from behind to the front
pub told_moved : {E : Type 0} (r : Result ℕ E) (n : ℕ) (h h' chunk : List ℕ) (a b : Option (List ℕ)) (m : ℕ) → h ≡ [] → r ≡ Ok n → h' ≡ take n chunk → Told a b m (ReadTakes r chunk) → Told (in_front h a) (in_front h' b) m (λ x y. y ≡ x)
told_moved r n h h' chunk None None m e is f t = tt
told_moved r n h h' chunk None (Some y) m e is f t = absurd t
told_moved r n h h' chunk (Some x) None m e is f t = t
told_moved r n h h' chunk (Some x) (Some y) m e is f t = moved_at r n h h' chunk x y e is f t

empty_at : {E : Type 0} (r : Result ℕ E) (n : ℕ) (h h' chunk x y : List ℕ) → h ≡ [] → r ≡ Ok n → 0 < length chunk → n ≤ length chunk → h' ≡ take n chunk → ReadTakes r chunk x y → h' ≡ [] → h ++ x ≡ []
empty_at {E = E} r n h h' chunk x y e is some le f t none =
    let k : ReadTakes {E = E} (Ok n) chunk x y = subst (λ (v : Result ℕ E). ReadTakes v chunk x y) is t in
    let l : length (take n chunk) ≡ 0 = ap length (sym f ∙ none) in
    let z : n ≡ 0 = grind (arith, common_steps, l) in
    ap (λ q. q ++ x) e ∙ k.1 z some

-- nothing was held and nothing came: there is nothing
pub told_empty : {E : Type 0} (r : Result ℕ E) (n : ℕ) (h h' chunk : List ℕ) (a b : Option (List ℕ)) (m : ℕ) → h ≡ [] → r ≡ Ok n → 0 < length chunk → n ≤ length chunk → h' ≡ take n chunk → Told a b m (ReadTakes r chunk) → Told (in_front h a) (in_front h' b) m (λ x y. h' ≡ [] → x ≡ [])
told_empty r n h h' chunk None None m e is some le f t = tt
told_empty r n h h' chunk None (Some y) m e is some le f t = absurd t
told_empty r n h h' chunk (Some x) None m e is some le f t = t
told_empty r n h h' chunk (Some x) (Some y) m e is some le f t = λ none. empty_at r n h h' chunk x y e is some le f t none

failed_at : {E : Type 0} (r : Result ℕ E) (e : E) (h h' chunk x y : List ℕ) → h ≡ [] → h' ≡ [] → r ≡ Err e → ReadTakes r chunk x y → h' ++ y ≡ h ++ x
failed_at {E = E} r e h h' chunk x y p q is t =
    let k : ReadTakes {E = E} (Err e) chunk x y = subst (λ (v : Result ℕ E). ReadTakes v chunk x y) is t in
    ap (λ w. w ++ y) q ∙ k ∙ ap (λ w. w ++ x) (sym p)

pub told_failed : {E : Type 0} (r : Result ℕ E) (e : E) (h h' chunk : List ℕ) (a b : Option (List ℕ)) (m : ℕ) → h ≡ [] → h' ≡ [] → r ≡ Err e → Told a b m (ReadTakes r chunk) → Told (in_front h a) (in_front h' b) m (λ x y. y ≡ x)
told_failed r e h h' chunk None None m p q is t = tt
told_failed r e h h' chunk None (Some y) m p q is t = absurd t
told_failed r e h h' chunk (Some x) None m p q is t = t
told_failed r e h h' chunk (Some x) (Some y) m p q is t = failed_at r e h h' chunk x y p q is t

-- what stays, and what is told, by the inner source
pub told_inner : (P : Type 0) (h h' : List ℕ) (a b : Option (List ℕ)) (m : ℕ) → Told a b m (λ _ _. P) → Told (in_front h a) (in_front h' b) m (λ _ _. P)
told_inner P h h' None None m t = tt
told_inner P h h' None (Some y) m t = absurd t
told_inner P h h' (Some x) None m t = t
told_inner P h h' (Some x) (Some y) m t = t

given_at : (n : ℕ) (h h' buf x : List ℕ) → h ≡ take n buf ++ h' → h ++ x ≡ take n buf ++ (h' ++ x)
given_at n h h' buf x e = ap (λ q. q ++ x) e ∙ append_assoc (take n buf) h' x

-- Bytes that were held are given: it is a read of the whole.
pub told_given : (E : Type 0) (n : ℕ) (h h' buf : List ℕ) (a : Option (List ℕ)) (m : ℕ) → h ≡ take n buf ++ h' → (n ≡ 0 → 0 < length buf → h ≡ []) → Told (in_front h a) (in_front h a) m (λ x _. h ≡ [] → x ≡ []) → Told (in_front h a) (in_front h' a) m (ReadTakes {E = E} (Ok n) buf)
told_given E n h h' buf None m e none t = tt
told_given E n h h' buf (Some x) m e none t = (given_at n h h' buf x e, λ z some. t (none z some))
