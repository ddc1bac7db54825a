-- The first of those who will come.
use Prim.Native.Nat.{zero, suc}
use Rattle.std.proofs.Common.{◌≡◌, ◌∙◌, ℕ, ◌-◌, Bool, false, List, [], ◌∷◌, take, Ok, refl, sym, subst, ap, arith}
use Rattle.std.specs.Prelude.{◌==◌, None, Some}
use Rattle.std.specs.declared.option.Option.{Option}
use Rattle.std.specs.declared.result.Result.{Result}
use Rattle.drb_outside.specs.Told.{Told}
use Rattle.drb_doors.specs.Coming.{Comes, first_told, is_used_up, one_fewer}

take_none : {G : Type 0} (m : ℕ) (xs : List G) → xs ≡ [] → take m xs ≡ []
take_none zero xs e = refl
take_none (suc k) xs e = ap (take (suc k)) e

take_front : {G : Type 0} (m : ℕ) (x : G) (xs : List G) → (m == 0) ≡ false → take m (x ∷ xs) ≡ x ∷ take (m - 1) xs
take_front zero x xs e = absurd cc
take_front (suc k) x xs e = let less : suc k - 1 ≡ k = omega arith in ap (λ (j : ℕ). x ∷ take j xs) (sym less)

first_comes : {G : Type 0} (E : Type 0) (left : Option ℕ) (guest : G) (old new : Option (List G)) (n : ℕ) → is_used_up left ≡ false → Told old new n (Comes {G = G} {E = E} (Ok (Some guest))) → Told (first_told left old) (first_told (one_fewer left) new) n (Comes {G = G} {E = E} (Ok (Some guest)))
first_comes E None guest None None n e p = tt
first_comes E None guest None (Some ys) n e p = absurd p
first_comes E None guest (Some xs) None n e p = p
first_comes E None guest (Some xs) (Some ys) n e p = p
first_comes E (Some m) guest None None n e p = tt
first_comes E (Some m) guest None (Some ys) n e p = absurd p
first_comes E (Some m) guest (Some xs) None n e p = p
first_comes E (Some m) guest (Some xs) (Some ys) n e p = ap (take m) p ∙ take_front m guest ys e

-- one of those who may come came
pub one_comes : {G E : Type 0} (left left' : Option ℕ) (used : Bool) (guest : G) (old new : Option (List G)) (n : ℕ) (r : Result (Option G) E) → used ≡ is_used_up left → used ≡ false → left' ≡ one_fewer left → r ≡ Ok (Some guest) → Told old new n (Comes r) → Told (first_told left old) (first_told left' new) n (Comes {G = G} {E = E} (Ok (Some guest)))
one_comes {G = G} {E = E} left left' used guest old new n r a b c e p =
    subst (λ (l : Option ℕ). Told (first_told left old) (first_told l new) n (Comes {G = G} {E = E} (Ok (Some guest)))) (sym c) (first_comes E left guest old new n (subst (λ (u : Bool). u ≡ false) a b) (subst (λ (x : Result (Option G) E). Told old new n (Comes x)) e p))

-- nobody will come
pub none_comes : {G E : Type 0} (left : Option ℕ) (old new : Option (List G)) (n : ℕ) (r : Result (Option G) E) → r ≡ Ok None → Told old new n (Comes r) → Told (first_told left old) (first_told left new) n (Comes {G = G} {E = E} (Ok None))
none_comes {G = G} {E = E} left old new n r e p = none_of left old new (subst (λ (x : Result (Option G) E). Told old new n (Comes x)) e p)
  where
    none_of : (left : Option ℕ) (old new : Option (List G)) → Told old new n (Comes {G = G} {E = E} (Ok None)) → Told (first_told left old) (first_told left new) n (Comes {G = G} {E = E} (Ok None))
    none_of None None None p = tt
    none_of (Some m) None None p = tt
    none_of None None (Some ys) p = absurd p
    none_of (Some m) None (Some ys) p = absurd p
    none_of None (Some xs) None p = p
    none_of (Some m) (Some xs) None p = p
    none_of None (Some xs) (Some ys) p = p
    none_of (Some m) (Some xs) (Some ys) p = (take_none m xs p.0, take_none m ys p.1)
