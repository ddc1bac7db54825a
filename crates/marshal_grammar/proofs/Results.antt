-- Results of readings, taken apart.
use Rattle.std.proofs.Common.{◌≡◌, ℕ, ◌⊎◌, inl, inr, List, Result, Ok, Err, Bool, true, false, refl, ap, cond}
use Rattle.marshal_grammar.specs.declared.refusal.Refusal.{Refusal}
use Rattle.marshal_grammar.specs.Contexts.{Context}
use Rattle.marshal_grammar.specs.Reading.{Read, next}

pub ok_is : {A B : Type 0} (x y : A) → (let r : Result A B = Ok x in r) ≡ Ok y → x ≡ y
ok_is x y e = cc

pub err_is : {A B : Type 0} (x y : B) → (let r : Result A B = Err x in r) ≡ Err y → x ≡ y
err_is x y e = cc

-- what went before a reading that gives something
pub next_ok : {A B : Type 0} (r : Read B) (f : B → Context → List ℕ → Read A) (y : A × Context × List ℕ) → next r f ≡ Ok y → (x : B × Context × List ℕ) × (r ≡ Ok x) × (f x.0 x.1 x.2 ≡ Ok y)
next_ok (Ok x) f y e = (x, refl, e)
next_ok (Err q) f y e = absurd (cc)

-- what went before a reading that is refused
pub next_err : {A B : Type 0} (r : Read B) (f : B → Context → List ℕ → Read A) (q : Refusal) → next r f ≡ Err q → (r ≡ Err q) ⊎ ((x : B × Context × List ℕ) × (r ≡ Ok x) × (f x.0 x.1 x.2 ≡ Err q))
next_err (Ok x) f q e = inr (x, refl, e)
next_err (Err p) f q e = inl (let k : p ≡ q = cc in ap (λ (z : Refusal). Err z) k)

pub choice_ok : {A B : Type 0} (b : Bool) (x y : A) (q : B) → cond b (Ok x) (Err q) ≡ Ok y → (b ≡ true) × (x ≡ y)
choice_ok true x y q e = (refl, cc)
choice_ok false x y q e = absurd (cc)

pub choice_err : {A B : Type 0} (b : Bool) (x : A) (q p : B) → cond b (Ok x) (Err q) ≡ Err p → (b ≡ false) × (q ≡ p)
choice_err true x q p e = absurd (cc)
choice_err false x q p e = (refl, cc)

pub guard_ok : {A B : Type 0} (b : Bool) (x y : A) (q : B) → cond b (Err q) (Ok x) ≡ Ok y → (b ≡ false) × (x ≡ y)
guard_ok true x y q e = absurd (cc)
guard_ok false x y q e = (refl, cc)

pub guard_err : {A B : Type 0} (b : Bool) (x : A) (q p : B) → cond b (Err q) (Ok x) ≡ Err p → (b ≡ true) × (q ≡ p)
guard_err true x q p e = (refl, cc)
guard_err false x q p e = absurd (cc)
