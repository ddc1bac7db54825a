-- The table of the symbols that were written.
use Rattle.std.proofs.Common.{◌≡◌, ℕ, suc, ◌+◌, ◌<◌, List, [], ◌∷◌, length, Some, None, Bool, true, false, refl, ap, sym, ◌∙◌, arith, cond, nat_lt, slice_get}
use Rattle.std.specs.Prelude.{bytes_eq, position}
use Rattle.std.specs.List.{position_or_len}
use Rattle.std.proofs.lemmas.Grind.{common_steps}
use Rattle.std.proofs.lemmas.Slice.Eq.{bytes_eq-Decides}
use Rattle.marshal_grammar.proofs.LongLists.{less_true}

eq_bytes : (s t : List ℕ) → bytes_eq s t ≡ true → s ≡ t
eq_bytes s t e = let f = bytes_eq-Decides s t in grind (arith, common_steps, f)

first_is : (s t : List ℕ) (ts : List (List ℕ)) → (b : Bool) → bytes_eq t s ≡ b → (position_or_len (λ u. bytes_eq u s) ts < length ts → slice_get ts (position_or_len (λ u. bytes_eq u s) ts) ≡ Some s)
    → position_or_len (λ u. bytes_eq u s) (t ∷ ts) < length (t ∷ ts) → slice_get (t ∷ ts) (position_or_len (λ u. bytes_eq u s) (t ∷ ts)) ≡ Some s
first_is s t ts true e h l = rw e (ap (λ (u : List ℕ). Some u) (eq_bytes t s e))
first_is s t ts false e h l =
    let n = position_or_len (λ u. bytes_eq u s) ts in
    let q : 1 + n ≡ suc n = omega arith in
    let k : position_or_len (λ u. bytes_eq u s) (t ∷ ts) ≡ 1 + n = rw e refl in
    rw (k, q) (h (omega (arith, k, l)))

pub position_is : (s : List ℕ) (ts : List (List ℕ)) → position_or_len (λ t. bytes_eq t s) ts < length ts → slice_get ts (position_or_len (λ t. bytes_eq t s) ts) ≡ Some s
position_is s [] l = absurd (omega arith)
position_is s (t ∷ ts) l = first_is s t ts (bytes_eq t s) refl (position_is s ts) l

chosen : (b : Bool) (n k : ℕ) → cond b (Some n) None ≡ Some k → (b ≡ true) × (n ≡ k)
chosen true n k e = (refl, cc)
chosen false n k e = absurd (cc)

-- the number of a symbol is below the length of the table, and there it stands
pub position_get : (s : List ℕ) (ts : List (List ℕ)) (k : ℕ) → position (λ t. bytes_eq t s) ts ≡ Some k → (k < length ts) × (slice_get ts k ≡ Some s)
position_get s ts k e =
    let n = position_or_len (λ t. bytes_eq t s) ts in
    let f = chosen (nat_lt n (length ts)) n k e in
    let l : n < length ts = less_true n (length ts) f.0 in
    (omega (arith, l, f.1), ap (slice_get ts) (sym f.1) ∙ position_is s ts l)
