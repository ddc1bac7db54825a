-- The digits of a port, and the number that they write.
use Rattle.std.proofs.Common.{◌≡◌, ℕ, zero, suc, ◌+◌, ◌<◌, ◌≤◌, ◌==◌, ◌^◌, ◌⊎◌, Bool, true, false, List, [], ◌∷◌, ◌++◌, length, take, drop, get_or, Option, Some, None, Result, Ok, Err, IfSome, IsUtf8, refl, sym, ap, ◌∙◌, subst, inl, inr, arith, IsTrue, slice_index}
use Rattle.std.specs.List.{All, AllPass, position_or_len, before_first}
use Rattle.std.specs.Char.{is_ascii_digit}
use Rattle.std.specs.Result.{OkIff}
use Rattle.std.specs.Str.{IsAscii}
use Rattle.std.specs.Str.Parse.{AllDigits, IsNumeral, digits_value, ParsesUnsigned}
use Rattle.std.proofs.lemmas.List.{take_at, take_all, take-append-drop, append-nil, append_cancel_left}
use Rattle.std.proofs.lemmas.Str.{IsUtf8-from_ascii}
use Rattle.std.proofs.lemmas.Str.Parse.{tells_digits}
use Rattle.std.proofs.lemmas.Bool.Decides.{eqb_tells, nat_tests}
use Rattle.std.proofs.lemmas.List.Elements.{All-head, All-tail, All-cons}
use Rattle.std.proofs.lemmas.List.Sums.{position_or_len_is}
use Rattle.std.specs.Int.{IsInRange}
use Rattle.drb_ref.proofs.Cuts.{first_behind, apart}
use Rattle.drb_ref.specs.Uris.{IsPort, IsIgnored, NamesPort}

in_range : (c : ℕ) → is_ascii_digit c ≡ true → IsInRange 48 57 c
in_range c h = grind (arith, nat_tests)

passes : (c : ℕ) → IsInRange 48 57 c → is_ascii_digit c ≡ true
passes c h = grind (arith, nat_tests)

-- digits, by the test of each
pub digits_from_pass : (ds : List ℕ) → AllPass is_ascii_digit ds → AllDigits 10 ds
digits_from_pass [] a = tells_digits.empty
digits_from_pass (c ∷ cs) a = tells_digits.more c cs (in_range c (All-head (λ x. is_ascii_digit x ≡ true) c cs a)) (digits_from_pass cs (All-tail (λ x. is_ascii_digit x ≡ true) c cs a))

pub pass_from_digits : (ds : List ℕ) → AllDigits 10 ds → AllPass is_ascii_digit ds
pass_from_digits [] a = λ k d h. absurd (omega arith)
pass_from_digits (c ∷ cs) a = All-cons (λ x. is_ascii_digit x ≡ true) c cs (passes c (tells_digits.parts c cs a).0) (pass_from_digits cs (tells_digits.parts c cs a).1)

is_ascii : (ds : List ℕ) → AllDigits 10 ds → IsAscii ds
is_ascii [] a i = omega arith
is_ascii (c ∷ cs) a zero = let r : IsInRange 48 57 c = (tells_digits.parts c cs a).0 in omega arith
is_ascii (c ∷ cs) a (suc i) = is_ascii cs (tells_digits.parts c cs a).1 i

-- digits are UTF-8
pub digits-IsUtf8 : (ds : List ℕ) → AllDigits 10 ds → IsUtf8 ds
digits-IsUtf8 ds a = IsUtf8-from_ascii ds (is_ascii ds a)

-- the number that was found is a port
pub port_is : (ds : List ℕ) (v r : Option ℕ) → length ds ≤ 5 → AllDigits 10 ds → IfSome v (λ n. (0 < length ds) × (n ≡ digits_value 10 ds) × (n < 2 ^ 16)) → IfSome r (λ n. (v ≡ Some n) × (0 < n)) → IfSome r (λ n. IsPort ds n)
port_is ds v None l a h f = tt
port_is ds v (Some n) l a h f =
    let g : (0 < length ds) × (n ≡ digits_value 10 ds) × (n < 2 ^ 16) = subst (λ (o : Option ℕ). IfSome o (λ m. (0 < length ds) × (m ≡ digits_value 10 ds) × (m < 2 ^ 16))) f.0 h in
    ((g.0, a), l, sym g.1, f.1, g.2)

-- what follows the first `?`, it included, is ignored
ignored : (rest : List ℕ) → IsIgnored (drop (position_or_len (λ b. b == 63) rest) rest)
ignored [] = inl refl
ignored (x ∷ xs) = elim (eqb_tells x 63) [
  | inl e ↦ rw e.0 (inr (xs, ap (λ (y : ℕ). y ∷ xs) e.1))
  | inr e ↦ let more : suc (position_or_len (λ b. b == 63) xs) ≡ 1 + position_or_len (λ b. b == 63) xs = omega arith in
      rw e.0 (subst (λ (n : ℕ). IsIgnored (drop n (x ∷ xs))) more (ignored xs))
]

-- the digits of a port stand before the first `?`
digits_are : (digits rest : List ℕ) → AllDigits 10 digits → IsIgnored rest → before_first (λ b. b == 63) (digits ++ rest) ≡ digits
digits_are digits rest a i =
    let none : All (λ x. (x == 63) ≡ false) digits = λ k d h. apart is_ascii_digit (get_or digits k d) 63 (pass_from_digits digits a k d h) refl in
    elim i [
      | inl e ↦
          let whole : digits ++ rest ≡ digits = ap (λ (x : List ℕ). digits ++ x) e ∙ append-nil digits in
          let len : position_or_len (λ b. b == 63) digits ≡ length digits = position_or_len_is (λ b. b == 63) digits (length digits) 0 (omega arith) (λ k h. none k 0 h) (λ h. absurd (omega arith)) in
          ap (λ (x : List ℕ). before_first (λ b. b == 63) x) whole ∙ take_all (position_or_len (λ b. b == 63) digits) digits (omega arith)
      | inr q ↦
          let whole : digits ++ rest ≡ digits ++ 63 ∷ q.0 = ap (λ (x : List ℕ). digits ++ x) q.1 in
          let len : position_or_len (λ b. b == 63) (digits ++ 63 ∷ q.0) ≡ length digits = first_behind (λ b. b == 63) digits 63 q.0 none refl in
          ap (λ (x : List ℕ). before_first (λ b. b == 63) x) whole ∙ take_at digits (63 ∷ q.0) (position_or_len (λ b. b == 63) (digits ++ 63 ∷ q.0)) (sym len)
    ]

-- the number of what stands between `:` and the first `?` is the port
pub named_is : (tail rest digits : List ℕ) (r : Option ℕ) → tail ≡ (58 ∷ []) ++ rest → digits ≡ before_first (λ b. b == 63) rest → IfSome r (λ port. IsPort digits port) → IfSome r (λ port. NamesPort tail port)
named_is tail rest digits None e f h = tt
named_is tail rest digits (Some port) e f h =
    let more = drop (position_or_len (λ b. b == 63) rest) rest in
    let joined : digits ++ more ≡ rest = ap (λ (x : List ℕ). x ++ more) f ∙ take-append-drop (position_or_len (λ b. b == 63) rest) rest in
    (digits, more, e ∙ ap (λ (x : List ℕ). 58 ∷ x) (sym joined), h, ignored rest)

-- every port that is named is that number
pub named_every : (tail rest digits : List ℕ) (r : Option ℕ) → tail ≡ (58 ∷ []) ++ rest → digits ≡ before_first (λ b. b == 63) rest → ((port : ℕ) → IsPort digits port → r ≡ Some port) → (port : ℕ) → NamesPort tail port → r ≡ Some port
named_every tail rest digits r e f h port (ds, more, g, p, i) =
    let same : rest ≡ ds ++ more = append_cancel_left (58 ∷ []) rest (ds ++ more) (sym e ∙ g) in
    let are : digits ≡ ds = f ∙ ap (λ (x : List ℕ). before_first (λ b. b == 63) x) same ∙ digits_are ds more p.0.1 i in
    h port (subst (λ (x : List ℕ). IsPort x port) (sym are) p)
