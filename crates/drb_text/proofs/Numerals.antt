-- What is written of an integer is read as it.
use Rattle.std.proofs.Common.{ℕ, zero, suc, ◌≡◌, ◌<◌, ◌≤◌, ◌+◌, ◌-◌, ◌*◌, ◌/◌, ◌%◌, ◌^◌, ◌==◌, ◌||◌, ◌⊎◌, inl, inr, Bool, true, false, List, [], ◌∷◌, ◌++◌, refl, sym, ap, ◌∙◌, subst, arith, append_assoc}
use Rattle.std.specs.Prelude.{ℤ, pos, negsuc, ◌≤ℤ◌, ◌<ℤ◌, Ok, codes}
use Rattle.std.proofs.lemmas.Grind.{common_steps}
use Rattle.std.specs.Char.{is_ascii_digit}
use Rattle.std.specs.Fmt.{decimal, signed_decimal}
use Rattle.std.proofs.lemmas.Bool.{and_from, and_left, and_right, or_right, le-leb, lt-leb, ne_eqb}
use Rattle.std.proofs.lemmas.Fmt.{decimal_by_steps_wide, decimal_digit}
use Rattle.drb_tree.specs.declared.Tree.{Tree}
use Rattle.drb_tree.specs.Kept.{IsI128}
use Rattle.drb_tree.specs.Trees.{int_tree}
use Rattle.drb_text.specs.Numbers.{goes_on, digits_from, greatest, least_below, is_first, above, below, unsigned, below_zero, int}
use Rattle.drb_text.specs.Reading.{Read, next, read_as, expect, begins}
use Rattle.drb_text.specs.Shown.{points}
use Rattle.drb_text.specs.Texts.{range_tree, range_end, range_or_int, number, plain}
use Rattle.drb_text.proofs.Digits.{digits_more, digits_end}
use Rattle.drb_text.proofs.Ends.{Ends, by_end, Opens, NoDigit, no_digit}

lower : (n m : ℕ) → pos n <ℤ pos m → n < m
lower n m h = grind (arith, common_steps)

higher : (n m : ℕ) → negsuc m ≤ℤ negsuc n → n ≤ m
higher n m h = grind (arith, common_steps)

digits_stop : (most n : ℕ) (rest : List ℕ) → NoDigit rest → digits_from most n rest ≡ (n, rest)
digits_stop most n [] h = refl
digits_stop most n (b ∷ bs) h = digits_end most n b bs (and_left _ _ h)

-- Of the digits of a number the first is not 0, and those behind it lead to the number.
pub record Spelt (n : ℕ) (ds : List ℕ) : Type 0 where
  pub first : ℕ
  pub more : List ℕ
  pub is : ds ≡ first ∷ more
  pub low : 49 ≤ first
  pub high : first ≤ 57
  pub reads : (most : ℕ) (rest : List ℕ) → n ≤ most → digits_from most (first - 48) (more ++ rest) ≡ digits_from most n rest

one_digit : (m : ℕ) → m < 10 → 0 < m → Spelt m ((48 + m) ∷ [])
one_digit m l s = record {
  first = 48 + m;
  more = [];
  is = refl;
  low = omega arith;
  high = omega arith;
  reads = λ most rest h. ap (λ (k : ℕ). digits_from most k rest) (omega arith);
}

further : (most n : ℕ) → n ≤ most → goes_on most (n / 10) (48 + n % 10) ≡ true
further most n h =
    and_from _ _ (and_from _ _ (le-leb 48 (48 + n % 10) (omega arith)) (le-leb (48 + n % 10) 57 (omega arith)))
    (le-leb (n / 10 * 10 + (48 + n % 10 - 48)) most (omega arith))

one_more : (m : ℕ) (ds : List ℕ) → 10 ≤ m → (0 < m / 10 → Spelt (m / 10) ds) → 0 < m → Spelt m (ds ++ ((48 + m % 10) ∷ []))
one_more m ds l before s =
    let h = before (omega arith) in
    record {
      first = h.first;
      more = h.more ++ ((48 + m % 10) ∷ []);
      is = ap (λ (x : List ℕ). x ++ ((48 + m % 10) ∷ [])) h.is;
      low = h.low;
      high = h.high;
      reads = λ most rest w.
          ap (digits_from most (h.first - 48)) (append_assoc h.more ((48 + m % 10) ∷ []) rest)
          ∙ h.reads most ((48 + m % 10) ∷ rest) (omega arith)
          ∙ digits_more most (m / 10) (48 + m % 10) rest (further most m w)
          ∙ ap (λ (k : ℕ). digits_from most k rest) (omega arith);
    }

pub spelt : (n : ℕ) → 0 < n → n ≤ 2 ^ 127 → Spelt n (decimal n)
spelt n some small = decimal_by_steps_wide (λ m ds. 0 < m → Spelt m ds) one_digit one_more n (omega arith) some

above_at : (d : ℕ) (bs : List ℕ) → 49 ≤ d → d ≤ 57 → int (d ∷ bs) ≡ above (digits_from greatest (d - 48) bs)
unfolding int
above_at d bs l h =
    let a : (d == 45) ≡ false = ne_eqb d 45 (λ e. omega arith) in
    let b : (d == 48) ≡ false = ne_eqb d 48 (λ e. omega arith) in
    let c : is_first d ≡ true = and_from _ _ (le-leb 49 d l) (le-leb d 57 h) in
    rw (a, b, c) refl

below_at : (d : ℕ) (bs : List ℕ) → 49 ≤ d → d ≤ 57 → int (45 ∷ d ∷ bs) ≡ below (digits_from least_below (d - 48) bs)
unfolding int
below_at d bs l h =
    let c : is_first d ≡ true = and_from _ _ (le-leb 49 d l) (le-leb d 57 h) in
    rw c refl

zero_at : (bs : List ℕ) → int (48 ∷ bs) ≡ Ok (pos 0, bs)
unfolding int
zero_at bs = refl

natural_reads : (n : ℕ) → n < 2 ^ 127 → (rest : List ℕ) → NoDigit rest → int (decimal n ++ rest) ≡ Ok (pos n, rest)
natural_reads zero small rest h = ap (λ (x : List ℕ). int (x ++ rest)) (decimal_digit 0 (omega arith)) ∙ zero_at rest
natural_reads (suc n) small rest h =
    let s = spelt (suc n) (omega arith) (omega arith) in
    ap (λ (x : List ℕ). int (x ++ rest)) s.is ∙ above_at s.first (s.more ++ rest) s.low s.high
    ∙ ap above (s.reads greatest rest (omega arith) ∙ digits_stop greatest (suc n) rest h)

negative_reads : (n : ℕ) → n < 2 ^ 127 → (rest : List ℕ) → NoDigit rest → int (45 ∷ decimal (suc n) ++ rest) ≡ Ok (negsuc n, rest)
negative_reads n small rest h =
    let s = spelt (suc n) (omega arith) (omega arith) in
    ap (λ (x : List ℕ). int (45 ∷ x ++ rest)) s.is ∙ below_at s.first (s.more ++ rest) s.low s.high
    ∙ ap below (s.reads least_below rest (omega arith) ∙ digits_stop least_below (suc n) rest h)
    ∙ ap (λ (k : ℕ). Ok (negsuc k, rest)) (omega arith)

pub int_reads : (i : ℤ) → IsI128 i → (rest : List ℕ) → NoDigit rest → int (signed_decimal i ++ rest) ≡ Ok (i, rest)
int_reads (pos n) k rest h = natural_reads n (lower n (2 ^ 127) k.1) rest h
int_reads (negsuc n) k rest h = negative_reads n (omega (arith, higher n (2 ^ 127 - 1) k.0)) rest h

-- a `-` or a digit comes first
pub record Numeral (i : ℤ) : Type 0 where
  pub first : ℕ
  pub more : List ℕ
  pub is : signed_decimal i ≡ first ∷ more
  pub start : (first ≡ 45) ⊎ ((48 ≤ first) × (first ≤ 57))

pub numeral : (i : ℤ) → IsI128 i → Numeral i
numeral (pos zero) k = record { first = 48; more = []; is = decimal_digit 0 (omega arith); start = inr (omega arith, omega arith) }
numeral (pos (suc n)) k =
    let s = spelt (suc n) (omega arith) (omega (arith, lower (suc n) (2 ^ 127) k.1)) in
    record { first = s.first; more = s.more; is = s.is; start = inr (omega (arith, s.low), s.high) }
numeral (negsuc n) k = record { first = 45; more = decimal (suc n); is = refl; start = inl refl }

opens_at : (d : ℕ) (more : List ℕ) → (d ≡ 45) ⊎ ((48 ≤ d) × (d ≤ 57)) → Opens (d ∷ more)
opens_at d more (inl e) = (ne_eqb d 91 (λ f. omega arith), ne_eqb d 93 (λ f. omega arith), ne_eqb d 32 (λ f. omega arith))
opens_at d more (inr e) = (ne_eqb d 91 (λ f. omega (arith, e.1)), ne_eqb d 93 (λ f. omega (arith, e.1)), ne_eqb d 32 (λ f. omega (arith, e.0)))

pub opens_int : (i : ℤ) → IsI128 i → (more : List ℕ) → Opens (signed_decimal i ++ more)
opens_int i k more = let m = numeral i k in subst (λ (x : List ℕ). Opens (x ++ more)) (sym m.is) (opens_at m.first (m.more ++ more) m.start)

plain_at : (d : ℕ) (bs : List ℕ) → (d ≡ 45) ⊎ ((48 ≤ d) × (d ≤ 57)) → plain (d ∷ bs) ≡ number (d ∷ bs)
unfolding plain
plain_at d bs (inl e) = rw e refl
plain_at d bs (inr e) =
    let n : (d == 110) ≡ false = ne_eqb d 110 (λ f. omega (arith, e.1)) in
    let t : (d == 116) ≡ false = ne_eqb d 116 (λ f. omega (arith, e.1)) in
    let u : (d == 102) ≡ false = ne_eqb d 102 (λ f. omega (arith, e.1)) in
    let g : (d == 45 || is_ascii_digit d) ≡ true = or_right (d == 45) (is_ascii_digit d) (and_from _ _ (le-leb 48 d e.0) (le-leb d 57 e.1)) in
    rw (n, t, u, g) refl

-- from a number on, by what is behind it
number_goes : (i : ℤ) → IsI128 i → (rest : List ℕ) → NoDigit rest → plain (signed_decimal i ++ rest) ≡ range_or_int i rest
number_goes i k rest h =
    let m = numeral i k in
    ap (λ (x : List ℕ). plain (x ++ rest)) m.is ∙ plain_at m.first (m.more ++ rest) m.start
    ∙ ap (λ (x : List ℕ). number (x ++ rest)) (sym m.is) ∙ ap (λ (r : Read ℤ). next r range_or_int) (int_reads i k rest h)

int_ends : (i : ℤ) (rest : List ℕ) → Ends rest → range_or_int i rest ≡ Ok (int_tree i, rest)
int_ends i = by_end (λ rest. range_or_int i rest ≡ Ok (int_tree i, rest)) refl (λ bs. refl) (λ bs. refl)

pub plain_int : (i : ℤ) → IsI128 i → (rest : List ℕ) → Ends rest → plain (signed_decimal i ++ rest) ≡ Ok (int_tree i, rest)
plain_int i k rest e = number_goes i k rest (no_digit rest e) ∙ int_ends i rest e

no_point : (d : ℕ) (more : List ℕ) → (d ≡ 45) ⊎ ((48 ≤ d) × (d ≤ 57)) → begins 46 (d ∷ more) ≡ false
no_point d more (inl e) = ne_eqb d 46 (λ f. omega arith)
no_point d more (inr e) = ne_eqb d 46 (λ f. omega (arith, e.0))

inclusive : (low high : ℤ) → IsI128 high → (rest : List ℕ) → NoDigit rest → range_end low (signed_decimal high ++ rest) ≡ Ok (range_tree false low high, rest)
inclusive low high k rest h =
    let m = numeral high k in
    let b : begins 46 (signed_decimal high ++ rest) ≡ false = ap (λ (x : List ℕ). begins 46 (x ++ rest)) m.is ∙ no_point m.first (m.more ++ rest) m.start in
    rw b (ap (read_as (range_tree false low)) (int_reads high k rest h))

range_goes : (excl : Bool) (low high : ℤ) → IsI128 low → IsI128 high → (rest : List ℕ) → NoDigit rest → plain (signed_decimal low ++ (points excl ++ (signed_decimal high ++ rest))) ≡ Ok (range_tree excl low high, rest)
range_goes true low high k l rest h = number_goes low k _ refl ∙ ap (read_as (range_tree true low)) (int_reads high l rest h)
range_goes false low high k l rest h = number_goes low k _ refl ∙ inclusive low high l rest h

pub plain_range : (excl : Bool) (low high : ℤ) → IsI128 low → IsI128 high → (rest : List ℕ) → Ends rest → plain ((signed_decimal low ++ (points excl ++ signed_decimal high)) ++ rest) ≡ Ok (range_tree excl low high, rest)
plain_range excl low high k l rest e =
    ap plain (append_assoc (signed_decimal low) (points excl ++ signed_decimal high) rest
    ∙ ap (λ (x : List ℕ). signed_decimal low ++ x) (append_assoc (points excl) (signed_decimal high) rest))
    ∙ range_goes excl low high k l rest (no_digit rest e)
