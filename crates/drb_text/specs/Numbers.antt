-- Integers, written in decimal: docs/TEXT.md, Integers.
use Rattle.std.specs.Prelude.{ℕ, suc, ℤ, pos, negsuc, ◌+◌, ◌-◌, ◌*◌, ◌^◌, ◌==◌, ◌&&◌, Bool, nat_le, List, [], ◌∷◌, Result, Ok, if◌then◌else◌}
use Rattle.std.specs.Char.{is_ascii_digit}
use Rattle.std.specs.Int.{is_in_range}
use Rattle.drb_text.specs.Reading.{Read, stuck}

-- the byte is a further digit of a number, which stays at most that
abbrev pub goes_on : ℕ → ℕ → ℕ → Bool
goes_on most n b = is_ascii_digit b && nat_le (n * 10 + (b - 48)) most

-- the number whose first digits are those of n, and the bytes behind it
abbrev pub digits_from : ℕ → ℕ → List ℕ → ℕ × List ℕ
digits_from most n [] = (n, [])
digits_from most n (b ∷ bs) =
    if goes_on most n b then digits_from most (n * 10 + (b - 48)) bs else (n, b ∷ bs)

-- the greatest integer, and how far below zero the least is
abbrev pub greatest : ℕ
greatest = 2 ^ 127 - 1

abbrev pub least_below : ℕ
least_below = 2 ^ 127

-- a digit from 1 to 9
abbrev pub is_first : ℕ → Bool
is_first b = is_in_range 49 57 b

-- the number, or that number below zero, which is not 0
abbrev pub above : ℕ × List ℕ → Read ℤ
above r = Ok (pos r.0, r.1)

abbrev pub below : ℕ × List ℕ → Read ℤ
below r = Ok (negsuc (r.0 - 1), r.1)

-- 0, or a number that begins with another digit
abbrev pub unsigned : List ℕ → Read ℤ
unsigned [] = stuck []
unsigned (b ∷ bs) =
    if b == 48 then Ok (pos 0, bs)
    else if is_first b then above (digits_from greatest (b - 48) bs)
    else stuck (b ∷ bs)

-- behind `-`: a number that does not begin with 0
abbrev pub below_zero : List ℕ → Read ℤ
below_zero [] = stuck []
below_zero (b ∷ bs) =
    if is_first b then below (digits_from least_below (b - 48) bs) else stuck (b ∷ bs)

-- an integer of 128 bits, without a needless 0
unfoldable pub int : List ℕ → Read ℤ
int [] = stuck []
int (b ∷ bs) = if b == 45 then below_zero bs else unsigned (b ∷ bs)
