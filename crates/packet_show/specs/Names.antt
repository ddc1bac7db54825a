-- How a method's name is shown: docs/WIRE.md, What stands first.
use Rattle.std.specs.Prelude.{ℕ, ◌+◌, ◌-◌, ◌/◌, ◌%◌, ◌==◌, ◌||◌, List, [], ◌∷◌, nat_lt, if◌then◌else◌}
use Rattle.std.specs.List.{flat_map}

-- a hexadecimal digit: `0` to `9` are 48 to 57, and `a` to `f` are 97 to 102
abbrev pub digit_of : ℕ → ℕ
digit_of n = if nat_lt n 10 then 48 + n else 97 + (n - 10)

-- A control byte, below 32 or 127, is `\` (92), `x` (120) and two hexadecimal digits. `\` is twice itself. Every other
-- byte is itself.
abbrev pub escaped_byte : ℕ → List ℕ
escaped_byte b =
    if nat_lt b 32 || b == 127 then 92 ∷ 120 ∷ digit_of (b / 16) ∷ digit_of (b % 16) ∷ []
    else (if b == 92 then 92 ∷ 92 ∷ [] else b ∷ [])

-- the bytes of a name, one after the other
abbrev pub escaped : List ℕ → List ℕ
escaped name = flat_map escaped_byte name
