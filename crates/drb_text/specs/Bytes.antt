-- The bytes that the forms of a text are made of: docs/TEXT.md, Forms.
use Rattle.std.specs.Prelude.{ℕ, ◌-◌, Bool, ◌&&◌, ◌||◌, not, ◌==◌, if◌then◌else◌}
use Rattle.std.specs.Char.{is_ascii_alphanumeric, is_ascii_digit}
use Rattle.std.specs.Int.{is_in_range}

-- a letter, a digit or `_`
abbrev pub is_word : ℕ → Bool
is_word b = is_ascii_alphanumeric b || b == 95

-- `?` or `!`
abbrev pub is_mark : ℕ → Bool
is_mark b = b == 63 || b == 33

-- a byte from 20 to 7e other than `"` and `\`
abbrev pub is_plain : ℕ → Bool
is_plain b = is_in_range 32 126 b && not (b == 34 || b == 92)

-- a byte from 21 to 7e other than `>`
abbrev pub is_uri : ℕ → Bool
is_uri b = is_in_range 33 126 b && not (b == 62)

-- a hexadecimal digit, its letter lower-case
abbrev pub is_hex : ℕ → Bool
is_hex b = is_ascii_digit b || is_in_range 97 102 b

-- what a hexadecimal digit is worth
abbrev pub hex_value : ℕ → ℕ
hex_value b = if is_ascii_digit b then b - 48 else b - 87

-- a space
abbrev pub is_space : ℕ → Bool
is_space b = b == 32
