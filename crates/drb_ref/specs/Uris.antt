-- A uri and its parts: docs/WIRE.md, References and uris.
use Rattle.std.specs.Prelude.{ℕ, ◌≡◌, ◌<◌, ◌≤◌, ◌+◌, ◌==◌, ◌||◌, ◌⊎◌, Bool, if◌then◌else◌, List, [], ◌∷◌, ◌++◌, length, take, drop, slice_index, codes}
use Rattle.std.specs.List.{AllPass, position_or_len}
use Rattle.std.specs.Char.{is_ascii_alphanumeric, is_ascii_hexdigit}
use Rattle.std.specs.Str.Parse.{IsNumeral, digits_value}

-- `druby://`, with which a uri begins
abbrev pub scheme : List ℕ
scheme = codes "druby://"

-- a host's name has ASCII letters, digits, `.`, `-` and `_`
abbrev pub is_name_byte : ℕ → Bool
is_name_byte b = is_ascii_alphanumeric b || b == 46 || b == 45 || b == 95

-- a host's number in brackets has hexadecimal digits, `:` and `.`
abbrev pub is_number_byte : ℕ → Bool
is_number_byte b = is_ascii_hexdigit b || b == 58 || b == 46

-- a name, of one byte or more
abbrev pub IsName : List ℕ → Type 0
IsName host = (0 < length host) × AllPass is_name_byte host

-- a number, of one byte or more
abbrev pub IsNumber : List ℕ → Type 0
IsNumber number = (0 < length number) × AllPass is_number_byte number

-- `[`, a number, `]`
abbrev pub IsBracketed : List ℕ → Type 0
IsBracketed host = (number : List ℕ) × (host ≡ 91 ∷ (number ++ (93 ∷ []))) × IsNumber number

-- a host: a name, or a number in brackets
abbrev pub IsHost : List ℕ → Type 0
IsHost host = IsName host ⊎ IsBracketed host

-- the number of a port, 1 to 65535, in 1 to 5 digits
abbrev pub IsPort : List ℕ → ℕ → Type 0
IsPort digits port = IsNumeral 10 digits × (length digits ≤ 5)
    × (digits_value 10 digits ≡ port) × (0 < port) × (port < 65536)

-- nothing, or `?` and any bytes, which nobody reads
abbrev pub IsIgnored : List ℕ → Type 0
IsIgnored rest = (rest ≡ []) ⊎ ((query : List ℕ) × (rest ≡ 63 ∷ query))

-- what stands behind the host: `:`, the port, and what is ignored
abbrev pub NamesPort : List ℕ → ℕ → Type 0
NamesPort tail port = (digits rest : List ℕ) × (tail ≡ 58 ∷ (digits ++ rest))
    × IsPort digits port × IsIgnored rest

-- the text is `druby://`, the host, `:` and the port
abbrev pub IsUri : List ℕ → List ℕ → ℕ → Type 0
IsUri text host port = (tail : List ℕ) × (text ≡ scheme ++ (host ++ tail))
    × IsHost host × NamesPort tail port

-- a host that isn't in brackets ends at `:` or `?`
abbrev pub ends_name : ℕ → Bool
ends_name b = b == 58 || b == 63

-- a host that begins with `[` ends after the first `]`, every other one before the first `:` or `?`; without such a byte it
-- ends at the text's end
abbrev pub host_len : List ℕ → ℕ
host_len after = if slice_index after 0 == 91
    then position_or_len (λ b. b == 93) after + 1
    else position_or_len ends_name after

-- where a host is looked for: in what follows `druby://`
abbrev pub host_of : List ℕ → List ℕ
host_of after = take (host_len after) after

-- what follows the host
abbrev pub tail_of : List ℕ → List ℕ
tail_of after = drop (host_len after) after

-- the first fault: the text doesn't begin with `druby://`
abbrev pub LacksScheme : List ℕ → Type 0
LacksScheme text = (after : List ℕ) → text ≡ scheme ++ after → ⊥

-- the second: it does, but what stands for the host is none
abbrev pub LacksHost : List ℕ → Type 0
LacksHost text = (after : List ℕ) × (text ≡ scheme ++ after) × (IsHost (host_of after) → ⊥)

-- the third: it has a host, but no port behind it
abbrev pub LacksPort : List ℕ → Type 0
LacksPort text = (after : List ℕ) × (text ≡ scheme ++ after) × IsHost (host_of after)
    × ((port : ℕ) → NamesPort (tail_of after) port → ⊥)
