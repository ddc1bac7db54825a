-- For whom a rule is. docs/ACCESS.md, Patterns.
use Rattle.std.specs.Prelude.{ℕ, ◌+◌, ◌*◌, ◌-◌, Bool, true, false, ◌&&◌, ◌||◌, ◌==◌, not, nat_le, nat_lt, nat_eq, List, [], ◌∷◌, length, slice_index, map, codes, Option, Some, None, if◌then◌else◌}
use Rattle.std.specs.List.{list_all, slice_split}
use Rattle.std.specs.Cmp.Lexicographic.{pointwise}
use Rattle.drb_acl.specs.declared.pattern.Pattern.{Pattern}

-- the text is that one
abbrev pub is_text : List ℕ → List ℕ → Bool
is_text other text = pointwise nat_eq text other

-- the parts of a text between such bytes
abbrev pub parts : ℕ → List ℕ → List (List ℕ)
parts byte text = slice_split (λ b. b == byte) text

abbrev pub is_digit : ℕ → Bool
is_digit b = nat_le 48 b && nat_le b 57

-- one to three digits, without a needless leading 0
abbrev pub is_number : List ℕ → Bool
is_number text = nat_lt 0 (length text) && nat_le (length text) 3 && list_all is_digit text
    && (length text == 1 || not (slice_index text 0 == 48))

-- the number that digits write, where they follow those of n
abbrev pub value_after : ℕ → List ℕ → ℕ
value_after n [] = n
value_after n (d ∷ ds) = value_after (n * 10 + (d - 48)) ds

-- the number that the text writes, which is at most that
abbrev pub number_of : ℕ → List ℕ → Option ℕ
number_of most text = if is_number text && nat_le (value_after 0 text) most
    then Some (value_after 0 text) else None

-- four numbers, as one
abbrev pub joined : List (Option ℕ) → Option ℕ
joined (Some a ∷ Some b ∷ Some c ∷ Some d ∷ []) = Some (((a * 256 + b) * 256 + c) * 256 + d)
joined _ = None

-- an address: four numbers from 0 to 255 with dots between them
abbrev pub address_of : List ℕ → Option ℕ
address_of text = joined (map (number_of 255) (parts 46 text))

abbrev pub within : Option ℕ → Option ℕ → Option Pattern
within (Some net) (Some bits) = Some (record { all = false; net = net; bits = bits })
within net None = None
within None bits = None

-- an address, or an address, `/` and a number of bits from 0 to 32
abbrev pub net_of : List (List ℕ) → Option Pattern
net_of (address ∷ []) = within (address_of address) (Some 32)
net_of (address ∷ bits ∷ []) = within (address_of address) (number_of 32 bits)
net_of _ = None

-- `all`, `*` or a net
abbrev pub pattern_of : List ℕ → Option Pattern
pattern_of text = if is_text (codes "all") text || is_text (codes "*") text
    then Some (record { all = true; net = 0; bits = 0 })
    else net_of (parts 47 text)
