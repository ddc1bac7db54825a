-- Longs: docs/MARSHAL.md, Longs.
use Rattle.std.specs.Prelude.{ℕ, ◌≡◌, ◌+◌, ◌-◌, ◌*◌, ◌^◌, List, [], ◌∷◌, ◌++◌, length, take, drop, ℤ, pos, ◌-ℤ◌, Option, Some, None, nat_lt, if◌then◌else◌}

-- the number that bytes stand for, the first the least
abbrev pub little : List ℕ → ℕ
little [] = 0
little (b ∷ bs) = b + 256 * little bs

-- how many bytes follow the byte c: c itself for 1 to 4, and as many for -1 to -4, which are 255 to 252
abbrev pub more_after : ℕ → ℕ
more_after c =
    if nat_lt c 5 then c
    else if nat_lt c 252 then 0
    else 256 - c

-- What the byte c and the bytes after it stand for. 0 to 4: these bytes. 5 to 127: c - 5.
-- -128 to -5, which are 128 to 251: c - 256 + 5. -4 to -1: these bytes, minus 256 for each of them multiplied.
abbrev pub long_value : ℕ → List ℕ → ℤ
long_value c bs =
    if nat_lt c 5 then pos (little bs)
    else if nat_lt c 128 then pos (c - 5)
    else if nat_lt c 252 then pos c -ℤ pos 251
    else pos (little bs) -ℤ pos (256 ^ (256 - c))

-- these bytes are one spelling of the number
abbrev pub Long : List ℕ → ℤ → Type 0
Long [] n = ⊥
Long (c ∷ bs) n = (length bs ≡ more_after c) × (n ≡ long_value c bs)

-- no front of the bytes is a long: bytes of it are missing
abbrev pub NoLong : List ℕ → Type 0
NoLong bs = (n : ℤ) (b rest : List ℕ) → Long b n → bs ≡ b ++ rest → ⊥

-- from the place at to the place end, the bytes are a spelling of the number
abbrev pub LongAt : List ℕ → ℕ → ℤ → ℕ → Type 0
LongAt bs at n end = (b : List ℕ) × Long b n × (drop at bs ≡ b ++ drop end bs)
    × (end ≡ at + length b)

-- the long at the front and the bytes after it; None: bytes of it are missing
abbrev pub long_of : List ℕ → Option (ℤ × List ℕ)
long_of [] = None
long_of (c ∷ bs) =
    if nat_lt (length bs) (more_after c) then None
    else Some (long_value c (take (more_after c) bs), drop (more_after c) bs)
