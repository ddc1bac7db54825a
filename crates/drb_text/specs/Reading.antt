-- Reading from left to right: what a piece of a text is read as, and the bytes behind it.
use Rattle.std.specs.Prelude.{ℕ, suc, ◌==◌, Bool, false, List, [], ◌∷◌, length, drop, Option, Some, None, Result, Ok, Err, if◌then◌else◌}
use Rattle.std.specs.List.{prefix_len}
use Rattle.drb_text.specs.Bytes.{is_space}

-- what is read and the bytes behind it; or how many bytes are left from the first with which nothing can go on
abbrev pub Read : Type 0 → Type 0
Read A = Result (A × List ℕ) ℕ

-- nothing can go on with the first of these bytes, or at their end
abbrev pub stuck : {A : Type 0} → List ℕ → Read A
stuck bs = Err (length bs)

-- what is read next, unless nothing could go on
abbrev pub next : {A B : Type 0} → Read A → (A → List ℕ → Read B) → Read B
next (Ok r) f = f r.0 r.1
next (Err left) f = Err left

-- what is read, as something else
abbrev pub read_as : {A B : Type 0} → (A → B) → Read A → Read B
read_as f (Ok r) = Ok (f r.0, r.1)
read_as f (Err left) = Err left

-- these bytes and no others
abbrev pub expect : List ℕ → List ℕ → Read (Unit {0})
expect [] bs = Ok (tt, bs)
expect (c ∷ cs) [] = stuck []
expect (c ∷ cs) (b ∷ bs) = if b == c then expect cs bs else stuck (b ∷ bs)

-- the first byte is that one
abbrev pub begins : ℕ → List ℕ → Bool
begins c [] = false
begins c (b ∷ bs) = b == c

-- the bytes behind the spaces
abbrev pub behind_spaces : List ℕ → List ℕ
behind_spaces bs = drop (prefix_len is_space bs) bs
