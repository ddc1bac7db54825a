-- Reading from left to right: what a piece of the grammar gives of bytes, or the first refusal that it meets.
use Rattle.std.specs.Prelude.{ℕ, zero, suc, ◌+◌, ◌-◌, List, [], ◌∷◌, length, take, drop, ◌⊎◌, ℤ, Option, Some, None, Result, Ok, Err, nat_lt, if◌then◌else◌}
use Rattle.std.proofs.Common.{inl, inr}
use Rattle.marshal_grammar.specs.declared.refusal.Why.{Why}
use Rattle.marshal_grammar.specs.declared.refusal.Why.TheVariants as why
use Rattle.marshal_grammar.specs.declared.refusal.Refusal.{Refusal}
use Rattle.marshal_grammar.specs.Longs.{long_of}
use Rattle.marshal_grammar.specs.Contexts.{Context, opening, past}
use Rattle.marshal_grammar.specs.Grammar.{Grammar, gives, refuses, must, byte, bytes, long, context, becomes, within, follows, rounds}

-- what is read, the context after it and the bytes after it
abbrev pub Read : Type 0 → Type 0
Read A = Result (A × Context × List ℕ) Refusal

-- a refusal for this reason at this place
abbrev pub refuse : {A : Type 0} → Why → ℕ → Read A
refuse w at = Err (record { why = w; at = at })

-- a byte is missing
abbrev pub short : {A : Type 0} → Context → List ℕ → Read A
short c bs = refuse why.Short (c.at + length bs)

-- what is read next, unless a refusal was met
abbrev pub next : {A B : Type 0} → Read B → (B → Context → List ℕ → Read A) → Read A
next (Ok r) f = f r.0 r.1 r.2
next (Err e) f = Err e

-- a long, where its bytes are there
abbrev pub long_or : Context → List ℕ → Option (ℤ × List ℕ) → Read ℤ
long_or c bs None = short c bs
long_or c bs (Some r) = Ok (r.0, past (length bs - length r.1) c, r.1)

-- what was read inside of a string of bytes
abbrev pub inside : {A : Type 0} → Why → ℕ → Context → List ℕ → Read A → Read A
inside w at c bs (Ok r) = Ok (r.0, c, bs)
inside w at c bs (Err e) = refuse w at

-- after a round: another one, or this was the last
abbrev pub go_on : {A S : Type 0} → (S → Context → List ℕ → Read A) → S ⊎ A → Context → List ℕ →
    Read A
go_on again (inl t) c bs = again t c bs
go_on again (inr v) c bs = Ok (v, c, bs)

-- rounds until one is the last, at most n of them
abbrev pub in_rounds : {A S : Type 0} → (S → ℕ → Context → List ℕ → Read (S ⊎ A)) → ℕ → S →
    Context → List ℕ → Read A
in_rounds round zero s c bs = short c bs
in_rounds round (suc n) s c [] = short c []
in_rounds round (suc n) s c (b ∷ bs) = next (round s b (past 1 c) bs) (go_on (in_rounds round n))

-- what these bytes are read as from context c
abbrev pub read : {A : Type 0} → Grammar A → Context → List ℕ → Read A
read (gives a) c bs = Ok (a, c, bs)
read (refuses w at) c bs = refuse w at
read (must b w at) c bs = if b then Ok (tt, c, bs) else refuse w at
read byte c [] = short c []
read byte c (b ∷ bs) = Ok (b, past 1 c, bs)
read (bytes n) c bs = if nat_lt (length bs) n then short c bs
    else Ok (take n bs, past n c, drop n bs)
read long c bs = long_or c bs (long_of bs)
read context c bs = Ok (c, c, bs)
read (becomes f) c bs = Ok (tt, f c, bs)
read (within g s w at) c bs = inside w at c bs (read g opening s)
read (follows p q) c bs = next (read p c bs) (λ x. read (q x))
read (rounds f s) c bs = in_rounds (λ t b. read (f t b)) (length bs + 1) s c bs
