-- A word, expected byte by byte.
use Rattle.std.proofs.Common.{ℕ, zero, suc, ◌≡◌, ◌<◌, ◌+◌, true, false, List, [], ◌∷◌, length, drop, get_or, Err, refl, sym, ap, ◌∙◌, arith}
use Rattle.drb_text.specs.Reading.{expect, begins}

stuck_here : (c : ℕ) (cs rest : List ℕ) → begins c rest ≡ false → expect (c ∷ cs) rest ≡ Err (length rest)
stuck_here c cs [] h = refl
stuck_here c cs (b ∷ bs) h = rw h refl

on_here : (c : ℕ) (cs rest : List ℕ) → begins c rest ≡ true → expect (c ∷ cs) rest ≡ expect cs (drop 1 rest)
on_here c cs [] h = absurd (cc)
on_here c cs (b ∷ bs) h = rw h refl

pub expect_stuck : (word rest : List ℕ) (i c d : ℕ) → i < length word → c ≡ get_or word i d → begins c rest ≡ false → expect (drop i word) rest ≡ Err (length rest)
expect_stuck [] rest i c d l e h = absurd (omega arith)
expect_stuck (x ∷ xs) rest zero c d l e h = ap (λ (y : ℕ). expect (y ∷ xs) rest) (sym e) ∙ stuck_here c xs rest h
expect_stuck (x ∷ xs) rest (suc i) c d l e h = expect_stuck xs rest i c d (omega arith) e h

on_next : (word rest : List ℕ) (i c d : ℕ) → i < length word → c ≡ get_or word i d → begins c rest ≡ true → expect (drop i word) rest ≡ expect (drop (suc i) word) (drop 1 rest)
on_next [] rest i c d l e h = absurd (omega arith)
on_next (x ∷ xs) rest zero c d l e h = ap (λ (y : ℕ). expect (y ∷ xs) rest) (sym e) ∙ on_here c xs rest h
on_next (x ∷ xs) rest (suc i) c d l e h = on_next xs rest i c d (omega arith) e h

pub expect_on : (word rest : List ℕ) (i c d : ℕ) → i < length word → c ≡ get_or word i d → begins c rest ≡ true → expect (drop i word) rest ≡ expect (drop (i + 1) word) (drop 1 rest)
expect_on word rest i c d l e h = let j : suc i ≡ i + 1 = omega arith in on_next word rest i c d l e h ∙ ap (λ (k : ℕ). expect (drop k word) (drop 1 rest)) j
