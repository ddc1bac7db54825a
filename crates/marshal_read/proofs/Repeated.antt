-- Steps of a range, taken once more.
use Rattle.std.proofs.Common.{◌≡◌, ℕ, zero, suc, ◌+◌, ◌<◌, ◌≤◌, List, [], ◌∷◌, ◌++◌, length, take, drop, get_or, refl, sym, ap, ◌∙◌, append_assoc, append-nil, arith}
use Rattle.std.proofs.lemmas.List.{drop-append-le, drop_all, length-take-le}
use Rattle.marshal_read.specs.declared.steps.Step.{Step}

-- what is at an index stays there
pub same_there : (ss ts : List Step) (i : ℕ) (x : Step) → i < length ss → get_or (ss ++ ts) i x ≡ get_or ss i x
same_there [] ts i x lt = absurd (omega arith)
same_there (s ∷ ss) ts zero x lt = refl
same_there (s ∷ ss) ts (suc i) x lt = same_there ss ts i x (omega arith)

take-next : (ss : List Step) (i : ℕ) (x : Step) → i < length ss → x ≡ get_or ss i x → take (suc i) ss ≡ take i ss ++ (x ∷ [])
take-next [] i x lt e = absurd (omega arith)
take-next (s ∷ ss) zero x lt e = rw e refl
take-next (s ∷ ss) (suc i) x lt e = ap (λ (ys : List Step). s ∷ ys) (take-next ss i x (omega arith) e)

-- one more
pub repeated : (ss : List Step) (r i : ℕ) (x : Step) → r ≤ i → i < length ss → x ≡ get_or (ss ++ drop r (take i ss)) i x
    → (ss ++ drop r (take i ss)) ++ (x ∷ []) ≡ ss ++ drop r (take (i + 1) ss)
repeated ss r i x le lt e =
    let f : x ≡ get_or ss i x = e ∙ same_there ss (drop r (take i ss)) i x lt in
    let k : suc i ≡ i + 1 = omega arith in
    let l : r ≤ length (take i ss) = omega (arith, length-take-le i ss (omega arith)) in
    append_assoc ss (drop r (take i ss)) (x ∷ [])
    ∙ ap (λ (ys : List Step). ss ++ ys) (sym (ap (drop r) (take-next ss i x lt f) ∙ drop-append-le r (take i ss) (x ∷ []) l))
    ∙ ap (λ (j : ℕ). ss ++ drop r (take j ss)) k

-- none yet
pub repeated_none : (ss : List Step) (r : ℕ) → r ≤ length ss → ss ≡ ss ++ drop r (take r ss)
repeated_none ss r le = sym (ap (λ (ys : List Step). ss ++ ys) (drop_all r (take r ss) (omega (arith, length-take-le r ss le))) ∙ append-nil ss)
