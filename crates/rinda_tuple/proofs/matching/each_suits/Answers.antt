use Rattle.std.proofs.Common.{◌≡◌, ◌≢◌, false, ◌&&◌, List, [], ◌∷◌, length, refl, arith, true}
use Rattle.drb_tree.specs.declared.Tree.{Tree}
use Rattle.rinda_tuple.specs.Matching.{suits, each_suits as each_suits_spec}
use Rattle.rinda_tuple.proofs.matching.each_suits.Goals as goal

-- lists of different lengths do not match
matches-uneven : (es xs : List Tree) → length es ≢ length xs → false ≡ each_suits_spec es xs
matches-uneven [] [] h = absurd (h refl)
matches-uneven [] (x ∷ xs) h = refl
matches-uneven (e ∷ es) [] h = refl
matches-uneven (e ∷ es) (x ∷ xs) h = rw (← matches-uneven es xs (λ same. h (omega arith))) (elim (suits e x) as (λ b. false ≡ (b && false)) [ true ↦ refl | false ↦ refl ])

pub returns-then-es-xs : goal.returns-then-es-xs
returns-then-es-xs c = matches-uneven _ _ c.if-es-xs.true
