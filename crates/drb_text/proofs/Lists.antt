-- A text with lists down to a depth.
use Rattle.std.proofs.Common.{ℕ, zero, suc, ◌≡◌, ◌-◌, ◌==◌, true, false, List, length, take, drop, Ok, Err, refl, sym, ap, ◌∙◌, arith}
use Rattle.std.specs.Prelude.{◌≤◌, Result, MatchResult}
use Rattle.std.proofs.Math.Seq.{take-length}
use Rattle.std.proofs.lemmas.List.{length-drop}
use Rattle.drb_tree.specs.declared.Tree.{Tree}
use Rattle.drb_tree.specs.Trees.{list_tree}
use Rattle.drb_text.specs.declared.fault.Fault.{Fault}
use Rattle.drb_text.specs.declared.fault.Fault.TheVariants as fault
use Rattle.drb_text.specs.Told.{ReadsAs, Faults}
use Rattle.drb_text.specs.Reading.{Read, read_as, begins}
use Rattle.drb_text.specs.Texts.{plain, list_with, text}

-- what stands behind the first byte
pub whole_slice : (bs : List ℕ) → take (length bs - 1) (drop 1 bs) ≡ drop 1 bs
whole_slice bs = ap (λ (k : ℕ). take k (drop 1 bs)) (sym (length-drop 1 bs)) ∙ take-length (drop 1 bs)

pub text_plain : (room : ℕ) (bs : List ℕ) → begins 91 bs ≡ false → text room bs ≡ plain bs
unfolding text
text_plain zero bs e = rw e refl
text_plain (suc room) bs e = rw e refl

pub text_deep : (room : ℕ) (bs : List ℕ) → begins 91 bs ≡ true → room ≡ 0 → text room bs ≡ Err (length bs)
unfolding text
text_deep zero bs e z = rw e refl
text_deep (suc room) bs e z = absurd (omega arith)

pub text_list : (room : ℕ) (bs : List ℕ) → begins 91 bs ≡ true → text (suc room) bs ≡ read_as list_tree (list_with (text room) (drop 1 bs))
unfolding text
text_list room bs e = rw e refl

pub text_list_at : (room less : ℕ) (bs rest : List ℕ) → begins 91 bs ≡ true → room ≡ suc less → rest ≡ drop 1 bs → text room bs ≡ read_as list_tree (list_with (text less) rest)
text_list_at room less bs rest e r d = ap (λ (k : ℕ). text k bs) r ∙ text_list less bs e ∙ ap (λ (x : List ℕ). read_as list_tree (list_with (text less) x)) (sym d)

-- what is said of the bytes ys, said of more bytes that are read so
pub widened : {T : Type 0} (value : T → Tree) (behind : T → List ℕ) (result : Result T Fault) (r s : Read Tree) (xs ys : List ℕ) → r ≡ s → length ys ≤ length xs
    → MatchResult result (λ t. ReadsAs s ys (value t) (behind t)) (λ f. Faults s ys f) → MatchResult result (λ t. ReadsAs r xs (value t) (behind t)) (λ f. Faults r xs f)
widened value behind (Ok t) r s xs ys e l h = record { reads = e ∙ h.reads; within = omega (arith, l, h.within) }
widened value behind (Err (fault.Stuck left)) r s xs ys e l h = record { stuck = e ∙ h.stuck; within = omega (arith, l, h.within) }
widened value behind (Err fault.Memory) r s xs ys e l h = tt
