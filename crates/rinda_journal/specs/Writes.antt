-- What a step of writing a turn's text leaves.
use Rattle.std.specs.Prelude.{ℕ, ◌≡◌, List, ◌++◌, All, Result, Ok, Err}
use Rattle.drb_tree.specs.declared.Tree.{Tree}
use Rattle.drb_tree.specs.Kept.{WellKept, Ranged, Fits}
use Rattle.drb_packet.specs.Texts.{packets_text}
use Rattle.rinda_journal.specs.declared.error.TurnTextError.{TurnTextError}
use Rattle.rinda_journal.specs.declared.error.TurnTextError.TheVariants.{DoesNotFit}

-- The packets of these values were added, each fits into a dump, and they keep what values keep. Or a front of them was,
-- and only where not each fits is that the reason.
abbrev pub Adds : List Tree → Result (Unit {0}) TurnTextError → List ℕ → List ℕ → Type 0
Adds vs (Ok u) out out' =
    (out' ≡ out ++ packets_text vs) × All Fits vs × All (λ v. WellKept v × Ranged v) vs
Adds vs (Err e) out out' =
    ((rest : List ℕ) × (out' ≡ out ++ rest)) × (e ≡ DoesNotFit → All Fits vs → ⊥)
