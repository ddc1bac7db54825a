-- What calls over a source or a sink leave as it was.
use Rattle.std.specs.Prelude.{◌≡◌, ℕ, ◌≤◌, List}
use Rattle.std.specs.declared.option.Option.{Option}
use Rattle.drb_outside.specs.Records.{Record}
use Rattle.drb_outside.specs.Told.{Told}

-- Of a source, or of a sink, before and after. The bytes that it tells are in this relation. Nothing else that it tells
-- changed, nor which reference it holds, and its count of faults never fell.
pub record ChangesBytes {X : Type 0} (told : X → Option (List ℕ)) (keeps : X → List Record)
    (name fails : X → ℕ) (old new : X) (P : List ℕ → List ℕ → Type 0) : Type 0 where
  pub bytes : Told (told old) (told new) (fails new) P
  pub stays : Told (told old) (told new) (fails new) (λ _ _. keeps new ≡ keeps old)
  pub holds : name new ≡ name old
  pub later : fails old ≤ fails new
