-- What serving with a journal comes to: docs/JOURNAL.md, Serving with a journal.
use Rattle.std.specs.Prelude.{◌≡◌, ◌⊎◌, ℕ, ◌-◌, List, ◌++◌, take, ⊤, Option, None, Some, All}
use Rattle.rinda_space.specs.Spaces.{Spaced}
use Rattle.rinda_journal.specs.Texts.{HasText}
use Rattle.rinda_journal.specs.Histories.{history_text, FirstWithout}
use Rattle.drb_serving.specs.declared.settings.Served.{Served}
use Rattle.drb_serving.specs.declared.settings.Served.TheVariants as served
use Rattle.drb_serving.specs.Serving.{Outside, IsServed}
use Rattle.drb_logged.specs.declared.logging.Logged.{Logged}
use Rattle.drb_logged.specs.declared.logging.Logged.TheVariants.{Served as WasServed, DoesNotFit, WriteFault}

-- each turn of the space has a text, where there is a space
abbrev pub AllHaveText : Option Spaced → Type 0
AllHaveText None = ⊤
AllHaveText (Some space) = All HasText space.turns

-- there is a space, and the turn of that number is its first that has no text
abbrev pub FirstIs : ℕ → Option Spaced → Type 0
FirstIs turn None = ⊥
FirstIs turn (Some space) = FirstWithout space.turns turn

-- there is a space
abbrev pub IsThere : Option Spaced → Type 0
IsThere None = ⊥
IsThere (Some space) = ⊤

-- What serving with a journal comes to. Guests were served as that says, and each turn has a text; or guests were
-- served, and the turn of that number is the first of the space handed back that has none; or the sink failed behind it.
abbrev pub IsLogged : {G : Type 0} → ℕ → Outside → Outside → Option (List G) → Option Spaced → Logged → Type 0
IsLogged cap old new guests space (WasServed s) = IsServed cap old new guests space s × AllHaveText space
IsLogged cap old new guests space (DoesNotFit turn) =
    ((s : Served) × IsServed cap old new guests space s) × FirstIs turn space
IsLogged cap old new guests space WriteFault =
    ((s : Served) × IsServed cap old new guests space s) × IsThere space

-- What the sink was given. The texts of all turns of the space handed back; those of the turns before the one that has
-- none; a front of them up to a fault; or anything where there is no space for want of memory.
abbrev pub Logs : Option Spaced → Logged → List ℕ → List ℕ → Type 0
Logs None logged given given' = (more : List ℕ) × (given' ≡ given ++ more)
Logs (Some space) (WasServed s) given given' = given' ≡ given ++ history_text space.turns
Logs (Some space) (DoesNotFit turn) given given' =
    given' ≡ given ++ history_text (take (turn - 1) space.turns)
Logs (Some space) WriteFault given given' =
    (front rest : List ℕ) × (given' ≡ given ++ front) × (history_text space.turns ≡ front ++ rest)

-- The space is handed on, with what was served where its history was written; or it is dropped for want of memory.
abbrev pub Kept : Served → Option Spaced → Logged → Option Spaced → Type 0
Kept s before (WasServed s') after = ((s' ≡ s) × (after ≡ before) × AllHaveText before)
    ⊎ ((s' ≡ served.Memory) × (after ≡ None))
Kept s before (DoesNotFit turn) after = (after ≡ before) × FirstIs turn before
Kept s before WriteFault after = (after ≡ before) × IsThere before
