-- What was served stands in what was logged.
use Rattle.std.proofs.Common.{◌≡◌, ◌⊎◌, ℕ, List, Option, None, Some, inl, inr, refl, sym, ap, subst}
use Rattle.rinda_space.specs.Spaces.{Spaced}
use Rattle.drb_serving.specs.declared.settings.Served.{Served}
use Rattle.drb_serving.specs.declared.settings.Served.TheVariants as served
use Rattle.drb_serving.specs.Serving.{Outside, IsServed}
use Rattle.drb_logged.specs.declared.logging.Logged.{Logged}
use Rattle.drb_logged.specs.declared.logging.Logged.TheVariants.{Served as WasServed, DoesNotFit, WriteFault}
use Rattle.drb_logged.specs.Logging.{AllHaveText, FirstIs, IsThere, IsLogged, Kept}

pub logs_as : {G : Type 0} (most : ℕ) (old new : Outside) (guests : Option (List G)) (s : Served) (before after : Option Spaced) (logged : Logged) → IsServed most old new guests before s → Kept s before logged after → IsLogged most old new guests after logged
logs_as most old new guests s before after (WasServed s') h (inl k) =
    (subst (λ (q : Option Spaced). IsServed most old new guests q s') (sym k.1) (subst (λ (t : Served). IsServed most old new guests before t) (sym k.0) h), subst (λ (q : Option Spaced). AllHaveText q) (sym k.1) k.2)
logs_as most old new guests s before after (WasServed s') h (inr k) =
    subst (λ (q : Option Spaced). IsLogged most old new guests q (WasServed s')) (sym k.1) (subst (λ (t : Served). IsLogged most old new guests None (WasServed t)) (sym k.0) (refl, tt))
logs_as most old new guests s before after (DoesNotFit turn) h k =
    subst (λ (q : Option Spaced). IsLogged most old new guests q (DoesNotFit turn)) (sym k.0) ((s, h), k.1)
logs_as most old new guests s before after WriteFault h k =
    subst (λ (q : Option Spaced). IsLogged most old new guests q WriteFault) (sym k.0) ((s, h), k.1)
