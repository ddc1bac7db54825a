-- The cases that change nothing.
use Rattle.std.proofs.Common.{◌≡◌, refl}
use Rattle.rinda_rules.specs.Space.{Plain, Found, TheTuple, TheRequest, TheNotifier, HasEnded, IsRecycled, IsUnknown}
use Rattle.rinda_rules.specs.Cases.{look, value}

pub look-keeps : (s : Plain) (f : Found) → (look s f).after ≡ s
look-keeps s (TheRequest r) = refl
look-keeps s (TheTuple t) = refl
look-keeps s (TheNotifier n) = refl
look-keeps s (HasEnded kind last) = refl
look-keeps s IsRecycled = refl
look-keeps s IsUnknown = refl

pub value-keeps : (s : Plain) (f : Found) → (value s f).after ≡ s
value-keeps s (TheRequest r) = refl
value-keeps s (TheTuple t) = refl
value-keeps s (TheNotifier n) = refl
value-keeps s (HasEnded kind last) = refl
value-keeps s IsRecycled = refl
value-keeps s IsUnknown = refl
