-- What a replay keeps of its notifiers, so that what was popped can be counted.
use Rattle.std.specs.Prelude.{◌≡◌, ℕ, true, nat_le, List, length, Some}
use Rattle.std.specs.List.{list_all}
use Rattle.rinda_rules.specs.declared.plain.Notifier.{Notifier}
use Rattle.rinda_rules.specs.declared.plain.Raised.{Raised}
use Rattle.rinda_rules.specs.Rows.{numbered}
use Rattle.rinda_rules.specs.Space.{Plain, Found, TheNotifier, notifier_at}

-- Each notifier has its own id, below the next one, and has popped no more events than were raised.
pub record Counted (next : ℕ) (notifiers : List Notifier) (events : List Raised) : Type 0 where
  pub named : numbered (λ n. n.id) next notifiers ≡ true
  pub within : list_all (λ n. nat_le n.popped (length events)) notifiers ≡ true

-- a notifier that was found is the row with its id
pub record Listed (s : Plain) (f : Found) : Type 0 where
  pub there : (n : Notifier) → f ≡ TheNotifier n → notifier_at s n.id ≡ Some n
