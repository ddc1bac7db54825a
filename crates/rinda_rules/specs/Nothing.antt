-- What counts as nothing, and makes no turn. docs/SPACE.md, Nothing.
use Rattle.std.specs.Prelude.{ℕ, Bool, true, false, ◌&&◌, ◌==◌, List, [], ◌∷◌, is_none}
use Rattle.rinda_rules.specs.declared.event.Event.{Event}
use Rattle.rinda_rules.specs.declared.event.Event.TheVariants.{Write, Reserve, Submit, Collect, Settle, Withdraw, Cancel, Renew, Look, Value, ReadAll, Notify, Pop, NextAsk, Asked, Tick, Shut}
use Rattle.rinda_rules.specs.declared.plain.Raised.{Raised}
use Rattle.rinda_rules.specs.Space.{Plain, Found, TheTuple, TheRequest, TheNotifier, HasEnded, IsRecycled, IsUnknown, found, is_parked, is_running}
use Rattle.rinda_rules.specs.Queue.{queue}
use Rattle.rinda_rules.specs.Phases.{advanced, nothing_due}
use Rattle.rinda_rules.specs.Cases.{askings, least}

-- the caller's own request is parked
abbrev pub waits_for : ℕ → Found → Bool
waits_for caller (TheRequest r) = r.caller == caller && is_parked r.state
waits_for caller (TheTuple t) = false
waits_for caller (TheNotifier n) = false
waits_for caller (HasEnded kind last) = false
waits_for caller IsRecycled = false
waits_for caller IsUnknown = false

abbrev pub is_empty : List Raised → Bool
is_empty [] = true
is_empty (e ∷ es) = false

-- the notifier runs, and its queue is empty
abbrev pub hears_nothing : Plain → Found → Bool
hears_nothing s (TheRequest r) = false
hears_nothing s (TheTuple t) = false
hears_nothing s (TheNotifier n) = is_running n.state && is_empty (queue n s.events)
hears_nothing s (HasEnded kind last) = false
hears_nothing s IsRecycled = false
hears_nothing s IsUnknown = false

-- the event finds nothing to do: a Tick, or one that answers NotYet
abbrev pub finds_nothing : Plain → ℕ → Event → Bool
finds_nothing s caller (Write value lease) = false
finds_nothing s caller (Reserve kind pattern lease) = false
finds_nothing s caller (Submit id) = false
finds_nothing s caller (Collect id) = waits_for caller (found s id)
finds_nothing s caller (Settle id ok) = false
finds_nothing s caller (Withdraw id) = false
finds_nothing s caller (Cancel id) = false
finds_nothing s caller (Renew id lease) = false
finds_nothing s caller (Look id) = false
finds_nothing s caller (Value id) = false
finds_nothing s caller (ReadAll pattern) = false
finds_nothing s caller (Notify event pattern lease) = false
finds_nothing s caller (Pop id) = hears_nothing s (found s id)
finds_nothing s caller NextAsk = is_none (least (askings s))
finds_nothing s caller (Asked id life) = false
finds_nothing s caller Tick = true
finds_nothing s caller Shut = s.shut

-- no row is due at the larger of now and the reading, and the event finds nothing to do
abbrev pub is_nothing : Plain → ℕ → ℕ → Event → Bool
is_nothing s caller at event = nothing_due (advanced s at) && finds_nothing s caller event
