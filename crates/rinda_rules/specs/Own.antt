-- The events that only a request's own caller makes of it. docs/SPACE.md, Cases.
use Rattle.std.specs.Prelude.{ℕ, Bool, false, ◌==◌}
use Rattle.rinda_rules.specs.declared.event.Event.{Event}
use Rattle.rinda_rules.specs.declared.event.Event.TheVariants.{Write, Reserve, Submit, Collect, Settle, Withdraw, Cancel, Renew, Look, Value, ReadAll, Notify, Pop, NextAsk, Asked, Tick, Shut}

-- the event is one of those that only a request's own caller makes of it
abbrev pub is_of : ℕ → Event → Bool
is_of id (Write value lease) = false
is_of id (Reserve kind pattern lease) = false
is_of id (Submit i) = i == id
is_of id (Collect i) = i == id
is_of id (Settle i ok) = i == id
is_of id (Withdraw i) = i == id
is_of id (Cancel i) = false
is_of id (Renew i lease) = false
is_of id (Look i) = false
is_of id (Value i) = false
is_of id (ReadAll pattern) = false
is_of id (Notify event pattern lease) = false
is_of id (Pop i) = false
is_of id NextAsk = false
is_of id (Asked i life) = false
is_of id Tick = false
is_of id Shut = false
