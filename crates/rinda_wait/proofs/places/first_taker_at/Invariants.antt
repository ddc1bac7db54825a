use Rattle.std.proofs.Common.{◌≡◌}
use Rattle.rinda_wait.specs.Waiting.{takes}
use Rattle.rinda_wait.specs.Places.{first_led, is_of}
use Rattle.std.specs.Prelude.{filter}
use Rattle.rinda_wait.proofs.places.first_taker_at.Given as goal

-- what is found through the keys that are left is what is found through all
abbrev pub invariant-loop-key : goal.invariant-loop-key
invariant-loop-key l = first_led (takes l.tuple) l.table l.key-iterator ≡ first_led (takes l.tuple) l.table (filter (is_of l.place) l.keys.keys)
