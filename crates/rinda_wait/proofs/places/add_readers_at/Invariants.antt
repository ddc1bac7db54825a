use Rattle.std.proofs.Common.{◌≡◌}
use Rattle.rinda_wait.specs.Waiting.{reads}
use Rattle.rinda_wait.specs.Places.{with_led, is_of}
use Rattle.std.specs.Prelude.{filter}
use Rattle.rinda_wait.proofs.places.add_readers_at.Given as goal

-- those found so far, with those through the keys that are left, are those through all
abbrev pub invariant-loop-key : goal.invariant-loop-key
invariant-loop-key l = with_led (reads l.tuple) l.table l.key-iterator l.found.keys ≡ with_led (reads l.tuple) l.table (filter (is_of l.place) l.keys.keys) l.fn.found.keys
