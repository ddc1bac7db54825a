use Rattle.std.proofs.Common.{◌∙◌, ap, rules, ℕ, List}
use Rattle.rinda_wait.specs.Waiting.{reads}
use Rattle.rinda_wait.specs.Places.{with_led}
use Rattle.rinda_wait.proofs.Ranges.{same-range}
use Rattle.rinda_wait.proofs.places.add_readers_at.Goals as goal

pub loop-key-init : goal.loop-key-init
loop-key-init c =
    ap (λ (ks : List ℕ). with_led (reads c.args.tuple.now) c.args.table.now ks c.args.found.now.keys)
    (c.into_iter-key-iterator.ensures.into_iter_gives ∙ c.range-key-items.ensures.between (search rules) ∙ same-range c.args.place _ _ c.args.keys.now.keys (c.new.ensures.start ∙ c.key_of-low.ensures) (c.new.ensures.end ∙ c.key_of-high.ensures))
