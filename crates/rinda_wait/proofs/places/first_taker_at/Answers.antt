use Rattle.std.proofs.Common.{◌∙◌, ap, rules}
use Rattle.rinda_wait.specs.Waiting.{takes}
use Rattle.rinda_wait.specs.Places.{first_led}
use Rattle.rinda_wait.proofs.Ranges.{same-range}
use Rattle.rinda_wait.proofs.places.first_taker_at.Goals as goal

pub loop-key-init : goal.loop-key-init
loop-key-init c =
    ap (first_led (takes c.args.tuple.now) c.args.table.now)
    (c.into_iter-key-iterator.ensures.into_iter_gives ∙ c.range-key-items.ensures.between (search rules) ∙ same-range c.args.place _ _ c.args.keys.now.keys (c.new.ensures.start ∙ c.key_of-low.ensures) (c.new.ensures.end ∙ c.key_of-high.ensures))
