use Rattle.std.proofs.Common.{◌≡◌, ◌∙◌, ◌++◌, ap, ℕ, List, [], rules}
use Rattle.rinda_bag.specs.Indexes.{rows_at}
use Rattle.rinda_bag.specs.Wanted.{all_wanted}
use Rattle.rinda_bag.proofs.Ranged.{same-range}
use Rattle.rinda_bag.proofs.keys.find_all_under.Goals as goal

before : (xs ys zs : List ℕ) → xs ≡ [] → ys ≡ zs → xs ++ ys ≡ zs
before xs ys zs e f = rw e f

pub loop-key-init : goal.loop-key-init
loop-key-init c =
    before _ _ _ c.new-found.ensures.items
    (ap (λ (ks : List ℕ). all_wanted c.args.now c.args.pattern.now (rows_at c.args.rows.now ks))
    (c.into_iter-key-iterator.ensures.into_iter_gives ∙ c.range-key-items.ensures.between (search rules) ∙ same-range c.args.mark _ _ c.args.keys.now.keys (c.new.ensures.start ∙ c.key_of-low.ensures) (c.new.ensures.end ∙ c.key_of-high.ensures)))
