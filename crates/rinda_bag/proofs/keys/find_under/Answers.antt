use Rattle.std.proofs.Common.{◌≡◌, ◌∙◌, ◌≤◌, ◌+◌, ap, subst, ℕ, List, rules, arith}
use Rattle.std.specs.Prelude.{filter}
use Rattle.rinda_bag.specs.Indexes.{is_of, rows_at}
use Rattle.rinda_bag.specs.Wanted.{least_wanted, opening_rows}
use Rattle.rinda_bag.proofs.Ranged.{same-range}
use Rattle.rinda_bag.proofs.keys.find_under.Goals as goal

same_le : (n k : ℕ) → n + k ≤ n + k
same_le n k = omega arith

start : (n : ℕ) (f : List ℕ → ℕ) (a b : List ℕ) → a ≡ b → n + f a ≤ n + f b
start n f a b e = subst (λ (ks : List ℕ). n + f a ≤ n + f ks) e (same_le n (f a))

pub loop-key-init : goal.loop-key-init
loop-key-init g c =
    let keys : c.into_iter-key-iterator.result ≡ filter (is_of c.args.mark) c.args.keys.now.keys = c.into_iter-key-iterator.ensures.into_iter_gives ∙ c.range-key-items.ensures.between (search rules) ∙ same-range c.args.mark _ _ c.args.keys.now.keys (c.new.ensures.start ∙ c.key_of-low.ensures) (c.new.ensures.end ∙ c.key_of-high.ensures) in
    (ap (λ (ks : List ℕ). least_wanted c.args.now c.args.free c.args.pattern.now (rows_at c.args.rows.now ks)) keys, start _ (λ (ks : List ℕ). opening_rows c.args.pattern.now (rows_at c.args.rows.now ks)) _ _ keys)
