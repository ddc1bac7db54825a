use Rattle.rinda_bag.specs.Changes.{changed_by}
use Rattle.rinda_bag.proofs.Indexed.{indexed-changed}
use Rattle.rinda_bag.proofs.Kept.{changed_by-id, changed_by-value}
use Rattle.rinda_bag.proofs.bag.Bag.change.Goals as goal

pub invariant_of-self : goal.invariant_of-self
invariant_of-self c = rw c.change.ensures (indexed-changed c.self.inside.secret c.self.inside.rows c.self.inside.keys.keys c.args.id (changed_by c.args.change) (changed_by-id c.args.change) (changed_by-value c.args.change) c.self.invariant)
