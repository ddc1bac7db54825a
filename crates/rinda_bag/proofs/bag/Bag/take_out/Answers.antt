use Rattle.std.proofs.Common.{◌∙◌, sym}
use Rattle.rinda_bag.proofs.Indexed.{indexed-taken}
use Rattle.rinda_bag.proofs.bag.Bag.take_out.Goals as goal

pub invariant_of-self : goal.invariant_of-self
invariant_of-self c = rw (c.remove_keys.ensures, c.take_out.ensures.rest, c.tuple_marks.ensures) (indexed-taken c.self.inside.secret c.self.inside.rows c.self.inside.keys.keys c.args.id c.unwrap-row.result c.self.invariant (sym c.take_out.ensures.row ∙ c.unwrap-row.ensures))
