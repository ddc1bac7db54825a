use Rattle.std.proofs.Common.{◌∙◌}
use Rattle.rinda_bag.proofs.Loans.{given-back, loan-restored}
use Rattle.rinda_bag.proofs.lent.Lent.give_back.Goals as goal

pub invariant_of-result : goal.invariant_of-result
invariant_of-result c = rw c.swap_value.ensures.rows (given-back c.args.self.secret c.args.self.id c.args.self.marks c.args.self.rows c.args.self.keys.keys c.args.tuple c.args.self.lent c.requires)

pub returns : goal.returns
returns c rows loan = c.swap_value.ensures.rows ∙ loan-restored rows c.args.tuple c.args.self.id c.args.self.secret c.args.self.marks c.args.self.rows loan
