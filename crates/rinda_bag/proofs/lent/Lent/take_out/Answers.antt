use Rattle.std.proofs.Common.{◌∙◌, sym}
use Rattle.rinda_bag.proofs.Loans.{taken-out, loan-rest, loan-row}
use Rattle.rinda_bag.proofs.lent.Lent.take_out.Goals as goal

pub invariant_of-result : goal.invariant_of-result
invariant_of-result c = rw (c.remove_keys.ensures, c.take_out.ensures.rest) (taken-out c.args.self.secret c.args.self.id c.args.self.marks c.args.self.rows c.args.self.keys.keys c.args.self.lent)

pub returns-clause-rest : goal.returns-clause-rest
returns-clause-rest c rows tuple loan = c.take_out.ensures.rest ∙ loan-rest rows tuple c.args.self.id c.args.self.secret c.args.self.marks c.args.self.rows loan

pub returns-clause-row : goal.returns-clause-row
returns-clause-row c rows tuple t loan e = loan-row rows tuple c.args.self.id c.args.self.secret c.args.self.marks c.args.self.rows t c.unwrap-row.result loan e (sym c.take_out.ensures.row ∙ c.unwrap-row.ensures)
