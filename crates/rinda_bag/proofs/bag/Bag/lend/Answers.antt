use Rattle.std.proofs.Common.{sym, subst, ap, List}
use Rattle.std.specs.Prelude.{IsSome}
use Rattle.rinda_tuple.specs.declared.tuple.Tuple.TheVariants as tuple
use Rattle.rinda_rules.specs.declared.plain.Entry.{Entry}
use Rattle.rinda_rules.specs.Rows.{row_of}
use Rattle.rinda_bag.specs.Lending.{IsLoanOf}
use Rattle.rinda_bag.proofs.Loans.{lent-by, loan-by}
use Rattle.rinda_bag.proofs.bag.Bag.lend.Goals as goal

pub invariant_of-lent : goal.invariant_of-lent
invariant_of-lent c = record {
  lent = lent-by c.self.inside.secret c.self.inside.rows _ c.self.inside.keys.keys c.args.id c.swap_value-tuple.result (tuple.List c.new.result) _ c.self.invariant (subst (λ (rows : List Entry). IsSome (row_of (λ t. t.id) c.args.id rows)) (sym c.self.view_is) c.requires) c.swap_value-tuple.ensures.before c.tuple_marks-marks.ensures (ap tuple.List c.new.ensures) c.swap_value-tuple.ensures.rows;
}

pub returns-clause-loan : goal.returns-clause-loan
returns-clause-loan c = subst (λ (rows : List Entry). IsLoanOf rows c.swap_value-tuple.result c.args.id c.self.inside.secret c.tuple_marks-marks.result c.swap_value-tuple.new.self) c.self.view_is (loan-by c.self.inside.secret c.self.inside.rows _ c.self.inside.keys.keys c.args.id c.swap_value-tuple.result (tuple.List c.new.result) _ c.self.invariant (subst (λ (rows : List Entry). IsSome (row_of (λ t. t.id) c.args.id rows)) (sym c.self.view_is) c.requires) c.swap_value-tuple.ensures.before c.tuple_marks-marks.ensures (ap tuple.List c.new.ensures) c.swap_value-tuple.ensures.rows)
