use Rattle.std.proofs.Common.{◌≡◌, ◌∙◌, ◌<◌, subst, sym, ℕ, true, List, ltb}
use Rattle.std.specs.List.{list_all}
use Rattle.rinda_rules.specs.declared.plain.Entry.{Entry}
use Rattle.rinda_bag.proofs.Indexed.{indexed-put, without-last}
use Rattle.rinda_bag.proofs.bag.Bag.put.Goals as goal

pub invariant_of-self-then-add_keys : goal.invariant_of-self-then-add_keys
invariant_of-self-then-add_keys c =
    let low : list_all (λ x. ltb x.id c.args.row.id) c.self.inside.rows ≡ true = subst (λ (rows : List Entry). list_all (λ x. ltb x.id c.args.row.id) rows ≡ true) (sym c.self.view_is) c.requires in
    let small : c.args.row.id < 18446744073709551616 = subst (λ (i : ℕ). i < 18446744073709551616) c.bounded-id.ensures.same c.bounded-id.ensures.small in
    rw (c.in_ok-put.ensures.ok, c.if-add_keys.ensures.yes, c.tuple_marks-marks.ensures, c.bounded-id.ensures.same) (indexed-put c.self.inside.secret c.self.inside.rows c.self.inside.keys.keys c.args.row c.self.invariant low small)

pub invariant_of-self-2 : goal.invariant_of-self-2
invariant_of-self-2 c =
    let low : list_all (λ x. ltb x.id c.args.row.id) c.self.inside.rows ≡ true = subst (λ (rows : List Entry). list_all (λ x. ltb x.id c.args.row.id) rows ≡ true) (sym c.self.view_is) c.requires in
    rw (c.take_out.ensures.rest, c.in_ok-put.ensures.ok, c.if-add_keys.ensures.no, c.bounded-id.ensures.same, without-last c.self.inside.rows c.args.row low) c.self.invariant

pub returns-clause-kept : goal.returns-clause-kept
returns-clause-kept c =
    let low : list_all (λ x. ltb x.id c.args.row.id) c.self.inside.rows ≡ true = subst (λ (rows : List Entry). list_all (λ x. ltb x.id c.args.row.id) rows ≡ true) (sym c.self.view_is) c.requires in
    c.take_out.ensures.rest ∙ rw (c.in_ok-put.ensures.ok, c.bounded-id.ensures.same) (without-last c.self.inside.rows c.args.row low) ∙ c.self.view_is
