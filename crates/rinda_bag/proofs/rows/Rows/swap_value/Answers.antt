use Rattle.std.proofs.Common.{◌≡◌, ◌∙◌, sym, refl, ap, Some, None}
use Rattle.std.specs.Option.{option_copied_mut}
use Rattle.std.specs.Map.{set_value}
use Rattle.std.specs.BTreeMap.{is_at}
use Rattle.std.specs.Ordering.{nat_cmp}
use Rattle.rinda_rules.specs.declared.plain.Entry.{Entry}
use Rattle.rinda_bag.specs.Lending.{with_value}
use Rattle.rinda_tuple.specs.declared.tuple.Tuple.{Tuple}
use Rattle.rinda_rules.specs.Rows.{row_of}
use Rattle.rinda_bag.proofs.Listed.{Written, written, unwritten, lookup-row}
use Rattle.rinda_bag.proofs.rows.Rows.swap_value.Goals as goal
use Rattle.rinda_bag.proofs.rows.Rows.swap_value.Goals.{in-Some, in-None, Joined-get_mut}

result : (c : Joined-get_mut) → Written c.args.id (with_value c.args.value) c.self.inside.map.entries c.match-get_mut.self-inside.map.entries
result c = elim c.match-get_mut.branch [
  | in-Some w ↦ rw w.self-inside-is (written c.args.id (with_value c.args.value) c.self.inside.map.entries _ w.in-Some.row.now (λ t. refl) c.self.invariant (sym c.get_mut.ensures.value ∙ ap option_copied_mut w.in-Some.is) ((c.get_mut.follows.holds w.swapped.new.row).0 ∙ ap (λ (t : Entry). set_value (is_at (nat_cmp c.args.id)) c.self.inside.map.entries t) w.swapped.ensures.row))
  | in-None w ↦ rw w.self-inside-is (unwritten c.args.id (with_value c.args.value) c.self.inside.map.entries _ c.self.invariant (sym c.get_mut.ensures.value ∙ ap option_copied_mut w.in-None.is) (ap (λ m. m.entries) c.get_mut.follows.holds-at-none))
]

pub invariant_of-self : goal.invariant_of-self
invariant_of-self c = (result c).table

pub returns-clause-rows : goal.returns-clause-rows
returns-clause-rows c = rw (← c.self.view_is) (result c).values

the_row : (c : Joined-get_mut) → option_copied_mut c.get_mut.result ≡ row_of (λ t. t.id) c.args.id c.args.self.now
the_row c = c.get_mut.ensures.value ∙ rw (← c.self.view_is) (lookup-row c.args.id c.self.inside.map.entries c.self.invariant.keyed)

same_value : (x t : Entry) → Some x ≡ Some t → x.value ≡ t.value
same_value x t e = ap (λ (t : Entry). t.value) (some_same e)
  where
    some_same : {a b : Entry} → Some a ≡ Some b → a ≡ b
    some_same e = cc

no_row : (t : Entry) (a b : Tuple) → None ≡ Some t → a ≡ b
no_row t a b e = cc

pub returns-clause-before : goal.returns-clause-before
returns-clause-before c t e = elim c.match-get_mut.branch [
  | in-Some w ↦ w.result-is ∙ w.swapped.ensures.before ∙ same_value w.in-Some.row.now t (sym (ap option_copied_mut w.in-Some.is) ∙ the_row c ∙ e)
  | in-None w ↦ no_row t _ _ (sym (ap option_copied_mut w.in-None.is) ∙ the_row c ∙ e)
]
