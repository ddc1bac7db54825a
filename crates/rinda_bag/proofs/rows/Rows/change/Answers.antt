use Rattle.std.proofs.Common.{◌∙◌, sym, ap}
use Rattle.std.specs.Option.{option_copied_mut}
use Rattle.std.specs.Map.{set_value}
use Rattle.std.specs.BTreeMap.{is_at}
use Rattle.std.specs.Ordering.{nat_cmp}
use Rattle.rinda_rules.specs.declared.plain.Entry.{Entry}
use Rattle.rinda_bag.specs.Changes.{changed_by}
use Rattle.rinda_bag.proofs.Listed.{Written, written, unwritten}
use Rattle.rinda_bag.proofs.Kept.{changed_by-id}
use Rattle.rinda_bag.proofs.rows.Rows.change.Goals as goal
use Rattle.rinda_bag.proofs.rows.Rows.change.Goals.{in-Some, in-None, Joined-get_mut}

result : (c : Joined-get_mut) → Written c.args.id (changed_by c.args.change) c.self.inside.map.entries c.match-get_mut.self-inside.map.entries
result c = elim c.match-get_mut.branch [
  | in-Some w ↦ rw w.self-inside-is (written c.args.id (changed_by c.args.change) c.self.inside.map.entries _ w.in-Some.row.now (changed_by-id c.args.change) c.self.invariant (sym c.get_mut.ensures.value ∙ ap option_copied_mut w.in-Some.is) ((c.get_mut.follows.holds w.apply.new.row).0 ∙ ap (λ (t : Entry). set_value (is_at (nat_cmp c.args.id)) c.self.inside.map.entries t) w.apply.ensures))
  | in-None w ↦ rw w.self-inside-is (unwritten c.args.id (changed_by c.args.change) c.self.inside.map.entries _ c.self.invariant (sym c.get_mut.ensures.value ∙ ap option_copied_mut w.in-None.is) (ap (λ m. m.entries) c.get_mut.follows.holds-at-none))
]

pub invariant_of-self : goal.invariant_of-self
invariant_of-self c = (result c).table

pub returns : goal.returns
returns c = rw (← c.self.view_is) (result c).values
