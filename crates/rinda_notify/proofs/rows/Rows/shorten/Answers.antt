use Rattle.std.proofs.Common.{List, ◌∙◌, sym, refl, ap}
use Rattle.std.specs.Option.{option_copied_mut}
use Rattle.std.specs.Map.{set_value}
use Rattle.std.specs.BTreeMap.{is_at}
use Rattle.std.specs.Ordering.{nat_cmp}
use Rattle.drb_tree.specs.declared.Tree.{Tree}
use Rattle.rinda_notify.specs.Undoing.{shortened}
use Rattle.rinda_notify.proofs.Listed.{Written, written, unwritten}
use Rattle.rinda_notify.proofs.rows.Rows.shorten.Goals as goal
use Rattle.rinda_notify.proofs.rows.Rows.shorten.Goals.{in-Some, in_default, Joined-get_mut}

result : (c : Joined-get_mut) → Written c.args.id (shortened) c.self.inside.map.entries c.match-get_mut.self-inside.map.entries
result c = elim c.match-get_mut.branch [
  | in-Some w ↦ rw w.self-inside-is (written c.args.id (shortened) c.self.inside.map.entries _ w.in-Some.row.now (λ t. refl) c.self.invariant (sym c.get_mut.ensures.value ∙ ap option_copied_mut w.in-Some.is) ((c.get_mut.follows.holds (record w.in-Some.row.now { queue = w.drop_last.new.self })).0 ∙ ap (λ (q : List Tree). set_value (is_at (nat_cmp c.args.id)) c.self.inside.map.entries (record w.in-Some.row.now { queue = q })) w.drop_last.ensures))
  | in_default w ↦ rw w.self-inside-is (unwritten c.args.id (shortened) c.self.inside.map.entries _ c.self.invariant (sym c.get_mut.ensures.value ∙ ap option_copied_mut w.in_default.is) (ap (λ m. m.entries) c.get_mut.follows.holds-at-none))
]

pub invariant_of-self : goal.invariant_of-self
invariant_of-self c = (result c).table

pub returns : goal.returns
returns c = rw (← c.self.view_is) (result c).values
