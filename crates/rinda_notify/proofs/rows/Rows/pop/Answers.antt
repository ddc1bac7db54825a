use Rattle.std.proofs.Common.{List, Option, ◌≡◌, ◌∙◌, sym, refl, ap}
use Rattle.std.specs.Option.{option_copied_mut}
use Rattle.std.specs.Map.{set_value}
use Rattle.std.specs.BTreeMap.{is_at}
use Rattle.std.specs.Ordering.{nat_cmp}
use Rattle.drb_tree.specs.declared.Tree.{Tree}
use Rattle.rinda_notify.specs.declared.note.Note.{Note}
use Rattle.rinda_notify.specs.Notes.{note_at, first_at, advanced}
use Rattle.rinda_notify.proofs.Listed.{found-row, Written, written, unwritten}
use Rattle.rinda_notify.proofs.rows.Rows.pop.Goals as goal
use Rattle.rinda_notify.proofs.rows.Rows.pop.Goals.{in-Some, in-None, Joined-get_mut}

result : (c : Joined-get_mut) → Written c.args.id (advanced) c.self.inside.map.entries c.match-get_mut.self-inside.map.entries
result c = elim c.match-get_mut.branch [
  | in-Some w ↦ rw w.self-inside-is (written c.args.id (advanced) c.self.inside.map.entries _ w.in-Some.row.now (λ t. refl) c.self.invariant (sym c.get_mut.ensures.value ∙ ap option_copied_mut w.in-Some.is) ((c.get_mut.follows.holds (record w.in-Some.row.now { queue = w.pop.new.self })).0 ∙ ap (λ (q : List Tree). set_value (is_at (nat_cmp c.args.id)) c.self.inside.map.entries (record w.in-Some.row.now { queue = q })) w.pop.ensures.rest))
  | in-None w ↦ rw w.self-inside-is (unwritten c.args.id (advanced) c.self.inside.map.entries _ c.self.invariant (sym c.get_mut.ensures.value ∙ ap option_copied_mut w.in-None.is) (ap (λ m. m.entries) c.get_mut.follows.holds-at-none))
]

pub invariant_of-self : goal.invariant_of-self
invariant_of-self c = (result c).table

pub returns-clause-rest : goal.returns-clause-rest
returns-clause-rest c = rw (← c.self.view_is) (result c).values

found : (c : Joined-get_mut) (f : Option Note) → option_copied_mut c.get_mut.result ≡ f → note_at c.args.id c.args.self.now ≡ f
found c f e = rw (← c.self.view_is) (found-row c.args.id c.self.inside.map.entries f c.self.invariant (sym c.get_mut.ensures.value ∙ e))

pub returns-clause-first : goal.returns-clause-first
returns-clause-first c = elim c.match-get_mut.branch [
  | in-Some w ↦ w.result-is ∙ w.pop.ensures.first ∙ ap (λ (f : Option Note). first_at f) (sym (found c _ (ap option_copied_mut w.in-Some.is)))
  | in-None w ↦ w.result-is ∙ ap (λ (f : Option Note). first_at f) (sym (found c _ (ap option_copied_mut w.in-None.is)))
]
