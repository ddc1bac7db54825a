use Rattle.std.proofs.Common.{◌∙◌, sym, ap, List, ℕ}
use Rattle.std.specs.Vec.Iter.{into_iter_items}
use Rattle.rinda_effects.specs.Ages.{changed_all}
use Rattle.rinda_notify.specs.declared.note.Note.{Note}
use Rattle.rinda_notify.specs.declared.step.Step.{Step}
use Rattle.rinda_notify.specs.Notes.{closed}
use Rattle.rinda_notify.specs.Undoing.{undone}
use Rattle.rinda_notify.proofs.Undone.{shut_all}
use Rattle.rinda_notify.proofs.changes.shut.Goals as goal

pub loop-id-init : goal.loop-id-init
loop-id-init c = (
  ap (λ (ids : List ℕ). changed_all (λ (n : Note). n.id) (closed c.args.last) ids c.args.rows.now) (c.into_iter-id-iterator.ensures.into_iter_gives.0 ∙ c.in_ok-id-items.ensures.ids)
      ∙ shut_all c.args.last c.args.rows.now c.in_ok-id-items.ensures.rising,
  ap (λ (ss : List Step). undone ss c.args.rows.now) c.new-steps.ensures.items,
)

pub loop-id-preserved : goal.loop-id-preserved
loop-id-preserved c = (
  ap (λ (ns : List Note). changed_all (λ (n : Note). n.id) (closed c.args.last) (into_iter_items c.next.new.self) ns) c.in-Ok.ensures.rows
      ∙ ap (λ (ids : List ℕ). changed_all (λ (n : Note). n.id) (closed c.args.last) ids c.loop-id.rows) (sym c.in-Some.ensures.steps.0)
      ∙ c.loop-id.invariant.0,
  c.in-Ok.ensures.back ∙ c.loop-id.invariant.1,
)
