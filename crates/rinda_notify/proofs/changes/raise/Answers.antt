use Rattle.std.proofs.Common.{◌∙◌, sym, ap, List, [], ◌∷◌, ◌++◌, ℕ}
use Rattle.std.specs.Vec.Iter.{into_iter_items}
use Rattle.rinda_effects.specs.Ages.{changed_all}
use Rattle.rinda_notify.specs.declared.note.Note.{Note}
use Rattle.rinda_notify.specs.declared.step.Step.{Step}
use Rattle.rinda_notify.specs.declared.step.Step.TheVariants as step
use Rattle.rinda_notify.specs.Notes.{queued, event_of}
use Rattle.rinda_notify.specs.Undoing.{undone}
use Rattle.rinda_notify.proofs.Undone.{told_all, undone-queued}
use Rattle.rinda_notify.proofs.changes.raise.Goals as goal

pub loop-id-init : goal.loop-id-init
loop-id-init c = (
  ap (λ (ids : List ℕ). changed_all (λ (n : Note). n.id) (queued (event_of c.args.what c.args.tuple.now)) ids c.args.rows.now) (c.into_iter-id-iterator.ensures.into_iter_gives.0 ∙ c.in_ok-id-items.ensures.ids)
      ∙ told_all c.args.what c.args.tuple.now c.args.rows.now c.in_ok-id-items.ensures.rising,
  ap (λ (ss : List Step). undone ss c.args.rows.now) c.new-steps.ensures.items,
)

pub loop-id-preserved : goal.loop-id-preserved
loop-id-preserved c =
    let event = event_of c.args.what c.args.tuple.now in
    let steps = c.loop-id.steps.items ++ step.Event c.in-Some.id ∷ [] in (
      ap (λ (ns : List Note). changed_all (λ (n : Note). n.id) (queued event) (into_iter_items c.next.new.self) ns) c.in-Ok.ensures.rows
          ∙ ap (λ (ids : List ℕ). changed_all (λ (n : Note). n.id) (queued event) ids c.loop-id.rows) (sym c.in-Some.ensures.steps.0)
          ∙ c.loop-id.invariant.0,
      ap (λ (ss : List Step). undone ss c.queue_event.new.rows) c.in-Ok.ensures.steps
          ∙ ap (undone steps) c.in-Ok.ensures.rows
          ∙ undone-queued c.loop-id.steps.items c.in-Some.id event c.loop-id.rows
          ∙ c.loop-id.invariant.1,
    )
