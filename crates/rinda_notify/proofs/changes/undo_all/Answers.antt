use Rattle.std.proofs.Common.{◌∙◌, sym, ap, List}
use Rattle.rinda_notify.specs.declared.step.Step.{Step}
use Rattle.rinda_notify.specs.Undoing.{undone}
use Rattle.rinda_notify.proofs.Undone.{undone-last}
use Rattle.rinda_notify.proofs.changes.undo_all.Goals as goal

pub loop-step-preserved : goal.loop-step-preserved
loop-step-preserved c =
    ap (undone c.pop.new.self.items) c.undo.ensures
    ∙ sym (undone-last c.pop.new.self.items c.in-Some.step c.loop-step.rows)
    ∙ ap (λ (ss : List Step). undone ss c.loop-step.rows) (sym c.in-Some.ensures.items)
    ∙ c.loop-step.invariant
