use Rattle.std.proofs.Common.{[], ◌∷◌, sym, ◌∙◌}
use Rattle.rinda_tables.proofs.Asked.{undone-append}
use Rattle.rinda_tables.proofs.requests.take_back.Goals as goal

pub loop-step-preserved : goal.loop-step-preserved
loop-step-preserved c = rw c.undo.ensures (sym (undone-append c.pop.new.self.items (c.in-Some.step ∷ []) c.loop-step.waits) ∙ (rw c.in-Some.ensures.items at c.loop-step.invariant))
