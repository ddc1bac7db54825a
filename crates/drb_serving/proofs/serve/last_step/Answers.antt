use Rattle.std.proofs.Common.{arith, subst, sym, ◌∙◌}
use Rattle.rinda_space.specs.Spaces.{Spaced}
use Rattle.drb_serving.specs.Parts.{Kept, is_memory}
use Rattle.drb_serving.proofs.Ends.{last_kept, not_so}
use Rattle.drb_serving.proofs.serve.last_step.Goals as goal

pub returns : goal.returns
returns g c = λ e. subst (λ (v : Spaced). Kept c.args.space.now.cap v (g.C.Clock.readings c.args.keeping.now.clock) (g.C.Clock.readings c.step-end.new.clock)) (sym (c.space-1.given.1 (sym c.new-alone.ensures.held ∙ sym c.step-end.ensures.held)))
    (last_kept _ _ _ _ _ _ _ _ _ _ _ _ _ _ _ _ _ c.requires (omega (arith, c.turns-turns.ensures, c.turns-turns.type_inv)) c.new-alone.ensures.space (not_so _ _ c.is_memory.ensures e) c.step-end.ensures.steps (λ l. c.step-end.ensures.ages) c.step-end.ensures.lawful)
