use Rattle.std.proofs.Common.{◌≡◌, ℕ, List, ◌++◌, take, drop, length, All, arith, subst, sym}
use Rattle.std.proofs.lemmas.Grind.{common_steps}
use Rattle.drb_monitor.specs.Passes.{Knowledge}
use Rattle.rinda_rules.specs.declared.turn.Turn.{Turn}
use Rattle.rinda_space.specs.Entered.{Basis}
use Rattle.drb_shared.specs.Sharing.{IsReady}
use Rattle.drb_serving.proofs.serve.fn.run.join+arg2.Goals as goal

pub returns : goal.returns
returns g c =
    let same : take c.captures.passes.len (c.work_all.new.passes ++ drop (length c.work_all.new.passes) c.captures.passes.items) ≡ c.work_all.new.passes = grind (arith, common_steps, c.work_all.auto.passes, c.as_mut_slice.ensures.len, c.as_mut_slice.ensures.value) in
    subst (λ (l : List (Knowledge Turn Basis)). All (λ p. IsReady c.captures.monitor.now p) l) (sym same) c.work_all.ensures
