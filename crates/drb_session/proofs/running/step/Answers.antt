use Rattle.std.proofs.Common.{subst}
use Rattle.drb_script.specs.declared.next.Next.{Next}
use Rattle.drb_script.specs.declared.next.Next.TheVariants as step
use Rattle.drb_script.specs.Stands.{Stands}
use Rattle.drb_session.proofs.Joining.{steps_reply, steps_lost, steps_call, steps_turn}
use Rattle.drb_session.proofs.running.step.Goals as goal

pub returns-in-Reply-clause-steps : goal.returns-in-Reply-clause-steps
returns-in-Reply-clause-steps g c call done s =
    let k : Stands c.args.patience call done (step.Reply c.in-Reply.reply) = subst (λ (n : Next). Stands c.args.patience call done n) c.in-Reply.is s in
    steps_reply _ _ call done _ c.in-Reply.reply k

pub returns-in-Lost-clause-steps : goal.returns-in-Lost-clause-steps
returns-in-Lost-clause-steps g c call done s =
    let k : Stands c.args.patience call done (step.Lost c.in-Lost.loose) = subst (λ (n : Next). Stands c.args.patience call done n) c.in-Lost.is s in
    steps_lost _ _ _ call done _ _ _ _ _ c.in-Lost.loose c.clear.ensures.cleared k

pub returns-in-Turn-clause-steps : goal.returns-in-Turn-clause-steps
returns-in-Turn-clause-steps g c call done s =
    let k : Stands c.args.patience call done (step.Turn c.in-Turn.event c.in-Turn.then) = subst (λ (n : Next). Stands c.args.patience call done n) c.in-Turn.is s in
    steps_turn _ _ _ call done _ _ _ _ _ c.in-Turn.event c.in-Turn.then c.turn.result c.turn.ensures.turns k

pub returns-in-Call-clause-steps : goal.returns-in-Call-clause-steps
returns-in-Call-clause-steps g c call done s =
    let k : Stands c.args.patience call done (step.Call c.in-Call.to c.in-Call.saying c.in-Call.then) = subst (λ (n : Next). Stands c.args.patience call done n) c.in-Call.is s in
    steps_call _ _ _ _ call done _ _ _ _ c.in-Call.to c.in-Call.saying c.in-Call.then c.call_peer-back.result c.called.result c.call_peer-back.ensures.calls c.call_peer-back.ensures.caused c.call_peer-back.ensures.later c.called.ensures.stands k
