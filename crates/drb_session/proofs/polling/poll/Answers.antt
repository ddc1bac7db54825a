use Rattle.std.proofs.Common.{subst, sym}
use Rattle.drb_session.specs.Runs.{Polls}
use Rattle.drb_script.specs.declared.next.Next.{Next}
use Rattle.drb_script.specs.declared.patience.Patience.TheVariants.{Wait}
use Rattle.drb_script.specs.declared.next.Next.TheVariants as step
use Rattle.drb_script.specs.Stands.{Stands}
use Rattle.drb_session.proofs.Joining.{steps_reply, steps_lost, steps_call, steps_poll, polls_turn}
use Rattle.drb_session.proofs.polling.poll.Goals as goal

pub returns-in-Reply-clause-steps : goal.returns-in-Reply-clause-steps
returns-in-Reply-clause-steps g c call done s =
    let k : Stands Wait call done (step.Reply c.in-Reply.reply) = subst (λ (n : Next). Stands Wait call done n) c.in-Reply.is s in
    steps_reply _ _ call done _ c.in-Reply.reply k

pub returns-in-Lost-clause-steps : goal.returns-in-Lost-clause-steps
returns-in-Lost-clause-steps g c call done s =
    let k : Stands Wait call done (step.Lost c.in-Lost.loose) = subst (λ (n : Next). Stands Wait call done n) c.in-Lost.is s in
    steps_lost _ _ _ call done _ _ _ _ _ c.in-Lost.loose c.clear.ensures.cleared k

pub returns-in-Turn-clause-steps : goal.returns-in-Turn-clause-steps
returns-in-Turn-clause-steps g c call done s =
    let k : Stands Wait call done (step.Turn c.in-Turn.event c.in-Turn.then) = subst (λ (n : Next). Stands Wait call done n) c.in-Turn.is s in
    steps_poll _ _ call done _ _ _ _ _ c.in-Turn.event c.in-Turn.then c.poll_turn.result.waits c.poll_turn.result.stepped c.poll_turn.ensures.polls k

pub returns-in-Call-clause-steps : goal.returns-in-Call-clause-steps
returns-in-Call-clause-steps g c call done s =
    let k : Stands Wait call done (step.Call c.in-Call.to c.in-Call.saying c.in-Call.then) = subst (λ (n : Next). Stands Wait call done n) c.in-Call.is s in
    steps_call _ _ _ _ call done _ _ _ _ c.in-Call.to c.in-Call.saying c.in-Call.then c.call_peer-back.result c.called.result c.call_peer-back.ensures.calls c.call_peer-back.ensures.caused c.call_peer-back.ensures.later c.called.ensures.stands k

pub returns-in-Turn-clause-polls : goal.returns-in-Turn-clause-polls
returns-in-Turn-clause-polls g c =
    subst (λ (n : Next). Polls (g.T.Turns.pass c.args.turns.now) n (g.T.Turns.pass c.poll_turn.new.turns) c.poll_turn.result.waits c.poll_turn.result.stepped) (sym c.in-Turn.is)
    (polls_turn _ _ _ _ c.in-Turn.event c.in-Turn.then c.poll_turn.result.waits c.poll_turn.result.stepped c.poll_turn.ensures.lawful c.poll_turn.ensures.polls)
