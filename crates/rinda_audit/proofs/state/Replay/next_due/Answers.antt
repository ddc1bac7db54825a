use Rattle.std.proofs.Common.{ap, ◌∙◌}
use Rattle.rinda_rules.specs.Space.{Plain}
use Rattle.rinda_audit.proofs.Ages.{due_next}
use Rattle.rinda_audit.proofs.state.Replay.next_due.Goals as goal

pub returns-then-least-self : goal.returns-then-least-self
returns-then-least-self c =
    due_next c.args.self.now c.args.from c.self.inside.clock c.self.inside.next c.least_tuple-tuple.result c.least_request-request.result c.least_notifier-least.result
    c.as_slice.result.now c.as_slice-2.result.now c.as_slice-3.result.now
    (ap (λ (s : Plain). s.clock) c.self.view_is) (ap (λ (s : Plain). s.next) c.self.view_is)
    (c.as_slice.ensures.value ∙ ap (λ (s : Plain). s.tuples) c.self.view_is)
    (c.as_slice-2.ensures.value ∙ ap (λ (s : Plain). s.requests) c.self.view_is)
    (c.as_slice-3.ensures.value ∙ ap (λ (s : Plain). s.notifiers) c.self.view_is)
    c.requires
    c.least_tuple-tuple.ensures.most c.least_tuple-tuple.ensures.from c.least_tuple-tuple.ensures.undue
    c.least_request-request.ensures.most c.least_request-request.ensures.from c.least_request-request.ensures.undue
    c.least_notifier-least.ensures.most c.least_notifier-least.ensures.from c.least_notifier-least.ensures.undue
    c.if-least-self.true
