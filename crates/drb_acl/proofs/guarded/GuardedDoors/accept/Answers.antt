use Rattle.std.proofs.Common.{◌≡◌, ◌≤◌, ◌∙◌, ap, refl, length, Ok, arith}
use Rattle.drb_acl.specs.Judging.{access}
use Rattle.drb_acl.proofs.Guardings.{passed_none, passed_more, admitted_at, is_let_in, is_kept_out, is_counted}
use Rattle.drb_acl.proofs.guarded.GuardedDoors.accept.Goals as goal

pub loop-init : goal.loop-init
loop-init g c = record {
  passed = passed_none _ _ _ _ _;
  faults_later = omega arith;
  ends_later = omega arith;
  order_is = refl;
  rules_are = refl;
}

pub returns-in-Admitted-clause-guests : goal.returns-in-Admitted-clause-guests
returns-in-Admitted-clause-guests g c =
    let same : access c.loop.self.order c.loop.self.rules.items ≡ access c.args.self.now.order c.args.self.now.rules.items = grind (arith, c.loop.invariant.order_is, c.loop.invariant.rules_are) in
    let asked : access c.loop.self.order c.as_slice.result.now ≡ access c.args.self.now.order c.args.self.now.rules.items = ap (access c.loop.self.order) c.as_slice.ensures.value ∙ same in
    admitted_at _ _ _ _ _ _ _ _ _ _ _ _ same c.accept.ensures.cause.later c.loop.invariant.passed (c.in-Ok-Some.is ∙ ap Ok c.in-Ok-Some.field-0-is) c.accept.ensures.guests (is_let_in _ _ (λ x. g.N.In.Known.peer x.input) c.in-Ok-Some.guest _ _ _ asked c.peer.ensures c.judge.ensures c.in-Admitted.is)

pub loop-preserved : goal.loop-preserved
loop-preserved g c =
    let same : access c.loop.self.order c.loop.self.rules.items ≡ access c.args.self.now.order c.args.self.now.rules.items = grind (arith, c.loop.invariant.order_is, c.loop.invariant.rules_are) in
    let asked : access c.loop.self.order c.as_slice.result.now ≡ access c.args.self.now.order c.args.self.now.rules.items = ap (access c.loop.self.order) c.as_slice.ensures.value ∙ same in
    record {
      passed = passed_more _ _ _ _ _ _ _ _ _ _ _ _ c.accept.ensures.cause.later c.loop.invariant.passed (c.in-Ok-Some.is ∙ ap Ok c.in-Ok-Some.field-0-is) c.accept.ensures.guests (is_kept_out _ _ (λ x. g.N.In.Known.peer x.input) c.in-Ok-Some.guest _ _ _ asked c.peer.ensures c.judge.ensures c.in-Refused.is) (is_counted _ _ (λ x. g.N.In.Known.peer x.input) c.in-Ok-Some.guest _ _ _ _ _ c.len.result _ asked c.peer.ensures c.judge.ensures c.in-Refused.is (grind (arith, c.len.ensures, c.loop.invariant.rules_are)) c.count_place-place.ensures c.raise.ensures);
      faults_later = omega (arith, c.loop.invariant.faults_later, c.accept.ensures.cause.later);
      ends_later = omega (arith, c.loop.invariant.ends_later, c.accept.ensures.later);
      order_is = c.loop.invariant.order_is;
      rules_are = c.loop.invariant.rules_are;
    }

pub returns-in-Ok-None-clause-guests : goal.returns-in-Ok-None-clause-guests
returns-in-Ok-None-clause-guests g c =
    let same : access c.loop.self.order c.loop.self.rules.items ≡ access c.args.self.now.order c.args.self.now.rules.items = grind (arith, c.loop.invariant.order_is, c.loop.invariant.rules_are) in
    admitted_at _ _ _ _ _ _ _ _ _ _ _ _ same c.accept.ensures.cause.later c.loop.invariant.passed (c.in-Ok-None.is ∙ ap Ok c.in-Ok-None.field-0-is) c.accept.ensures.guests refl

pub returns-in-Err-clause-guests : goal.returns-in-Err-clause-guests
returns-in-Err-clause-guests g c =
    let same : access c.loop.self.order c.loop.self.rules.items ≡ access c.args.self.now.order c.args.self.now.rules.items = grind (arith, c.loop.invariant.order_is, c.loop.invariant.rules_are) in
    admitted_at _ _ _ _ _ _ _ _ _ _ _ _ same c.accept.ensures.cause.later c.loop.invariant.passed c.in-Err.is c.accept.ensures.guests refl
