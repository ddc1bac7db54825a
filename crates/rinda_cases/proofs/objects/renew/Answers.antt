use Rattle.std.proofs.Common.{ℕ, Option, subst}
use Rattle.drb_tree.specs.declared.Remote.{Remote}
use Rattle.rinda_tuple.specs.Lives.{deadline}
use Rattle.rinda_rules.specs.Space.{found, renewer_of}
use Rattle.rinda_rules.specs.Cases.{renew, renew_with}
use Rattle.rinda_cases.specs.Makes.{Is, Makes}
use Rattle.rinda_cases.proofs.Naming.{if-ok}
use Rattle.rinda_cases.proofs.objects.renew.Goals as goal

pub returns-clause-made : goal.returns-clause-made
returns-clause-made c =
    let old = c.args.tables.now in
    let new = c.renew_with.new.tables in
    let lease = c.args.lease.now in
    let d = c.deadline-deadline.result in
    if-ok (λ o. Makes (λ s. renew_with s d c.in_ok-renewer.renewer (found s c.args.id)) old new o) (λ o. Makes (λ s. renew s lease (found s c.args.id)) old new o) c.renew_with.result
    (λ o k s sound h.
    let asked = subst (λ (x : Option Remote). Is (renew_with s d x (found s c.args.id)) new o) c.in_ok-renewer.ensures (k s sound h) in
    let timed = subst (λ (x : Option ℕ). Is (renew_with s x (renewer_of x lease.renewer old.clock) (found s c.args.id)) new o) c.deadline-deadline.ensures asked in
    subst (λ (n : ℕ). Is (renew_with s (deadline lease.life n) (renewer_of (deadline lease.life n) lease.renewer n) (found s c.args.id)) new o) h.clock timed)
    c.renew_with.ensures.made
