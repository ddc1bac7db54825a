use Rattle.std.proofs.Common.{ℕ, Option, subst}
use Rattle.rinda_tuple.specs.Lives.{deadline}
use Rattle.rinda_rules.specs.Space.{found}
use Rattle.rinda_rules.specs.Cases.{told}
use Rattle.rinda_cases.specs.Makes.{Is, Makes}
use Rattle.rinda_cases.proofs.Naming.{if-ok}
use Rattle.rinda_cases.proofs.objects.asked.Goals as goal

pub returns-clause-made : goal.returns-clause-made
returns-clause-made c =
    let old = c.args.tables.now in
    let new = c.told.new.tables in
    let life = c.args.life.now in
    let d = c.deadline-deadline.result in
    if-ok (λ o. Makes (λ s. told s d (found s c.args.id)) old new o) (λ o. Makes (λ s. told s (deadline life s.clock) (found s c.args.id)) old new o) c.told.result
    (λ o k s sound h.
    let timed = subst (λ (x : Option ℕ). Is (told s x (found s c.args.id)) new o) c.deadline-deadline.ensures (k s sound h) in
    subst (λ (n : ℕ). Is (told s (deadline life n) (found s c.args.id)) new o) h.clock timed)
    c.told.ensures.made
