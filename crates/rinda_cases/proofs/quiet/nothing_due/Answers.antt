use Rattle.std.proofs.Common.{◌≡◌, ℕ, Bool, true, false, sym, subst}
use Rattle.std.specs.Prelude.{not, max}
use Rattle.std.specs.Bool.{OnTrue, OnFalse}
use Rattle.rinda_lease.specs.Stages.{is_due}
use Rattle.rinda_rules.specs.Space.{Plain}
use Rattle.rinda_rules.specs.Phases.{advanced, nothing_due}
use Rattle.rinda_tables.specs.Holds.{Held, Holds}
use Rattle.rinda_tables.specs.Tabled.{ahead_of}
use Rattle.rinda_cases.proofs.Nothings.{due-none, due-some}
use Rattle.rinda_cases.proofs.quiet.nothing_due.Goals as goal

by-due : (due : Bool) (now : ℕ) (t : Held) (at : ℕ) (s : Plain) → Holds s t → now ≡ max t.clock at → OnTrue due ((id : ℕ) × (is_due now (t.stages id) ≡ true)) → OnFalse due ((id : ℕ) → is_due now (t.stages id) ≡ false) → not due ≡ nothing_due (advanced s at)
by-due true now t at s h is some none = sym (due-some s t at some.0 h (subst (λ (n : ℕ). is_due n (t.stages some.0) ≡ true) is some.1))
by-due false now t at s h is some none = sym (due-none s t at h (λ id. subst (λ (n : ℕ). is_due n (t.stages id) ≡ false) is (none id)))

pub returns : goal.returns
returns c = λ s h. by-due c.is_due.result c.max.result (ahead_of c.args.tables.now) c.args.at s h c.max.ensures c.is_due.ensures.some c.is_due.ensures.none
