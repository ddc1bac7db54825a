-- What follows of who is admitted.
use Rattle.std.proofs.Common.{◌≡◌, ◌∙◌, ℕ, Bool, false, List, [], ◌∷◌, ◌++◌, Option, Some, None, refl, ap, arith}
use Rattle.std.specs.Prelude.{◌&&◌, ◌||◌, is_some, position}
use Rattle.std.specs.List.{list_any}
use Rattle.drb_acl.specs.declared.rule.Verdict.{Verdict}
use Rattle.drb_acl.specs.declared.rule.Verdict.TheVariants as verdict
use Rattle.drb_acl.specs.declared.rule.Order.{Order}
use Rattle.drb_acl.specs.declared.rule.Order.TheVariants.{DenyAllow, AllowDeny}
use Rattle.drb_acl.specs.declared.rule.Rule.{Rule}
use Rattle.drb_acl.specs.declared.acl.Judged.TheVariants.{Admitted, Refused}
use Rattle.drb_acl.specs.Judging.{first, says, is_for, same_verdict, deny_allow, allow_deny, judged_by}
use Rattle.drb_acl.specs.Laws.{is_admitted, may_enter, is_allowed, AdmitsExactly, FirstWordStays, OthersChangeNothing}

-- Positions.

position-any : (p : Rule → Bool) (xs : List Rule) → is_some (position p xs) ≡ list_any p xs
position-any p [] = refl
position-any p (x ∷ xs) = grind (arith, position-any p xs)

position-append : (p : Rule → Bool) (xs ys : List Rule) (n : ℕ) → position p xs ≡ Some n → position p (xs ++ ys) ≡ Some n
position-append p [] ys n e = cc
position-append p (x ∷ xs) ys n e = grind (arith, position-append p xs ys)

position-none : (p : Rule → Bool) (ys : List Rule) → list_any p ys ≡ false → position p ys ≡ None
position-none p [] e = refl
position-none p (y ∷ ys) e = grind (arith, position-none p ys)

position-others : (p : Rule → Bool) (xs ys : List Rule) → list_any p ys ≡ false → position p (xs ++ ys) ≡ position p xs
position-others p [] ys e = position-none p ys e
position-others p (x ∷ xs) ys e = grind (arith, position-others p xs ys)

-- Laws.

admitted-by : (order : Order) (a d : Option ℕ) → is_admitted (judged_by order a d) ≡ may_enter order (is_some a) (is_some d)
admitted-by DenyAllow None None = refl
admitted-by DenyAllow None (Some d) = refl
admitted-by DenyAllow (Some a) None = refl
admitted-by DenyAllow (Some a) (Some d) = refl
admitted-by AllowDeny None None = refl
admitted-by AllowDeny None (Some d) = refl
admitted-by AllowDeny (Some a) None = refl
admitted-by AllowDeny (Some a) (Some d) = refl

pub admits : AdmitsExactly
admits acl peer =
    admitted-by acl.order (first verdict.Allow peer acl.rules) (first verdict.Deny peer acl.rules)
    ∙ ap (λ (b : Bool). may_enter acl.order b (is_some (first verdict.Deny peer acl.rules))) (position-any (says verdict.Allow peer) acl.rules)
    ∙ ap (λ (b : Bool). may_enter acl.order (is_allowed acl.rules peer) b) (position-any (says verdict.Deny peer) acl.rules)

first_allow : (a d : Option ℕ) (n : ℕ) → deny_allow a d ≡ Admitted (Some n) → a ≡ Some n
first_allow (Some a) d n e = grind arith
first_allow None (Some d) n e = cc
first_allow None None n e = cc

first_deny : (a d : Option ℕ) (n : ℕ) → allow_deny a d ≡ Refused (Some n) → d ≡ Some n
first_deny a (Some d) n e = grind arith
first_deny (Some a) None n e = cc
first_deny None None n e = cc

pub stays : FirstWordStays
stays rules later peer n = (
  λ e. ap (λ (a : Option ℕ). deny_allow a (first verdict.Deny peer (rules ++ later))) (position-append (says verdict.Allow peer) rules later n (first_allow (first verdict.Allow peer rules) (first verdict.Deny peer rules) n e)),
  λ e. ap (λ (d : Option ℕ). allow_deny (first verdict.Allow peer (rules ++ later)) d) (position-append (says verdict.Deny peer) rules later n (first_deny (first verdict.Allow peer rules) (first verdict.Deny peer rules) n e)),
)

says-none : (v : Verdict) (peer : Option ℕ) (rules : List Rule) → list_any (λ rule. is_for rule peer) rules ≡ false → list_any (says v peer) rules ≡ false
says-none v peer [] e = refl
says-none v peer (r ∷ rs) e = one (same_verdict r.verdict v) (is_for r peer) (list_any (λ rule. is_for rule peer) rs) (list_any (says v peer) rs) e (says-none v peer rs)
  where
    one : (a b c d : Bool) → (b || c) ≡ false → (c ≡ false → d ≡ false) → ((a && b) || d) ≡ false
    one a b c d e f = grind arith

pub others : OthersChangeNothing
others order rules later peer e =
    ap (λ (a : Option ℕ). judged_by order a (first verdict.Deny peer (rules ++ later))) (position-others (says verdict.Allow peer) rules later (says-none verdict.Allow peer later e))
    ∙ ap (λ (d : Option ℕ). judged_by order (first verdict.Allow peer rules) d) (position-others (says verdict.Deny peer) rules later (says-none verdict.Deny peer later e))
