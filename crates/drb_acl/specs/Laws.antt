-- What follows of who is admitted, in other words. docs/ACCESS.md, Judging.
use Rattle.std.specs.Prelude.{◌≡◌, ℕ, Bool, true, false, ◌||◌, ◌&&◌, not, List, [], ◌++◌, Option, Some, None}
use Rattle.std.specs.List.{list_any}
use Rattle.drb_acl.specs.declared.rule.Verdict.TheVariants as verdict
use Rattle.drb_acl.specs.declared.rule.Order.{Order}
use Rattle.drb_acl.specs.declared.rule.Order.TheVariants as order
use Rattle.drb_acl.specs.declared.rule.Rule.{Rule}
use Rattle.drb_acl.specs.declared.acl.Judged.{Judged}
use Rattle.drb_acl.specs.declared.acl.Judged.TheVariants as judged
use Rattle.drb_acl.specs.Judging.{Access, judged_of, says, is_for}

abbrev pub is_admitted : Judged → Bool
is_admitted (judged.Admitted rule) = true
is_admitted (judged.Refused rule) = false

-- some rule says that of the peer
abbrev pub is_allowed : List Rule → Option ℕ → Bool
is_allowed rules peer = list_any (says verdict.Allow peer) rules

abbrev pub is_denied : List Rule → Option ℕ → Bool
is_denied rules peer = list_any (says verdict.Deny peer) rules

-- who is admitted, by whether it is allowed and whether it is denied; where the rules stand plays no part
abbrev pub may_enter : Order → Bool → Bool → Bool
may_enter order.DenyAllow allowed denied = allowed || not denied
may_enter order.AllowDeny allowed denied = allowed && not denied

abbrev pub AdmitsExactly : Type 0
AdmitsExactly = (acl : Access) (peer : Option ℕ) → is_admitted (judged_of acl peer)
    ≡ may_enter acl.order (is_allowed acl.rules peer) (is_denied acl.rules peer)

-- without rules the order alone decides
abbrev pub EmptyLists : Type 0
EmptyLists = (peer : Option ℕ)
    → (judged_of (record { order = order.DenyAllow; rules = [] }) peer ≡ judged.Admitted None)
    × (judged_of (record { order = order.AllowDeny; rules = [] }) peer ≡ judged.Refused None)

-- whom a rule of the word that goes first has decided on, no later rule changes anything for
abbrev pub FirstWordStays : Type 0
FirstWordStays = (rules later : List Rule) (peer : Option ℕ) (n : ℕ)
    → (judged_of (record { order = order.DenyAllow; rules = rules }) peer
    ≡ judged.Admitted (Some n)
    → judged_of (record { order = order.DenyAllow; rules = rules ++ later }) peer
    ≡ judged.Admitted (Some n))
    × (judged_of (record { order = order.AllowDeny; rules = rules }) peer
    ≡ judged.Refused (Some n)
    → judged_of (record { order = order.AllowDeny; rules = rules ++ later }) peer
    ≡ judged.Refused (Some n))

-- rules that are not for a peer change nothing for it, wherever in the list they follow
abbrev pub OthersChangeNothing : Type 0
OthersChangeNothing = (order : Order) (rules later : List Rule) (peer : Option ℕ)
    → list_any (λ rule. is_for rule peer) later ≡ false
    → judged_of (record { order = order; rules = rules ++ later }) peer
    ≡ judged_of (record { order = order; rules = rules }) peer
