-- Who is admitted. docs/ACCESS.md, Judging.
use Rattle.std.specs.Prelude.{ℕ, ◌-◌, ◌/◌, ◌^◌, Bool, true, false, ◌&&◌, ◌||◌, ◌==◌, List, Option, Some, None, position}
use Rattle.drb_acl.specs.declared.rule.Verdict.{Verdict}
use Rattle.drb_acl.specs.declared.rule.Verdict.TheVariants as verdict
use Rattle.drb_acl.specs.declared.rule.Order.{Order}
use Rattle.drb_acl.specs.declared.rule.Order.TheVariants as order
use Rattle.drb_acl.specs.declared.rule.Rule.{Rule}
use Rattle.drb_acl.specs.declared.acl.Judged.{Judged}
use Rattle.drb_acl.specs.declared.acl.Judged.TheVariants as judged

-- an access list: its order, and its rules as they stand in the file
pub record Access : Type 0 where
  pub order : Order
  pub rules : List Rule

abbrev pub access : Order → List Rule → Access
access order rules = record { order = order; rules = rules }

-- two addresses have the same first bits
abbrev pub same_front : ℕ → ℕ → ℕ → Bool
same_front bits a b = a / 2 ^ (32 - bits) == b / 2 ^ (32 - bits)

-- a peer that has an IPv4 address has the same first bits as the rule's; no other peer has
abbrev pub is_within : Rule → Option ℕ → Bool
is_within rule None = false
is_within rule (Some address) = same_front rule.bits rule.net address

-- the rule is for all, or for that peer
abbrev pub is_for : Rule → Option ℕ → Bool
is_for rule peer = rule.all || is_within rule peer

abbrev pub same_verdict : Verdict → Verdict → Bool
same_verdict verdict.Deny verdict.Deny = true
same_verdict verdict.Deny verdict.Allow = false
same_verdict verdict.Allow verdict.Deny = false
same_verdict verdict.Allow verdict.Allow = true

-- the rule says that of that peer
abbrev pub says : Verdict → Option ℕ → Rule → Bool
says v peer rule = same_verdict rule.verdict v && is_for rule peer

-- the number of the first rule that says that of the peer, from 0
abbrev pub first : Verdict → Option ℕ → List Rule → Option ℕ
first v peer rules = position (says v peer) rules

-- first an allow admits, then a deny refuses; who is in neither is admitted
abbrev pub deny_allow : Option ℕ → Option ℕ → Judged
deny_allow (Some a) deny = judged.Admitted (Some a)
deny_allow None (Some d) = judged.Refused (Some d)
deny_allow None None = judged.Admitted None

-- first a deny refuses, then an allow admits; who is in neither is refused
abbrev pub allow_deny : Option ℕ → Option ℕ → Judged
allow_deny allow (Some d) = judged.Refused (Some d)
allow_deny (Some a) None = judged.Admitted (Some a)
allow_deny None None = judged.Refused None

abbrev pub judged_by : Order → Option ℕ → Option ℕ → Judged
judged_by order.DenyAllow allow deny = deny_allow allow deny
judged_by order.AllowDeny allow deny = allow_deny allow deny

-- what becomes of a peer
abbrev pub judged_of : Access → Option ℕ → Judged
judged_of acl peer =
    judged_by acl.order (first verdict.Allow peer acl.rules) (first verdict.Deny peer acl.rules)
