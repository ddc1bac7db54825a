use Rattle.std.proofs.Common.{◌≡◌, ◌^◌, ◌<◌}
use Rattle.std.specs.Prelude.{drop}
use Rattle.drb_acl.specs.Patterns.{value_after}
use Rattle.drb_acl.proofs.pattern.value_of.Given as goal

-- with the digits that are left it is what all write
abbrev pub invariant-loop-digit : goal.invariant-loop-digit
invariant-loop-digit l = (value_after l.value (drop l.digit-index l.digits) ≡ value_after 0 l.digits) × (l.value < 10 ^ l.digit-index)
