use Rattle.std.proofs.Common.{◌≡◌, ◌+◌, ◌≤◌, length, map}
use Rattle.std.specs.Prelude.{option_copied}
use Rattle.drb_acl.specs.Cuts.{parts_of, weight}
use Rattle.drb_acl.specs.Reading.{reading, line_of}
use Rattle.drb_acl.specs.Steps.{rest_of, Fresh}
use Rattle.drb_acl.proofs.listing.Listing.parse.Given as goal

-- the lines that are left come to what all do
abbrev pub invariant-loop-rest : goal.invariant-loop-rest
invariant-loop-rest l =
    (rest_of l.begun l.acl l.number (map line_of (parts_of 10 (option_copied l.rest))) ≡ reading l.fn.text)
    × Fresh l.begun l.acl × (l.number + weight (option_copied l.rest) ≤ length l.fn.text + 2)

abbrev pub decreases-loop-rest : goal.decreases-loop-rest
decreases-loop-rest l = weight (option_copied l.rest)
