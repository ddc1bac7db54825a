use Rattle.std.proofs.Common.{◌+◌, ◌*◌, length}
use Rattle.drb_text.specs.Texts.{text}
use Rattle.drb_text.proofs.Items.{SoFar}
use Rattle.drb_text.proofs.texts.+texts.Given as goal

abbrev pub decreases-read_at : goal.decreases-read_at
decreases-read_at l = 3 * l.room

abbrev pub decreases-read_list : goal.decreases-read_list
decreases-read_list l = 3 * l.room + 2

abbrev pub decreases-read_items : goal.decreases-read_items
decreases-read_items l = 3 * l.room + 1

-- the items so far, and those that are left
abbrev pub invariant-read_items-loop-value : goal.invariant-read_items-loop-value
invariant-read_items-loop-value l = SoFar (text l.room) l.fn.bytes l.items l.rest

abbrev pub decreases-read_items-loop-value : goal.decreases-read_items-loop-value
decreases-read_items-loop-value l = length l.rest
