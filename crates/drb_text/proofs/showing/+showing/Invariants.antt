use Rattle.std.proofs.Common.{◌+◌, ◌*◌, map, drop}
use Rattle.drb_tree.specs.Sizes.{depth}
use Rattle.drb_value.proofs.Measures.{list_size}
use Rattle.drb_text.specs.Shown.{showing, behind_commas, separated}
use Rattle.drb_text.proofs.Puts.{Reaches}
use Rattle.drb_text.proofs.showing.+showing.Given as goal

abbrev pub decreases-put_value : goal.decreases-put_value
decreases-put_value l = 8 * depth l.value.now + 7

abbrev pub decreases-put_list : goal.decreases-put_list
decreases-put_list l = 8 * list_size l.items.now + 1

abbrev pub decreases-put_items : goal.decreases-put_items
decreases-put_items l = 8 * list_size l.items.now

-- what is there and the items that are left are the whole
abbrev pub invariant-put_items-loop-item : goal.invariant-put_items-loop-item
invariant-put_items-loop-item l =
    Reaches (separated (map showing l.items)) (behind_commas (map showing (drop l.item-index l.more))) l.fn.out.items l.out.items
