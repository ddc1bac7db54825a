use Rattle.std.proofs.Common.{◌≡◌, ◌+◌, ◌*◌, max, take, length}
use Rattle.drb_tree.specs.Sizes.{depth, pairs_depth, fields_depth}
use Rattle.drb_value.specs.View.{view_of}
use Rattle.drb_value.proofs.Measures.{list_size, pairs_size, fields_size, default_size}
use Rattle.rinda_audit.proofs.equality.+equal.Given as goal

-- equal so far, and equally long

abbrev pub invariant-equal_items-loop-i : goal.invariant-equal_items-loop-i
invariant-equal_items-loop-i l = record {
  before : take l.i l.xs ≡ take l.i l.ys;
  long : length l.xs ≡ length l.ys;
}

abbrev pub invariant-equal_pairs-loop-i : goal.invariant-equal_pairs-loop-i
invariant-equal_pairs-loop-i l = record {
  before : take l.i l.xs ≡ take l.i l.ys;
  long : length l.xs ≡ length l.ys;
}

abbrev pub invariant-equal_fields-loop-i : goal.invariant-equal_fields-loop-i
invariant-equal_fields-loop-i l = record {
  before : take l.i l.xs ≡ take l.i l.ys;
  long : length l.xs ≡ length l.ys;
}

abbrev pub decreases-is_equal : goal.decreases-is_equal
decreases-is_equal l = 8 * depth l.a.now + 7

abbrev pub decreases-equal_nodes : goal.decreases-equal_nodes
decreases-equal_nodes l = 8 * depth (view_of l.n.now) + 6

abbrev pub decreases-equal_items : goal.decreases-equal_items
decreases-equal_items l = 8 * list_size l.xs.now

abbrev pub decreases-equal_hashes : goal.decreases-equal_hashes
decreases-equal_hashes l = 8 * pairs_depth l.a.now + 10

abbrev pub decreases-equal_pairs : goal.decreases-equal_pairs
decreases-equal_pairs l = 8 * pairs_size l.xs.now + 1

abbrev pub decreases-equal_pair : goal.decreases-equal_pair
decreases-equal_pair l = max (8 * depth l.a.now.0 + 8) (8 * depth l.a.now.1 + 8)

abbrev pub decreases-equal_defaults : goal.decreases-equal_defaults
decreases-equal_defaults l = 8 * default_size l.a.now

abbrev pub decreases-equal_objects : goal.decreases-equal_objects
decreases-equal_objects l = 8 * fields_depth l.a.now.fields + 12

abbrev pub decreases-equal_field_lists : goal.decreases-equal_field_lists
decreases-equal_field_lists l = 8 * fields_depth l.a.now + 10

abbrev pub decreases-equal_fields : goal.decreases-equal_fields
decreases-equal_fields l = 8 * fields_size l.xs.now + 1

abbrev pub decreases-equal_field : goal.decreases-equal_field
decreases-equal_field l = 8 * depth l.a.now.1 + 8

abbrev pub decreases-equal_dumped : goal.decreases-equal_dumped
decreases-equal_dumped l = 8 * fields_depth l.a.now.2 + 12

abbrev pub decreases-equal_wrapped : goal.decreases-equal_wrapped
decreases-equal_wrapped l = 8 * depth l.a.now.inner + 8
