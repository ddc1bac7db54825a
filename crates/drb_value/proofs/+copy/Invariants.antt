use Rattle.std.proofs.Common.{◌≡◌, take, ◌+◌, ◌*◌}
use Rattle.drb_tree.specs.Sizes.{depth, pairs_depth, fields_depth}
use Rattle.drb_value.specs.View.{view_of}
use Rattle.drb_value.proofs.Measures.{list_size, pairs_size, fields_size, default_size}
use Rattle.drb_value.proofs.+copy.Given as goal

abbrev pub decreases-Value::copy : goal.decreases-Value::copy
decreases-Value::copy l = 8 * depth l.self.now + 7

abbrev pub decreases-Node::copy : goal.decreases-Node::copy
decreases-Node::copy l = 8 * depth (view_of l.self.now) + 6

abbrev pub decreases-copies::copy_items : goal.decreases-copies::copy_items
decreases-copies::copy_items l = 8 * list_size l.items.now

abbrev pub decreases-Pairs::copy : goal.decreases-Pairs::copy
decreases-Pairs::copy l = 8 * pairs_depth l.self.now + 10

abbrev pub decreases-copies::copy_pairs : goal.decreases-copies::copy_pairs
decreases-copies::copy_pairs l = 8 * pairs_size l.pairs.now

abbrev pub decreases-copies::copy_default : goal.decreases-copies::copy_default
decreases-copies::copy_default l = 8 * default_size l.default.now

abbrev pub decreases-FieldList::copy : goal.decreases-FieldList::copy
decreases-FieldList::copy l = 8 * fields_depth l.self.now + 10

abbrev pub decreases-copies::copy_fields : goal.decreases-copies::copy_fields
decreases-copies::copy_fields l = 8 * fields_size l.fields.now

abbrev pub decreases-Fields::copy : goal.decreases-Fields::copy
decreases-Fields::copy l = 8 * fields_depth l.self.now.fields + 12

abbrev pub decreases-Dumped::copy : goal.decreases-Dumped::copy
decreases-Dumped::copy l = 8 * fields_depth l.self.now.2 + 12

abbrev pub decreases-Wrapped::copy : goal.decreases-Wrapped::copy
decreases-Wrapped::copy l = 8 * depth l.self.now.inner + 8

abbrev pub invariant-copies::copy_items-loop-item : goal.invariant-copies::copy_items-loop-item
invariant-copies::copy_items-loop-item l = l.copies ≡ take l.item-index l.items

abbrev pub invariant-copies::copy_pairs-loop-pair : goal.invariant-copies::copy_pairs-loop-pair
invariant-copies::copy_pairs-loop-pair l = l.copies ≡ take l.pair-index l.pairs

abbrev pub invariant-copies::copy_fields-loop-field : goal.invariant-copies::copy_fields-loop-field
invariant-copies::copy_fields-loop-field l = l.copies ≡ take l.field-index l.fields
