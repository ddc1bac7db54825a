use Rattle.std.proofs.Common.{◌≡◌, ℕ, ◌+◌, ◌-◌, ◌*◌, ◌^◌, ◌≤◌, min, List, map, drop}
use Rattle.drb_tree.specs.declared.Tree.{Tree}
use Rattle.drb_tree.specs.Sizes.{depth, nodes, total, total_pairs, total_fields, pairs_depth, fields_depth}
use Rattle.drb_value.specs.View.{view_of}
use Rattle.drb_value.proofs.Measures.{list_size}
use Rattle.drb_value.proofs.+nodes.Given as goal

abbrev pub decreases-Value::nodes : goal.decreases-Value::nodes
decreases-Value::nodes l = 8 * depth l.self.now + 7

abbrev pub decreases-sizes::nodes_in : goal.decreases-sizes::nodes_in
decreases-sizes::nodes_in l = 8 * depth (view_of l.node.now) + 6

abbrev pub decreases-sizes::nodes_of_items : goal.decreases-sizes::nodes_of_items
decreases-sizes::nodes_of_items l = 8 * list_size l.items.now

abbrev pub decreases-sizes::nodes_of_pairs : goal.decreases-sizes::nodes_of_pairs
decreases-sizes::nodes_of_pairs l = 8 * pairs_depth l.pairs.now + 10

abbrev pub decreases-sizes::nodes_of_object : goal.decreases-sizes::nodes_of_object
decreases-sizes::nodes_of_object l = 8 * fields_depth l.object.now.fields + 12

abbrev pub decreases-sizes::nodes_of_dumped : goal.decreases-sizes::nodes_of_dumped
decreases-sizes::nodes_of_dumped l = 8 * fields_depth l.dumped.now.2 + 12

abbrev pub decreases-sizes::nodes_of_fields : goal.decreases-sizes::nodes_of_fields
decreases-sizes::nodes_of_fields l = 8 * fields_depth l.fields.now + 10

abbrev pub invariant-sizes::nodes_of_items-loop-item : goal.invariant-sizes::nodes_of_items-loop-item
invariant-sizes::nodes_of_items-loop-item l = (min (l.sum + total (map nodes (drop l.item-index l.items))) (2 ^ 64 - 1) ≡ min (total (map nodes l.items)) (2 ^ 64 - 1)) × (l.sum ≤ 2 ^ 64 - 1)

abbrev pub invariant-sizes::nodes_of_pairs-loop-pair : goal.invariant-sizes::nodes_of_pairs-loop-pair
invariant-sizes::nodes_of_pairs-loop-pair l = (min (l.sum + total_pairs (map (λ (p : Tree × Tree). (nodes p.0, nodes p.1)) (drop l.pair-index l.pair-items))) (2 ^ 64 - 1) ≡ min (total_pairs (map (λ (p : Tree × Tree). (nodes p.0, nodes p.1)) l.pair-items)) (2 ^ 64 - 1)) × (l.sum ≤ 2 ^ 64 - 1)

abbrev pub invariant-sizes::nodes_of_fields-loop-field : goal.invariant-sizes::nodes_of_fields-loop-field
invariant-sizes::nodes_of_fields-loop-field l = (min (l.sum + total_fields (map (λ (p : List ℕ × Tree). (p.0, nodes p.1)) (drop l.field-index l.field-items))) (2 ^ 64 - 1) ≡ min (total_fields (map (λ (p : List ℕ × Tree). (p.0, nodes p.1)) l.field-items)) (2 ^ 64 - 1)) × (l.sum ≤ 2 ^ 64 - 1)
