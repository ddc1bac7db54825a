use Rattle.std.proofs.Common.{◌≡◌, ℕ, ◌+◌, ◌-◌, ◌*◌, ◌^◌, ◌≤◌, min, max, List, map, drop}
use Rattle.drb_tree.specs.declared.Tree.{Tree}
use Rattle.drb_tree.specs.Sizes.{depth, most, most_pairs, most_fields, pairs_depth, fields_depth}
use Rattle.drb_value.specs.View.{view_of}
use Rattle.drb_value.proofs.Measures.{list_size}
use Rattle.drb_value.proofs.+depth.Given as goal

abbrev pub decreases-Value::depth : goal.decreases-Value::depth
decreases-Value::depth l = 8 * depth l.self.now + 7

abbrev pub decreases-sizes::depth_in : goal.decreases-sizes::depth_in
decreases-sizes::depth_in l = 8 * depth (view_of l.node.now) + 6

abbrev pub decreases-sizes::depth_of_items : goal.decreases-sizes::depth_of_items
decreases-sizes::depth_of_items l = 8 * list_size l.items.now

abbrev pub decreases-sizes::depth_of_pairs : goal.decreases-sizes::depth_of_pairs
decreases-sizes::depth_of_pairs l = 8 * pairs_depth l.pairs.now + 10

abbrev pub decreases-sizes::depth_of_fields : goal.decreases-sizes::depth_of_fields
decreases-sizes::depth_of_fields l = 8 * fields_depth l.fields.now + 10

abbrev pub invariant-sizes::depth_of_items-loop-item : goal.invariant-sizes::depth_of_items-loop-item
invariant-sizes::depth_of_items-loop-item l = (min (max l.top (most (map depth (drop l.item-index l.items)))) (2 ^ 64 - 1) ≡ min (most (map depth l.items)) (2 ^ 64 - 1)) × (l.top ≤ 2 ^ 64 - 1)

abbrev pub invariant-sizes::depth_of_pairs-loop-pair : goal.invariant-sizes::depth_of_pairs-loop-pair
invariant-sizes::depth_of_pairs-loop-pair l = (min (max l.top (most_pairs (map (λ (p : Tree × Tree). (depth p.0, depth p.1)) (drop l.pair-index l.pair-items)))) (2 ^ 64 - 1) ≡ min (most_pairs (map (λ (p : Tree × Tree). (depth p.0, depth p.1)) l.pair-items)) (2 ^ 64 - 1)) × (l.top ≤ 2 ^ 64 - 1)

abbrev pub invariant-sizes::depth_of_fields-loop-field : goal.invariant-sizes::depth_of_fields-loop-field
invariant-sizes::depth_of_fields-loop-field l = (min (max l.top (most_fields (map (λ (p : List ℕ × Tree). (p.0, depth p.1)) (drop l.field-index l.field-items)))) (2 ^ 64 - 1) ≡ min (most_fields (map (λ (p : List ℕ × Tree). (p.0, depth p.1)) l.field-items)) (2 ^ 64 - 1)) × (l.top ≤ 2 ^ 64 - 1)
