use Rattle.std.proofs.Common.{◌≡◌, ℕ, ◌+◌, ◌*◌, max, List, map, drop}
use Rattle.drb_tree.specs.declared.Tree.{Tree}
use Rattle.drb_tree.specs.Same.{same, all_same, each_pair, some_pair, each_field, some_field, same_vars}
use Rattle.drb_tree.specs.Sizes.{depth, pairs_depth, fields_depth}
use Rattle.drb_value.specs.View.{view_of}
use Rattle.drb_value.proofs.Measures.{list_size, pairs_size, fields_size}
use Rattle.drb_value.proofs.equality.+same.Given as goal

abbrev pub invariant-same_items-loop-i : goal.invariant-same_items-loop-i
invariant-same_items-loop-i l = all_same (map same l.xs) l.ys ≡ all_same (map same (drop l.i l.xs)) (drop l.i l.ys)

abbrev pub invariant-each_pair-loop-x : goal.invariant-each_pair-loop-x
invariant-each_pair-loop-x l = each_pair (map (λ (p : Tree × Tree). (same p.0, same p.1)) l.xs) l.ys ≡ each_pair (map (λ (p : Tree × Tree). (same p.0, same p.1)) (drop l.x-index l.xs)) l.ys

abbrev pub invariant-some_pair-loop-y : goal.invariant-some_pair-loop-y
invariant-some_pair-loop-y l = some_pair (same l.key) (same l.value) l.ys ≡ some_pair (same l.key) (same l.value) (drop l.y-index l.ys)

abbrev pub invariant-each_field-loop-x : goal.invariant-each_field-loop-x
invariant-each_field-loop-x l = each_field (map (λ (p : List ℕ × Tree). (p.0, same p.1)) l.xs) l.ys ≡ each_field (map (λ (p : List ℕ × Tree). (p.0, same p.1)) (drop l.x-index l.xs)) l.ys

abbrev pub invariant-some_field-loop-y : goal.invariant-some_field-loop-y
invariant-some_field-loop-y l = some_field l.name (same l.value) l.ys ≡ some_field l.name (same l.value) (drop l.y-index l.ys)

abbrev pub invariant-same_var_slices-loop-i : goal.invariant-same_var_slices-loop-i
invariant-same_var_slices-loop-i l = same_vars (map (λ (p : List ℕ × Tree). (p.0, same p.1)) l.xs) l.ys ≡ same_vars (map (λ (p : List ℕ × Tree). (p.0, same p.1)) (drop l.i l.xs)) (drop l.i l.ys)

abbrev pub decreases-same : goal.decreases-same
decreases-same l = 8 * depth l.a.now + 7

abbrev pub decreases-same_nodes : goal.decreases-same_nodes
decreases-same_nodes l = 8 * depth (view_of l.n.now) + 6

abbrev pub decreases-same_items : goal.decreases-same_items
decreases-same_items l = 8 * list_size l.xs.now

abbrev pub decreases-same_pairs : goal.decreases-same_pairs
decreases-same_pairs l = 8 * pairs_depth l.xs.now + 10

abbrev pub decreases-each_pair : goal.decreases-each_pair
decreases-each_pair l = 8 * pairs_size l.xs.now + 1

abbrev pub decreases-some_pair : goal.decreases-some_pair
decreases-some_pair l = max (8 * depth l.key.now + 8) (8 * depth l.value.now + 8)

abbrev pub decreases-same_objects : goal.decreases-same_objects
decreases-same_objects l = 8 * fields_depth l.a.now.fields + 12

abbrev pub decreases-same_fields : goal.decreases-same_fields
decreases-same_fields l = 8 * fields_depth l.xs.now + 10

abbrev pub decreases-each_field : goal.decreases-each_field
decreases-each_field l = 8 * fields_size l.xs.now + 1

abbrev pub decreases-some_field : goal.decreases-some_field
decreases-some_field l = 8 * depth l.value.now + 8

abbrev pub decreases-same_dumped : goal.decreases-same_dumped
decreases-same_dumped l = 8 * fields_depth l.a.now.2 + 12

abbrev pub decreases-same_vars : goal.decreases-same_vars
decreases-same_vars l = 8 * fields_depth l.a.now + 10

abbrev pub decreases-same_var_slices : goal.decreases-same_var_slices
decreases-same_var_slices l = 8 * fields_size l.xs.now

abbrev pub decreases-same_wrapped : goal.decreases-same_wrapped
decreases-same_wrapped l = 8 * depth l.a.now.inner + 8
