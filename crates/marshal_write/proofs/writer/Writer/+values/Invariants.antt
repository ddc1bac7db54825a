use Rattle.std.proofs.Common.{ℕ, ◌+◌, ◌*◌, ◌∷◌, List, map, drop, length}
use Rattle.drb_tree.specs.declared.Tree.{Tree}
use Rattle.drb_tree.specs.Sizes.{depth, pairs_depth, fields_depth}
use Rattle.drb_value.specs.View.{view_of}
use Rattle.drb_value.proofs.Measures.{list_size, pairs_size, default_size}
use Rattle.marshal_grammar.specs.Spelled.{these, ◌then◌, long_from, each_value, each_pair, each_field, fields_bytes, writing}
use Rattle.marshal_write.proofs.Reaches.{Reaches}
use Rattle.marshal_write.proofs.writer.Writer.+values.Given as goal

abbrev pub decreases-put_value : goal.decreases-put_value
decreases-put_value l = 8 * depth l.value.now + 7

abbrev pub decreases-put_node : goal.decreases-put_node
decreases-put_node l = 8 * depth (view_of l.node.now) + 6

abbrev pub decreases-put_list : goal.decreases-put_list
decreases-put_list l = 8 * list_size l.items.now

abbrev pub decreases-put_hash : goal.decreases-put_hash
decreases-put_hash l = 8 * pairs_depth l.pairs.now + 10

abbrev pub decreases-put_pairs : goal.decreases-put_pairs
decreases-put_pairs l = 8 * pairs_size l.pairs.now

abbrev pub decreases-put_default : goal.decreases-put_default
decreases-put_default l = 8 * default_size l.default.now

abbrev pub decreases-put_object : goal.decreases-put_object
decreases-put_object l = 8 * fields_depth l.object.now.fields + 12

abbrev pub decreases-put_fields : goal.decreases-put_fields
decreases-put_fields l = 8 * fields_depth l.fields.now + 10

abbrev pub decreases-put_dumped : goal.decreases-put_dumped
decreases-put_dumped l = 8 * fields_depth l.dumped.now.2 + 12

abbrev pub decreases-put_wrapped : goal.decreases-put_wrapped
decreases-put_wrapped l = 8 * depth l.wrapped.now.inner + 8

abbrev pub invariant-put_list-loop-item : goal.invariant-put_list-loop-item
invariant-put_list-loop-item l =
    Reaches (these (91 ∷ long_from (length (map writing l.items))) then each_value (map writing l.items)) (each_value (map writing (drop l.item-index l.items))) l.fn.self l.self

abbrev pub invariant-put_pairs-loop-pair : goal.invariant-put_pairs-loop-pair
invariant-put_pairs-loop-pair l =
    Reaches (each_pair (map (λ (p : Tree × Tree). (writing p.0, writing p.1)) l.pairs)) (each_pair (map (λ (p : Tree × Tree). (writing p.0, writing p.1)) (drop l.pair-index l.pairs))) l.fn.self l.self

abbrev pub invariant-put_fields-loop-field : goal.invariant-put_fields-loop-field
invariant-put_fields-loop-field l =
    Reaches (fields_bytes (map (λ (f : List ℕ × Tree). (f.0, writing f.1)) l.fields)) (each_field (map (λ (f : List ℕ × Tree). (f.0, writing f.1)) (drop l.field-index l.field-items))) l.fn.self l.self
