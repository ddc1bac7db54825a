use Rattle.std.proofs.Common.{ap, arith}
use Rattle.drb_tree.specs.Sizes.{depth, pairs_depth, fields_depth}
use Rattle.drb_value.proofs.Measures.{list_size, pairs_size, fields_size, default_size, hash_in, list_in, object_depth, vars_depth, object_in, struct_in, dumped_in, wrapped_in, pairs_in, fields_in, item_in, pair_in, field_in}
use Rattle.rinda_audit.proofs.Nodes.{equal_views}
use Rattle.rinda_audit.proofs.equality.+equal.Goals as goal

pub is_equal-returns : goal.is_equal-returns
is_equal-returns t c = equal_views _ _ _ _ _ c.a.view_is c.b.view_is c.equal_nodes.ensures

pub equal_items-is_equal-requires : goal.equal_items-is_equal-requires
equal_items-is_equal-requires t c = (omega (arith, item_in _ _ _ _ c.loop-i-test.true c.index-xs-i.is), tt)

pub equal_pairs-equal_pair-requires : goal.equal_pairs-equal_pair-requires
equal_pairs-equal_pair-requires t c = (omega (arith, pair_in _ _ _ _ c.loop-i-test.true c.index-xs-i.is), tt)

pub equal_fields-equal_field-requires : goal.equal_fields-equal_field-requires
equal_fields-equal_field-requires t c = (omega (arith, field_in _ _ _ _ c.loop-i-test.true c.index-xs-i.is), tt)

pub equal_defaults-is_equal-requires : goal.equal_defaults-is_equal-requires
equal_defaults-is_equal-requires t c = (omega (arith, ap depth c.get.ensures, ap default_size c.in-Some.is), tt)

pub equal_nodes-equal_items-requires : goal.equal_nodes-equal_items-requires
equal_nodes-equal_items-requires t c = (omega (arith, ap list_size c.as_slice.ensures, list_in _ _ c.in-List.is), tt)

pub equal_nodes-equal_hashes-requires : goal.equal_nodes-equal_hashes-requires
equal_nodes-equal_hashes-requires t c = (omega (arith, hash_in _ _ c.in-Hash.is), tt)

pub equal_nodes-equal_objects-requires : goal.equal_nodes-equal_objects-requires
equal_nodes-equal_objects-requires t c = (omega (arith, ap object_depth c.get.ensures, object_in _ _ c.in-Object.is), tt)

pub equal_nodes-equal_objects-requires-in-Struct : goal.equal_nodes-equal_objects-requires-in-Struct
equal_nodes-equal_objects-requires-in-Struct t c = (omega (arith, ap object_depth c.get-in-Struct.ensures, struct_in _ _ c.in-Struct.is), tt)

pub equal_nodes-equal_dumped-requires : goal.equal_nodes-equal_dumped-requires
equal_nodes-equal_dumped-requires t c = (omega (arith, ap vars_depth c.get-in-Dumped.ensures, dumped_in _ _ c.in-Dumped.is), tt)

pub equal_nodes-equal_wrapped-requires : goal.equal_nodes-equal_wrapped-requires
equal_nodes-equal_wrapped-requires t c = (omega (arith, wrapped_in _ _ c.in-Wrapped.is), tt)

pub equal_hashes-equal_pairs-requires : goal.equal_hashes-equal_pairs-requires
equal_hashes-equal_pairs-requires t c = (omega (arith, ap pairs_size c.as_slice.ensures, pairs_in (c.a.inside.pairs, c.a.inside.default), ap pairs_depth c.a.view_is), tt)

pub equal_field_lists-equal_fields-requires : goal.equal_field_lists-equal_fields-requires
equal_field_lists-equal_fields-requires t c = (omega (arith, ap fields_size c.as_slice.ensures, fields_in c.a.inside.list, ap fields_depth c.a.view_is), tt)
