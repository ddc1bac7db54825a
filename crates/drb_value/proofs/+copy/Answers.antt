use Rattle.std.proofs.Common.{arith, ap}
use Rattle.drb_tree.specs.Sizes.{depth, pairs_depth, fields_depth}
use Rattle.drb_value.proofs.Measures.{list_size, pairs_size, fields_size, default_size, hash_in, list_in, object_depth, vars_depth, object_in, struct_in, dumped_in, wrapped_in, pairs_in, default_in, fields_in, item_in, pair_in, field_in}
use Rattle.drb_value.proofs.+copy.Goals as goal

pub copies::copy_items-copy-requires : goal.copies::copy_items-copy-requires
copies::copy_items-copy-requires t c = (omega (arith, item_in _ _ _ _ c.loop-item-test.true c.item-item.is), tt)

pub copies::copy_pairs-copy-requires : goal.copies::copy_pairs-copy-requires
copies::copy_pairs-copy-requires t c = (omega (arith, pair_in _ _ _ _ c.loop-pair-test.true c.pair-item.is), tt)

pub copies::copy_pairs-copy-requires-in-loop-pair : goal.copies::copy_pairs-copy-requires-in-loop-pair
copies::copy_pairs-copy-requires-in-loop-pair t c = (omega (arith, pair_in _ _ _ _ c.loop-pair-test.true c.pair-item.is), tt)

pub copies::copy_fields-copy-requires-in-loop-field : goal.copies::copy_fields-copy-requires-in-loop-field
copies::copy_fields-copy-requires-in-loop-field t c = (omega (arith, field_in _ _ _ _ c.loop-field-test.true c.field-item.is), tt)

pub Node::copy-copy_items-requires : goal.Node::copy-copy_items-requires
Node::copy-copy_items-requires t c = (omega (arith, ap list_size c.as_slice.ensures, list_in _ _ c.in-List.is), tt)

pub Pairs::copy-copy_pairs-requires : goal.Pairs::copy-copy_pairs-requires
Pairs::copy-copy_pairs-requires t c = (omega (arith, ap pairs_size c.as_slice.ensures, pairs_in (c.self.inside.pairs, c.self.inside.default), ap pairs_depth c.self.view_is), tt)

pub Pairs::copy-copy_default-requires : goal.Pairs::copy-copy_default-requires
Pairs::copy-copy_default-requires t c = (omega (arith, default_in (c.self.inside.pairs, c.self.inside.default), ap pairs_depth c.self.view_is), tt)

pub FieldList::copy-copy_fields-requires : goal.FieldList::copy-copy_fields-requires
FieldList::copy-copy_fields-requires t c = (omega (arith, ap fields_size c.as_slice.ensures, fields_in c.self.inside.list, ap fields_depth c.self.view_is), tt)

pub copies::copy_default-copy-requires : goal.copies::copy_default-copy-requires
copies::copy_default-copy-requires t c = (omega (arith, ap depth c.get.ensures, ap default_size c.in-Some.is), tt)

pub Node::copy-copy-requires-in-Hash : goal.Node::copy-copy-requires-in-Hash
Node::copy-copy-requires-in-Hash t c = (omega (arith, hash_in _ _ c.in-Hash.is), tt)

pub Node::copy-copy-requires-in-Object : goal.Node::copy-copy-requires-in-Object
Node::copy-copy-requires-in-Object t c = (omega (arith, ap object_depth c.get.ensures, object_in _ _ c.in-Object.is), tt)

pub Node::copy-copy-requires-in-Struct : goal.Node::copy-copy-requires-in-Struct
Node::copy-copy-requires-in-Struct t c = (omega (arith, ap object_depth c.get-in-Struct.ensures, struct_in _ _ c.in-Struct.is), tt)

pub Node::copy-copy-requires-in-Dumped : goal.Node::copy-copy-requires-in-Dumped
Node::copy-copy-requires-in-Dumped t c = (omega (arith, ap vars_depth c.get-in-Dumped.ensures, dumped_in _ _ c.in-Dumped.is), tt)

pub Node::copy-copy-requires-in-Wrapped : goal.Node::copy-copy-requires-in-Wrapped
Node::copy-copy-requires-in-Wrapped t c = (omega (arith, wrapped_in _ _ c.in-Wrapped.is), tt)
