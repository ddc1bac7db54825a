use Rattle.std.proofs.Common.{arith, ap}
use Rattle.drb_tree.specs.Sizes.{depth, fields_depth}
use Rattle.drb_value.proofs.Measures.{list_size, hash_in, list_in, object_depth, vars_depth, object_in, struct_in, dumped_in, wrapped_in, item_in}
use Rattle.drb_value.proofs.Nodes.{depth_at, depth_view}
use Rattle.drb_value.proofs.+depth.Goals as goal

pub Value::depth-returns : goal.Value::depth-returns
Value::depth-returns t c = omega (arith, c.depth_in.ensures, depth_view _ _ c.self.view_is)

pub sizes::depth_in-depth_of_items-requires : goal.sizes::depth_in-depth_of_items-requires
sizes::depth_in-depth_of_items-requires t c = (omega (arith, ap list_size c.as_slice.ensures, list_in _ _ c.in-List.is), tt)

pub sizes::depth_in-depth_of_pairs-requires : goal.sizes::depth_in-depth_of_pairs-requires
sizes::depth_in-depth_of_pairs-requires t c = (omega (arith, hash_in _ _ c.in-Hash.is), tt)

pub sizes::depth_in-depth_of_fields-requires : goal.sizes::depth_in-depth_of_fields-requires
sizes::depth_in-depth_of_fields-requires t c = (omega (arith, ap object_depth c.get.ensures, object_in _ _ c.in-Object.is), tt)

pub sizes::depth_in-depth_of_fields-requires-in-Struct : goal.sizes::depth_in-depth_of_fields-requires-in-Struct
sizes::depth_in-depth_of_fields-requires-in-Struct t c = (omega (arith, ap object_depth c.get-in-Struct.ensures, struct_in _ _ c.in-Struct.is), tt)

pub sizes::depth_in-depth-requires : goal.sizes::depth_in-depth-requires
sizes::depth_in-depth-requires t c = (omega (arith, ap depth c.get-in-Wrapped.ensures, wrapped_in _ _ c.in-Wrapped.is), tt)

pub sizes::depth_of_items-depth-requires : goal.sizes::depth_of_items-depth-requires
sizes::depth_of_items-depth-requires t c = (omega (arith, item_in _ _ _ _ c.loop-item-test.true c.item-item.is), tt)

pub sizes::depth_in-depth_of_fields-requires-in-Dumped : goal.sizes::depth_in-depth_of_fields-requires-in-Dumped
sizes::depth_in-depth_of_fields-requires-in-Dumped t c = (omega (arith, dumped_in _ _ c.in-Dumped.is, ap vars_depth c.get-in-Dumped.ensures, ap fields_depth c.vars.ensures), tt)

pub sizes::depth_in-returns-in-Object : goal.sizes::depth_in-returns-in-Object
sizes::depth_in-returns-in-Object t c =
    let e = ap depth_at c.in-Object.is in
    let f = ap object_depth c.get.ensures in
    omega arith

pub sizes::depth_in-returns-in-Struct : goal.sizes::depth_in-returns-in-Struct
sizes::depth_in-returns-in-Struct t c =
    let e = ap depth_at c.in-Struct.is in
    let f = ap object_depth c.get-in-Struct.ensures in
    omega arith

pub sizes::depth_in-returns-in-Dumped : goal.sizes::depth_in-returns-in-Dumped
sizes::depth_in-returns-in-Dumped t c =
    let e = ap depth_at c.in-Dumped.is in
    let f = ap vars_depth c.get-in-Dumped.ensures in
    let g = ap fields_depth c.vars.ensures in
    omega arith
