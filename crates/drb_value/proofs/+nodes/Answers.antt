use Rattle.std.proofs.Common.{ℕ, ◌+◌, List, map, arith, ap}
use Rattle.drb_tree.specs.declared.Tree.{Tree}
use Rattle.drb_tree.specs.Sizes.{depth, nodes, heavy, total_fields}
use Rattle.drb_value.specs.declared.Fields.{Fields}
use Rattle.drb_value.proofs.Measures.{list_size, hash_in, list_in, object_depth, vars_depth, object_in, struct_in, dumped_in, wrapped_in, item_in}
use Rattle.drb_value.proofs.Nodes.{nodes_at, nodes_view}
use Rattle.drb_value.proofs.+nodes.Goals as goal

pub Value::nodes-returns : goal.Value::nodes-returns
Value::nodes-returns t c = omega (arith, c.nodes_in.ensures, nodes_view _ _ c.self.view_is)

pub sizes::nodes_in-nodes_of_items-requires : goal.sizes::nodes_in-nodes_of_items-requires
sizes::nodes_in-nodes_of_items-requires t c = (omega (arith, ap list_size c.as_slice-in-List.ensures, list_in _ _ c.in-List.is), tt)

pub sizes::nodes_in-nodes_of_pairs-requires : goal.sizes::nodes_in-nodes_of_pairs-requires
sizes::nodes_in-nodes_of_pairs-requires t c = (omega (arith, hash_in _ _ c.in-Hash.is), tt)

pub sizes::nodes_in-nodes_of_object-requires : goal.sizes::nodes_in-nodes_of_object-requires
sizes::nodes_in-nodes_of_object-requires t c = (omega (arith, ap object_depth c.get.ensures, object_in _ _ c.in-Object.is), tt)

pub sizes::nodes_in-nodes_of_object-requires-in-Struct : goal.sizes::nodes_in-nodes_of_object-requires-in-Struct
sizes::nodes_in-nodes_of_object-requires-in-Struct t c = (omega (arith, ap object_depth c.get-in-Struct.ensures, struct_in _ _ c.in-Struct.is), tt)

pub sizes::nodes_in-nodes-requires : goal.sizes::nodes_in-nodes-requires
sizes::nodes_in-nodes-requires t c = (omega (arith, ap depth c.get-in-Wrapped.ensures, wrapped_in _ _ c.in-Wrapped.is), tt)

pub sizes::nodes_of_items-nodes-requires : goal.sizes::nodes_of_items-nodes-requires
sizes::nodes_of_items-nodes-requires t c = (omega (arith, item_in _ _ _ _ c.loop-item-test.true c.item-item.is), tt)

-- how many nodes a dumped value counts
abbrev dumped_nodes : List ℕ × List ℕ × List (List ℕ × Tree) → ℕ
dumped_nodes d = heavy d.0 + heavy d.1 + total_fields (map (λ (f : List ℕ × Tree). (f.0, nodes f.1)) d.2)

-- how many nodes an object counts
abbrev object_nodes : Fields → ℕ
object_nodes f = 1 + heavy f.class + total_fields (map (λ (g : List ℕ × Tree). (g.0, nodes g.1)) f.fields)

pub sizes::nodes_in-nodes_of_dumped-requires : goal.sizes::nodes_in-nodes_of_dumped-requires
sizes::nodes_in-nodes_of_dumped-requires t c = (omega (arith, ap vars_depth c.get-in-Dumped.ensures, dumped_in _ _ c.in-Dumped.is), tt)

pub sizes::nodes_in-returns-in-Object : goal.sizes::nodes_in-returns-in-Object
sizes::nodes_in-returns-in-Object t c =
    let e = ap nodes_at c.in-Object.is in
    let f = ap object_nodes c.get.ensures in
    omega arith

pub sizes::nodes_in-returns-in-Struct : goal.sizes::nodes_in-returns-in-Struct
sizes::nodes_in-returns-in-Struct t c =
    let e = ap nodes_at c.in-Struct.is in
    let f = ap object_nodes c.get-in-Struct.ensures in
    omega arith

pub sizes::nodes_in-returns-in-Dumped : goal.sizes::nodes_in-returns-in-Dumped
sizes::nodes_in-returns-in-Dumped t c =
    let e = ap nodes_at c.in-Dumped.is in
    let f = ap dumped_nodes c.get-in-Dumped.ensures in
    omega arith
