use Rattle.std.proofs.Common.{◌≡◌, ℕ, ◌≢◌, Bool, true, false, List, [], ◌∷◌, map, length, sym, ◌∙◌, ap, refl, arith, ◌&&◌}
use Rattle.drb_tree.specs.declared.Tree.{Tree}
use Rattle.drb_tree.specs.Same.{same, all_same, same_vars}
use Rattle.drb_tree.specs.Sizes.{depth, pairs_depth, fields_depth}
use Rattle.drb_value.proofs.Measures.{list_size, pairs_size, fields_size, hash_in, list_in, object_depth, vars_depth, object_in, struct_in, dumped_in, wrapped_in, pairs_in, fields_in, item_in, pair_in, field_in}
use Rattle.drb_value.proofs.Nodes.{same_views}
use Rattle.drb_value.proofs.equality.+same.Goals as goal

pub same-returns : goal.same-returns
same-returns t c = c.same_nodes.ensures ∙ sym (same_views _ _ _ _ c.a.view_is c.b.view_is)

and_false : (b : Bool) → false ≡ (b && false)
and_false true = refl
and_false false = refl

uneven : (xs ys : List Tree) → length xs ≢ length ys → false ≡ all_same (map same xs) ys
uneven [] [] h = absurd (h refl)
uneven [] (y ∷ ys) h = refl
uneven (x ∷ xs) [] h = refl
uneven (x ∷ xs) (y ∷ ys) h = rw (← uneven xs ys (λ e. h (omega arith))) (and_false (same x y))

uneven_vars : (xs ys : List (List ℕ × Tree)) → length xs ≢ length ys → false ≡ same_vars (map (λ p. (p.0, same p.1)) xs) ys
uneven_vars [] [] h = absurd (h refl)
uneven_vars [] (y ∷ ys) h = refl
uneven_vars (x ∷ xs) [] h = refl
uneven_vars (x ∷ xs) (y ∷ ys) h = rw (← uneven_vars xs ys (λ e. h (omega arith))) (and_false _)

pub same_items-returns-then-xs-ys : goal.same_items-returns-then-xs-ys
same_items-returns-then-xs-ys t c = uneven _ _ c.if-xs-ys.true

pub same_var_slices-returns-then-xs-ys : goal.same_var_slices-returns-then-xs-ys
same_var_slices-returns-then-xs-ys t c = uneven_vars _ _ c.if-xs-ys.true

pub each_field-some_field-requires : goal.each_field-some_field-requires
each_field-some_field-requires t c = (omega (arith, field_in _ _ _ _ c.loop-x-test.true c.x-item.is), tt)

pub each_pair-some_pair-requires : goal.each_pair-some_pair-requires
each_pair-some_pair-requires t c = (omega (arith, pair_in _ _ _ _ c.loop-x-test.true c.x-item.is), tt)

pub same_items-same-requires : goal.same_items-same-requires
same_items-same-requires t c = (omega (arith, item_in _ _ _ _ c.loop-i-test.true c.index-xs-i.is), tt)

pub same_nodes-same_items-requires : goal.same_nodes-same_items-requires
same_nodes-same_items-requires t c = (omega (arith, ap list_size c.as_slice.ensures, list_in _ _ c.in-List.is), tt)

pub same_nodes-same_pairs-requires : goal.same_nodes-same_pairs-requires
same_nodes-same_pairs-requires t c = (omega (arith, hash_in _ _ c.in-Hash.is), tt)

pub same_nodes-same_objects-requires : goal.same_nodes-same_objects-requires
same_nodes-same_objects-requires t c = (omega (arith, ap object_depth c.get.ensures, object_in _ _ c.in-Object.is), tt)

pub same_nodes-same_objects-requires-in-Struct-m : goal.same_nodes-same_objects-requires-in-Struct-m
same_nodes-same_objects-requires-in-Struct-m t c = (omega (arith, ap object_depth c.get-in-Struct-m.ensures, struct_in _ _ c.in-Struct.is), tt)

pub same_nodes-same_dumped-requires : goal.same_nodes-same_dumped-requires
same_nodes-same_dumped-requires t c = (omega (arith, ap vars_depth c.get-in-Dumped-m.ensures, dumped_in _ _ c.in-Dumped.is), tt)

pub same_nodes-same_wrapped-requires : goal.same_nodes-same_wrapped-requires
same_nodes-same_wrapped-requires t c = (omega (arith, wrapped_in _ _ c.in-Wrapped.is), tt)

pub same_pairs-each_pair-requires : goal.same_pairs-each_pair-requires
same_pairs-each_pair-requires t c = (omega (arith, ap pairs_size c.as_slice.ensures, pairs_in (c.xs.inside.pairs, c.xs.inside.default), ap pairs_depth c.xs.view_is), tt)

pub same_fields-each_field-requires : goal.same_fields-each_field-requires
same_fields-each_field-requires t c = (omega (arith, ap fields_size c.as_slice.ensures, fields_in c.xs.inside.list, ap fields_depth c.xs.view_is), tt)

pub same_vars-same_var_slices-requires : goal.same_vars-same_var_slices-requires
same_vars-same_var_slices-requires t c = (omega (arith, ap fields_size c.as_slice.ensures, fields_in c.a.inside.list, ap fields_depth c.a.view_is), tt)

pub same_wrapped-same-requires : goal.same_wrapped-same-requires
same_wrapped-same-requires t c = (omega (arith, ap depth c.get.ensures), tt)

pub same_var_slices-same-requires : goal.same_var_slices-same-requires
same_var_slices-same-requires t c = (omega (arith, field_in _ _ _ _ c.loop-i-test.true c.index-xs-i.is), tt)
