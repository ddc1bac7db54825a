use Rattle.std.proofs.Common.{IsTrue, false, Option, ℕ, ◌+◌, ◌∷◌, [], List, length, map, drop, option_map, sym, ap, ◌∙◌, arith, rules}
use Rattle.drb_tree.specs.declared.Tree.{Tree}
use Rattle.drb_tree.specs.Sizes.{depth, pairs_depth, fields_depth}
use Rattle.drb_tree.specs.declared.Remote.{Remote}
use Rattle.drb_tree.specs.Kept.{remote_class}
use Rattle.drb_value.specs.declared.Fields.{Fields}
use Rattle.drb_value.specs.declared.Node.{Node}
use Rattle.drb_value.proofs.Measures.{list_size, pairs_size, fields_size, default_size, hash_in, list_in, object_depth, vars_depth, object_in, struct_in, dumped_in, wrapped_in, pairs_in, default_in, fields_in, item_in, pair_in, field_in}
use Rattle.marshal_grammar.specs.Spelled.{Writing, these, ◌then◌, long_from, string_bytes_of, symbol_bytes, each_value, each_pair, each_field, hash_bytes, fields_bytes, dumped_bytes, remote_bytes, writing}
use Rattle.marshal_write.specs.Written.{default_bytes, hash_mark}
use Rattle.marshal_write.proofs.Keys.{length-map-to}
use Rattle.marshal_write.proofs.Steps.{writes_then, writes_as, written_as, stopped_as, written_joined, gave_up_first, gave_up_then, gave_up_third, gave_up_joined, then_assoc_4}
use Rattle.marshal_write.proofs.Forms.{writing_at, writing_view, drop_end, hash_is, dumped_is, map_none}
use Rattle.marshal_write.proofs.Reaches.{reaches_start, reaches_step, reaches_as, reaches_end, reaches_gave_up, each_value-drop, each_pair-drop, each_field-drop}
use Rattle.marshal_write.proofs.writer.Writer.+values.Goals as goal

-- what pairs and fields write
abbrev pair_of : Tree × Tree → Writing × Writing
pair_of p = (writing p.0, writing p.1)

abbrev field_of : List ℕ × Tree → List ℕ × Writing
field_of f = (f.0, writing f.1)

not_empty : IsTrue false → ⊥
not_empty h = absurd (cc)

-- measures
pub put_value-put_node-requires : goal.put_value-put_node-requires
put_value-put_node-requires t c = (omega (arith, ap depth c.value.view_is), tt)

pub put_node-put_list-requires : goal.put_node-put_list-requires
put_node-put_list-requires t c = (omega (arith, ap list_size c.as_slice-in-List.ensures, list_in _ _ c.in-List.is), tt)

pub put_node-put_hash-requires : goal.put_node-put_hash-requires
put_node-put_hash-requires t c = (omega (arith, hash_in _ _ c.in-Hash.is), tt)

pub put_node-put_object-requires : goal.put_node-put_object-requires
put_node-put_object-requires t c = (omega (arith, ap object_depth c.get.ensures, object_in _ _ c.in-Object.is), tt)

pub put_node-put_object-requires-in-Struct : goal.put_node-put_object-requires-in-Struct
put_node-put_object-requires-in-Struct t c = (omega (arith, ap object_depth c.get-in-Struct.ensures, struct_in _ _ c.in-Struct.is), tt)

pub put_node-put_dumped-requires : goal.put_node-put_dumped-requires
put_node-put_dumped-requires t c = (omega (arith, ap vars_depth c.get-in-Dumped.ensures, dumped_in _ _ c.in-Dumped.is), tt)

pub put_node-put_wrapped-requires : goal.put_node-put_wrapped-requires
put_node-put_wrapped-requires t c = (omega (arith, wrapped_in _ _ c.in-Wrapped.is), tt)

pub put_list-put_value-requires : goal.put_list-put_value-requires
put_list-put_value-requires t c = (omega (arith, item_in _ _ _ _ c.loop-item-test.true c.item-item.is), tt)

pub put_pairs-put_value-requires : goal.put_pairs-put_value-requires
put_pairs-put_value-requires t c = (omega (arith, pair_in _ _ _ _ c.loop-pair-test.true c.pair-item.is), tt)

pub put_pairs-put_value-requires-in-loop-pair : goal.put_pairs-put_value-requires-in-loop-pair
put_pairs-put_value-requires-in-loop-pair t c = (omega (arith, pair_in _ _ _ _ c.loop-pair-test.true c.pair-item.is), tt)

pub put_hash-put_pairs-requires : goal.put_hash-put_pairs-requires
put_hash-put_pairs-requires t c = (omega (arith, ap pairs_size c.as_slice.ensures.pairs, pairs_in c.args.pairs.now), tt)

pub put_hash-put_default-requires : goal.put_hash-put_default-requires
put_hash-put_default-requires t c = (omega (arith, default_in (c.pairs.inside.pairs, c.pairs.inside.default), ap pairs_depth c.pairs.view_is), tt)

pub put_default-put_value-requires : goal.put_default-put_value-requires
put_default-put_value-requires t c = (omega (arith, ap depth c.get.ensures, ap default_size c.in-Some.is), tt)

pub put_fields-put_value-requires : goal.put_fields-put_value-requires
put_fields-put_value-requires t c = (omega (arith, field_in _ _ _ _ c.loop-field-test.true c.field-item.is, ap fields_size c.as_slice-field-items.ensures.fields, fields_in c.args.fields.now), tt)

pub put_object-put_fields-requires : goal.put_object-put_fields-requires
put_object-put_fields-requires t c = (omega arith, tt)

pub put_dumped-put_fields-requires : goal.put_dumped-put_fields-requires
put_dumped-put_fields-requires t c = (omega (arith, ap fields_depth c.vars-else-is_empty.ensures), tt)

pub put_wrapped-put_value-requires : goal.put_wrapped-put_value-requires
put_wrapped-put_value-requires t c = (omega (arith, ap depth c.get.ensures), tt)

-- values and nodes
pub put_value-returns : goal.put_value-returns
put_value-returns t c =
    writes_as _ (writing c.args.value.now) _ _ _ (ap (λ (w : Writing). w c.args.self.now.symbols) (writing_view _ _ c.value.view_is)) c.put_node.ensures

pub put_node-returns-in-Sym : goal.put_node-returns-in-Sym
put_node-returns-in-Sym t c =
    let s = c.args.self.now.symbols in
    writes_as _ (writing_at c.args.node.now) _ _ _ (ap (λ (n : List ℕ). symbol_bytes n s) c.as_slice.ensures.bytes ∙ sym (ap (λ (n : Node). writing_at n s) c.in-Sym.is)) c.put_symbol.ensures

pub put_node-returns-in-List : goal.put_node-returns-in-List
put_node-returns-in-List t c =
    let s = c.args.self.now.symbols in
    writes_as _ (writing_at c.args.node.now) _ _ _
    (ap (λ (ts : List Tree). (these (91 ∷ long_from (length (map writing ts))) then each_value (map writing ts)) s) c.as_slice-in-List.ensures ∙ sym (ap (λ (n : Node). writing_at n s) c.in-List.is))
    c.put_list.ensures

-- what an object, a dumped value and a remote object write, whole
abbrev object_at : ℕ → Fields → Writing
object_at mark f = these (mark ∷ []) then symbol_bytes f.class then fields_bytes (map field_of f.fields)

abbrev dumped_at : List ℕ × List ℕ × List (List ℕ × Tree) → Writing
dumped_at d = dumped_bytes d.0 d.1 (map field_of d.2)

abbrev remote_at : Remote → Writing
remote_at r = these (117 ∷ []) then symbol_bytes remote_class then these (string_bytes_of (remote_bytes r))

pub put_node-returns-in-Object : goal.put_node-returns-in-Object
put_node-returns-in-Object t c =
    let s = c.args.self.now.symbols in
    writes_as _ (writing_at c.args.node.now) _ _ _ (ap (λ (f : Fields). object_at 111 f s) c.get.ensures ∙ sym (ap (λ (n : Node). writing_at n s) c.in-Object.is)) c.put_object.ensures

pub put_node-returns-in-Struct : goal.put_node-returns-in-Struct
put_node-returns-in-Struct t c =
    let s = c.args.self.now.symbols in
    writes_as _ (writing_at c.args.node.now) _ _ _ (ap (λ (f : Fields). object_at 83 f s) c.get-in-Struct.ensures ∙ sym (ap (λ (n : Node). writing_at n s) c.in-Struct.is)) c.put_object-in-Struct.ensures

pub put_node-returns-in-Dumped : goal.put_node-returns-in-Dumped
put_node-returns-in-Dumped t c =
    let s = c.args.self.now.symbols in
    writes_as _ (writing_at c.args.node.now) _ _ _ (ap (λ (d : List ℕ × List ℕ × List (List ℕ × Tree)). dumped_at d s) c.get-in-Dumped.ensures ∙ sym (ap (λ (n : Node). writing_at n s) c.in-Dumped.is)) c.put_dumped.ensures

pub put_node-returns-in-Remote : goal.put_node-returns-in-Remote
put_node-returns-in-Remote t c =
    let s = c.args.self.now.symbols in
    writes_as _ (writing_at c.args.node.now) _ _ _ (ap (λ (r : Remote). remote_at r s) c.get-in-Remote.ensures ∙ sym (ap (λ (n : Node). writing_at n s) c.in-Remote.is)) c.put_remote.ensures

-- lists
pub put_list-returns-in_err-put_count : goal.put_list-returns-in_err-put_count
put_list-returns-in_err-put_count t c =
    let ts = c.args.items.now in
    gave_up_joined (91 ∷ []) (long_from (length ts)) _ (each_value (map writing ts)) _ _ _ _ _ (search rules) (ap (λ (n : ℕ). 91 ∷ long_from n) (sym (length-map-to writing ts))) c.in_ok-put.ensures c.in_err-put_count.ensures

pub put_list-loop-item-init : goal.put_list-loop-item-init
put_list-loop-item-init t c =
    let ts = c.args.items.now in
    let head = these (91 ∷ long_from (length (map writing ts))) in
    let rest = each_value (map writing ts) in
    reaches_step (head then rest) head rest _ _ _ (reaches_start (head then rest) c.args.self.now)
    (written_joined (91 ∷ []) (long_from (length ts)) _ _ _ _ (ap (λ (n : ℕ). 91 ∷ long_from n) (sym (length-map-to writing ts))) c.in_ok-put.ensures c.in_ok-put_count.ensures)

pub put_list-returns-in_err-put_value : goal.put_list-returns-in_err-put_value
put_list-returns-in_err-put_value t c =
    let ts = c.args.items.now in
    let i = c.loop-item.item-index in
    let item = c.item-item.result in
    reaches_gave_up _ (writing item) (each_value (map writing (drop (i + 1) ts))) _ _ _ _ _ (search rules)
    (reaches_as _ _ _ _ _ (ap (λ (w : Writing). w c.loop-item.self.symbols) (each_value-drop ts i item _ c.loop-item-test.true c.item-item.is)) c.loop-item.invariant) c.in_err-put_value.ensures

pub put_list-loop-item-preserved : goal.put_list-loop-item-preserved
put_list-loop-item-preserved t c =
    let ts = c.args.items.now in
    let i = c.loop-item.item-index in
    let item = c.item-item.result in
    reaches_step _ (writing item) (each_value (map writing (drop (i + 1) ts))) _ _ _
    (reaches_as _ _ _ _ _ (ap (λ (w : Writing). w c.loop-item.self.symbols) (each_value-drop ts i item _ c.loop-item-test.true c.item-item.is)) c.loop-item.invariant) c.in_ok-put_value.ensures

pub put_list-returns : goal.put_list-returns
put_list-returns t c =
    reaches_end _ _ _ (reaches_as _ _ (these []) _ _ (ap (λ (ts : List Tree). each_value (map writing ts) c.loop-item.self.symbols) (drop_end c.loop-item.item-index c.args.items.now c.loop-item-test.false)) c.loop-item.invariant)

-- hashes
pub put_hash-returns-in_err-put_count : goal.put_hash-returns-in_err-put_count
put_hash-returns-in_err-put_count t c =
    let ps = map pair_of c.args.pairs.now.0 in
    let d = option_map writing c.args.pairs.now.1 in
    let rest = each_pair ps then default_bytes d in
    let default = ap (λ (p : List (Tree × Tree) × Option Tree). option_map writing p.1) c.pairs.view_is in
    writes_as (these (hash_mark d ∷ []) then (these (long_from (length ps)) then rest)) (hash_bytes ps d) _ _ _ (hash_is ps d c.args.self.now.symbols)
    (gave_up_then (these (hash_mark d ∷ [])) (these (long_from (length ps))) rest _ _ _ c.in_err-put_count.field-0.0 c.from_residual-in_err-put_count.result (search rules)
    (written_as _ (these (hash_mark d ∷ [])) _ _ (ap (λ (m : ℕ). these (m ∷ []) c.args.self.now.symbols) (c.hash_mark.ensures ∙ ap hash_mark default)) c.in_ok-put.ensures)
    (stopped_as _ (these (long_from (length ps))) _ _ _ (ap (λ (n : ℕ). these (long_from n) c.put.new.self.symbols) (c.len.ensures ∙ sym (length-map-to pair_of c.args.pairs.now.0))) c.in_err-put_count.ensures))

pub put_hash-returns-in_err-put_pairs : goal.put_hash-returns-in_err-put_pairs
put_hash-returns-in_err-put_pairs t c =
    let ps = map pair_of c.args.pairs.now.0 in
    let d = option_map writing c.args.pairs.now.1 in
    let default = ap (λ (p : List (Tree × Tree) × Option Tree). option_map writing p.1) c.pairs.view_is in
    writes_as (these (hash_mark d ∷ []) then (these (long_from (length ps)) then (each_pair ps then default_bytes d))) (hash_bytes ps d) _ _ _ (hash_is ps d c.args.self.now.symbols)
    (gave_up_third (these (hash_mark d ∷ [])) (these (long_from (length ps))) (each_pair ps) (default_bytes d) _ _ _ _ c.in_err-put_pairs.field-0.0 c.from_residual-in_err-put_pairs.result (search rules)
    (written_as _ (these (hash_mark d ∷ [])) _ _ (ap (λ (m : ℕ). these (m ∷ []) c.args.self.now.symbols) (c.hash_mark.ensures ∙ ap hash_mark default)) c.in_ok-put.ensures)
    (written_as _ (these (long_from (length ps))) _ _ (ap (λ (n : ℕ). these (long_from n) c.put.new.self.symbols) (c.len.ensures ∙ sym (length-map-to pair_of c.args.pairs.now.0))) c.in_ok-put_count.ensures)
    (stopped_as _ (each_pair ps) _ _ _ (ap (λ (ts : List (Tree × Tree)). each_pair (map pair_of ts) c.put_count.new.self.symbols) c.as_slice.ensures.pairs) c.in_err-put_pairs.ensures))

pub put_hash-returns : goal.put_hash-returns
put_hash-returns t c =
    let ps = map pair_of c.args.pairs.now.0 in
    let d = option_map writing c.args.pairs.now.1 in
    let default = ap (λ (p : List (Tree × Tree) × Option Tree). option_map writing p.1) c.pairs.view_is in
    writes_as (these (hash_mark d ∷ []) then (these (long_from (length ps)) then (each_pair ps then default_bytes d))) (hash_bytes ps d) _ _ _ (hash_is ps d c.args.self.now.symbols)
    (writes_then (these (hash_mark d ∷ [])) (these (long_from (length ps)) then (each_pair ps then default_bytes d)) _ _ _ _
    (written_as _ (these (hash_mark d ∷ [])) _ _ (ap (λ (m : ℕ). these (m ∷ []) c.args.self.now.symbols) (c.hash_mark.ensures ∙ ap hash_mark default)) c.in_ok-put.ensures)
    (writes_then (these (long_from (length ps))) (each_pair ps then default_bytes d) _ _ _ _
    (written_as _ (these (long_from (length ps))) _ _ (ap (λ (n : ℕ). these (long_from n) c.put.new.self.symbols) (c.len.ensures ∙ sym (length-map-to pair_of c.args.pairs.now.0))) c.in_ok-put_count.ensures)
    (writes_then (each_pair ps) (default_bytes d) _ _ _ _
    (written_as _ (each_pair ps) _ _ (ap (λ (ts : List (Tree × Tree)). each_pair (map pair_of ts) c.put_count.new.self.symbols) c.as_slice.ensures.pairs) c.in_ok-put_pairs.ensures)
    (writes_as _ (default_bytes d) _ _ _ (ap (λ (o : Option Writing). default_bytes o c.put_pairs.new.self.symbols) default) c.put_default.ensures))))

-- pairs
pub put_pairs-loop-pair-init : goal.put_pairs-loop-pair-init
put_pairs-loop-pair-init t c = reaches_start _ c.args.self.now

pub put_pairs-returns-in_err-put_value : goal.put_pairs-returns-in_err-put_value
put_pairs-returns-in_err-put_value t c =
    let ts = c.args.pairs.now in
    let i = c.loop-pair.pair-index in
    let p = c.pair-item.result in
    reaches_gave_up _ (writing p.0) (writing p.1 then each_pair (map pair_of (drop (i + 1) ts))) _ _ _ _ _ (search rules)
    (reaches_as _ _ _ _ _ (ap (λ (w : Writing). w c.loop-pair.self.symbols) (each_pair-drop ts i p _ c.loop-pair-test.true c.pair-item.is)) c.loop-pair.invariant) c.in_err-put_value.ensures

pub put_pairs-returns-in_err-put_value-2 : goal.put_pairs-returns-in_err-put_value-2
put_pairs-returns-in_err-put_value-2 t c =
    let ts = c.args.pairs.now in
    let i = c.loop-pair.pair-index in
    let p = c.pair-item.result in
    reaches_gave_up _ (writing p.1) (each_pair (map pair_of (drop (i + 1) ts))) _ _ _ _ _ (search rules)
    (reaches_step _ (writing p.0) (writing p.1 then each_pair (map pair_of (drop (i + 1) ts))) _ _ _
    (reaches_as _ _ _ _ _ (ap (λ (w : Writing). w c.loop-pair.self.symbols) (each_pair-drop ts i p _ c.loop-pair-test.true c.pair-item.is)) c.loop-pair.invariant) c.in_ok-put_value.ensures) c.in_err-put_value-2.ensures

pub put_pairs-loop-pair-preserved : goal.put_pairs-loop-pair-preserved
put_pairs-loop-pair-preserved t c =
    let ts = c.args.pairs.now in
    let i = c.loop-pair.pair-index in
    let p = c.pair-item.result in
    reaches_step _ (writing p.1) (each_pair (map pair_of (drop (i + 1) ts))) _ _ _
    (reaches_step _ (writing p.0) (writing p.1 then each_pair (map pair_of (drop (i + 1) ts))) _ _ _
    (reaches_as _ _ _ _ _ (ap (λ (w : Writing). w c.loop-pair.self.symbols) (each_pair-drop ts i p _ c.loop-pair-test.true c.pair-item.is)) c.loop-pair.invariant) c.in_ok-put_value.ensures) c.in_ok-put_value-2.ensures

pub put_pairs-returns : goal.put_pairs-returns
put_pairs-returns t c =
    reaches_end _ _ _ (reaches_as _ _ (these []) _ _ (ap (λ (ts : List (Tree × Tree)). each_pair (map pair_of ts) c.loop-pair.self.symbols) (drop_end c.loop-pair.pair-index c.args.pairs.now c.loop-pair-test.false)) c.loop-pair.invariant)

-- objects, structs and wrapped values
pub put_object-returns-in_err-put_symbol : goal.put_object-returns-in_err-put_symbol
put_object-returns-in_err-put_symbol t c =
    let o = c.args.object.now in
    gave_up_then (these (c.args.mark ∷ [])) (symbol_bytes o.class) (fields_bytes (map field_of o.fields)) _ _ _ _ _ (search rules) c.in_ok-put.ensures
    (stopped_as _ (symbol_bytes o.class) _ _ _ (ap (λ (n : List ℕ). symbol_bytes n c.put.new.self.symbols) c.as_slice.ensures.bytes) c.in_err-put_symbol.ensures)

pub put_object-returns : goal.put_object-returns
put_object-returns t c =
    let o = c.args.object.now in
    writes_then (these (c.args.mark ∷ [])) _ _ _ _ _ c.in_ok-put.ensures
    (writes_then (symbol_bytes o.class) (fields_bytes (map field_of o.fields)) _ _ _ _
    (written_as _ (symbol_bytes o.class) _ _ (ap (λ (n : List ℕ). symbol_bytes n c.put.new.self.symbols) c.as_slice.ensures.bytes) c.in_ok-put_symbol.ensures) c.put_fields.ensures)

pub put_wrapped-returns-in_err-put_symbol : goal.put_wrapped-returns-in_err-put_symbol
put_wrapped-returns-in_err-put_symbol t c =
    let o = c.args.wrapped.now in
    gave_up_then (these (85 ∷ [])) (symbol_bytes o.class) (writing o.inner) _ _ _ _ _ (search rules) c.in_ok-put.ensures
    (stopped_as _ (symbol_bytes o.class) _ _ _ (ap (λ (n : List ℕ). symbol_bytes n c.put.new.self.symbols) c.as_slice.ensures.bytes) c.in_err-put_symbol.ensures)

pub put_wrapped-returns : goal.put_wrapped-returns
put_wrapped-returns t c =
    let o = c.args.wrapped.now in
    writes_then (these (85 ∷ [])) _ _ _ _ _ c.in_ok-put.ensures
    (writes_then (symbol_bytes o.class) (writing o.inner) _ _ _ _
    (written_as _ (symbol_bytes o.class) _ _ (ap (λ (n : List ℕ). symbol_bytes n c.put.new.self.symbols) c.as_slice.ensures.bytes) c.in_ok-put_symbol.ensures)
    (writes_as _ (writing o.inner) _ _ _ (ap (λ (v : Tree). writing v c.put_symbol.new.self.symbols) c.get.ensures) c.put_value.ensures))

-- fields
pub put_fields-returns-in_err-put_count : goal.put_fields-returns-in_err-put_count
put_fields-returns-in_err-put_count t c =
    let fs = c.args.fields.now in
    let head = these (long_from (length (map field_of fs))) in
    gave_up_first head (each_field (map field_of fs)) _ _ _ _ (search rules)
    (stopped_as _ head _ _ _ (ap (λ (n : ℕ). these (long_from n) c.args.self.now.symbols) (c.len.ensures ∙ sym (length-map-to field_of fs))) c.in_err-put_count.ensures)

pub put_fields-loop-field-init : goal.put_fields-loop-field-init
put_fields-loop-field-init t c =
    let fs = c.args.fields.now in
    let head = these (long_from (length (map field_of fs))) in
    reaches_as _ (each_field (map field_of fs)) _ _ _ (ap (λ (xs : List (List ℕ × Tree)). each_field (map field_of xs) c.put_count.new.self.symbols) (sym c.as_slice-field-items.ensures.fields))
    (reaches_step _ head (each_field (map field_of fs)) _ _ _ (reaches_start (fields_bytes (map field_of fs)) c.args.self.now)
    (written_as _ head _ _ (ap (λ (n : ℕ). these (long_from n) c.args.self.now.symbols) (c.len.ensures ∙ sym (length-map-to field_of fs))) c.in_ok-put_count.ensures))

pub put_fields-returns-in_err-put_symbol : goal.put_fields-returns-in_err-put_symbol
put_fields-returns-in_err-put_symbol t c =
    let fs = c.as_slice-field-items.result.now in
    let i = c.loop-field.field-index in
    let f = c.field-item.result in
    reaches_gave_up _ (symbol_bytes f.0) (writing f.1 then each_field (map field_of (drop (i + 1) fs))) _ _ _ _ _ (search rules)
    (reaches_as _ _ _ _ _ (ap (λ (w : Writing). w c.loop-field.self.symbols) (each_field-drop fs i f _ c.loop-field-test.true c.field-item.is)) c.loop-field.invariant)
    (stopped_as _ (symbol_bytes f.0) _ _ _ (ap (λ (n : List ℕ). symbol_bytes n c.loop-field.self.symbols) c.as_slice.ensures.bytes) c.in_err-put_symbol.ensures)

pub put_fields-returns-in_err-put_value : goal.put_fields-returns-in_err-put_value
put_fields-returns-in_err-put_value t c =
    let fs = c.as_slice-field-items.result.now in
    let i = c.loop-field.field-index in
    let f = c.field-item.result in
    reaches_gave_up _ (writing f.1) (each_field (map field_of (drop (i + 1) fs))) _ _ _ _ _ (search rules)
    (reaches_step _ (symbol_bytes f.0) (writing f.1 then each_field (map field_of (drop (i + 1) fs))) _ _ _
    (reaches_as _ _ _ _ _ (ap (λ (w : Writing). w c.loop-field.self.symbols) (each_field-drop fs i f _ c.loop-field-test.true c.field-item.is)) c.loop-field.invariant)
    (written_as _ (symbol_bytes f.0) _ _ (ap (λ (n : List ℕ). symbol_bytes n c.loop-field.self.symbols) c.as_slice.ensures.bytes) c.in_ok-put_symbol.ensures)) c.in_err-put_value.ensures

pub put_fields-loop-field-preserved : goal.put_fields-loop-field-preserved
put_fields-loop-field-preserved t c =
    let fs = c.as_slice-field-items.result.now in
    let i = c.loop-field.field-index in
    let f = c.field-item.result in
    reaches_step _ (writing f.1) (each_field (map field_of (drop (i + 1) fs))) _ _ _
    (reaches_step _ (symbol_bytes f.0) (writing f.1 then each_field (map field_of (drop (i + 1) fs))) _ _ _
    (reaches_as _ _ _ _ _ (ap (λ (w : Writing). w c.loop-field.self.symbols) (each_field-drop fs i f _ c.loop-field-test.true c.field-item.is)) c.loop-field.invariant)
    (written_as _ (symbol_bytes f.0) _ _ (ap (λ (n : List ℕ). symbol_bytes n c.loop-field.self.symbols) c.as_slice.ensures.bytes) c.in_ok-put_symbol.ensures)) c.in_ok-put_value.ensures

pub put_fields-returns : goal.put_fields-returns
put_fields-returns t c =
    reaches_end _ _ _ (reaches_as _ _ (these []) _ _ (ap (λ (fs : List (List ℕ × Tree)). each_field (map field_of fs) c.loop-field.self.symbols) (drop_end c.loop-field.field-index c.as_slice-field-items.result.now c.loop-field-test.false)) c.loop-field.invariant)

-- values that their class dumped as bytes
pub put_dumped-returns-in_err-put_dumped_as : goal.put_dumped-returns-in_err-put_dumped_as
put_dumped-returns-in_err-put_dumped_as t c =
    let d = c.args.dumped.now in
    let fs = map field_of d.2 in
    let s = c.args.self.now.symbols in
    let head = these (73 ∷ 117 ∷ []) then (symbol_bytes d.0 then these (string_bytes_of d.1)) in
    writes_as (head then fields_bytes fs) (dumped_bytes d.0 d.1 fs) _ _ _
    (then_assoc_4 (these (73 ∷ 117 ∷ [])) (symbol_bytes d.0) (these (string_bytes_of d.1)) (fields_bytes fs) s ∙ dumped_is d.0 d.1 fs s (λ h. not_empty (c.if-is_empty.ensures.1 (c.vars.ensures ∙ map_none d.2 h))))
    (gave_up_first head (fields_bytes fs) _ _ c.in_err-put_dumped_as.field-0.0 c.from_residual.result (search rules) c.in_err-put_dumped_as.ensures)

pub put_dumped-returns-in_ok-put_dumped_as : goal.put_dumped-returns-in_ok-put_dumped_as
put_dumped-returns-in_ok-put_dumped_as t c =
    let d = c.args.dumped.now in
    let fs = map field_of d.2 in
    let s = c.args.self.now.symbols in
    let head = these (73 ∷ 117 ∷ []) then (symbol_bytes d.0 then these (string_bytes_of d.1)) in
    writes_as (head then fields_bytes fs) (dumped_bytes d.0 d.1 fs) _ _ _
    (then_assoc_4 (these (73 ∷ 117 ∷ [])) (symbol_bytes d.0) (these (string_bytes_of d.1)) (fields_bytes fs) s ∙ dumped_is d.0 d.1 fs s (λ h. not_empty (c.if-is_empty.ensures.1 (c.vars.ensures ∙ map_none d.2 h))))
    (writes_then head (fields_bytes fs) _ _ _ _ c.in_ok-put_dumped_as.ensures
    (writes_as _ (fields_bytes fs) _ _ _ (ap (λ (xs : List (List ℕ × Tree)). fields_bytes (map field_of xs) c.put_dumped_as-else-is_empty.new.self.symbols) c.vars-else-is_empty.ensures) c.put_fields.ensures))
