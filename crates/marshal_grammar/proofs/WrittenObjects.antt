-- What is written of an object, a struct, a dumped or a wrapped value is read again.
use Rattle.std.proofs.Common.{◌≡◌, ℕ, zero, suc, ◌+◌, ◌*◌, ◌≤◌, ◌<◌, ◌^◌, List, ◌∷◌, ◌++◌, length, map, refl, ap, ◌∙◌, arith, append_assoc}
use Rattle.std.specs.Prelude.{IsUtf8}
use Rattle.std.proofs.lemmas.Str.{is_utf8-from_IsUtf8}
use Rattle.std.proofs.lemmas.List.{length-map}
use Rattle.drb_tree.specs.declared.Remote.{Remote}
use Rattle.drb_tree.specs.declared.Tree.{Tree}
use Rattle.drb_tree.specs.declared.Tree.TheViews.{roll-Tree}
use Rattle.drb_tree.specs.declared.Tree.TheOpen.{Tree-F}
use Rattle.drb_tree.specs.Sizes.{heavy, most_fields, total_fields}
use Rattle.drb_tree.specs.Kept.{max_nodes, max_pairs, Keeps, Small, FieldsKept}
use Rattle.marshal_grammar.specs.Contexts.{Context, past, add_nodes, begin_object, finish_object}
use Rattle.marshal_grammar.specs.Grammar.{Grammar}
use Rattle.marshal_grammar.specs.Reading.{read}
use Rattle.marshal_grammar.specs.Trees as tree
use Rattle.marshal_grammar.specs.Values.{body, value, fields_value}
use Rattle.marshal_grammar.specs.Spelled.{long_from, these, ◌then◌, symbol_bytes, each_field, fields_bytes, writing}
use Rattle.marshal_grammar.proofs.Pieces.{Gives, Counts, after_long, count_gives, nodes_give, name_gives, not_more}
use Rattle.marshal_grammar.proofs.Parts.{Each, field_parts, here_every}
use Rattle.marshal_grammar.proofs.WrittenParts.{bytes_then, Kept, Written, Such, field_of, field_depth, field_nodes, field_writing, fields_put}
use Rattle.marshal_grammar.proofs.WrittenForms.{by_layer, kept_parts, nodes_roll, depth_roll}

module _ (remotes : Grammar Remote) where
  -- a class symbol, a count and so many fields
  fields_value_gives : (form : List ℕ → List (List ℕ × Tree) → Tree) (at : ℕ) (s : List ℕ) (qs : List (List ℕ × Such remotes)) (room : ℕ) (c : Context) → let fs = map (field_of remotes) qs in
      Each Kept (field_parts fs) → IsUtf8 s → FieldsKept fs → length fs ≤ max_pairs
      → most_fields (map (field_depth remotes) fs) ≤ room → length c.symbols ≤ 2 * c.nodes → c.nodes + (1 + heavy s + total_fields (map (field_nodes remotes) fs)) ≤ max_nodes
      → (d : Context) × Gives (fields_value form (value remotes room) at) c ((symbol_bytes s then fields_bytes (map (field_writing remotes) fs)) c.symbols).0 (form s fs) d
      × Counts (1 + heavy s + total_fields (map (field_nodes remotes) fs)) (symbol_bytes s then fields_bytes (map (field_writing remotes) fs)) c d
  fields_value_gives form at s qs room c k u a p h l m =
      let fs = map (field_of remotes) qs in
      let n = length fs in
      let f = name_gives s c (is_utf8-from_IsUtf8 s u) l (omega (arith, m)) in
      let e = add_nodes 1 (after_long n f.0) in
      let g = fields_put remotes qs room (begin_object e) k a.0 a.1 h (omega (arith, l, f.2.few, f.2.nodes)) (omega (arith, f.2.nodes, m)) in
      let w = each_field (map (field_writing remotes) fs) in
      let z : length (map (field_writing remotes) fs) ≡ n = length-map fs (field_writing remotes) in
      let q : n < 2 ^ 32 = omega (arith, p) in
      let d = finish_object (length e.objects) (form s fs) g.0 in
      rw z (
        d,
        (λ rest. ap (read (fields_value form (value remotes room) at) c)
            (bytes_then (symbol_bytes s) (these (long_from n) then w) c.symbols f.0.symbols rest f.2.symbols ∙ ap (λ (ys : List ℕ). (symbol_bytes s c.symbols).0 ++ ys) (append_assoc (long_from n) (w f.0.symbols).0 rest))
            ∙ rw (f.1 (long_from n ++ ((w f.0.symbols).0 ++ rest)), count_gives n f.0 q ((w f.0.symbols).0 ++ rest), not_more n max_pairs p, nodes_give at 1 (after_long n f.0) ((w f.0.symbols).0 ++ rest) (omega (arith, f.2.nodes, m)), g.1 rest) refl),
        record { symbols = g.2.symbols ∙ ap (λ t. (w t).1) f.2.symbols; few = omega (arith, g.2.few, f.2.few); nodes = omega (arith, g.2.nodes, f.2.nodes) },
      )

  pub object_written : (s : List ℕ) (qs : List (List ℕ × Such remotes)) → Written remotes (roll-Tree (Tree-F.Object s (map (field_of remotes) qs)))
  unfolding value body
  object_written s qs k zero c h l m = absurd (omega (arith, h, depth_roll (Tree-F.Object s (map (field_of remotes) qs))))
  object_written s qs k (suc room) c h l m =
      let f = Tree-F.Object s (map (field_of remotes) qs) in
      let a = here_every Keeps f k.0 in
      let g = fields_value_gives tree.object c.at s qs room (past 1 c) (kept_parts f k) a.0 a.1 (here_every Small f k.2) (omega (arith, h, depth_roll f)) l (omega (arith, m, nodes_roll f)) in
      by_layer remotes (suc room) f c (g.0, (λ rest. g.1 rest), record { symbols = g.2.symbols; few = g.2.few; nodes = g.2.nodes })

  pub struct_written : (s : List ℕ) (qs : List (List ℕ × Such remotes)) → Written remotes (roll-Tree (Tree-F.Struct s (map (field_of remotes) qs)))
  unfolding value body
  struct_written s qs k zero c h l m = absurd (omega (arith, h, depth_roll (Tree-F.Struct s (map (field_of remotes) qs))))
  struct_written s qs k (suc room) c h l m =
      let f = Tree-F.Struct s (map (field_of remotes) qs) in
      let a = here_every Keeps f k.0 in
      let g = fields_value_gives tree.structure c.at s qs room (past 1 c) (kept_parts f k) a.0 a.1 (here_every Small f k.2) (omega (arith, h, depth_roll f)) l (omega (arith, m, nodes_roll f)) in
      by_layer remotes (suc room) f c (g.0, (λ rest. g.1 rest), record { symbols = g.2.symbols; few = g.2.few; nodes = g.2.nodes })

  pub wrapped_written : (s : List ℕ) (y : Such remotes) → Written remotes (roll-Tree (Tree-F.Wrapped s y.0))
  unfolding value body
  wrapped_written s y k zero c h l m = absurd (omega (arith, h, depth_roll (Tree-F.Wrapped s y.0)))
  wrapped_written s y k (suc room) c h l m =
      let t = Tree-F.Wrapped s y.0 in
      let u = is_utf8-from_IsUtf8 s (here_every Keeps t k.0) in
      let f = name_gives s (past 1 c) u l (omega (arith, m, nodes_roll t)) in
      let e = add_nodes 1 f.0 in
      let g = y.1 (kept_parts t k).0 room (begin_object e) (omega (arith, h, depth_roll t)) (omega (arith, l, f.2.few, f.2.nodes)) (omega (arith, f.2.nodes, m, nodes_roll t)) in
      let d = finish_object (length e.objects) (tree.wrapped s y.0) g.0 in
      by_layer remotes (suc room) t c (
        d,
        (λ rest. ap (read (value remotes (suc room)) c) (ap (λ (ys : List ℕ). 85 ∷ ys) (bytes_then (symbol_bytes s) (writing y.0) c.symbols f.0.symbols rest f.2.symbols))
            ∙ rw (f.1 ((writing y.0 f.0.symbols).0 ++ rest), nodes_give c.at 1 f.0 ((writing y.0 f.0.symbols).0 ++ rest) (omega (arith, f.2.nodes, m, nodes_roll t)), g.1 rest) refl),
        record { symbols = g.2.symbols ∙ ap (λ v. (writing y.0 v).1) f.2.symbols; few = omega (arith, g.2.few, f.2.few); nodes = omega (arith, g.2.nodes, f.2.nodes) },
      )
