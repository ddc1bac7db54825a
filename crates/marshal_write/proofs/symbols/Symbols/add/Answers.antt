use Rattle.std.proofs.Common.{◌∙◌, ◌++◌, ◌∷◌, [], ap, ℕ, Bool, List, map, bytes_eq, if◌then◌else◌}
use Rattle.std.specs.List.{list_any}
use Rattle.marshal_write.proofs.Keys.{list_any-map, same_bytes, position-none, map_push}
use Rattle.marshal_write.proofs.symbols.Symbols.add.Goals as goal

pub returns-clause-ok : goal.returns-clause-ok
returns-clause-ok c =
    let ks = c.self.inside.names.keys in
    let v = c.in_ok-from_slice.field-0 in
    let name = c.in_ok-from_slice.ensures.items in
    let absent = list_any-map (λ w. w.items) _ (λ t. bytes_eq t v.items) ks (λ w. same_bytes v.items w.items) ∙ ap (list_any (λ t. bytes_eq t v.items)) c.self.view_is
    ∙ ap (λ (n : List ℕ). list_any (λ t. bytes_eq t n) c.args.self.now) name ∙ position-none _ c.args.self.now c.requires in
    ap (map (λ w. w.items)) (c.in_ok-insert.ensures.keys ∙ ap (λ (b : Bool). if b then ks else (ks ++ v ∷ [])) absent) ∙ map_push (λ w. w.items) ks v
    ∙ ap (λ (xs : List (List ℕ)). xs ++ v.items ∷ []) c.self.view_is ∙ ap (λ (n : List ℕ). c.args.self.now ++ n ∷ []) name
