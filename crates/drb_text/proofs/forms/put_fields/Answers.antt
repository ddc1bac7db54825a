use Rattle.std.proofs.Common.{rules, arith, sym, ap, ◌∙◌, subst, List, ℕ, Option}
use Rattle.drb_tree.specs.declared.Tree.{Tree}
use Rattle.drb_text.specs.Puts.{MayPut}
use Rattle.drb_text.proofs.Fields.{fields_named, names_are}
use Rattle.drb_text.proofs.forms.put_fields.Goals as goal

pub returns : goal.returns
returns c =
    let name = λ (f : List ℕ × Tree). f.0 in
    let part = λ (f : List ℕ × Tree). f.1 in
    let named = names_are c.as_slice.result.now c.as_slice-2.result.now c.as_slice-3.result.now c.excl-item.result c.begin-item.result c.end-item.result c.are_range_names.result
    c.are_range_names.ensures (c.as_slice.ensures.bytes ∙ ap name c.excl.view_is) (c.as_slice-2.ensures.bytes ∙ ap name c.begin.view_is) (c.as_slice-3.ensures.bytes ∙ ap name c.end.view_is) (search rules) in
    subst (λ (o : Option (List ℕ)). MayPut o c.args.out.now.items c.put_ends.new.out.items c.put_ends.result)
    (sym (fields_named c.args.fields.now c.excl-item.result c.begin-item.result c.end-item.result _ _ _ c.excl.inside.0.1.0.node c.begin.inside.0.1.0.node c.end.inside.0.1.0.node
    (omega (arith, c.in-len3.len_at_least, c.in-len3.len_below)) c.excl-item.is c.begin-item.is c.end-item.is named
    (ap part c.excl.view_is) (ap part c.begin.view_is) (ap part c.end.view_is)))
    c.put_ends.ensures
