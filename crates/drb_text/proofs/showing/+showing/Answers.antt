use Rattle.std.proofs.Common.{rules, ℕ, ◌≡◌, ◌+◌, List, [], ◌∷◌, map, drop, arith, ap, sym, ◌∙◌, subst}
use Rattle.drb_tree.specs.declared.Tree.{Tree}
use Rattle.drb_tree.specs.Sizes.{depth}
use Rattle.drb_value.specs.View.{layer}
use Rattle.drb_value.proofs.Measures.{list_size, list_in, item_in}
use Rattle.drb_text.specs.Puts.{Shows, MayShow}
use Rattle.drb_text.specs.Shown.{Piece, piece, ◌then◌, showing, bracketed, separated, behind_commas, dump_piece, plain_or_dump, plain_text}
use Rattle.drb_text.proofs.Puts.{Reaches, reaches_as, reaches_step, reaches_gave_up, shows_bytes, shows_put, not_put, may_give_up}
use Rattle.drb_text.proofs.Showings.{showing_items, showing_plain, behind_commas-drop}
use Rattle.drb_text.proofs.showing.+showing.Goals as goal

-- measures
pub put_items-put_value-requires-in-loop-item : goal.put_items-put_value-requires-in-loop-item
put_items-put_value-requires-in-loop-item t c =
    let e : c.args.items.now ≡ c.in-Some.first.now ∷ c.in-Some.more.now = search rules in
    (omega (arith, ap list_size e, item_in _ _ _ _ c.loop-item-test.true c.item-item.is), tt)

pub put_value-put_list-requires : goal.put_value-put_list-requires
put_value-put_list-requires t c =
    (omega (arith, ap list_size c.as_slice.ensures, list_in _ _ c.in-List.is, ap depth c.value.view_is), tt)

-- items
pub put_items-returns-in_err-put_value-2 : goal.put_items-returns-in_err-put_value-2
put_items-returns-in_err-put_value-2 t c =
    let i = c.loop-item.item-index in
    let more = c.in-Some.more.now in
    let item = c.item-item.result in
    let rest = behind_commas (map showing (drop (i + 1) more)) in
    let comma = piece (44 ∷ 32 ∷ []) in
    may_give_up _ _ _ c.in_err-put_value-2.field-0.0 c.from_residual-in_err-put_value-2.result (search rules)
    (reaches_gave_up _ (showing item) rest _ c.extend_from_slice.new.self.items _ _
    (reaches_step _ comma (showing item then rest) _ c.loop-item.out.items _
    (reaches_as _ _ (comma then (showing item then rest)) _ _ (behind_commas-drop more i item _ c.loop-item-test.true c.item-item.is) c.loop-item.invariant)
    (shows_bytes (44 ∷ 32 ∷ []) _ _ (search rules)))
    c.in_err-put_value-2.ensures)

pub put_items-loop-item-preserved : goal.put_items-loop-item-preserved
put_items-loop-item-preserved t c =
    let i = c.loop-item.item-index in
    let more = c.in-Some.more.now in
    let item = c.item-item.result in
    let rest = behind_commas (map showing (drop (i + 1) more)) in
    let comma = piece (44 ∷ 32 ∷ []) in
    reaches_step _ (showing item) rest _ c.extend_from_slice.new.self.items _
    (reaches_step _ comma (showing item then rest) _ c.loop-item.out.items _
    (reaches_as _ _ (comma then (showing item then rest)) _ _ (behind_commas-drop more i item _ c.loop-item-test.true c.item-item.is) c.loop-item.invariant)
    (shows_bytes (44 ∷ 32 ∷ []) _ _ (search rules)))
    c.in_ok-put_value-2.ensures

-- values
pub put_value-returns-in-List : goal.put_value-returns-in-List
put_value-returns-in-List t c =
    subst (λ (p : Piece). MayShow p c.args.out.now.items c.put_list.new.out.items c.put_list.result)
    (ap (λ (ts : List Tree). bracketed (map showing ts)) c.as_slice.ensures ∙ sym (showing_items c.value.inside.node c.args.value.now c.in-List.items c.value.view_is c.in-List.is))
    c.put_list.ensures

pub put_value-returns-then-branch : goal.put_value-returns-then-branch
put_value-returns-then-branch t c =
    let n = c.value.inside.node in
    let v = c.args.value.now in
    subst (λ (p : Piece). Shows p c.args.out.now.items c.put_plain.new.out.items)
    (sym (showing_plain n v c.value.view_is c.in_default.not-List))
    (shows_put v (plain_text (layer n)) _ _ _ c.in_ok-put_plain.ensures c.if-branch.true)

pub put_value-returns : goal.put_value-returns
put_value-returns t c =
    let n = c.value.inside.node in
    let v = c.args.value.now in
    let q = not_put v (plain_text (layer n)) _ _ _ c.in_ok-put_plain.ensures c.if-branch.false in
    subst (λ (p : Piece). MayShow p c.args.out.now.items c.put_dump.new.out.items c.put_dump.result)
    (sym q.0 ∙ sym (showing_plain n v c.value.view_is c.in_default.not-List))
    (subst (λ (xs : List ℕ). MayShow (dump_piece v) xs c.put_dump.new.out.items c.put_dump.result) q.1 c.put_dump.ensures)
