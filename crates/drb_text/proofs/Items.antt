-- The items of a list, read one after the other.
use Rattle.std.proofs.Common.{ℕ, zero, suc, ◌≡◌, ◌+◌, ◌<◌, ◌≤◌, ◌==◌, Bool, true, false, List, [], ◌∷◌, ◌++◌, length, Result, Ok, Err, refl, sym, ap, ◌∙◌, subst, arith, append_assoc, if◌then◌else◌}
use Rattle.drb_tree.specs.declared.Tree.{Tree}
use Rattle.drb_text.specs.Reading.{Read, stuck, next, behind_spaces}
use Rattle.drb_text.specs.Texts.{with_item, items_or_end, item_list}

-- with those items in front
abbrev pub with_items : List Tree → Read (List Tree) → Read (List Tree)
with_items vs (Ok r) = Ok (vs ++ r.0, r.1)
with_items vs (Err left) = Err left

with_push : (vs : List Tree) (v : Tree) (r : Read (List Tree)) → with_items vs (with_item v r) ≡ with_items (vs ++ v ∷ []) r
with_push vs v (Ok r) = ap (λ (x : List Tree). Ok (x, r.1)) (sym (append_assoc vs (v ∷ []) r.0))
with_push vs v (Err left) = refl

-- So far so many items are read of these bytes, and there is room for more of them than bytes are left.
pub record SoFar (item : List ℕ → Read Tree) (bs : List ℕ) (vs : List Tree) (rest : List ℕ) : Type 0 where
  pub room : ℕ
  pub enough : length rest < room
  pub same : item_list item (length bs + 1) bs ≡ with_items vs (item_list item room rest)
  pub within : length rest ≤ length bs

with_none : (r : Read (List Tree)) → r ≡ with_items [] r
with_none (Ok r) = refl
with_none (Err left) = refl

pub so_far_none : (item : List ℕ → Read Tree) (bs : List ℕ) (vs : List Tree) → vs ≡ [] → SoFar item bs vs bs
so_far_none item bs vs e = record {
  room = length bs + 1;
  enough = omega arith;
  same = subst (λ (x : List Tree). item_list item (length bs + 1) bs ≡ with_items x (item_list item (length bs + 1) bs)) (sym e) (with_none (item_list item (length bs + 1) bs));
  within = omega arith;
}

-- one round
pub round_is : (item : List ℕ → Read Tree) (n : ℕ) (rest behind : List ℕ) (v : Tree) → item (behind_spaces rest) ≡ Ok (v, behind) → item_list item (suc n) rest ≡ items_or_end (item_list item n) v (behind_spaces behind)
round_is item n rest behind v e = ap (λ (r : Read Tree). next r (λ w more. items_or_end (item_list item n) w (behind_spaces more))) e

more_of : (item : List ℕ → Read Tree) (n : ℕ) (bs rest behind more : List ℕ) (vs : List Tree) (v : Tree) → length rest < n → item_list item (length bs + 1) bs ≡ with_items vs (item_list item n rest) → item (behind_spaces rest) ≡ Ok (v, behind) → behind_spaces behind ≡ 44 ∷ more → length (44 ∷ more) ≤ length rest → length rest ≤ length bs → SoFar item bs (vs ++ v ∷ []) more
more_of item zero bs rest behind more vs v l s i e w x = absurd (omega arith)
more_of item (suc n) bs rest behind more vs v l s i e w x = record {
  room = n;
  enough = omega arith;
  same = s ∙ ap (with_items vs) (round_is item n rest behind v i ∙ ap (items_or_end (item_list item n) v) e) ∙ with_push vs v (item_list item n more);
  within = omega arith;
}

pub so_far_more : (item : List ℕ → Read Tree) (bs rest behind more : List ℕ) (vs : List Tree) (v : Tree) → SoFar item bs vs rest → item (behind_spaces rest) ≡ Ok (v, behind) → behind_spaces behind ≡ 44 ∷ more → length (behind_spaces behind) ≤ length rest → SoFar item bs (vs ++ v ∷ []) more
so_far_more item bs rest behind more vs v f i e w = more_of item f.room bs rest behind more vs v f.enough f.same i e (subst (λ (x : List ℕ). length x ≤ length rest) e w) f.within

done_of : (item : List ℕ → Read Tree) (n : ℕ) (bs rest behind more : List ℕ) (vs : List Tree) (v : Tree) → length rest < n → item_list item (length bs + 1) bs ≡ with_items vs (item_list item n rest) → item (behind_spaces rest) ≡ Ok (v, behind) → behind_spaces behind ≡ 93 ∷ more → item_list item (length bs + 1) bs ≡ Ok (vs ++ v ∷ [], more)
done_of item zero bs rest behind more vs v l s i e = absurd (omega arith)
done_of item (suc n) bs rest behind more vs v l s i e = s ∙ ap (with_items vs) (round_is item n rest behind v i ∙ ap (items_or_end (item_list item n) v) e)

pub so_far_done : (item : List ℕ → Read Tree) (bs rest behind more : List ℕ) (vs : List Tree) (v : Tree) → SoFar item bs vs rest → item (behind_spaces rest) ≡ Ok (v, behind) → behind_spaces behind ≡ 93 ∷ more → item_list item (length bs + 1) bs ≡ Ok (vs ++ v ∷ [], more)
so_far_done item bs rest behind more vs v f i e = done_of item f.room bs rest behind more vs v f.enough f.same i e

-- neither `,` nor `]` comes next
abbrev pub NoEnd : List ℕ → Type 0
NoEnd [] = Unit {0}
NoEnd (b ∷ bs) = ((b == 44) ≡ false) × ((b == 93) ≡ false)

no_end : (more : List ℕ → Read (List Tree)) (vs : List Tree) (v : Tree) (bs : List ℕ) → NoEnd bs → with_items vs (items_or_end more v bs) ≡ Err (length bs)
no_end more vs v [] h = refl
no_end more vs v (b ∷ bs) h = rw (h.0, h.1) refl

stuck_of : (item : List ℕ → Read Tree) (n : ℕ) (bs rest behind : List ℕ) (vs : List Tree) (v : Tree) → length rest < n → item_list item (length bs + 1) bs ≡ with_items vs (item_list item n rest) → item (behind_spaces rest) ≡ Ok (v, behind) → NoEnd (behind_spaces behind) → item_list item (length bs + 1) bs ≡ Err (length (behind_spaces behind))
stuck_of item zero bs rest behind vs v l s i e = absurd (omega arith)
stuck_of item (suc n) bs rest behind vs v l s i e = s ∙ ap (with_items vs) (round_is item n rest behind v i) ∙ no_end (item_list item n) vs v (behind_spaces behind) e

pub so_far_stuck : (item : List ℕ → Read Tree) (bs rest behind : List ℕ) (vs : List Tree) (v : Tree) → SoFar item bs vs rest → item (behind_spaces rest) ≡ Ok (v, behind) → NoEnd (behind_spaces behind) → item_list item (length bs + 1) bs ≡ Err (length (behind_spaces behind))
so_far_stuck item bs rest behind vs v f i e = stuck_of item f.room bs rest behind vs v f.enough f.same i e

no_item_of : (item : List ℕ → Read Tree) (n : ℕ) (bs rest : List ℕ) (vs : List Tree) (left : ℕ) → length rest < n → item_list item (length bs + 1) bs ≡ with_items vs (item_list item n rest) → item (behind_spaces rest) ≡ Err left → item_list item (length bs + 1) bs ≡ Err left
no_item_of item zero bs rest vs left l s i = absurd (omega arith)
no_item_of item (suc n) bs rest vs left l s i = s ∙ ap (λ (r : Read Tree). with_items vs (next r (λ w more. items_or_end (item_list item n) w (behind_spaces more)))) i

pub so_far_no_item : (item : List ℕ → Read Tree) (bs rest : List ℕ) (vs : List Tree) (left : ℕ) → SoFar item bs vs rest → item (behind_spaces rest) ≡ Err left → item_list item (length bs + 1) bs ≡ Err left
so_far_no_item item bs rest vs left f i = no_item_of item f.room bs rest vs left f.enough f.same i
