-- What is shown of a value that fits is read as that value, lists and all.
use Rattle.std.proofs.Common.{ℕ, zero, suc, ◌≡◌, ◌<◌, ◌≤◌, ◌+◌, ◌==◌, false, List, [], ◌∷◌, ◌++◌, All, length, map, drop, Option, Some, None, inl, inr, refl, sym, ap, ◌∙◌, subst, arith, append_assoc, append-nil}
use Rattle.std.specs.Prelude.{Ok}
use Rattle.std.specs.List.{prefix_len}
use Rattle.std.proofs.lemmas.List.Elements.{All-head, All-tail}
use Rattle.drb_tree.specs.declared.Tree.{Tree}
use Rattle.drb_tree.specs.declared.Tree.TheViews.{roll-Tree}
use Rattle.drb_tree.specs.declared.Tree.TheOpen.{Tree-F}
use Rattle.drb_tree.specs.declared.Tree.TheFolds.{map-Tree, ind-Tree, every-Tree}
use Rattle.drb_tree.specs.Kept.{Keeps, InRange, Small, WellKept, Ranged, Fits, max_depth, max_nodes}
use Rattle.drb_tree.specs.Sizes.{depth, nodes, total}
use Rattle.drb_tree.specs.Trees.{list_tree}
use Rattle.drb_tree.proofs.Depths.{NotDeeper, parts_within}
use Rattle.drb_tree.proofs.Sizes.{depth_list, nodes_roll}
use Rattle.drb_tree.proofs.Everywhere.{every_parts}
use Rattle.drb_text.specs.Bytes.{is_space}
use Rattle.drb_text.specs.Laws.{ReadsShown}
use Rattle.drb_text.specs.Reading.{Read, next, read_as, begins, behind_spaces}
use Rattle.drb_text.specs.Shown.{Piece, piece, ◌then◌, behind_commas, separated, bracketed, plain_or_dump, plain_text, showing, shown}
use Rattle.drb_text.specs.Texts.{with_item, items_or_end, item_list, list_with, text, whole, placed}
use Rattle.drb_text.proofs.Ends.{Ends, Opens}
use Rattle.drb_text.proofs.Hexed.{plain_dump}
use Rattle.drb_text.proofs.Items.{round_is}
use Rattle.drb_text.proofs.Lists.{text_plain, text_list}
use Rattle.drb_text.proofs.Reread.{plain_some}
use Rattle.drb_text.proofs.Showings.{showing_at, showing_list}

-- neither `]` nor a space comes first
abbrev Starts : List ℕ → Type 0
Starts [] = ⊥
Starts (b ∷ bs) = ((b == 93) ≡ false) × ((b == 32) ≡ false)

-- what is asked of a value that stands in lists with room for so many more
record Fit (room : ℕ) (t : Tree) : Type 0 where
  pub deep : depth t ≤ room
  pub few : nodes t ≤ max_nodes
  pub kept : WellKept t
  pub ranged : Ranged t
  pub small : every-Tree Small t

abbrev Again : Tree → Type 0
Again t = (room : ℕ) (rest : List ℕ) → room ≤ max_depth → Fit room t → Ends rest → (text room (shown t ++ rest) ≡ Ok (t, rest)) × Starts (shown t ++ rest)

starts : (xs : List ℕ) → Opens xs → Starts xs
starts [] o = o
starts (b ∷ bs) o = (o.1, o.2)

no_list : (xs : List ℕ) → Opens xs → begins 91 xs ≡ false
no_list [] o = absurd o
no_list (b ∷ bs) o = o.0

fits : (room : ℕ) (t : Tree) → room ≤ max_depth → Fit room t → Fits t
fits room t l f = ((omega (arith, l, f.deep), f.few), f.small)

other_by : (l : Tree-F Tree) (o : Option (List ℕ)) (room : ℕ) (rest : List ℕ) → plain_text l ≡ o → room ≤ max_depth → Fit room (roll-Tree l) → Ends rest → let s = (plain_or_dump (roll-Tree l) o).text in (text room (s ++ rest) ≡ Ok (roll-Tree l, rest)) × Starts (s ++ rest)
other_by l (Some t) room rest e r f n =
    let p = plain_some l rest n f.ranged t e in
    (text_plain room (t ++ rest) (no_list (t ++ rest) p.1) ∙ p.0, starts (t ++ rest) p.1)
other_by l None room rest e r f n = (text_plain room _ refl ∙ plain_dump (roll-Tree l) rest f.kept f.ranged (fits room (roll-Tree l) r f) n, (refl, refl))

other : (l : Tree-F Tree) → showing (roll-Tree l) ≡ plain_or_dump (roll-Tree l) (plain_text l) → Again (roll-Tree l)
other l e room rest r f n =
    subst (λ (p : Piece). (text room (p.text ++ rest) ≡ Ok (roll-Tree l, rest)) × Starts (p.text ++ rest)) (sym e) (other_by l (plain_text l) room rest refl r f n)

-- lists

abbrev Such : Type 0
Such = (t : Tree) × Again t

abbrev trees : List Such → List Tree
trees ys = map (λ e. e.0) ys

abbrev Each : ℕ → List Tree → Type 0
Each room [] = Unit {0}
Each room (t ∷ ts) = Fit room t × Each room ts

each_of : (room : ℕ) (ts : List Tree) → All (NotDeeper room) ts → total (map nodes ts) ≤ max_nodes → All WellKept ts → All Ranged ts → All (every-Tree Small) ts → Each room ts
each_of room [] d n k r s = tt
each_of room (t ∷ ts) d n k r s = (
  record {
    deep = All-head (NotDeeper room) t ts d;
    few = omega (arith, n);
    kept = All-head WellKept t ts k;
    ranged = All-head Ranged t ts r;
    small = All-head (every-Tree Small) t ts s;
  },
  each_of room ts (All-tail (NotDeeper room) t ts d) (omega (arith, n)) (All-tail WellKept t ts k) (All-tail Ranged t ts r) (All-tail (every-Tree Small) t ts s),
)

each_item : (room : ℕ) (ts : List Tree) → Fit (suc room) (list_tree ts) → Each room ts
each_item room ts f =
    each_of room ts (parts_within room (Tree-F.List ts) f.deep) (omega (arith, f.few, nodes_roll (Tree-F.List ts)))
    (every_parts Keeps (Tree-F.List ts) f.kept) (every_parts InRange (Tree-F.List ts) f.ranged) (every_parts Small (Tree-F.List ts) f.small)

-- a space before an item
spaced : (bs : List ℕ) → behind_spaces (32 ∷ bs) ≡ behind_spaces bs
spaced bs = let k : 1 + prefix_len is_space bs ≡ suc (prefix_len is_space bs) = omega arith in ap (λ (i : ℕ). drop i (32 ∷ bs)) k

item_spaced : (item : List ℕ → Read Tree) (n : ℕ) (bs : List ℕ) → item_list item (suc n) (32 ∷ bs) ≡ item_list item (suc n) bs
item_spaced item n bs = ap (λ (x : List ℕ). next (item x) (λ v rest. items_or_end (item_list item n) v (behind_spaces rest))) (spaced bs)

unspaced : (xs : List ℕ) → Starts xs → behind_spaces xs ≡ xs
unspaced [] s = absurd s
unspaced (b ∷ bs) s = rw s.1 refl

-- the text from an item on, and from the `,` behind it
abbrev from_item : List Tree → List ℕ → List ℕ
from_item ts rest = (separated (map showing ts)).text ++ (93 ∷ rest)

abbrev from_comma : List Tree → List ℕ → List ℕ
from_comma ts rest = (behind_commas (map showing ts)).text ++ (93 ∷ rest)

comma_ends : (ts : List Tree) (rest : List ℕ) → Ends (from_comma ts rest)
comma_ends [] rest = inr refl
comma_ends (t ∷ ts) rest = inl refl

item_text : (t : Tree) (ts : List Tree) (rest : List ℕ) → from_item (t ∷ ts) rest ≡ shown t ++ from_comma ts rest
item_text t ts rest = append_assoc (shown t) (behind_commas (map showing ts)).text (93 ∷ rest)

items_again : (ys : List Such) (y : Such) (room n : ℕ) (rest : List ℕ) → length ys < n → room ≤ max_depth → Each room (trees (y ∷ ys)) → item_list (text room) n (from_item (trees (y ∷ ys)) rest) ≡ Ok (trees (y ∷ ys), rest)
items_again ys y room zero rest l r f = absurd (omega arith)
items_again [] y room (suc n) rest l r f =
    let a = y.1 room (from_comma [] rest) r f.0 (comma_ends [] rest) in
    ap (item_list (text room) (suc n)) (item_text y.0 [] rest)
    ∙ round_is (text room) n (shown y.0 ++ from_comma [] rest) (from_comma [] rest) y.0 (ap (text room) (unspaced _ a.1) ∙ a.0)
items_again (z ∷ zs) y room (suc zero) rest l r f = absurd (omega (arith, l))
items_again (z ∷ zs) y room (suc (suc n)) rest l r f =
    let ts = trees (z ∷ zs) in
    let a = y.1 room (from_comma ts rest) r f.0 (comma_ends ts rest) in
    ap (item_list (text room) (suc (suc n))) (item_text y.0 ts rest)
    ∙ round_is (text room) (suc n) (shown y.0 ++ from_comma ts rest) (from_comma ts rest) y.0 (ap (text room) (unspaced _ a.1) ∙ a.0)
    ∙ ap (with_item y.0) (item_spaced (text room) n (from_item ts rest) ∙ items_again zs z room (suc n) rest (omega (arith, l)) r f.1)

longer : (xs ys : List ℕ) → length ys ≤ length (xs ++ ys)
longer [] ys = omega arith
longer (x ∷ xs) ys = omega (arith, longer xs ys)

count : (ts : List Tree) (rest : List ℕ) → length ts ≤ length (from_comma ts rest)
count [] rest = omega arith
count (t ∷ ts) rest = omega (arith, count ts rest, ap length (append_assoc (shown t) (behind_commas (map showing ts)).text (93 ∷ rest)), longer (shown t) (from_comma ts rest))

same_count : (ys : List Such) → length (trees ys) ≡ length ys
same_count [] = refl
same_count (y ∷ ys) = omega (arith, same_count ys)

many : (ys : List Such) (y : Such) (rest : List ℕ) → length ys ≤ length (from_item (trees (y ∷ ys)) rest)
many ys y rest = omega (arith, ap length (item_text y.0 (trees ys) rest), longer (shown y.0) (from_comma (trees ys) rest), count (trees ys) rest, same_count ys)

unclosed : (xs : List ℕ) → Starts xs → begins 93 xs ≡ false
unclosed [] s = absurd s
unclosed (b ∷ bs) s = s.0

list_again : (ys : List Such) → Again (list_tree (trees ys))
list_again ys zero rest r f n = absurd (omega (arith, f.deep, depth_list (trees ys)))
list_again [] (suc room) rest r f n =
    subst (λ (p : Piece). (text (suc room) (p.text ++ rest) ≡ Ok (list_tree [], rest)) × Starts (p.text ++ rest)) (sym (showing_list []))
    (text_list room (91 ∷ 93 ∷ rest) refl, (refl, refl))
list_again (y ∷ ys) (suc room) rest r f n =
    let ts = trees (y ∷ ys) in
    let s = (separated (map showing ts)).text in
    let x = from_item ts rest in
    let g = each_item room ts f in
    let a = y.1 room (from_comma (trees ys) rest) (omega (arith, r)) g.0 (comma_ends (trees ys) rest) in
    let o : begins 93 x ≡ false = ap (begins 93) (item_text y.0 (trees ys) rest) ∙ unclosed _ a.1 in
    let w : list_with (text room) x ≡ Ok (ts, rest) = rw o (items_again ys y room (length x + 1) rest (omega (arith, many ys y rest)) (omega (arith, r)) g) in
    subst (λ (p : Piece). (text (suc room) (p.text ++ rest) ≡ Ok (list_tree ts, rest)) × Starts (p.text ++ rest)) (sym (showing_list ts))
    (ap (λ (z : List ℕ). text (suc room) (91 ∷ z)) (append_assoc s (93 ∷ []) rest) ∙ text_list room (91 ∷ x) refl ∙ ap (read_as list_tree) w, (refl, refl))

level : (y : Tree-F Such) → Again (roll-Tree (map-Tree Such Tree (λ e. e.0) y))
level Tree-F.Nil = other Tree-F.Nil (showing_at Tree-F.Nil)
level (Tree-F.Bool b) = other (Tree-F.Bool b) (showing_at (Tree-F.Bool b))
level (Tree-F.Int i) = other (Tree-F.Int i) (showing_at (Tree-F.Int i))
level (Tree-F.Sym s) = other (Tree-F.Sym s) (showing_at (Tree-F.Sym s))
level (Tree-F.Text t) = other (Tree-F.Text t) (showing_at (Tree-F.Text t))
level (Tree-F.List ys) = list_again ys
level (Tree-F.Hash qs None) = let l = Tree-F.Hash (map (λ p. (p.0.0, p.1.0)) qs) None in other l (showing_at l)
level (Tree-F.Hash qs (Some d)) = let l = Tree-F.Hash (map (λ p. (p.0.0, p.1.0)) qs) (Some d.0) in other l (showing_at l)
level (Tree-F.Class n) = other (Tree-F.Class n) (showing_at (Tree-F.Class n))
level (Tree-F.Module n) = other (Tree-F.Module n) (showing_at (Tree-F.Module n))
level (Tree-F.Object c ys) = let l = Tree-F.Object c (map (λ f. (f.0, f.1.0)) ys) in other l (showing_at l)
level (Tree-F.Struct c ys) = let l = Tree-F.Struct c (map (λ f. (f.0, f.1.0)) ys) in other l (showing_at l)
level (Tree-F.Dumped c bs ys) = let l = Tree-F.Dumped c bs (map (λ f. (f.0, f.1.0)) ys) in other l (showing_at l)
level (Tree-F.Wrapped c y) = let l = Tree-F.Wrapped c y.0 in other l (showing_at l)
level (Tree-F.Remote r) = other (Tree-F.Remote r) (showing_at (Tree-F.Remote r))

again : (t : Tree) → Again t
again = ind-Tree Again (λ x y is. subst (λ (z : Tree-F Tree). Again (roll-Tree z)) is (level y))

pub reads_shown : ReadsShown
reads_shown v k r f =
    let a = again v max_depth [] (omega arith) (record { deep = f.0.0; few = f.0.1; kept = k; ranged = r; small = f.1 }) tt in
    ap (λ (x : Read Tree). placed (length (shown v)) (whole x)) (ap (text max_depth) (sym (append-nil (shown v))) ∙ a.0)
