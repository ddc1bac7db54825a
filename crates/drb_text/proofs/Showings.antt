-- How a value is shown, form by form.
use Rattle.std.proofs.Common.{ℕ, zero, suc, ◌≡◌, ◌+◌, ◌<◌, List, [], ◌∷◌, length, map, drop, get_or, Option, refl, sym, ap, ◌∙◌, arith}
use Rattle.drb_tree.specs.declared.Tree.{Tree}
use Rattle.drb_tree.specs.declared.Tree.TheViews.{roll-Tree, out-roll-Tree}
use Rattle.drb_tree.specs.declared.Tree.TheOpen.{Tree-F}
use Rattle.drb_tree.specs.declared.Tree.TheFolds.{fold-Tree, fold-roll-Tree, map-Tree}
use Rattle.drb_value.specs.declared.Node.{Node}
use Rattle.drb_value.specs.declared.Node.TheVariants as N
use Rattle.drb_value.specs.View.{layer, view_of}
use Rattle.drb_text.specs.Shown.{Piece, shown_at, each_shown, bracketed, plain_or_dump, plain_text, showing_step, showing, piece, ◌then◌, behind_commas}

-- how a value is shown, from one level of it
abbrev ways : Tree → Tree → Piece
ways = fold-Tree (Tree → Piece) showing_step

-- one level
pub showing_at : (l : Tree-F Tree) → showing (roll-Tree l) ≡ shown_at (roll-Tree l) l (map-Tree Tree (Tree → Piece) ways l)
unfolding showing
showing_at l =
    let t = roll-Tree l in
    ap (λ (f : Tree → Piece). f t) (fold-roll-Tree (Tree → Piece) showing_step l)
    ∙ ap (λ (m : Tree-F Tree). shown_at t m (map-Tree Tree (Tree → Piece) ways l)) (out-roll-Tree l)

each_is : (ts : List Tree) → each_shown (map ways ts) ts ≡ map showing ts
unfolding showing
each_is [] = refl
each_is (t ∷ ts) = ap (λ (ps : List Piece). ways t t ∷ ps) (each_is ts)

pub showing_list : (ts : List Tree) → showing (roll-Tree (Tree-F.List ts)) ≡ bracketed (map showing ts)
showing_list ts = showing_at (Tree-F.List ts) ∙ ap bracketed (each_is ts)

-- the node is no list
abbrev pub NoList : Node → Type 0
NoList n = (ts : List Tree) → n ≡ N.List ts → ⊥

showing_other : (n : Node) → NoList n → showing (view_of n) ≡ plain_or_dump (view_of n) (plain_text (layer n))
showing_other N.Nil h = showing_at Tree-F.Nil
showing_other (N.Bool b) h = showing_at (Tree-F.Bool b)
showing_other (N.Int i) h = showing_at (Tree-F.Int i)
showing_other (N.Sym s) h = showing_at (Tree-F.Sym s)
showing_other (N.Text t) h = showing_at (Tree-F.Text t)
showing_other (N.List ts) h = absurd (h ts refl)
showing_other (N.Hash p) h = showing_at (Tree-F.Hash p.0 p.1)
showing_other (N.Class n) h = showing_at (Tree-F.Class n)
showing_other (N.Module n) h = showing_at (Tree-F.Module n)
showing_other (N.Object f) h = showing_at (Tree-F.Object f.class f.fields)
showing_other (N.Struct f) h = showing_at (Tree-F.Struct f.class f.fields)
showing_other (N.Dumped d) h = showing_at (Tree-F.Dumped d.0 d.1 d.2)
showing_other (N.Wrapped w) h = showing_at (Tree-F.Wrapped w.class w.inner)
showing_other (N.Remote r) h = showing_at (Tree-F.Remote r)

pub showing_plain : (n : Node) (t : Tree) → view_of n ≡ t → NoList n → showing t ≡ plain_or_dump t (plain_text (layer n))
showing_plain n t e h = sym (ap showing e) ∙ showing_other n h ∙ ap (λ (u : Tree). plain_or_dump u (plain_text (layer n))) e

pub showing_items : (n : Node) (t : Tree) (ts : List Tree) → view_of n ≡ t → n ≡ N.List ts → showing t ≡ bracketed (map showing ts)
showing_items n t ts e i = sym (ap showing (sym (ap view_of i) ∙ e)) ∙ showing_list ts

-- the pieces from one item on
behind_next : (ts : List Tree) (i : ℕ) (t d : Tree) → i < length ts → t ≡ get_or ts i d → behind_commas (map showing (drop i ts)) ≡ piece (44 ∷ 32 ∷ []) then (showing t then behind_commas (map showing (drop (suc i) ts)))
behind_next [] i t d l e = absurd (omega arith)
behind_next (x ∷ ts) zero t d l e = rw e refl
behind_next (x ∷ ts) (suc i) t d l e = behind_next ts i t d (omega arith) e

pub behind_commas-drop : (ts : List Tree) (i : ℕ) (t d : Tree) → i < length ts → t ≡ get_or ts i d → behind_commas (map showing (drop i ts)) ≡ piece (44 ∷ 32 ∷ []) then (showing t then behind_commas (map showing (drop (i + 1) ts)))
behind_commas-drop ts i t d l e = let j : suc i ≡ i + 1 = omega arith in behind_next ts i t d l e ∙ ap (λ (k : ℕ). piece (44 ∷ 32 ∷ []) then (showing t then behind_commas (map showing (drop k ts)))) j
