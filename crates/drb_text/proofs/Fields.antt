-- The three fields of a range.
use Rattle.std.proofs.Common.{ℕ, ◌≡◌, ◌∷◌, [], List, length, get_or, Bool, true, false, ◌&&◌, refl, sym, ap, ◌∙◌, subst, arith}
use Rattle.std.specs.Prelude.{codes, bytes_eq, None}
use Rattle.drb_tree.specs.declared.Tree.{Tree}
use Rattle.drb_tree.specs.declared.Tree.TheViews.{roll-Tree, out-Tree, out-roll-Tree}
use Rattle.drb_tree.specs.declared.Tree.TheOpen.{Tree-F}
use Rattle.drb_value.specs.declared.Node.{Node}
use Rattle.drb_value.specs.View.{layer, view_of}
use Rattle.drb_text.specs.Shown.{range_of, range_fields}

-- what a field is called, whether that is the name
abbrev pub named : List ℕ × Tree → List ℕ × Tree → List ℕ × Tree → Bool
named a b c = bytes_eq a.0 (codes "excl") && (bytes_eq b.0 (codes "begin") && bytes_eq c.0 (codes "end"))

three : (fs : List (List ℕ × Tree)) (a b c u v w : List ℕ × Tree) → length fs ≡ 3 → a ≡ get_or fs 0 u → b ≡ get_or fs 1 v → c ≡ get_or fs 2 w → fs ≡ a ∷ b ∷ c ∷ []
three [] a b c u v w l e f g = absurd (omega arith)
three (x ∷ []) a b c u v w l e f g = absurd (omega arith)
three (x ∷ y ∷ []) a b c u v w l e f g = absurd (omega arith)
three (x ∷ y ∷ z ∷ []) a b c u v w l e f g = rw (e, f, g) refl
three (x ∷ y ∷ z ∷ q ∷ qs) a b c u v w l e f g = absurd (omega arith)

out_view : (n : Node) (t : Tree) → view_of n ≡ t → out-Tree t ≡ layer n
out_view n t e = ap out-Tree (sym e) ∙ out-roll-Tree (layer n)

pub fields_named : (fs : List (List ℕ × Tree)) (a b c u v w : List ℕ × Tree) (k m n : Node) → length fs ≡ 3 → a ≡ get_or fs 0 u → b ≡ get_or fs 1 v → c ≡ get_or fs 2 w → named a b c ≡ true → view_of k ≡ a.1 → view_of m ≡ b.1 → view_of n ≡ c.1 → range_fields fs ≡ range_of (layer k) (layer m) (layer n)
fields_named fs a b c u v w k m n l e f g h x y z =
    ap range_fields (three fs a b c u v w l e f g)
    ∙ rw h (ap (λ (l : Tree-F Tree). range_of l (out-Tree b.1) (out-Tree c.1)) (out_view k a.1 x)
    ∙ ap (λ (l : Tree-F Tree). range_of (layer k) l (out-Tree c.1)) (out_view m b.1 y)
    ∙ ap (λ (l : Tree-F Tree). range_of (layer k) (layer m) l) (out_view n c.1 z))

pub fields_unnamed : (fs : List (List ℕ × Tree)) (a b c u v w : List ℕ × Tree) → length fs ≡ 3 → a ≡ get_or fs 0 u → b ≡ get_or fs 1 v → c ≡ get_or fs 2 w → named a b c ≡ false → range_fields fs ≡ None
fields_unnamed fs a b c u v w l e f g h = ap range_fields (three fs a b c u v w l e f g) ∙ rw h refl

pub names_are : (x y z : List ℕ) (a b c : List ℕ × Tree) (r : Bool) → r ≡ (bytes_eq x (codes "excl") && (bytes_eq y (codes "begin") && bytes_eq z (codes "end"))) → x ≡ a.0 → y ≡ b.0 → z ≡ c.0 → r ≡ true → named a b c ≡ true
names_are x y z a b c r e f g h i = rw (sym f, sym g, sym h) (sym e ∙ i)
