-- The parts of a value, as one list.
use Rattle.std.proofs.Common.{ℕ, List, [], ◌∷◌, map, Some, None, ◌∙◌, subst}
use Rattle.drb_tree.specs.declared.Tree.{Tree}
use Rattle.drb_tree.specs.declared.Tree.TheViews.{roll-Tree, out-roll-Tree}
use Rattle.drb_tree.specs.declared.Tree.TheOpen.{Tree-F}
use Rattle.drb_tree.specs.declared.Tree.TheFolds.{map-Tree, every-Tree, every_here-Tree, every_held-Tree}

abbrev pub pair_parts : {X : Type 0} → List (X × X) → List X
pair_parts [] = []
pair_parts (p ∷ ps) = p.0 ∷ p.1 ∷ pair_parts ps

abbrev pub field_parts : {X : Type 0} → List (List ℕ × X) → List X
field_parts [] = []
field_parts (f ∷ fs) = f.1 ∷ field_parts fs

abbrev pub parts : {X : Type 0} → Tree-F X → List X
parts (Tree-F.List xs) = xs
parts (Tree-F.Hash ps None) = pair_parts ps
parts (Tree-F.Hash ps (Some d)) = d ∷ pair_parts ps
parts (Tree-F.Object c fs) = field_parts fs
parts (Tree-F.Struct c fs) = field_parts fs
parts (Tree-F.Dumped c bs fs) = field_parts fs
parts (Tree-F.Wrapped c x) = x ∷ []
parts _ = []

abbrev pub Each : {X : Type 0} → (X → Type 0) → List X → Type 0
Each P [] = Unit {0}
Each P (x ∷ xs) = P x × Each P xs

module _ (P : Tree → Type 0) where
  abbrev Such : Type 0
  Such = (z : Tree) × P z

  each_each : (xs : List Such) → Each P (map (λ (e : Such). e.0) xs)
  each_each [] = tt
  each_each (x ∷ xs) = (x.1, each_each xs)

  pairs_each : (ps : List (Such × Such)) → Each P (pair_parts (map (λ (p : Such × Such). (p.0.0, p.1.0)) ps))
  pairs_each [] = tt
  pairs_each (p ∷ ps) = (p.0.1, (p.1.1, pairs_each ps))

  fields_each : (fs : List (List ℕ × Such)) → Each P (field_parts (map (λ (f : List ℕ × Such). (f.0, f.1.0)) fs))
  fields_each [] = tt
  fields_each (f ∷ fs) = (f.1.1, fields_each fs)

  each_held : (y : Tree-F Such) → Each P (parts (map-Tree Such Tree (λ e. e.0) y))
  each_held (Tree-F.List xs) = each_each xs
  each_held (Tree-F.Hash ps None) = pairs_each ps
  each_held (Tree-F.Hash ps (Some d)) = (d.1, pairs_each ps)
  each_held (Tree-F.Object c fs) = fields_each fs
  each_held (Tree-F.Struct c fs) = fields_each fs
  each_held (Tree-F.Dumped c bs fs) = fields_each fs
  each_held (Tree-F.Wrapped c x) = (x.1, tt)
  each_held Tree-F.Nil = tt
  each_held (Tree-F.Bool b) = tt
  each_held (Tree-F.Int i) = tt
  each_held (Tree-F.Sym s) = tt
  each_held (Tree-F.Text t) = tt
  each_held (Tree-F.Class n) = tt
  each_held (Tree-F.Module n) = tt
  each_held (Tree-F.Remote r) = tt

-- what holds of a value and all its parts holds of its layer
pub here_every : (Q : Tree-F Tree → Type 0) (l : Tree-F Tree) → every-Tree Q (roll-Tree l) → Q l
here_every Q l e = subst Q (out-roll-Tree l) (every_here-Tree Q (roll-Tree l) e)

-- what holds of a value and all its parts holds of each part and its parts
pub parts_every : (Q : Tree-F Tree → Type 0) (l : Tree-F Tree) → every-Tree Q (roll-Tree l) → Each (every-Tree Q) (parts l)
parts_every Q l e =
    let h = every_held-Tree Q (roll-Tree l) e in
    subst (λ z. Each (every-Tree Q) (parts z)) (h.1 ∙ out-roll-Tree l) (each_held (every-Tree Q) h.0)

pub each_three : (P Q R : Tree → Type 0) → (xs : List Tree) → Each P xs → Each Q xs → Each R xs → Each (λ x. P x × Q x × R x) xs
each_three P Q R [] p q r = tt
each_three P Q R (x ∷ xs) p q r = ((p.0, q.0, r.0), each_three P Q R xs p.1 q.1 r.1)
