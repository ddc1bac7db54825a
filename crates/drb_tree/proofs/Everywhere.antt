-- A fact of a value and of all of its parts: from the value's own and those of its parts, and back.
use Rattle.std.proofs.Common.{◌≡◌, ℕ, List, [], ◌∷◌, All, map, Option, Some, None, refl, ◌∙◌, ap, subst}
use Rattle.std.proofs.lemmas.List.Elements.{All-from_recursion, All-nil, All-cons, All-head, All-tail, All-weaker}
use Rattle.std.specs.List.{AllByRecursion as ByRecursion}
use Rattle.drb_tree.specs.declared.Tree.{Tree}
use Rattle.drb_tree.specs.declared.Tree.TheViews.{roll-Tree, out-roll-Tree}
use Rattle.drb_tree.specs.declared.Tree.TheOpen.{Tree-F}
use Rattle.drb_tree.specs.declared.Tree.TheFolds.{every-Tree, every_held-Tree, every_here-Tree, every_made-Tree, map-Tree}

-- a value with the fact
abbrev pub Such : (Tree-F Tree → Type 0) → Type 0
Such Q = (t : Tree) × every-Tree Q t

-- the default, where there is one
abbrev pub IfThere : (Tree → Type 0) → Option Tree → Type 0
IfThere P None = Unit {0}
IfThere P (Some t) = P t

-- a key and a value with the fact, and a field whose value has it
abbrev pub BothHave : (Tree → Type 0) → Tree × Tree → Type 0
BothHave P p = P p.0 × P p.1

abbrev pub FieldHas : (Tree → Type 0) → List ℕ × Tree → Type 0
FieldHas P f = P f.1

-- the parts of one level
abbrev pub Parts : (Tree → Type 0) → Tree-F Tree → Type 0
Parts P (Tree-F.List ts) = All P ts
Parts P (Tree-F.Hash ps d) = All (BothHave P) ps × IfThere P d
Parts P (Tree-F.Object c fs) = All (FieldHas P) fs
Parts P (Tree-F.Struct c fs) = All (FieldHas P) fs
Parts P (Tree-F.Dumped c bs fs) = All (FieldHas P) fs
Parts P (Tree-F.Wrapped c t) = P t
Parts P _ = Unit {0}

items_held : (Q : Tree-F Tree → Type 0) (ys : List (Such Q)) → ByRecursion (every-Tree Q) (map (λ e. e.0) ys)
items_held Q [] = tt
items_held Q (y ∷ ys) = (y.1, items_held Q ys)

pairs_held : (Q : Tree-F Tree → Type 0) (ys : List (Such Q × Such Q)) → ByRecursion (BothHave (every-Tree Q)) (map (λ p. (p.0.0, p.1.0)) ys)
pairs_held Q [] = tt
pairs_held Q (y ∷ ys) = ((y.0.1, y.1.1), pairs_held Q ys)

fields_held : (Q : Tree-F Tree → Type 0) (ys : List (List ℕ × Such Q)) → ByRecursion (FieldHas (every-Tree Q)) (map (λ f. (f.0, f.1.0)) ys)
fields_held Q [] = tt
fields_held Q (y ∷ ys) = (y.1.1, fields_held Q ys)

level_held : (Q : Tree-F Tree → Type 0) (x : Tree-F (Such Q)) → Parts (every-Tree Q) (map-Tree (Such Q) Tree (λ e. e.0) x)
level_held Q (Tree-F.List ys) = All-from_recursion (every-Tree Q) _ (items_held Q ys)
level_held Q (Tree-F.Hash ps None) = (All-from_recursion (BothHave (every-Tree Q)) _ (pairs_held Q ps), tt)
level_held Q (Tree-F.Hash ps (Some d)) = (All-from_recursion (BothHave (every-Tree Q)) _ (pairs_held Q ps), d.1)
level_held Q (Tree-F.Object c fs) = All-from_recursion (FieldHas (every-Tree Q)) _ (fields_held Q fs)
level_held Q (Tree-F.Struct c fs) = All-from_recursion (FieldHas (every-Tree Q)) _ (fields_held Q fs)
level_held Q (Tree-F.Dumped c bs fs) = All-from_recursion (FieldHas (every-Tree Q)) _ (fields_held Q fs)
level_held Q (Tree-F.Wrapped c t) = t.1
level_held Q _ = tt

-- the fact of each part
pub every_parts : (Q : Tree-F Tree → Type 0) (l : Tree-F Tree) → every-Tree Q (roll-Tree l) → Parts (every-Tree Q) l
every_parts Q l h =
    let x = every_held-Tree Q (roll-Tree l) h in
    let P : Tree-F Tree → Type 0 = λ m. Parts (every-Tree Q) m in
    subst P (x.1 ∙ out-roll-Tree l) (level_held Q x.0)

-- the fact of the value's own level
pub every_level : (Q : Tree-F Tree → Type 0) (l : Tree-F Tree) → every-Tree Q (roll-Tree l) → Q l
every_level Q l h = subst Q (out-roll-Tree l) (every_here-Tree Q (roll-Tree l) h)

items_with : (Q : Tree-F Tree → Type 0) (ts : List Tree) → All (every-Tree Q) ts → (ys : List (Such Q)) × (map (λ e. e.0) ys ≡ ts)
items_with Q [] h = ([], refl)
items_with Q (t ∷ ts) h =
    let r = items_with Q ts (All-tail (every-Tree Q) t ts h) in
    ((t, All-head (every-Tree Q) t ts h) ∷ r.0, ap (λ us. t ∷ us) r.1)

pairs_with : (Q : Tree-F Tree → Type 0) (ps : List (Tree × Tree)) → All (BothHave (every-Tree Q)) ps → (ys : List (Such Q × Such Q)) × (map (λ p. (p.0.0, p.1.0)) ys ≡ ps)
pairs_with Q [] h = ([], refl)
pairs_with Q (p ∷ ps) h =
    let r = pairs_with Q ps (All-tail (BothHave (every-Tree Q)) p ps h) in
    let e = All-head (BothHave (every-Tree Q)) p ps h in
    (((p.0, e.0), (p.1, e.1)) ∷ r.0, ap (λ us. p ∷ us) r.1)

fields_with : (Q : Tree-F Tree → Type 0) (fs : List (List ℕ × Tree)) → All (FieldHas (every-Tree Q)) fs → (ys : List (List ℕ × Such Q)) × (map (λ f. (f.0, f.1.0)) ys ≡ fs)
fields_with Q [] h = ([], refl)
fields_with Q (f ∷ fs) h =
    let r = fields_with Q fs (All-tail (FieldHas (every-Tree Q)) f fs h) in
    ((f.0, (f.1, All-head (FieldHas (every-Tree Q)) f fs h)) ∷ r.0, ap (λ us. f ∷ us) r.1)

-- the fact of a value, from its own level and its parts
pub every_roll : (Q : Tree-F Tree → Type 0) (l : Tree-F Tree) → Q l → Parts (every-Tree Q) l → every-Tree Q (roll-Tree l)
every_roll Q Tree-F.Nil q h = every_made-Tree Q Tree-F.Nil Tree-F.Nil refl q
every_roll Q (Tree-F.Bool b) q h = every_made-Tree Q (Tree-F.Bool b) (Tree-F.Bool b) refl q
every_roll Q (Tree-F.Int i) q h = every_made-Tree Q (Tree-F.Int i) (Tree-F.Int i) refl q
every_roll Q (Tree-F.Sym s) q h = every_made-Tree Q (Tree-F.Sym s) (Tree-F.Sym s) refl q
every_roll Q (Tree-F.Text t) q h = every_made-Tree Q (Tree-F.Text t) (Tree-F.Text t) refl q
every_roll Q (Tree-F.List ts) q h = let r = items_with Q ts h in every_made-Tree Q (Tree-F.List ts) (Tree-F.List r.0) (ap (λ us. Tree-F.List us) r.1) q
every_roll Q (Tree-F.Hash ps None) q h = let r = pairs_with Q ps h.0 in every_made-Tree Q (Tree-F.Hash ps None) (Tree-F.Hash r.0 None) (ap (λ us. Tree-F.Hash us None) r.1) q
every_roll Q (Tree-F.Hash ps (Some d)) q h = let r = pairs_with Q ps h.0 in every_made-Tree Q (Tree-F.Hash ps (Some d)) (Tree-F.Hash r.0 (Some (d, h.1))) (ap (λ us. Tree-F.Hash us (Some d)) r.1) q
every_roll Q (Tree-F.Class n) q h = every_made-Tree Q (Tree-F.Class n) (Tree-F.Class n) refl q
every_roll Q (Tree-F.Module n) q h = every_made-Tree Q (Tree-F.Module n) (Tree-F.Module n) refl q
every_roll Q (Tree-F.Object c fs) q h = let r = fields_with Q fs h in every_made-Tree Q (Tree-F.Object c fs) (Tree-F.Object c r.0) (ap (λ us. Tree-F.Object c us) r.1) q
every_roll Q (Tree-F.Struct c fs) q h = let r = fields_with Q fs h in every_made-Tree Q (Tree-F.Struct c fs) (Tree-F.Struct c r.0) (ap (λ us. Tree-F.Struct c us) r.1) q
every_roll Q (Tree-F.Dumped c bs fs) q h = let r = fields_with Q fs h in every_made-Tree Q (Tree-F.Dumped c bs fs) (Tree-F.Dumped c bs r.0) (ap (λ us. Tree-F.Dumped c bs us) r.1) q
every_roll Q (Tree-F.Wrapped c t) q h = every_made-Tree Q (Tree-F.Wrapped c t) (Tree-F.Wrapped c (t, h)) refl q
every_roll Q (Tree-F.Remote r) q h = every_made-Tree Q (Tree-F.Remote r) (Tree-F.Remote r) refl q

pairs_weaker : (P Q : Tree → Type 0) → ((t : Tree) → P t → Q t) → (d : Option Tree) → IfThere P d → IfThere Q d
pairs_weaker P Q f None h = tt
pairs_weaker P Q f (Some d) h = f d h

-- a fact of each part that follows from another one
pub parts_weaker : (P Q : Tree → Type 0) → ((t : Tree) → P t → Q t) → (l : Tree-F Tree) → Parts P l → Parts Q l
parts_weaker P Q f (Tree-F.List ts) h = All-weaker P Q f ts h
parts_weaker P Q f (Tree-F.Hash ps d) h = (All-weaker (BothHave P) (BothHave Q) (λ p e. (f p.0 e.0, f p.1 e.1)) ps h.0, pairs_weaker P Q f d h.1)
parts_weaker P Q f (Tree-F.Object c fs) h = All-weaker (FieldHas P) (FieldHas Q) (λ p e. f p.1 e) fs h
parts_weaker P Q f (Tree-F.Struct c fs) h = All-weaker (FieldHas P) (FieldHas Q) (λ p e. f p.1 e) fs h
parts_weaker P Q f (Tree-F.Dumped c bs fs) h = All-weaker (FieldHas P) (FieldHas Q) (λ p e. f p.1 e) fs h
parts_weaker P Q f (Tree-F.Wrapped c t) h = f t h
parts_weaker P Q f _ h = tt

all_both : {X : Type 0} (P Q : X → Type 0) (xs : List X) → All P xs → All Q xs → All (λ x. P x × Q x) xs
all_both P Q [] h k = All-nil (λ x. P x × Q x)
all_both P Q (x ∷ xs) h k = All-cons (λ y. P y × Q y) x xs (All-head P x xs h, All-head Q x xs k) (all_both P Q xs (All-tail P x xs h) (All-tail Q x xs k))

default_both : (P Q : Tree → Type 0) (d : Option Tree) → IfThere P d → IfThere Q d → IfThere (λ t. P t × Q t) d
default_both P Q None h k = tt
default_both P Q (Some d) h k = (h, k)

-- two facts of each part as one
pub parts_both : (P Q : Tree → Type 0) (l : Tree-F Tree) → Parts P l → Parts Q l → Parts (λ t. P t × Q t) l
parts_both P Q (Tree-F.List ts) h k = all_both P Q ts h k
parts_both P Q (Tree-F.Hash ps d) h k = (
  All-weaker (λ p. BothHave P p × BothHave Q p) (BothHave (λ t. P t × Q t)) (λ p e. ((e.0.0, e.1.0), (e.0.1, e.1.1))) ps (all_both (BothHave P) (BothHave Q) ps h.0 k.0),
  default_both P Q d h.1 k.1,
)
parts_both P Q (Tree-F.Object c fs) h k = all_both (FieldHas P) (FieldHas Q) fs h k
parts_both P Q (Tree-F.Struct c fs) h k = all_both (FieldHas P) (FieldHas Q) fs h k
parts_both P Q (Tree-F.Dumped c bs fs) h k = all_both (FieldHas P) (FieldHas Q) fs h k
parts_both P Q (Tree-F.Wrapped c t) h k = (h, k)
parts_both P Q _ h k = tt
