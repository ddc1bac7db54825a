-- Arrays, and what holds one, by their nodes.
use Rattle.std.proofs.Common.{◌≡◌, ℕ, List, ◌∷◌, [], Option, Some, None, Result, Ok, Err, IfOk, MatchOption, MatchResult, Bor, IsTrue, ◌↔◌, true, false, Bool, refl, sym, ap, ◌∙◌, subst}
use Rattle.drb_tree.specs.declared.Tree.{Tree}
use Rattle.drb_tree.specs.declared.Tree.TheOpen as T
use Rattle.drb_tree.specs.declared.Tree.TheViews.{out-Tree, roll-Tree, out-roll-Tree}
use Rattle.drb_tree.specs.Trees.{list_tree, dumped_tree}
use Rattle.drb_value.specs.declared.Node.{Node}
use Rattle.drb_value.specs.declared.Node.TheVariants as N
use Rattle.drb_value.specs.View.{layer, view_of}
use Rattle.marshal_grammar.specs.declared.refusal.Why.{Why}
use Rattle.marshal_read.specs.declared.error.ReadError.{ReadError}
use Rattle.marshal_read.specs.declared.error.ReadError.TheVariants.{Refused}
use Rattle.drb_ref.specs.Blocks.{array_class, Holds, IsList}

-- the outermost part of a value's tree is that of its node
outer : (n : Node) (l : T.Tree-F Tree) (v : Tree) → view_of n ≡ v → v ≡ roll-Tree l → layer n ≡ l
outer n l v e f = sym (out-roll-Tree (layer n)) ∙ ap out-Tree (e ∙ f) ∙ out-roll-Tree l

no_list : (n : Node) → ((vs : List Tree) → n ≡ N.List vs → ⊥) → (items : List Tree) → layer n ≡ T.Tree-F.List items → ⊥
no_list (N.List vs) h items e = h vs refl
no_list _ h items e = cc

-- a node that is no list is no array's
pub not_list : (n : Node) (v : Tree) → view_of n ≡ v → ((vs : List Tree) → n ≡ N.List vs → ⊥) → IsTrue false ↔ IsList v
not_list n v e h = (λ t. absurd (cc), λ l. absurd (no_list n h l.0 (outer n (T.Tree-F.List l.0) v e l.1)))

no_dumped : (n : Node) → ((d : List ℕ × List ℕ × List (List ℕ × Tree)) → n ≡ N.Dumped d → ⊥) → (c bs : List ℕ) (vs : List (List ℕ × Tree)) → layer n ≡ T.Tree-F.Dumped c bs vs → ⊥
no_dumped (N.Dumped d) h c bs vs e = h d refl
no_dumped _ h c bs vs e = cc

-- a node that is no dumped value holds no array
pub not_held : (n : Node) (v : Tree) → view_of n ≡ v → ((d : List ℕ × List ℕ × List (List ℕ × Tree)) → n ≡ N.Dumped d → ⊥) → (bytes : List ℕ) → Holds v bytes → ⊥
not_held n v e h bytes k = no_dumped n h array_class bytes k.0 (outer n (T.Tree-F.Dumped array_class bytes k.0) v e k.1)

-- what a dumped value holds
pub held_is : (r : Option (Bor (List ℕ))) (n : Node) (d : List ℕ × List ℕ × List (List ℕ × Tree)) (v : Tree) → view_of n ≡ v → n ≡ N.Dumped d
    → MatchOption r (d.0 ≡ array_class → ⊥) (λ b. (d.0 ≡ array_class) × (b.now ≡ d.1))
    → MatchOption r ((bytes : List ℕ) → Holds v bytes → ⊥) (λ b. Holds v b.now)
held_is None n d v e f h = λ bytes k.
    let same : T.Tree-F.Dumped d.0 d.1 d.2 ≡ T.Tree-F.Dumped array_class bytes k.0 = sym (ap layer f) ∙ outer n (T.Tree-F.Dumped array_class bytes k.0) v e k.1 in
    h (cc)
held_is (Some b) n d v e f h =
    let whole : v ≡ dumped_tree d.0 d.1 d.2 = sym e ∙ ap view_of f in
    let one : dumped_tree d.0 d.1 d.2 ≡ dumped_tree array_class d.1 d.2 = ap (λ (x : List ℕ). dumped_tree x d.1 d.2) h.0 in
    (d.2, whole ∙ one ∙ ap (λ (x : List ℕ). dumped_tree array_class x d.2) (sym h.1))

-- a value holds one list of bytes at most
pub holds_one : (v : Tree) (a b : List ℕ) → Holds v a → Holds v b → a ≡ b
holds_one v a b h k =
    let same : T.Tree-F.Dumped array_class a h.0 ≡ T.Tree-F.Dumped array_class b k.0 = sym (out-roll-Tree (T.Tree-F.Dumped array_class a h.0)) ∙ ap out-Tree (sym h.1 ∙ k.1) ∙ out-roll-Tree (T.Tree-F.Dumped array_class b k.0) in
    cc

-- an array is given, and everything else is refused
pub given : (r : Result Tree ReadError) (value : Tree) (e : ReadError) → MatchResult r (λ w. IsList value × (w ≡ value)) (λ x. (IsList value → ⊥) × (x ≡ e)) → IsList value → r ≡ Ok value
given (Ok w) value e h l = ap Ok h.1
given (Err x) value e h l = absurd (h.0 l)

pub refused : (r : Result Tree ReadError) (value : Tree) (e : ReadError) → MatchResult r (λ w. IsList value × (w ≡ value)) (λ x. (IsList value → ⊥) × (x ≡ e)) → (IsList value → ⊥) → r ≡ Err e
refused (Ok w) value e h l = absurd (l h.0)
refused (Err x) value e h l = ap Err h.1

-- the refusal of the same reason at the same place
pub same_refusal : (v w : Why) (a b : ℕ) → w ≡ v → b ≡ a → Refused (record { why = v; at = a }) ≡ Refused (record { why = w; at = b })
same_refusal v w a b p q = rw (p, q)

-- what is made of the class, the bytes and no variables
pub holding_is : {E : Type 0} (r : Result Tree E) (d : List ℕ × List ℕ × List (List ℕ × Tree)) (class bytes want : List ℕ) (vars : List (List ℕ × Tree)) → IfOk r (λ w. w ≡ dumped_tree d.0 d.1 d.2) → d ≡ (class, bytes, vars) → class ≡ array_class → bytes ≡ want → vars ≡ [] → IfOk r (λ w. w ≡ dumped_tree array_class want [])
holding_is (Err x) d class bytes want vars e f g h i = tt
holding_is (Ok w) d class bytes want vars e f g h i =
    e ∙ ap (λ (x : List ℕ × List ℕ × List (List ℕ × Tree)). dumped_tree x.0 x.1 x.2) f
    ∙ ap (λ (x : List ℕ). dumped_tree x bytes vars) g ∙ ap (λ (x : List ℕ). dumped_tree array_class x vars) h
    ∙ ap (λ (x : List (List ℕ × Tree)). dumped_tree array_class want x) i

-- what was read is one value
pub same_value : {E : Type 0} (r : Result (Tree × ℕ) E) (v w : Tree) (m n : ℕ) → r ≡ Ok (v, m) → r ≡ Ok (w, n) → v ≡ w
same_value r v w m n e f =
    let pair : (v, m) ≡ (w, n) = cc in
    ap (λ (x : Tree × ℕ). x.0) pair
