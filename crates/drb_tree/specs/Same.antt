-- When two values are the same: docs/MARSHAL.md, Equality.
use Rattle.std.specs.Prelude.{ℕ, Bool, true, false, ◌&&◌, ◌||◌, ◌==◌, List, [], ◌∷◌, length, nat_lt, bytes_eq}
use Rattle.std.specs.Ordering.{int_eq}
use Rattle.drb_tree.specs.declared.Code.{Code}
use Rattle.drb_tree.specs.declared.Code.TheVariants.{Binary, Ascii, Utf8}
use Rattle.drb_tree.specs.declared.Text.{Text}
use Rattle.drb_tree.specs.declared.RefId.{RefId}
use Rattle.drb_tree.specs.declared.RefId.TheVariants as R
use Rattle.drb_tree.specs.declared.Remote.{Remote}
use Rattle.drb_tree.specs.declared.Tree.{Tree}
use Rattle.drb_tree.specs.declared.Tree.TheViews.{out-Tree}
use Rattle.drb_tree.specs.declared.Tree.TheOpen.{Tree-F}
use Rattle.drb_tree.specs.declared.Tree.TheFolds.{fold-Tree}

-- every byte is below 128
abbrev pub all_ascii : List ℕ → Bool
all_ascii [] = true
all_ascii (b ∷ bs) = nat_lt b 128 && all_ascii bs

-- the two codes are equal
abbrev pub same_code : Code → Code → Bool
same_code Binary Binary = true
same_code Ascii Ascii = true
same_code Utf8 Utf8 = true
same_code _ _ = false

-- texts: equal bytes, and equal codes or nothing but ASCII
abbrev pub same_text : Text → Text → Bool
same_text s t = bytes_eq s.bytes t.bytes && (same_code s.code t.code || all_ascii s.bytes)

-- both truth values are true, or both are false
abbrev pub bool_eq : Bool → Bool → Bool
bool_eq true b = b
bool_eq false true = false
bool_eq false false = true

-- the ids of remote objects: the front, equal numbers, or same texts
abbrev pub same_id : RefId → RefId → Bool
same_id R.Front R.Front = true
same_id (R.Number i) (R.Number j) = int_eq i j
same_id (R.Text s) (R.Text t) = same_text s t
same_id _ _ = false

-- remote objects: uri and id
abbrev pub same_remote : Remote → Remote → Bool
same_remote r s = same_text r.uri s.uri && same_id r.id s.id

-- Of two values, the parts of the first are given below as tests:
-- a part's test says which values are the same as it.

-- lists: item by item
abbrev pub all_same : List (Tree → Bool) → List Tree → Bool
all_same [] [] = true
all_same (f ∷ fs) (t ∷ ts) = f t && all_same fs ts
all_same [] (t ∷ ts) = false
all_same (f ∷ fs) [] = false

-- some pair has the same key and the same value
abbrev pub some_pair : (Tree → Bool) → (Tree → Bool) → List (Tree × Tree) → Bool
some_pair k v [] = false
some_pair k v (p ∷ ps) = (k p.0 && v p.1) || some_pair k v ps

-- each key has a same key with a same value
abbrev pub each_pair : List ((Tree → Bool) × (Tree → Bool)) → List (Tree × Tree) → Bool
each_pair [] ps = true
each_pair (f ∷ fs) ps = some_pair f.0 f.1 ps && each_pair fs ps

-- some field has that name and the same value
abbrev pub some_field : List ℕ → (Tree → Bool) → List (List ℕ × Tree) → Bool
some_field n v [] = false
some_field n v (f ∷ fs) = (bytes_eq n f.0 && v f.1) || some_field n v fs

-- each field's name is there with a same value
abbrev pub each_field : List (List ℕ × (Tree → Bool)) → List (List ℕ × Tree) → Bool
each_field [] ps = true
each_field (f ∷ fs) ps = some_field f.0 f.1 ps && each_field fs ps

-- fields as sets: equally many, and each is there
abbrev pub same_fields : List (List ℕ × (Tree → Bool)) → List (List ℕ × Tree) → Bool
same_fields fs ps = (length fs == length ps) && each_field fs ps

-- variables one by one, in their order
abbrev pub same_vars : List (List ℕ × (Tree → Bool)) → List (List ℕ × Tree) → Bool
same_vars [] [] = true
same_vars (f ∷ fs) (p ∷ ps) = (bytes_eq f.0 p.0 && f.1 p.1) && same_vars fs ps
same_vars [] (p ∷ ps) = false
same_vars (f ∷ fs) [] = false

-- one level of `same`; a hash's default is not looked at
abbrev pub same_at : Tree-F (Tree → Bool) → Tree-F Tree → Bool
same_at Tree-F.Nil Tree-F.Nil = true
same_at (Tree-F.Bool a) (Tree-F.Bool b) = bool_eq a b
same_at (Tree-F.Int i) (Tree-F.Int j) = int_eq i j
same_at (Tree-F.Sym s) (Tree-F.Sym t) = bytes_eq s t
same_at (Tree-F.Text s) (Tree-F.Text t) = same_text s t
same_at (Tree-F.List fs) (Tree-F.List ts) = all_same fs ts
same_at (Tree-F.Hash fs d) (Tree-F.Hash ps e) = (length fs == length ps) && each_pair fs ps
same_at (Tree-F.Class n) (Tree-F.Class m) = bytes_eq n m
same_at (Tree-F.Module n) (Tree-F.Module m) = bytes_eq n m
same_at (Tree-F.Object c fs) (Tree-F.Object d ps) = bytes_eq c d && same_fields fs ps
same_at (Tree-F.Struct c fs) (Tree-F.Struct d ps) = bytes_eq c d && same_fields fs ps
same_at (Tree-F.Dumped c bs fs) (Tree-F.Dumped d es ps) =
    (bytes_eq c d && bytes_eq bs es) && same_vars fs ps
same_at (Tree-F.Wrapped c f) (Tree-F.Wrapped d t) = bytes_eq c d && f t
same_at (Tree-F.Remote r) (Tree-F.Remote s) = same_remote r s
same_at _ _ = false

-- whether two values are the same; values of different kinds never are
abbrev pub same : Tree → Tree → Bool
same = fold-Tree (Tree → Bool) (λ l t. same_at l (out-Tree t))
