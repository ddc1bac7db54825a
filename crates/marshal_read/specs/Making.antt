-- What steps make, one after the other.
use Rattle.std.specs.Prelude.{ℕ, ◌-◌, ◌≤◌, ◌≡◌, List, [], ◌∷◌, ◌++◌, length, map, take, drop, Option, Some, None, option_map, Bool, true, false, ◌||◌, IsTrue, IsUtf8, bytes_eq}
use Rattle.drb_tree.specs.declared.Tree.{Tree}
use Rattle.drb_tree.specs.Same.{same}
use Rattle.drb_tree.specs.Kept.{keys_distinct, names_distinct, remote_class}
use Rattle.marshal_grammar.specs.Trees.{nil, bool, int, sym, text, list, hash, class, module_named, object, structure, dumped, wrapped, remote}
use Rattle.marshal_read.specs.declared.steps.Step.{Step}
use Rattle.marshal_read.specs.declared.steps.Step.TheVariants as S

-- Values, pairs and fields that wait for what they are a part of.
pub record Made : Type 0 where
  pub values : List Tree
  pub pairs : List (Tree × Tree)
  pub fields : List (List ℕ × Tree)

-- nothing yet
abbrev pub nothing : Made
nothing = record { values = []; pairs = []; fields = [] }

-- one value
abbrev pub single : Tree → Made
single t = record { values = t ∷ []; pairs = []; fields = [] }

-- all but the last n
abbrev pub without_last : {A : Type 0} → ℕ → List A → List A
without_last n xs = take (length xs - n) xs

-- the last n
abbrev pub the_last : {A : Type 0} → ℕ → List A → List A
the_last n xs = drop (length xs - n) xs

-- the last value, nil where there is none
abbrev pub last : List Tree → Tree
last [] = nil
last (t ∷ []) = t
last (t ∷ u ∷ ts) = last (u ∷ ts)

-- with a further value
abbrev pub put : Tree → Made → Made
put t m = record m { values = m.values ++ (t ∷ []) }

-- with a value in place of the last one
abbrev pub put_for_last : Tree → Made → Made
put_for_last t m = record m { values = without_last 1 m.values ++ (t ∷ []) }

-- with a value in place of the last n pairs, fields
abbrev pub put_for_pairs : ℕ → Tree → Made → Made
put_for_pairs n t m = record m { values = m.values ++ (t ∷ []); pairs = without_last n m.pairs }

abbrev pub put_for_fields : ℕ → Tree → Made → Made
put_for_fields n t m = record m { values = m.values ++ (t ∷ []); fields = without_last n m.fields }

-- what there is after a step
abbrev pub after : Made → Step → Made
after m S.Nil = put nil m
after m (S.Bool b) = put (bool b) m
after m (S.Int i) = put (int i) m
after m (S.Sym s) = put (sym s) m
after m (S.Text s code) = put (text s code) m
after m (S.Class s) = put (class s) m
after m (S.Module s) = put (module_named s) m
after m (S.List n) = record m {
  values = without_last n m.values ++ (list (the_last n m.values) ∷ []);
}
after m S.Pair = record m {
  values = without_last 1 (without_last 1 m.values);
  pairs = m.pairs ++ ((last (without_last 1 m.values), last m.values) ∷ []);
}
after m (S.Field s) = record m {
  values = without_last 1 m.values;
  fields = m.fields ++ ((s, last m.values) ∷ []);
}
after m (S.Hash n) = put_for_pairs n (hash (the_last n m.pairs) None) m
after m (S.HashWithDefault n) = record m {
  values = without_last 1 m.values ++ (hash (the_last n m.pairs) (Some (last m.values)) ∷ []);
  pairs = without_last n m.pairs;
}
after m (S.Object c n) = put_for_fields n (object c (the_last n m.fields)) m
after m (S.Struct c n) = put_for_fields n (structure c (the_last n m.fields)) m
after m (S.Dumped r n) = put_for_fields n (dumped r.class r.bytes (the_last n m.fields)) m
after m (S.Remote r) = put (remote r) m
after m (S.Forget n) = record m { fields = without_last n m.fields }
after m (S.Wrapped c) = put_for_last (wrapped c (last m.values)) m

-- a step finds what it takes, what it makes of that is a value, and its name is UTF-8
abbrev pub Applies : Made → Step → Type 0
Applies m (S.Sym s) = IsUtf8 s
Applies m (S.Class s) = IsUtf8 s
Applies m (S.Module s) = IsUtf8 s
Applies m (S.List n) = n ≤ length m.values
Applies m S.Pair = 2 ≤ length m.values
Applies m (S.Field s) = (1 ≤ length m.values) × IsUtf8 s
Applies m (S.Hash n) = (n ≤ length m.pairs) × IsTrue (keys_distinct (the_last n m.pairs))
Applies m (S.HashWithDefault n) = (1 ≤ length m.values) × (n ≤ length m.pairs)
    × IsTrue (keys_distinct (the_last n m.pairs))
Applies m (S.Object c n) = (n ≤ length m.fields) × IsTrue (names_distinct (the_last n m.fields))
    × IsUtf8 c
Applies m (S.Struct c n) = (n ≤ length m.fields) × IsTrue (names_distinct (the_last n m.fields))
    × IsUtf8 c
Applies m (S.Dumped r n) = (n ≤ length m.fields) × (r.class ≡ remote_class → ⊥)
    × IsTrue (names_distinct (the_last n m.fields)) × IsUtf8 r.class
Applies m (S.Forget n) = n ≤ length m.fields
Applies m (S.Wrapped c) = (1 ≤ length m.values) × IsUtf8 c
Applies m _ = Unit {0}

-- a step that takes nothing, and whose name is UTF-8
abbrev pub Leaf : Step → Type 0
Leaf (S.Sym s) = IsUtf8 s
Leaf (S.Class s) = IsUtf8 s
Leaf (S.Module s) = IsUtf8 s
Leaf (S.List n) = ⊥
Leaf S.Pair = ⊥
Leaf (S.Field s) = ⊥
Leaf (S.Hash n) = ⊥
Leaf (S.HashWithDefault n) = ⊥
Leaf (S.Object c n) = ⊥
Leaf (S.Struct c n) = ⊥
Leaf (S.Dumped r n) = ⊥
Leaf (S.Forget n) = ⊥
Leaf (S.Wrapped c) = ⊥
Leaf _ = Unit {0}

-- what there is after these steps
abbrev pub after_all : Made → List Step → Made
after_all m [] = m
after_all m (s ∷ ss) = after_all (after m s) ss

-- each of these steps applies
abbrev pub AllApply : Made → List Step → Type 0
AllApply m [] = Unit {0}
AllApply m (s ∷ ss) = Applies m s × AllApply (after m s) ss

-- the steps from an index on, and this one
abbrev pub ended_by : ℕ → Step → List Step → List Step
ended_by start s ss = drop start ss ++ (s ∷ [])

-- what these steps make on their own
abbrev pub made : List Step → Made
made ss = after_all nothing ss

-- the value that they make
abbrev pub value_of : List Step → Tree
value_of ss = last (made ss).values

-- on their own they make this, and nothing else
pub record Makes (ss : List Step) (m : Made) : Type 0 where
  pub apply : AllApply nothing ss
  pub is : made ss ≡ m

-- they make one value
abbrev pub MakesOne : List Step → Type 0
MakesOne ss = Makes ss (single (value_of ss))

-- the steps that were added
abbrev pub since : List Step → List Step → List Step
since old new = drop (length old) new

-- the value that they make
abbrev pub added : List Step → List Step → Tree
added old new = value_of (since old new)

-- further steps were added behind
abbrev pub Extends : List Step → List Step → Type 0
Extends old new = new ≡ old ++ since old new

-- further steps were added behind, which make one value
pub record AddsOne (old new : List Step) : Type 0 where
  pub extends : Extends old new
  pub makes : MakesOne (since old new)

-- the values, pairs or fields that were added
abbrev pub values_in : List Step → List Step → List Tree
values_in old new = (made (since old new)).values

abbrev pub pairs_in : List Step → List Step → List (Tree × Tree)
pairs_in old new = (made (since old new)).pairs

abbrev pub fields_in : List Step → List Step → List (List ℕ × Tree)
fields_in old new = (made (since old new)).fields

-- these steps make n fields, and nothing else; no name stands twice
pub record HoldsFields (ss : List Step) (n : ℕ) : Type 0 where
  pub makes : Makes ss (record { values = []; pairs = []; fields = (made ss).fields })
  pub size : length (made ss).fields ≡ n
  pub distinct : IsTrue (names_distinct (made ss).fields)

-- these steps make n pairs, and nothing else; no key is the same as an earlier one
pub record HoldsPairs (ss : List Step) (n : ℕ) : Type 0 where
  pub makes : Makes ss (record { values = []; pairs = (made ss).pairs; fields = [] })
  pub size : length (made ss).pairs ≡ n
  pub distinct : IsTrue (keys_distinct (made ss).pairs)

-- these steps make n values, and nothing else
pub record HoldsValues (ss : List Step) (n : ℕ) : Type 0 where
  pub makes : Makes ss (record { values = (made ss).values; pairs = []; fields = [] })
  pub size : length (made ss).values ≡ n

-- further steps were added behind, which make n values, pairs or fields
pub record AddsValues (old new : List Step) (n : ℕ) : Type 0 where
  pub extends : Extends old new
  pub holds : HoldsValues (since old new) n

pub record AddsPairs (old new : List Step) (n : ℕ) : Type 0 where
  pub extends : Extends old new
  pub holds : HoldsPairs (since old new) n

pub record AddsFields (old new : List Step) (n : ℕ) : Type 0 where
  pub extends : Extends old new
  pub holds : HoldsFields (since old new) n

-- the steps from one index to another
abbrev pub cut : ℕ × ℕ → List Step → List Step
cut r ss = drop r.0 (take r.1 ss)

-- the range of an object that is finished, and none of one that isn't
abbrev pub range_of : Bool → ℕ → ℕ → Option (ℕ × ℕ)
range_of true b e = Some (b, e)
range_of false b e = None

-- the steps between two indices are there, and make one value
pub record Stands (ss : List Step) (r : ℕ × ℕ) : Type 0 where
  pub ordered : r.0 ≤ r.1
  pub within : r.1 ≤ length ss
  pub makes : MakesOne (cut r ss)

-- the objects, each of which has begun only, or is what the steps between two indices make
abbrev pub objects_at : List Step → List (Option (ℕ × ℕ)) → List (Option Tree)
objects_at ss os = map (option_map (λ r. value_of (cut r ss))) os

-- each finished object is made by steps that are there
abbrev pub ObjectsStand : List Step → List (Option (ℕ × ℕ)) → Type 0
ObjectsStand ss [] = Unit {0}
ObjectsStand ss (None ∷ os) = ObjectsStand ss os
ObjectsStand ss (Some r ∷ os) = Stands ss r × ObjectsStand ss os

-- the first parts of pairs
abbrev pub keys_of : List (Tree × Tree) → List Tree
keys_of ps = map (λ p. p.0) ps

-- the names of fields
abbrev pub names_of : List (List ℕ × Tree) → List (List ℕ)
names_of fs = map (λ f. f.0) fs

-- some key of these is the same as k
abbrev pub key_in : Tree → List Tree → Bool
key_in k [] = false
key_in k (t ∷ ts) = same t k || key_in k ts

-- some name of these is n
abbrev pub name_in : List ℕ → List (List ℕ) → Bool
name_in n [] = false
name_in n (m ∷ ms) = bytes_eq m n || name_in n ms
