-- What the walk of `fits` finds out of a value and of the parts that it is made of.
use Rattle.std.specs.Prelude.{ℕ, ◌≡◌, ◌≤◌, Bool, IsTrue, IsUtf8, List, All, Option, None, Some, length}
use Rattle.drb_tree.specs.declared.Tree.{Tree}
use Rattle.drb_tree.specs.declared.Tree.TheFolds.{every-Tree}
use Rattle.drb_tree.specs.Sizes.{depth}
use Rattle.drb_tree.specs.Kept.{WellKept, Ranged, Small, AreBytes, keys_distinct, names_distinct, remote_class, max_pairs}
use Rattle.drb_value.specs.declared.Fields.{Fields}

-- Where the answer is yes, this was found; and where that is the case, the answer is yes.
pub record Tells (Found Asked : Type 0) (answer : Bool) : Type 0 where
  pub found : IsTrue answer → Found
  pub asked : Asked → IsTrue answer

-- at most so deep, and small all the way down
pub record Shallow (room : ℕ) (t : Tree) : Type 0 where
  pub deep : depth t ≤ room
  pub small : every-Tree Small t

-- the same, and well kept and ranged all the way down
pub record Sound (room : ℕ) (t : Tree) : Type 0 where
  pub deep : depth t ≤ room
  pub small : every-Tree Small t
  pub kept : WellKept t
  pub ranged : Ranged t

-- a fact of a default, where there is one; of a key and its value; and of a field's value
abbrev pub OfDefault : (Tree → Type 0) → Option Tree → Type 0
OfDefault P None = Unit {0}
OfDefault P (Some t) = P t

abbrev pub OfPair : (Tree → Type 0) → Tree × Tree → Type 0
OfPair P p = P p.0 × P p.1

abbrev pub OfField : (Tree → Type 0) → List ℕ × Tree → Type 0
OfField P f = P f.1

-- a hash, by its pairs and its default
pub record ShallowPairs (room : ℕ) (p : List (Tree × Tree) × Option Tree) : Type 0 where
  pub few : length p.0 ≤ max_pairs
  pub each : All (OfPair (Shallow room)) p.0
  pub default : OfDefault (Shallow room) p.1

pub record SoundPairs (room : ℕ) (p : List (Tree × Tree) × Option Tree) : Type 0 where
  pub few : length p.0 ≤ max_pairs
  pub distinct : IsTrue (keys_distinct p.0)
  pub each : All (OfPair (Sound room)) p.0
  pub default : OfDefault (Sound room) p.1

-- a name
pub record SoundName (name : List ℕ) : Type 0 where
  pub utf8 : IsUtf8 name
  pub bytes : AreBytes name

-- a name and a value
pub record SoundField (room : ℕ) (f : List ℕ × Tree) : Type 0 where
  pub name : SoundName f.0
  pub value : Sound room f.1

-- the fields of an object, the members of a struct, or the variables of a dumped value
pub record ShallowFields (room : ℕ) (fs : List (List ℕ × Tree)) : Type 0 where
  pub few : length fs ≤ max_pairs
  pub each : All (OfField (Shallow room)) fs

pub record SoundFields (room : ℕ) (fs : List (List ℕ × Tree)) : Type 0 where
  pub few : length fs ≤ max_pairs
  pub distinct : IsTrue (names_distinct fs)
  pub each : All (SoundField room) fs

-- a class and its fields
pub record SoundObject (room : ℕ) (f : Fields) : Type 0 where
  pub class : SoundName f.class
  pub fields : SoundFields room f.fields

-- a class, the bytes that it dumped and the variables
pub record SoundDumped (room : ℕ) (d : List ℕ × List ℕ × List (List ℕ × Tree)) : Type 0 where
  pub class : SoundName d.0
  pub foreign : d.0 ≡ remote_class → ⊥
  pub bytes : AreBytes d.1
  pub vars : SoundFields room d.2
