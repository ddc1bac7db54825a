-- What the walk of `fits` finds out of a node, from what it finds out of its parts.
use Rattle.std.proofs.Common.{◌≡◌, ℕ, ◌+◌, ◌≤◌, Bool, true, IsTrue, IsUtf8, List, All, Option, Some, None, sym, ◌∙◌, refl, subst, arith}
use Rattle.std.proofs.lemmas.List.Elements.{All-weaker}
use Rattle.drb_tree.specs.declared.Remote.{Remote}
use Rattle.drb_tree.specs.declared.Tree.{Tree}
use Rattle.drb_tree.specs.declared.Tree.TheViews.{roll-Tree}
use Rattle.drb_tree.specs.declared.Tree.TheOpen.{Tree-F}
use Rattle.drb_tree.specs.declared.Tree.TheFolds.{every-Tree, map-Tree}
use Rattle.drb_tree.specs.Same.{all_ascii}
use Rattle.drb_tree.specs.Sizes.{depth, depth_step}
use Rattle.drb_tree.specs.Kept.{Small, Keeps, InRange, FieldsKept, AreBytes, IdInRange, Within, remote_list}
use Rattle.drb_tree.proofs.Everywhere.{Parts, IfThere, FieldHas, every_roll, every_level, every_parts, parts_weaker, parts_both}
use Rattle.drb_tree.proofs.Depths.{NotDeeper, parts_within, within_parts}
use Rattle.drb_tree.proofs.Sizes.{depth_roll}
use Rattle.drb_value.specs.declared.Fields.{Fields}
use Rattle.drb_value.specs.declared.Wrapped.{Wrapped}
use Rattle.drb_value.specs.declared.Node.{Node}
use Rattle.drb_value.specs.declared.Node.TheVariants as N
use Rattle.drb_value.specs.Fitting.{Tells, Shallow, Sound, SoundName, ShallowPairs, SoundPairs, SoundField, ShallowFields, SoundFields, SoundObject, SoundDumped, OfDefault}
use Rattle.drb_value.specs.View.{layer, view_of}

-- a value of sound parts is sound
sound_of : (room : ℕ) (l : Tree-F Tree) → Small l → Keeps l → InRange l → Parts (Sound room) l → Sound (room + 1) (roll-Tree l)
sound_of room l s k r h = record {
  deep = omega (arith, within_parts room l (parts_weaker (Sound room) (NotDeeper room) (λ t e. e.deep) l h));
  small = every_roll Small l s (parts_weaker (Sound room) (every-Tree Small) (λ t e. e.small) l h);
  kept = every_roll Keeps l k (parts_weaker (Sound room) (every-Tree Keeps) (λ t e. e.kept) l h);
  ranged = every_roll InRange l r (parts_weaker (Sound room) (every-Tree InRange) (λ t e. e.ranged) l h);
}

-- a shallow value is small, and has shallow parts
shallow_parts : (room : ℕ) (l : Tree-F Tree) → Shallow (room + 1) (roll-Tree l) → Small l × Parts (Shallow room) l
shallow_parts room l h = (
  every_level Small l h.small,
  parts_weaker (λ t. NotDeeper room t × every-Tree Small t) (Shallow room) (λ t e. record { deep = e.0; small = e.1 }) l
      (parts_both (NotDeeper room) (every-Tree Small) l (parts_within room l (omega (arith, h.deep))) (every_parts Small l h.small)),
)

-- what is told of a node
abbrev pub Told : ℕ → Node → Bool → Type 0
Told room n answer = Tells (Sound (room + 1) (view_of n)) (Shallow (room + 1) (view_of n)) answer

-- what is told of a level
abbrev At : ℕ → Tree-F Tree → Bool → Type 0
At room l answer = Tells (Sound (room + 1) (roll-Tree l)) (Shallow (room + 1) (roll-Tree l)) answer

at_node : (room : ℕ) (n m : Node) (answer : Bool) → n ≡ m → At room (layer m) answer → Told room n answer
at_node room n m answer e h = subst (λ x. At room (layer x) answer) (sym e) h

-- a node without parts
pub leaf_told : (room : ℕ) (n m : Node) → n ≡ m → Small (layer m) → Keeps (layer m) → InRange (layer m) → Parts (Sound room) (layer m) → Told room n true
leaf_told room n m e s k r h = at_node room n m true e (record { found = λ y. sound_of room (layer m) s k r h; asked = λ a. refl })

pub class_told : (room : ℕ) (n : Node) (s b : List ℕ) (answer : Bool) → n ≡ N.Class s → b ≡ s → answer ≡ all_ascii b → SoundName s → Told room n answer
class_told room n s b answer e g f h =
    let x : answer ≡ all_ascii s = subst (λ bs. answer ≡ all_ascii bs) g f in
    at_node room n (N.Class s) answer e (record {
      found = λ y. sound_of room (Tree-F.Class s) (sym x ∙ y) h.utf8 h.bytes tt;
      asked = λ a. x ∙ (shallow_parts room (Tree-F.Class s) a).0;
    })

pub module_told : (room : ℕ) (n : Node) (s b : List ℕ) (answer : Bool) → n ≡ N.Module s → b ≡ s → answer ≡ all_ascii b → SoundName s → Told room n answer
module_told room n s b answer e g f h =
    let x : answer ≡ all_ascii s = subst (λ bs. answer ≡ all_ascii bs) g f in
    at_node room n (N.Module s) answer e (record {
      found = λ y. sound_of room (Tree-F.Module s) (sym x ∙ y) h.utf8 h.bytes tt;
      asked = λ a. x ∙ (shallow_parts room (Tree-F.Module s) a).0;
    })

pub list_told : (room : ℕ) (n : Node) (ts us : List Tree) (answer : Bool) → n ≡ N.List ts → us ≡ ts → Tells (All (Sound room) us) (All (Shallow room) us) answer → Told room n answer
list_told room n ts us answer e g f =
    let h : Tells (All (Sound room) ts) (All (Shallow room) ts) answer = subst (λ xs. Tells (All (Sound room) xs) (All (Shallow room) xs) answer) g f in
    at_node room n (N.List ts) answer e (record {
      found = λ y. sound_of room (Tree-F.List ts) tt tt tt (h.found y);
      asked = λ a. h.asked (shallow_parts room (Tree-F.List ts) a).1;
    })

there : (P : Tree → Type 0) (d : Option Tree) → OfDefault P d → IfThere P d
there P None h = h
there P (Some t) h = h

of_there : (P : Tree → Type 0) (d : Option Tree) → IfThere P d → OfDefault P d
of_there P None h = h
of_there P (Some t) h = h

pub hash_told : (room : ℕ) (n : Node) (p : List (Tree × Tree) × Option Tree) (answer : Bool) → n ≡ N.Hash p → Tells (SoundPairs room p) (ShallowPairs room p) answer → Told room n answer
hash_told room n p answer e h =
    at_node room n (N.Hash p) answer e (record {
      found = λ y. let k = h.found y in sound_of room (Tree-F.Hash p.0 p.1) k.few k.distinct tt (k.each, there (Sound room) p.1 k.default);
      asked = λ a. let k = shallow_parts room (Tree-F.Hash p.0 p.1) a in h.asked (record { few = k.0; each = k.1.0; default = of_there (Shallow room) p.1 k.1.1 });
    })

-- the names and the values of sound fields
kept_names : (room : ℕ) (fs : List (List ℕ × Tree)) → SoundFields room fs → FieldsKept fs
kept_names room fs h = (All-weaker (SoundField room) (λ f. IsUtf8 f.0) (λ f e. e.name.utf8) fs h.each, h.distinct)

name_bytes : (room : ℕ) (fs : List (List ℕ × Tree)) → SoundFields room fs → All (λ f. AreBytes f.0) fs
name_bytes room fs h = All-weaker (SoundField room) (λ f. AreBytes f.0) (λ f e. e.name.bytes) fs h.each

sound_values : (room : ℕ) (fs : List (List ℕ × Tree)) → SoundFields room fs → All (FieldHas (Sound room)) fs
sound_values room fs h = All-weaker (SoundField room) (FieldHas (Sound room)) (λ f e. e.value) fs h.each

-- what is told of an object's or struct's fields
abbrev FieldsTold : ℕ → Fields → Bool → Type 0
FieldsTold room f answer = Tells (SoundObject room f) (ShallowFields room f.fields) answer

pub object_told : (room : ℕ) (n : Node) (f g : Fields) (answer : Bool) → n ≡ N.Object f → g ≡ f → FieldsTold room g answer → Told room n answer
object_told room n f g answer e i j =
    let h : FieldsTold room f answer = subst (λ x. FieldsTold room x answer) i j in
    at_node room n (N.Object f) answer e (record {
      found = λ y. let k = h.found y in sound_of room (Tree-F.Object f.class f.fields) k.fields.few (k.class.utf8, kept_names room f.fields k.fields) (k.class.bytes, name_bytes room f.fields k.fields) (sound_values room f.fields k.fields);
      asked = λ a. let k = shallow_parts room (Tree-F.Object f.class f.fields) a in h.asked (record { few = k.0; each = k.1 });
    })

pub struct_told : (room : ℕ) (n : Node) (f g : Fields) (answer : Bool) → n ≡ N.Struct f → g ≡ f → FieldsTold room g answer → Told room n answer
struct_told room n f g answer e i j =
    let h : FieldsTold room f answer = subst (λ x. FieldsTold room x answer) i j in
    at_node room n (N.Struct f) answer e (record {
      found = λ y. let k = h.found y in sound_of room (Tree-F.Struct f.class f.fields) k.fields.few (k.class.utf8, kept_names room f.fields k.fields) (k.class.bytes, name_bytes room f.fields k.fields) (sound_values room f.fields k.fields);
      asked = λ a. let k = shallow_parts room (Tree-F.Struct f.class f.fields) a in h.asked (record { few = k.0; each = k.1 });
    })

-- what is told of a dumped value
abbrev DumpedTold : ℕ → List ℕ × List ℕ × List (List ℕ × Tree) → Bool → Type 0
DumpedTold room d answer = Tells (SoundDumped room d) (ShallowFields room d.2) answer

pub dumped_told : (room : ℕ) (n : Node) (d g : List ℕ × List ℕ × List (List ℕ × Tree)) (answer : Bool) → n ≡ N.Dumped d → g ≡ d → DumpedTold room g answer → Told room n answer
dumped_told room n d g answer e i j =
    let h : DumpedTold room d answer = subst (λ x. DumpedTold room x answer) i j in
    at_node room n (N.Dumped d) answer e (record {
      found = λ y. let k = h.found y in sound_of room (Tree-F.Dumped d.0 d.1 d.2) k.vars.few (k.class.utf8, k.foreign, kept_names room d.2 k.vars) (k.class.bytes, k.bytes, name_bytes room d.2 k.vars) (sound_values room d.2 k.vars);
      asked = λ a. let k = shallow_parts room (Tree-F.Dumped d.0 d.1 d.2) a in h.asked (record { few = k.0; each = k.1 });
    })

pub wrapped_told : (room : ℕ) (n : Node) (w : Wrapped) (t : Tree) (answer : Bool) → n ≡ N.Wrapped w → t ≡ w.inner → SoundName w.class → Tells (Sound room t) (Shallow room t) answer → Told room n answer
wrapped_told room n w t answer e i c j =
    let h : Tells (Sound room w.inner) (Shallow room w.inner) answer = subst (λ x. Tells (Sound room x) (Shallow room x) answer) i j in
    at_node room n (N.Wrapped w) answer e (record {
      found = λ y. sound_of room (Tree-F.Wrapped w.class w.inner) tt c.utf8 c.bytes (h.found y);
      asked = λ a. h.asked (shallow_parts room (Tree-F.Wrapped w.class w.inner) a).1;
    })

-- what is told of a remote object
pub record RemoteTold (r : Remote) (answer : Bool) : Type 0 where
  pub found : IsTrue answer → Within (remote_list r)
  pub asked : Within (remote_list r) → IsTrue answer
  pub uri : AreBytes r.uri.bytes
  pub id : IdInRange r.id

pub remote_told : (room : ℕ) (n : Node) (r s : Remote) (answer : Bool) → n ≡ N.Remote r → s ≡ r → RemoteTold s answer → Told room n answer
remote_told room n r s answer e i j =
    let h : RemoteTold r answer = subst (λ x. RemoteTold x answer) i j in
    at_node room n (N.Remote r) answer e (record {
      found = λ y. sound_of room (Tree-F.Remote r) (h.found y) tt (h.uri, h.id) tt;
      asked = λ a. h.asked (shallow_parts room (Tree-F.Remote r) a).0;
    })

positive : (l : Tree-F ℕ) → 1 ≤ depth_step l
positive (Tree-F.List ns) = omega arith
positive (Tree-F.Hash ps d) = omega arith
positive (Tree-F.Object c fs) = omega arith
positive (Tree-F.Struct c fs) = omega arith
positive (Tree-F.Dumped c bs fs) = omega arith
positive (Tree-F.Wrapped c n) = omega arith
positive Tree-F.Nil = omega arith
positive (Tree-F.Bool b) = omega arith
positive (Tree-F.Int i) = omega arith
positive (Tree-F.Sym s) = omega arith
positive (Tree-F.Text t) = omega arith
positive (Tree-F.Class c) = omega arith
positive (Tree-F.Module c) = omega arith
positive (Tree-F.Remote r) = omega arith

-- no value is at most 0 deep
pub none_at_0 : (room : ℕ) (n : Node) (t : Tree) → view_of n ≡ t → room ≤ 0 → Shallow room t → ⊥
none_at_0 room n t e h s =
    let q : Shallow room (view_of n) = subst (Shallow room) (sym e) s in
    absurd (omega (arith, h, q.deep, depth_roll (layer n), positive (map-Tree Tree ℕ depth (layer n))))
