use Rattle.std.proofs.Common.{rules, ℕ, ◌≤◌, true, List, All, length, take, sym, refl, subst, arith}
use Rattle.std.proofs.lemmas.Bool.{ltb-true}
use Rattle.std.proofs.lemmas.List.{take_all}
use Rattle.std.proofs.lemmas.List.Elements.{All-same, All-more}
use Rattle.drb_tree.specs.declared.Tree.{Tree}
use Rattle.drb_tree.specs.Kept.{AreBytes, IsI128}
use Rattle.drb_value.specs.Fitting.{Tells, Shallow, Sound, SoundField, OfField, OfPair}
use Rattle.drb_value.proofs.Told.{leaf_told, class_told, module_told, list_told, hash_told, object_told, struct_told, dumped_told, wrapped_told, remote_told, none_at_0}
use Rattle.drb_value.specs.declared.Node.TheVariants as N
use Rattle.drb_value.proofs.fitting.+sound.Goals as goal

pub is_sound_node-returns-in-Nil : goal.is_sound_node-returns-in-Nil
is_sound_node-returns-in-Nil t c = leaf_told _ _ N.Nil c.in-Nil.is tt tt tt tt

pub is_sound_node-returns-in-Bool : goal.is_sound_node-returns-in-Bool
is_sound_node-returns-in-Bool t c = leaf_told _ _ (N.Bool c.in-Bool.field-0) c.in-Bool.is tt tt tt tt

pub is_sound_node-returns-in-Int : goal.is_sound_node-returns-in-Int
is_sound_node-returns-in-Int t c =
    let h : IsI128 c.in-Int.number = search rules in
    leaf_told _ _ (N.Int c.in-Int.number) c.in-Int.is tt tt h tt

pub is_sound_node-returns-in-Sym : goal.is_sound_node-returns-in-Sym
is_sound_node-returns-in-Sym t c = leaf_told _ _ (N.Sym c.in-Sym.name) c.in-Sym.is tt c.note_name.ensures.utf8 c.note_name.ensures.bytes tt

pub is_sound_node-returns-in-List : goal.is_sound_node-returns-in-List
is_sound_node-returns-in-List t c = list_told _ _ _ _ _ c.in-List.is c.as_slice-in-List.ensures c.are_sound_items.ensures

pub is_sound_node-returns-in-Hash : goal.is_sound_node-returns-in-Hash
is_sound_node-returns-in-Hash t c = hash_told _ _ _ _ c.in-Hash.is c.are_sound_pairs.ensures

pub is_sound_node-returns-in-Object : goal.is_sound_node-returns-in-Object
is_sound_node-returns-in-Object t c = object_told _ _ _ _ _ c.in-Object.is c.get.ensures c.is_sound_object.ensures

pub is_sound_node-returns-in-Text : goal.is_sound_node-returns-in-Text
is_sound_node-returns-in-Text t c =
    let h : AreBytes c.in-Text.text.bytes = subst AreBytes c.as_slice.ensures c.note_bytes.ensures in
    leaf_told _ _ (N.Text c.in-Text.text) c.in-Text.is tt tt h tt

pub is_sound_node-returns-in-Class : goal.is_sound_node-returns-in-Class
is_sound_node-returns-in-Class t c = class_told _ _ _ _ _ c.in-Class.is c.as_slice-in-Class.ensures.bytes c.all_ascii.ensures c.note_name-in-Class.ensures

pub is_sound_node-returns-in-Module : goal.is_sound_node-returns-in-Module
is_sound_node-returns-in-Module t c = module_told _ _ _ _ _ c.in-Module.is c.as_slice-in-Module.ensures.bytes c.all_ascii-in-Module.ensures c.note_name-in-Module.ensures

pub is_sound_node-returns-in-Struct : goal.is_sound_node-returns-in-Struct
is_sound_node-returns-in-Struct t c = struct_told _ _ _ _ _ c.in-Struct.is c.get-in-Struct.ensures c.is_sound_object-in-Struct.ensures

pub is_sound_node-returns-in-Dumped : goal.is_sound_node-returns-in-Dumped
is_sound_node-returns-in-Dumped t c = dumped_told _ _ _ _ _ c.in-Dumped.is c.get-in-Dumped.ensures c.is_sound_dumped.ensures

pub is_sound_node-returns-in-Wrapped : goal.is_sound_node-returns-in-Wrapped
is_sound_node-returns-in-Wrapped t c = wrapped_told _ _ _ _ _ c.in-Wrapped.is c.get-in-Wrapped.ensures c.note_name-in-Wrapped.ensures c.is_sound.ensures

pub is_sound_node-returns-in-Remote : goal.is_sound_node-returns-in-Remote
is_sound_node-returns-in-Remote t c =
    let h = c.is_sound_remote.ensures in
    remote_told _ _ _ c.get-in-Remote.result.now _ c.in-Remote.is c.get-in-Remote.ensures (record { found = h.within.0; asked = h.within.1; uri = h.uri; id = h.id })

pub is_sound-returns-else-room-gt0 : goal.is_sound-returns-else-room-gt0
is_sound-returns-else-room-gt0 t c = record {
  found = λ y. absurd (omega (arith, ltb-true _ _ y, c.if-room-gt0.false));
  asked = λ a. absurd (none_at_0 _ _ _ c.value.view_is c.if-room-gt0.false a);
}

-- a walk to the end of a list
ends : {X : Type 0} (P Q : X → Type 0) (xs : List X) (n : ℕ) → length xs ≤ n → All P (take n xs) → Tells (All P xs) (All Q xs) true
ends P Q xs n h k = record { found = λ y. All-same P xs (take n xs) (sym (take_all n xs h)) k; asked = λ a. refl }

pub are_sound_items-returns : goal.are_sound_items-returns
are_sound_items-returns t c = ends (Sound c.args.room) (Shallow c.args.room) _ _ c.loop-item-test.false c.loop-item.invariant

pub is_sound_pair_slice-returns : goal.is_sound_pair_slice-returns
is_sound_pair_slice-returns t c = ends (OfPair (Sound c.args.room)) (OfPair (Shallow c.args.room)) _ _ c.loop-pair-test.false c.loop-pair.invariant

-- a field's value and its name
fields_end : (room : ℕ) (fs : List (List ℕ × Tree)) (n : ℕ) → length fs ≤ n → All (SoundField room) (take n fs) → Tells (All (SoundField room) fs) (All (OfField (Shallow room)) fs) true
fields_end room fs n h k = record { found = λ y. All-same (SoundField room) fs (take n fs) (sym (take_all n fs h)) k; asked = λ a. refl }

pub is_sound_field_slice-returns : goal.is_sound_field_slice-returns
is_sound_field_slice-returns t c = fields_end _ _ _ c.loop-field-test.false c.loop-field.invariant

pub are_sound_items-loop-item-preserved : goal.are_sound_items-loop-item-preserved
are_sound_items-loop-item-preserved t c =
    All-more (Sound c.args.room) _ c.loop-item.item-index c.item-item.result c.loop-item-test.true c.loop-item.invariant
    (subst (Sound c.args.room) c.item-item.is (c.is_sound.ensures.found c.if-not-is_sound.false))

pub is_sound_pair_slice-loop-pair-preserved : goal.is_sound_pair_slice-loop-pair-preserved
is_sound_pair_slice-loop-pair-preserved t c =
    All-more (OfPair (Sound c.args.room)) _ c.loop-pair.pair-index c.pair-item.result c.loop-pair-test.true c.loop-pair.invariant
    (subst (OfPair (Sound c.args.room)) c.pair-item.is (c.is_sound.ensures.found c.if-not-is_sound.false, c.is_sound-in-loop-pair.ensures.found c.if-not-is_sound-2.false))

pub is_sound_field_slice-loop-field-preserved : goal.is_sound_field_slice-loop-field-preserved
is_sound_field_slice-loop-field-preserved t c =
    All-more (SoundField c.args.room) _ c.loop-field.field-index c.field-item.result c.loop-field-test.true c.loop-field.invariant
    (subst (SoundField c.args.room) c.field-item.is (record { name = c.note_name.ensures; value = c.is_sound.ensures.found c.if-not-is_sound.false }))
