use Rattle.std.proofs.Common.{◌+◌, ◌*◌, All, take}
use Rattle.drb_value.specs.Fitting.{Sound, SoundField, OfPair}
use Rattle.drb_value.proofs.fitting.+sound.Given as goal

abbrev pub decreases-is_sound : goal.decreases-is_sound
decreases-is_sound l = 8 * l.room

abbrev pub decreases-is_sound_node : goal.decreases-is_sound_node
decreases-is_sound_node l = 8 * l.room + 4

abbrev pub decreases-are_sound_items : goal.decreases-are_sound_items
decreases-are_sound_items l = 8 * l.room + 1

abbrev pub decreases-are_sound_pairs : goal.decreases-are_sound_pairs
decreases-are_sound_pairs l = 8 * l.room + 2

abbrev pub decreases-is_sound_pair_slice : goal.decreases-is_sound_pair_slice
decreases-is_sound_pair_slice l = 8 * l.room + 1

abbrev pub decreases-is_sound_default : goal.decreases-is_sound_default
decreases-is_sound_default l = 8 * l.room + 1

abbrev pub decreases-is_sound_object : goal.decreases-is_sound_object
decreases-is_sound_object l = 8 * l.room + 3

abbrev pub decreases-is_sound_dumped : goal.decreases-is_sound_dumped
decreases-is_sound_dumped l = 8 * l.room + 3

abbrev pub decreases-are_sound_fields : goal.decreases-are_sound_fields
decreases-are_sound_fields l = 8 * l.room + 2

abbrev pub decreases-is_sound_field_slice : goal.decreases-is_sound_field_slice
decreases-is_sound_field_slice l = 8 * l.room + 1

abbrev pub invariant-are_sound_items-loop-item : goal.invariant-are_sound_items-loop-item
invariant-are_sound_items-loop-item l = All (Sound l.room) (take l.item-index l.items)

abbrev pub invariant-is_sound_pair_slice-loop-pair : goal.invariant-is_sound_pair_slice-loop-pair
invariant-is_sound_pair_slice-loop-pair l = All (OfPair (Sound l.room)) (take l.pair-index l.pairs)

abbrev pub invariant-is_sound_field_slice-loop-field : goal.invariant-is_sound_field_slice-loop-field
invariant-is_sound_field_slice-loop-field l = All (SoundField l.room) (take l.field-index l.fields)
