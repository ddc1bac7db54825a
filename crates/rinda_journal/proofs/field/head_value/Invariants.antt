use Rattle.std.proofs.Common.{◌≡◌, map, take}
use Rattle.rinda_journal.specs.Fields.{field_value as field_value_spec}
use Rattle.rinda_journal.proofs.field.head_value.Given as goal

abbrev pub invariant-loop-field : goal.invariant-loop-field
invariant-loop-field l = l.items ≡ map field_value_spec (take l.field-index l.fields)
