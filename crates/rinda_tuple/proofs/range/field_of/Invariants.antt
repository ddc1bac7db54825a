use Rattle.std.proofs.Common.{◌≡◌, drop}
use Rattle.rinda_tuple.specs.Ranges.{field_of as field_of_spec}
use Rattle.rinda_tuple.proofs.range.field_of.Given as goal

-- the fields that are left have the same answer as all of them
abbrev pub invariant-loop-field : goal.invariant-loop-field
invariant-loop-field l = field_of_spec l.name l.fields ≡ field_of_spec l.name (drop l.field-index l.fields)
