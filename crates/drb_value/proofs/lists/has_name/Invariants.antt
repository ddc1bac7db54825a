use Rattle.std.proofs.Common.{◌≡◌, drop}
use Rattle.drb_tree.specs.Kept.{has_name}
use Rattle.drb_value.proofs.lists.has_name.Given as goal

abbrev pub invariant-loop-field : goal.invariant-loop-field
invariant-loop-field l = has_name l.name l.fields ≡ has_name l.name (drop l.field-index l.fields)
