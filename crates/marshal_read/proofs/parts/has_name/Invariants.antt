use Rattle.std.proofs.Common.{◌≡◌, drop}
use Rattle.marshal_read.specs.Making.{name_in}
use Rattle.marshal_read.proofs.parts.has_name.Given as goal

abbrev pub invariant-loop-other : goal.invariant-loop-other
invariant-loop-other l = name_in l.name l.names ≡ name_in l.name (drop l.other-index l.names)
