use Rattle.std.proofs.Common.{◌≡◌, drop}
use Rattle.marshal_read.specs.Making.{key_in}
use Rattle.marshal_read.proofs.parts.has_key.Given as goal

abbrev pub invariant-loop-other : goal.invariant-loop-other
invariant-loop-other l = key_in l.key l.keys ≡ key_in l.key (drop l.other-index l.keys)
