use Rattle.std.proofs.Common.{◌≡◌, ◌++◌, take, drop}
use Rattle.marshal_read.proofs.reader.Reader.repeat.Given as goal

abbrev pub invariant-loop-i : goal.invariant-loop-i
invariant-loop-i l = l.self ≡ record l.initial.self { steps = l.initial.self.steps ++ drop l.fn.range.0 (take l.i l.initial.self.steps) }
