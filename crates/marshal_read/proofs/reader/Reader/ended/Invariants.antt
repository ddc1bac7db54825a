use Rattle.std.proofs.Common.{◌≡◌, length, reverse}
use Rattle.marshal_grammar.specs.Symbols.{ended}
use Rattle.marshal_read.specs.Fails.{read_at}
use Rattle.marshal_read.proofs.reader.Reader.ended.Given as goal

abbrev pub invariant-loop-at : goal.invariant-loop-at
invariant-loop-at l = record {
  steps : l.self.steps ≡ l.initial.self.steps;
  same : read_at (ended (reverse l.fn.waiting) l.fn.symbol) l.initial.self ≡ read_at (ended (reverse l.waiting) l.symbol) l.self;
}

abbrev pub decreases-loop-at : goal.decreases-loop-at
decreases-loop-at l = length l.waiting
