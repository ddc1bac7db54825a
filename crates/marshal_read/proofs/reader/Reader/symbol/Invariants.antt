use Rattle.std.proofs.Common.{◌≡◌, ◌-◌, reverse}
use Rattle.marshal_grammar.specs.Symbols.{symbol}
use Rattle.marshal_read.specs.Fails.{read_at}
use Rattle.marshal_read.specs.Rounds.{rounds_left}
use Rattle.marshal_read.proofs.reader.Reader.symbol.Given as goal

abbrev pub invariant-loop : goal.invariant-loop
invariant-loop l = record {
  steps : l.self.steps ≡ l.initial.self.steps;
  same : read_at symbol l.initial.self ≡ rounds_left (l.end - l.counter) (reverse l.waiting) l.self;
}
