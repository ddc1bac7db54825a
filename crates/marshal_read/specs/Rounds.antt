-- A symbol in rounds, as the reader takes them.
use Rattle.std.specs.Prelude.{ℕ, ◌⊎◌, List, Option, Some, None}
use Rattle.std.proofs.Common.{inl, inr}
use Rattle.marshal_grammar.specs.Grammar.{Grammar, byte, ◌>>=◌}
use Rattle.marshal_grammar.specs.Reading.{Read, read, in_rounds}
use Rattle.marshal_grammar.specs.Symbols.{Waiting, symbol_round}
use Rattle.marshal_read.specs.State.{State}

-- the symbol is read, or some wait
abbrev pub outcome : Option (List ℕ) → Waiting → Waiting ⊎ List ℕ
outcome None ws = inl ws
outcome (Some s) ws = inr s

-- one round: a byte, and what it says
abbrev pub one_round : Waiting → Grammar (Waiting ⊎ List ℕ)
one_round ws = do
  b ← byte
  symbol_round ws b

-- what at most n rounds more give
abbrev pub rounds_left : ℕ → Waiting → State → Read (List ℕ)
rounds_left n ws s = in_rounds (λ t b. read (symbol_round t b)) n ws s.seen s.rest
