-- What a reader is between two steps.
use Rattle.std.specs.Prelude.{ℕ, List, All, IsUtf8}
use Rattle.marshal_grammar.specs.declared.refusal.Refusal.{Refusal}
use Rattle.marshal_grammar.specs.Contexts.{Context}
use Rattle.marshal_read.specs.declared.steps.Step.{Step}

-- The bytes that are left, what the bytes before them leave, the steps that make what was read, and the last refusal.
pub record State : Type 0 where
  pub rest : List ℕ
  pub seen : Context
  pub steps : List Step
  pub refused : Refusal

-- each symbol so far is UTF-8
abbrev pub Named : State → Type 0
Named s = All IsUtf8 s.seen.symbols
