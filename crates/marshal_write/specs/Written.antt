-- What a step of a writer leaves: docs/MARSHAL.md, The written spelling.
use Rattle.std.specs.Prelude.{ℕ, ◌≡◌, ◌+◌, ◌<◌, ◌≤◌, List, [], ◌++◌, length, Option, None, Some, Result, MatchResult}
use Rattle.marshal_grammar.specs.Spelled.{Writing, these}
use Rattle.marshal_write.specs.declared.error.WriteError.{WriteError}
use Rattle.marshal_write.specs.declared.error.WriteError.TheVariants.{TooLong}
use Rattle.marshal_write.specs.declared.writer.Writer.{Writer}

-- A step is done: its bytes and its symbols have been added, and where the bytes were within the limit, they still are.
pub record Written (w : Writing) (old new : Writer) : Type 0 where
  pub bytes : new.bytes.items ≡ old.bytes.items ++ (w old.symbols).0
  pub symbols : new.symbols ≡ (w old.symbols).1
  pub limit : new.limit ≡ old.limit
  pub within : length old.bytes.items ≤ old.limit → length new.bytes.items ≤ old.limit

-- A step gave up: the bytes from before are still in front, and it is too long only where its bytes pass the limit.
pub record Stopped (w : Writing) (old new : Writer) (e : WriteError) : Type 0 where
  pub front : (rest : List ℕ) × (new.bytes.items ≡ old.bytes.items ++ rest)
  pub too_long : e ≡ TooLong → old.limit < length old.bytes.items + length (w old.symbols).0

-- a step that writes w
abbrev pub Writes : Writing → Writer → Writer → Result (Unit {0}) WriteError → Type 0
Writes w old new r = MatchResult r (λ _. Written w old new) (λ e. Stopped w old new e)

-- a default, where there is one
abbrev pub default_bytes : Option Writing → Writing
default_bytes None = these []
default_bytes (Some d) = d

-- `{` without a default, `}` with one
abbrev pub hash_mark : Option Writing → ℕ
hash_mark None = 123
hash_mark (Some d) = 125
