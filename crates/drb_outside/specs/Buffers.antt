-- Bytes that were read ahead.
use Rattle.std.specs.Prelude.{ℕ, ◌-◌, List, ◌++◌, take, drop}
use Rattle.std.specs.Prelude.{None, Some}
use Rattle.std.specs.declared.option.Option.{Option}

-- the bytes of a buffer that are still held, from the place where the next one stands to the end of those that were read
abbrev pub held : List ℕ → ℕ → ℕ → List ℕ
held buffer at end = take (end - at) (drop at buffer)

-- the bytes that a source tells, with these in front
abbrev pub in_front : List ℕ → Option (List ℕ) → Option (List ℕ)
in_front ahead None = None
in_front ahead (Some left) = Some (ahead ++ left)
