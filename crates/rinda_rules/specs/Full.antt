-- When a journal refuses one more turn.
use Rattle.std.specs.Prelude.{◌≡◌, ℕ, ◌<◌}
use Rattle.rinda_rules.specs.declared.journal.JournalError.{JournalError}
use Rattle.rinda_rules.specs.declared.journal.JournalError.TheVariants.{Full, Memory}

-- Full exactly where so many turns are as many as there may be
abbrev pub IsFullOf : ℕ → ℕ → JournalError → Type 0
IsFullOf count cap Full = count ≡ cap
IsFullOf count cap Memory = count < cap
