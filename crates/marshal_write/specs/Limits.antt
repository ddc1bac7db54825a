-- How long a dump may be: docs/MARSHAL.md, The written spelling.
use Rattle.std.specs.Prelude.{ℕ, ◌^◌, ◌-◌}

-- the most bytes of a dump
abbrev pub max_dump : ℕ
max_dump = 2 ^ 30 - 1
