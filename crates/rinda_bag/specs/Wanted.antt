-- Which rows a search may answer. docs/SPACE.md, Rows.
use Rattle.std.specs.Prelude.{ℕ, Bool, false, not, ◌&&◌, ◌||◌, List, map, filter, find, length, Option}
use Rattle.std.specs.Option.{option_map}
use Rattle.rinda_tuple.specs.declared.tuple.Template.{Template}
use Rattle.rinda_tuple.specs.Matching.{matches}
use Rattle.rinda_rules.specs.declared.plain.Entry.{Entry}
use Rattle.rinda_rules.specs.Space.{is_live, is_free}
use Rattle.rinda_marks.specs.Opening.{opens}

-- a live match, which is held by nobody where it is to be free
abbrev pub is_wanted : ℕ → Bool → Template → Entry → Bool
is_wanted now free pattern t = matches pattern t.value && (is_live now t && (not free || is_free t))

-- the least id of such a row, where the rows rise
abbrev pub least_wanted : ℕ → Bool → Template → List Entry → Option ℕ
least_wanted now free pattern rows = option_map (λ t. t.id) (find (is_wanted now free pattern) rows)

-- the ids of all live matches
abbrev pub all_wanted : ℕ → Template → List Entry → List ℕ
all_wanted now pattern rows = map (λ t. t.id) (filter (is_wanted now false pattern) rows)

-- How many rows open as the template does: where it fixes its first value, those that have the same first value; where
-- it fixes its first two, those that have both; else all.
abbrev pub opening_rows : Template → List Entry → ℕ
opening_rows pattern rows = length (filter (λ t. opens pattern t.value) rows)
