-- The values of the rows that a search finds.
use Rattle.std.proofs.Common.{◌≡◌, ◌∙◌, ℕ, ◌+◌, ◌<◌, Bool, true, false, List, [], ◌∷◌, ◌++◌, map, length, drop, get_or, refl, sym, ap, arith}
use Rattle.std.proofs.lemmas.List.{at_drop_more, append_assoc}
use Rattle.drb_tree.specs.declared.Tree.{Tree}
use Rattle.std.specs.Prelude.{◌&&◌, nat_lt, filter}
use Rattle.std.specs.List.{list_all}
use Rattle.std.proofs.lemmas.Bool.Decides.{nat_tests}
use Rattle.rinda_tuple.specs.declared.tuple.Template.{Template}
use Rattle.rinda_tuple.specs.Tuples.{value_of}
use Rattle.rinda_tuple.specs.Matching.{matches}
use Rattle.rinda_rules.specs.declared.plain.Entry.{Entry}
use Rattle.rinda_rules.specs.Rows.{row_of, rising, numbered}
use Rattle.rinda_rules.specs.Space.{Plain, is_live}
use Rattle.rinda_rules.specs.Cases.{all_of}
use Rattle.rinda_tables.specs.Holds.{Holds}
use Rattle.rinda_tables.specs.Tabled.{ahead_of}
use Rattle.rinda_tables.specs.declared.tables.Tables.{Tables}
use Rattle.rinda_bag.specs.Wanted.{is_wanted, all_wanted}
use Rattle.rinda_cases.specs.Reads.{value_in, values_at}

-- no id of these is that of the first row
skipped : (t : Entry) (rows : List Entry) (p : Entry → Bool) (later : List Entry) → list_all (λ (e : Entry). nat_lt t.id e.id) later ≡ true → values_at (t ∷ rows) (map (λ e. e.id) (filter p later)) ≡ values_at rows (map (λ e. e.id) (filter p later))
skipped t rows p [] e = refl
skipped t rows p (x ∷ later) e = grind (arith, nat_tests, skipped t rows p later)

-- of rising rows, those with the ids of some are these
picked : (p : Entry → Bool) (rows : List Entry) → rising (λ t. t.id) rows ≡ true → values_at rows (map (λ t. t.id) (filter p rows)) ≡ map (λ t. value_of t.value) (filter p rows)
picked p [] e = refl
picked p (t ∷ rows) e = grind (arith, nat_tests, skipped t rows p rows, picked p rows)

wanted-live : (now : ℕ) (pattern : Template) (rows : List Entry) → filter (is_wanted now false pattern) rows ≡ filter (λ t. matches pattern t.value && is_live now t) rows
wanted-live now pattern [] = refl
wanted-live now pattern (t ∷ rows) = grind (arith, wanted-live now pattern rows)

pub values-wanted : (now : ℕ) (pattern : Template) (rows : List Entry) → rising (λ t. t.id) rows ≡ true → values_at rows (all_wanted now pattern rows) ≡ map (λ t. value_of t.value) (filter (λ t. matches pattern t.value && is_live now t) rows)
values-wanted now pattern rows e = picked (is_wanted now false pattern) rows e ∙ ap (map (λ (t : Entry). value_of t.value)) (wanted-live now pattern rows)

rises : (next : ℕ) (rows : List Entry) → numbered (λ t. t.id) next rows ≡ true → rising (λ t. t.id) rows ≡ true
rises next rows h = grind arith

-- what the tables have of them is what the space has
pub values-held : (s : Plain) (t : Tables) (pattern : Template) → Holds s (ahead_of t) → values_at t.tuples.ahead (all_wanted t.clock pattern t.tuples.ahead) ≡ all_of s pattern
values-held s t pattern h =
    ap (λ (rows : List Entry). values_at rows (all_wanted t.clock pattern rows)) h.tuples
    ∙ ap (λ (now : ℕ). values_at s.tuples (all_wanted now pattern s.tuples)) h.clock
    ∙ values-wanted s.clock pattern s.tuples (rises s.next s.tuples h.numbered.tuples)

-- one more is pushed
pub values-step : (rows : List Entry) (ids : List ℕ) (i : ℕ) (all : List Tree) → i < length ids → (all ++ value_in (row_of (λ t. t.id) (get_or ids i 0) rows)) ++ values_at rows (drop (i + 1) ids) ≡ all ++ values_at rows (drop i ids)
values-step rows ids i all h = append_assoc all (value_in (row_of (λ t. t.id) (get_or ids i 0) rows)) (values_at rows (drop (i + 1) ids)) ∙ sym (at_drop_more (λ (xs : List ℕ). all ++ values_at rows xs) ids i 0 h)
