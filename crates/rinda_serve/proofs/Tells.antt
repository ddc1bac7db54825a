-- The requests that wait to read a value are answered one after the other.
use Rattle.std.proofs.Common.{◌≡◌, ℕ, Bool, true, false, ◌&&◌, List, [], ◌∷◌, map, Some, refl, sym, ◌∙◌, ap, subst}
use Rattle.std.specs.Prelude.{if◌then◌else◌}
use Rattle.drb_tree.specs.declared.Tree.{Tree}
use Rattle.rinda_tuple.specs.declared.tuple.Tuple.{Tuple}
use Rattle.rinda_tuple.specs.Tuples.{value_of}
use Rattle.rinda_rules.specs.declared.out.Out.TheVariants as out
use Rattle.rinda_rules.specs.declared.row.RequestState.TheVariants as state
use Rattle.rinda_rules.specs.declared.plain.Request.{Request}
use Rattle.rinda_rules.specs.Rows.{row_of}
use Rattle.rinda_rules.specs.Space.{Plain, is_read}
use Rattle.rinda_rules.specs.Phases.{in_state, request_in}
use Rattle.rinda_rules.specs.Cases.{read_by}
use Rattle.rinda_effects.proofs.Cases.{rising_requests}
use Rattle.rinda_wait.specs.Waiting.{readers_of, reads}
use Rattle.rinda_tables.specs.declared.tables.Tables.{Tables}
use Rattle.rinda_tables.specs.Holds.{Held, Holds}
use Rattle.rinda_tables.specs.Tabled.{ahead_of}
use Rattle.rinda_serve.proofs.Rising.{first-there, rest-left, rest-same, none-same}

-- the request once it has read the value
abbrev pub told : Tuple → Request → Request
told value r = in_state (state.Answered (out.Answer (value_of value))) r

-- the space once it has
abbrev pub told_one : Tuple → ℕ → Plain → Plain
told_one value id s = request_in id (state.Answered (out.Answer (value_of value))) s

-- a copy is the value
pub told-as : (value : Tuple) (id : ℕ) (s : Plain) (b : Held) (v : Tree) → v ≡ value_of value → Holds (request_in id (state.Answered (out.Answer v)) s) b → Holds (told_one value id s) b
told-as value id s b v is h = subst (λ (v : Tree). Holds (request_in id (state.Answered (out.Answer v)) s) b) is h

-- the space once all have
abbrev pub told_all : Tuple → Plain → Plain
told_all value s = record s { requests = map (read_by value) s.requests }

told-reads : (value : Tuple) (r : Request) → reads value (told value r) ≡ false
told-reads value r = by_test (is_read r.kind)
  where
    by_test : (k : Bool) → (k && false) ≡ false
    by_test true = refl
    by_test false = refl

reader-told : (value : Tuple) (r : Request) → reads value r ≡ true → read_by value r ≡ told value r
reader-told value r e = ap (λ (b : Bool). if b then told value r else r) e

other-same : (value : Tuple) (r : Request) → reads value r ≡ false → read_by value r ≡ r
other-same value r e = ap (λ (b : Bool). if b then told value r else r) e

told-same : (value : Tuple) (r : Request) → reads value r ≡ true → read_by value (told value r) ≡ read_by value r
told-same value r e = other-same value (told value r) (told-reads value r) ∙ sym (reader-told value r e)

pub read-by-id : (value : Tuple) (r : Request) → (read_by value r).id ≡ r.id
read-by-id value r = by_test (reads value r)
  where
    by_test : (b : Bool) → (if b then told value r else r).id ≡ r.id
    by_test true = refl
    by_test false = refl

-- Tables that held a space have answered some of its requests, and those with these ids still wait to read the value.
pub record Telling (value : Tuple) (ids : List ℕ) (s0 : Plain) (t : Tables) : Type 0 where
  pub rows : List Request
  pub holds : Holds (record s0 { requests = rows }) (ahead_of t)
  pub left : ids ≡ readers_of value rows
  pub same : map (read_by value) rows ≡ map (read_by value) s0.requests

pub telling-begins : (value : Tuple) (ids : List ℕ) (s0 : Plain) (t : Tables) → ids ≡ readers_of value t.requests.ahead → Holds s0 (ahead_of t) → Telling value ids s0 t
telling-begins value ids s0 t e h = record { rows = s0.requests; holds = h; left = e ∙ ap (readers_of value) h.requests; same = refl }

pub telling-goes : (value : Tuple) (id : ℕ) (ids : List ℕ) (s0 : Plain) (t b : Tables) → (h : Telling value (id ∷ ids) s0 t) → ((r : Request) → row_of (λ r. r.id) id h.rows ≡ Some r → Holds (told_one value id (record s0 { requests = h.rows })) (ahead_of b)) → Telling value ids s0 b
telling-goes value id ids s0 t b h becomes =
    let up = rising_requests (record s0 { requests = h.rows }) h.holds.numbered in
    let there = first-there (λ (r : Request). r.id) (reads value) id ids h.rows h.left in
    record {
      rows = (told_one value id (record s0 { requests = h.rows })).requests;
      holds = becomes there.0 there.1;
      left = rest-left (λ (r : Request). r.id) (reads value) (told value) id ids h.rows up (told-reads value) h.left;
      same = rest-same (λ (r : Request). r.id) (reads value) (told value) (read_by value) id ids h.rows up (told-same value) h.left ∙ h.same;
    }

pub telling-ends : (value : Tuple) (s0 : Plain) (t : Tables) → Telling value [] s0 t → Holds (told_all value s0) (ahead_of t)
telling-ends value s0 t h =
    subst (λ (rows : List Request). Holds (record s0 { requests = rows }) (ahead_of t))
    (sym (none-same (λ (r : Request). r.id) (reads value) (read_by value) h.rows (other-same value) h.left) ∙ h.same) h.holds
