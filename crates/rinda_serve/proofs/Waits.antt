-- Who waits for a tuple, in the words of the rules and in those of the tables.
use Rattle.std.proofs.Common.{◌≡◌, ℕ, Bool, true, false, not, ◌&&◌, ◌||◌, List, map, Some, None, refl, sym, ◌∙◌, ap, subst, arith}
use Rattle.std.specs.Prelude.{find, if◌then◌else◌}
use Rattle.std.specs.List.{list_any}
use Rattle.std.specs.Option.{option_map}
use Rattle.rinda_tuple.specs.Tuples.{value_of}
use Rattle.rinda_tuple.specs.Matching.{matches}
use Rattle.rinda_rules.specs.declared.out.Out.TheVariants as out
use Rattle.rinda_rules.specs.declared.row.RequestState.TheVariants as state
use Rattle.rinda_rules.specs.declared.plain.Entry.{Entry}
use Rattle.rinda_rules.specs.declared.plain.Request.{Request}
use Rattle.rinda_rules.specs.Space.{Plain, is_live, is_free, is_read, is_waiting, may_have, can_be_served}
use Rattle.rinda_rules.specs.Phases.{in_state}
use Rattle.rinda_rules.specs.Cases.{read_by}
use Rattle.rinda_rules.specs.Sound.{Numbered}
use Rattle.rinda_effects.specs.Touches.{wants}
use Rattle.rinda_effects.specs.Serves.{reads, takes, read_row, read_all, no_taker, Readers}
use Rattle.rinda_effects.proofs.Cases.{rising_tuples, rising_requests}
use Rattle.rinda_effects.proofs.Picking.{readers_in_order}
use Rattle.rinda_wait.specs.Waiting.{readers_of, taker_of, reads as reads_value, takes as takes_value}
use Rattle.rinda_bag.specs.Wanted.{is_wanted, least_wanted}
use Rattle.rinda_serve.specs.Serving.{taker_for, match_of}
use Rattle.rinda_serve.proofs.Rising.{filter-same, find-same, map-same, find-none, none-found, none-any, found-row, FoundRow}

-- Of a tuple that is live.

reads-test : (k w m l f : Bool) → l ≡ true → (k && (w && (m && (l && (k || f))))) ≡ (k && (w && m))
reads-test k w m l f e = grind arith

pub reads-same : (now : ℕ) (t : Entry) → is_live now t ≡ true → (r : Request) → reads now t r ≡ reads_value t.value r
reads-same now t live r = reads-test (is_read r.kind) (is_waiting r) (matches r.pattern t.value) (is_live now t) (is_free t) live

pub readers-are : (s : Plain) (t : Entry) → Numbered s → is_live s.clock t ≡ true → Readers s t (readers_of t.value s.requests)
readers-are s t numbered live =
    subst (λ (ids : List ℕ). Readers s t ids)
    (ap (map (λ (r : Request). r.id)) (filter-same (reads s.clock t) (reads_value t.value) s.requests (reads-same s.clock t live)))
    (readers_in_order s t numbered)

read-by-same : (now : ℕ) (t : Entry) → is_live now t ≡ true → (r : Request) → read_by t.value r ≡ read_row now t r
read-by-same now t live r = ap (λ (b : Bool). if b then in_state (state.Answered (out.Answer (value_of t.value))) r else r) (sym (reads-same now t live r))

pub read-all-same : (s : Plain) (t : Entry) → is_live s.clock t ≡ true → record s { requests = map (read_by t.value) s.requests } ≡ read_all t s
read-all-same s t live = ap (λ (rs : List Request). record s { requests = rs }) (map-same (read_by t.value) (read_row s.clock t) s.requests (read-by-same s.clock t live))

-- Who takes it.

takes-test : (k w m l f : Bool) → l ≡ true → f ≡ true → (not k && (w && (m && (l && (k || f))))) ≡ (not k && (w && m))
takes-test k w m l f e g = grind arith

held-test : (k w m l f : Bool) → f ≡ false → (not k && (w && (m && (l && (k || f))))) ≡ false
held-test k w m l f e = grind arith

-- the one who is found is the first that takes it
pub taker-same : (now : ℕ) (t : Entry) (rs : List Request) → is_live now t ≡ true → taker_for t rs ≡ option_map (λ r. r.id) (find (takes now t) rs)
taker-same now t rs live = by_test (is_free t) refl
  where
    by_test : (b : Bool) → is_free t ≡ b → (if b then taker_of t.value rs else None) ≡ option_map (λ r. r.id) (find (takes now t) rs)
    by_test true free = ap (option_map (λ (r : Request). r.id)) (find-same (takes_value t.value) (takes now t) rs (λ r. sym (takes-test (is_read r.kind) (is_waiting r) (matches r.pattern t.value) (is_live now t) (is_free t) live free)))
    by_test false held = ap (option_map (λ (r : Request). r.id)) (sym (find-none (takes now t) rs (λ r. held-test (is_read r.kind) (is_waiting r) (matches r.pattern t.value) (is_live now t) (is_free t) held)))

pub none-takes : (s : Plain) (t : Entry) → is_live s.clock t ≡ true → taker_for t s.requests ≡ None → no_taker s t ≡ true
none-takes s t live e = none-found (λ r. r.id) (takes s.clock t) s.requests (sym (taker-same s.clock t s.requests live) ∙ e)

pub one-takes : (s : Plain) (t : Entry) (id : ℕ) → Numbered s → is_live s.clock t ≡ true → taker_for t s.requests ≡ Some id → FoundRow (λ r. r.id) (takes s.clock t) id s.requests
one-takes s t id numbered live e = found-row (λ r. r.id) (takes s.clock t) id s.requests (rising_requests s numbered) (sym (taker-same s.clock t s.requests live) ∙ e)

-- who takes a tuple reads none
pub taker-reads-not : (now : ℕ) (t : Entry) (r : Request) → takes now t r ≡ true → read_by t.value r ≡ r
taker-reads-not now t r e = by_test (is_read r.kind) e
  where
    by_test : (k : Bool) → (not k && wants now r t) ≡ true → (if k && (is_waiting r && matches r.pattern t.value) then in_state (state.Answered (out.Answer (value_of t.value))) r else r) ≡ r
    by_test true e = cc
    by_test false e = refl

-- What a request may have.

twice : (k : Bool) → not (not k) ≡ k
twice true = refl
twice false = refl

wanted-same : (now : ℕ) (r : Request) (t : Entry) → is_wanted now (not (is_read r.kind)) r.pattern t ≡ may_have now r t
wanted-same now r t = ap (λ (b : Bool). matches r.pattern t.value && (is_live now t && (b || is_free t))) (twice (is_read r.kind))

pub match-same : (now : ℕ) (r : Request) (ts : List Entry) → match_of now ts (Some r) ≡ option_map (λ t. t.id) (find (wants now r) ts)
match-same now r ts = by_test (is_waiting r)
  where
    by_test : (b : Bool) → (if b then least_wanted now (not (is_read r.kind)) r.pattern ts else None) ≡ option_map (λ t. t.id) (find (λ t. b && may_have now r t) ts)
    by_test true = ap (option_map (λ (t : Entry). t.id)) (find-same (is_wanted now (not (is_read r.kind)) r.pattern) (may_have now r) ts (wanted-same now r))
    by_test false = ap (option_map (λ (t : Entry). t.id)) (sym (find-none (λ t. false) ts (λ t. refl)))

pub one-match : (s : Plain) (r : Request) (id : ℕ) → Numbered s → match_of s.clock s.tuples (Some r) ≡ Some id → FoundRow (λ t. t.id) (wants s.clock r) id s.tuples
one-match s r id numbered e = found-row (λ t. t.id) (wants s.clock r) id s.tuples (rising_tuples s numbered) (sym (match-same s.clock r s.tuples) ∙ e)

pub no-match : (s : Plain) (r : Request) → match_of s.clock s.tuples (Some r) ≡ None → can_be_served s r ≡ false
no-match s r e = by_test (is_waiting r) (none-any (wants s.clock r) s.tuples (none-found (λ t. t.id) (wants s.clock r) s.tuples (sym (match-same s.clock r s.tuples) ∙ e)))
  where
    by_test : (b : Bool) → list_any (λ t. b && may_have s.clock r t) s.tuples ≡ false → (b && list_any (may_have s.clock r) s.tuples) ≡ false
    by_test true e = e
    by_test false e = refl
