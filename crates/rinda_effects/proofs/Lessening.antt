-- After a pick one request less waits.
use Rattle.std.proofs.Common.{◌≡◌, ℕ, ◌+◌, Bool, true, false, not, ◌&&◌, ◌||◌, ltb, List, [], ◌∷◌, length, Option, Some, None, refl, sym, ap, subst, arith}
use Rattle.std.specs.Prelude.{filter, ◌==◌}
use Rattle.std.specs.List.{list_all}
use Rattle.std.proofs.lemmas.Bool.Decides.{nat_tests}
use Rattle.rinda_tuple.specs.Tuples.{value_of}
use Rattle.rinda_rules.specs.declared.event.Kind.{Kind}
use Rattle.rinda_rules.specs.declared.event.Kind.TheVariants as kind
use Rattle.rinda_rules.specs.declared.out.Out.TheVariants as out
use Rattle.rinda_rules.specs.declared.turn.Pick.{Pick}
use Rattle.rinda_rules.specs.declared.row.RequestState.{RequestState}
use Rattle.rinda_rules.specs.declared.row.RequestState.TheVariants as state
use Rattle.rinda_rules.specs.declared.plain.Entry.{Entry}
use Rattle.rinda_rules.specs.declared.plain.Request.{Request}
use Rattle.rinda_rules.specs.Rows.{row_of, changed, rising}
use Rattle.rinda_rules.specs.Space.{Plain, tuple_at, request_at, is_parked, is_waiting, is_read}
use Rattle.rinda_rules.specs.Phases.{in_state, may_have_row, may_serve, may_serve_row, read_waits, served, served_as, served_rows}
use Rattle.rinda_rules.specs.Sound.{Numbered}
use Rattle.rinda_rules.proofs.Lists.{row_has_id}
use Rattle.rinda_effects.specs.Served.{waiting}
use Rattle.rinda_effects.proofs.Cases.{rising_requests}

-- no later row has that id
same_later : {R : Type 0} (key : R → ℕ) (id : ℕ) (f : R → R) (xs : List R) → list_all (λ y. ltb id (key y)) xs ≡ true → changed key id f xs ≡ xs
same_later key id f [] e = refl
same_later key id f (x ∷ xs) e = grind (arith, nat_tests, same_later key id f xs)

-- the row with an id passes a test, and fails it once it is changed
one_less : {R : Type 0} (p : R → Bool) (key : R → ℕ) (id : ℕ) (f : R → R) (xs : List R) (r : R) → rising key xs ≡ true → row_of key id xs ≡ Some r → p r ≡ true → p (f r) ≡ false → length (filter p (changed key id f xs)) + 1 ≡ length (filter p xs)
one_less p key id f [] r up there e new = cc
one_less p key id f (x ∷ xs) r up there e new = grind (arith, nat_tests, same_later key id f xs, one_less p key id f xs r)

answered_less : (id : ℕ) (st : RequestState) (rs : List Request) (r : Request) → is_parked st ≡ false → rising (λ r. r.id) rs ≡ true → row_of (λ r. r.id) id rs ≡ Some r → is_waiting r ≡ true → length (filter is_waiting (changed (λ r. r.id) id (in_state st) rs)) + 1 ≡ length (filter is_waiting rs)
answered_less id st rs r e up there w = one_less is_waiting (λ r. r.id) id (in_state st) rs r up there w (ap (λ (b : Bool). b && not (Rattle.rinda_rules.specs.Space.is_doubted r.doubt)) e)

served_less : (k : Kind) (r : Request) (t : Entry) (s : Plain) → Numbered s → request_at s r.id ≡ Some r → is_waiting r ≡ true → waiting (served_as k r t s) + 1 ≡ waiting s
served_less kind.Read r t s h there w = answered_less r.id (state.Answered (out.Answer (value_of t.value))) s.requests r refl (rising_requests s h) there w
served_less kind.Take r t s h there w = answered_less r.id (state.Answered (out.Answer (value_of t.value))) s.requests r refl (rising_requests s h) there w
served_less kind.Move r t s h there w = answered_less r.id (state.Granted t.id) s.requests r refl (rising_requests s h) there w

rows_less : (s : Plain) (pick : Pick) (r : Option Request) (t : Option Entry) → Numbered s → request_at s pick.request ≡ r → tuple_at s pick.tuple ≡ t → may_serve_row s pick r ≡ true → waiting (served_rows s r t) + 1 ≡ waiting s
rows_less s pick None t h there here e = cc
rows_less s pick (Some r) None h there here e = absurd (none (is_waiting r) (pick.request == r.id) _ (subst (λ (o : Option Entry). (is_waiting r && ((pick.request == r.id && may_have_row s r o) && (is_read r.kind || not (read_waits s)))) ≡ true) here e))
  where
    none : (w i o : Bool) → (w && ((i && false) && o)) ≡ true → ⊥
    none w i o e = grind arith
rows_less s pick (Some r) (Some t) h there here e = served_less r.kind r t s h (subst (λ (i : ℕ). request_at s i ≡ Some r) (sym (row_has_id (λ (r : Request). r.id) pick.request s.requests r there)) there) (front (is_waiting r) _ e)
  where
    front : (a b : Bool) → (a && b) ≡ true → a ≡ true
    front a b e = grind arith

pub pick_serves_one : (s : Plain) (pick : Pick) → Numbered s → may_serve s pick ≡ true → waiting (served s pick) + 1 ≡ waiting s
pick_serves_one s pick h e = rows_less s pick (request_at s pick.request) (tuple_at s pick.tuple) h refl refl e
