-- The match that a request that is submitted gets, and what it leaves when it is collected at once.
use Rattle.std.proofs.Common.{◌≡◌, ◌∙◌, ℕ, Bool, true, false, ltb, ◌&&◌, ◌||◌, List, [], ◌∷◌, Option, Some, None, refl, sym, ap, subst, arith}
use Rattle.std.proofs.lemmas.Bool.Decides.{nat_tests}
use Rattle.std.specs.Prelude.{not, ◌==◌, find}
use Rattle.std.specs.List.{list_any, list_all}
use Rattle.std.specs.Option.{option_map}
use Rattle.rinda_tuple.specs.Tuples.{value_of}
use Rattle.rinda_tuple.specs.Matching.{matches}
use Rattle.rinda_rules.specs.declared.event.Kind.{Kind}
use Rattle.rinda_rules.specs.declared.event.Kind.TheVariants as kind
use Rattle.rinda_rules.specs.declared.object.Last.{Last}
use Rattle.rinda_rules.specs.declared.object.Last.TheVariants as last
use Rattle.rinda_rules.specs.declared.out.Out.TheVariants as out
use Rattle.rinda_rules.specs.declared.row.RequestState.{RequestState}
use Rattle.rinda_rules.specs.declared.row.RequestState.TheVariants as state
use Rattle.rinda_rules.specs.declared.plain.Entry.{Entry}
use Rattle.rinda_rules.specs.declared.plain.Request.{Request}
use Rattle.rinda_rules.specs.Rows.{row_of, changed, without, rising, numbered}
use Rattle.rinda_rules.specs.Space.{Plain, tuple_at, is_live, is_free, is_read, may_have, has_match}
use Rattle.rinda_rules.specs.Phases.{tuple_ended, request_ended, request_in, in_state, served_as, served_with, is_match, may_have_row}
use Rattle.rinda_rules.specs.Cases.{answers, collect_served}
use Rattle.rinda_bag.specs.Wanted.{is_wanted, least_wanted}
use Rattle.rinda_cases.specs.Requests.{served_answer, served_at_once}

-- The least row that is wanted.

both : (a b : Bool) → a ≡ true → b ≡ true → (a && b) ≡ true
both a b e f = grind arith

same_id : (a : ℕ) → (a == a) ≡ true
same_id a = grind (arith, nat_tests)

found-passes : (p : Entry → Bool) (ts : List Entry) (t : Entry) → find p ts ≡ Some t → p t ≡ true
found-passes p [] t e = cc
found-passes p (x ∷ ts) t e = grind (arith, found-passes p ts t)

found-any : (p : Entry → Bool) (ts : List Entry) (t : Entry) → find p ts ≡ Some t → list_any p ts ≡ true
found-any p [] t e = cc
found-any p (x ∷ ts) t e = grind (arith, found-any p ts t)

found-in : (p q : Entry → Bool) (ts : List Entry) (t : Entry) → list_all q ts ≡ true → find p ts ≡ Some t → q t ≡ true
found-in p q [] t all e = cc
found-in p q (x ∷ ts) t all e = grind (arith, found-in p q ts t)

-- where the ids rise, the row that is found is the one with its id
found-row : (p : Entry → Bool) (ts : List Entry) (t : Entry) → rising (λ (x : Entry). x.id) ts ≡ true → find p ts ≡ Some t → row_of (λ (x : Entry). x.id) t.id ts ≡ Some t
found-row p [] t up e = cc
found-row p (x ∷ ts) t up e = grind (arith, nat_tests, found-in p (λ (y : Entry). ltb x.id y.id) ts t, found-row p ts t)

none-found : (p : Entry → Bool) (ts : List Entry) → find p ts ≡ None → list_any p ts ≡ false
none-found p [] e = refl
none-found p (x ∷ ts) e = grind (arith, none-found p ts)

mapped-some : (o : Option Entry) (id : ℕ) → Some id ≡ option_map (λ (t : Entry). t.id) o → (t : Entry) × (o ≡ Some t) × (t.id ≡ id)
mapped-some None id e = cc
mapped-some (Some t) id e = (t, refl, cc)

mapped-none : (o : Option Entry) → None ≡ option_map (λ (t : Entry). t.id) o → o ≡ None
mapped-none None e = refl
mapped-none (Some t) e = cc

-- what a request may have is what is wanted for it

unless : (m l r f : Bool) → (m && (l && (not (not r) || f))) ≡ (m && (l && (r || f)))
unless m l r f = grind arith

wanted-may : (now : ℕ) (r : Request) (t : Entry) → is_wanted now (not (is_read r.kind)) r.pattern t ≡ may_have now r t
wanted-may now r t = unless (matches r.pattern t.value) (is_live now t) (is_read r.kind) (is_free t)

any-wanted : (now : ℕ) (r : Request) (ts : List Entry) → list_any (is_wanted now (not (is_read r.kind)) r.pattern) ts ≡ list_any (may_have now r) ts
any-wanted now r [] = refl
any-wanted now r (t ∷ ts) = grind (arith, wanted-may now r t, any-wanted now r ts)

tuples-rise : (n : ℕ) (ts : List Entry) → numbered (λ (x : Entry). x.id) n ts ≡ true → rising (λ (x : Entry). x.id) ts ≡ true
tuples-rise n ts e = grind arith

-- The tuple that the search found: the request may have it.
pub record Matches (s : Plain) (r : Request) (id : ℕ) (t : Entry) : Type 0 where
  pub there : tuple_at s id ≡ Some t
  pub has : has_match s r ≡ true
  pub match : is_match s r (record { request = r.id; tuple = id }) ≡ true

matches-at : (s : Plain) (r : Request) (id : ℕ) (t : Entry) → tuple_at s id ≡ Some t → has_match s r ≡ true → may_have s.clock r t ≡ true → Matches s r id t
matches-at s r id t there has may = record {
  there = there;
  has = has;
  match = both _ _ (same_id r.id) (ap (may_have_row s r) there ∙ may);
}

pub least-some : (s : Plain) (r : Request) (id : ℕ) → numbered (λ (x : Entry). x.id) s.next s.tuples ≡ true → Some id ≡ least_wanted s.clock (not (is_read r.kind)) r.pattern s.tuples → (t : Entry) × Matches s r id t
least-some s r id up e =
    let p = is_wanted s.clock (not (is_read r.kind)) r.pattern in
    let at = mapped-some (find p s.tuples) id e in
    let row : row_of (λ (x : Entry). x.id) at.0.id s.tuples ≡ Some at.0 = found-row p s.tuples at.0 (tuples-rise s.next s.tuples up) at.1 in
    let there : tuple_at s id ≡ Some at.0 = subst (λ (i : ℕ). tuple_at s i ≡ Some at.0) at.2 row in (
      at.0,
      matches-at s r id at.0 there
          (sym (any-wanted s.clock r s.tuples) ∙ found-any p s.tuples at.0 at.1)
          (sym (wanted-may s.clock r at.0) ∙ found-passes p s.tuples at.0 at.1),
    )

pub least-none : (s : Plain) (r : Request) → None ≡ least_wanted s.clock (not (is_read r.kind)) r.pattern s.tuples → has_match s r ≡ false
least-none s r e =
    let p = is_wanted s.clock (not (is_read r.kind)) r.pattern in
    sym (any-wanted s.clock r s.tuples) ∙ none-found p s.tuples (mapped-none (find p s.tuples) e)

-- What a request that is served and collected at once leaves.

without-changed : (id : ℕ) (st : RequestState) (rs : List Request) → without (λ (r : Request). r.id) id (changed (λ (r : Request). r.id) id (in_state st) rs) ≡ without (λ (r : Request). r.id) id rs
without-changed id st [] = refl
without-changed id st (r ∷ rs) = grind (arith, nat_tests, without-changed id st rs)

-- an answer that is collected at once leaves no trace
ended-in : (l : Last) (id : ℕ) (st : RequestState) (s : Plain) → request_ended l id (request_in id st s) ≡ request_ended l id s
ended-in l id st s = rw (without-changed id st s.requests) refl

served-as : (kd : Kind) (s : Plain) (r : Request) (t : Entry) → collect_served (served_as kd r t s) r t kd ≡ answers (served_at_once kd r.id t s) (served_answer kd r.id (value_of t.value))
served-as kind.Read s r t = ap (λ (s : Plain). answers s (out.Answer (value_of t.value))) (ended-in last.Done r.id (state.Answered (out.Answer (value_of t.value))) s)
served-as kind.Take s r t = ap (λ (s : Plain). answers s (out.Answer (value_of t.value))) (ended-in last.Done r.id (state.Answered (out.Answer (value_of t.value))) (tuple_ended last.Taken t s))
served-as kind.Move s r t = refl

pub served-is : (s : Plain) (r : Request) (t : Entry) → collect_served (served_with r t s) r t r.kind ≡ answers (served_at_once r.kind r.id t s) (served_answer r.kind r.id (value_of t.value))
served-is s r t = served-as r.kind s r t
