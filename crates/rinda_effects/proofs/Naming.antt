-- Each pick is of what was touched.
use Rattle.std.proofs.Common.{◌≡◌, ℕ, Bool, true, false, not, ◌&&◌, ◌||◌, List, [], ◌∷◌, Option, Some, None, refl, sym, ◌∙◌, ap, subst, arith}
use Rattle.std.specs.Prelude.{◌==◌}
use Rattle.std.specs.List.{list_all}
use Rattle.std.proofs.lemmas.Bool.Decides.{nat_tests}
use Rattle.rinda_tuple.specs.Matching.{matches}
use Rattle.rinda_rules.specs.declared.turn.Pick.{Pick}
use Rattle.rinda_rules.specs.declared.plain.Entry.{Entry}
use Rattle.rinda_rules.specs.declared.plain.Request.{Request}
use Rattle.rinda_rules.specs.Space.{Plain, tuple_at, request_at, is_free, is_live, is_waiting, is_read, may_have}
use Rattle.rinda_rules.specs.Phases.{may_have_row, may_serve, may_serve_row, read_waits, nobody_waits, served, served_as, served_rows, Serve}
use Rattle.rinda_rules.specs.Sound.{Numbered}
use Rattle.rinda_rules.proofs.Lists.{all_at, row_has_id}
use Rattle.rinda_rules.proofs.Finding.{itself-tuple, itself-request}
use Rattle.rinda_effects.specs.Touches.{Touched, NoRow, ATuple, ARequest, is_touched, wants, only_touched, waits_only}
use Rattle.rinda_effects.specs.Served.{names}
use Rattle.rinda_effects.proofs.Kept.{none_touched}
use Rattle.rinda_effects.proofs.Cases.{kept-served_as}
use Rattle.rinda_effects.proofs.Picking.{numbered-served_as, request_unserved, served_unserved}

front : (a b : Bool) → (a && b) ≡ true → a ≡ true
front a b e = grind arith

both : (a b : Bool) → a ≡ true → b ≡ true → (a && b) ≡ true
both a b e f = grind arith

same_id : (a b : ℕ) → a ≡ b → a == b ≡ true
same_id a b e = grind (arith, nat_tests)

-- the request and the tuple of a pick
pub record Picked (s : Plain) (pick : Pick) : Type 0 where
  pub request : Request
  pub tuple : Entry
  pub asks : request_at s pick.request ≡ Some request
  pub there : tuple_at s pick.tuple ≡ Some tuple
  pub wanted : wants s.clock request tuple ≡ true

picked_rows : (s : Plain) (pick : Pick) (r : Option Request) (t : Option Entry) → request_at s pick.request ≡ r → tuple_at s pick.tuple ≡ t → may_serve_row s pick r ≡ true → Picked s pick
picked_rows s pick None t there here e = cc
picked_rows s pick (Some r) None there here e = absurd (none (is_waiting r) (pick.request == r.id) _ (subst (λ (o : Option Entry). (is_waiting r && ((pick.request == r.id && may_have_row s r o) && (is_read r.kind || not (read_waits s)))) ≡ true) here e))
  where
    none : (w i o : Bool) → (w && ((i && false) && o)) ≡ true → ⊥
    none w i o e = grind arith
picked_rows s pick (Some r) (Some t) there here e = record { request = r; tuple = t; asks = there; there = here; wanted = wanted (is_waiting r) (pick.request == r.id) (may_have s.clock r t) _ (subst (λ (o : Option Entry). (is_waiting r && ((pick.request == r.id && may_have_row s r o) && (is_read r.kind || not (read_waits s)))) ≡ true) here e) }
  where
    wanted : (w i m o : Bool) → (w && ((i && m) && o)) ≡ true → (w && m) ≡ true
    wanted w i m o e = grind arith

pub picked : (s : Plain) (pick : Pick) → may_serve s pick ≡ true → Picked s pick
picked s pick e = picked_rows s pick (request_at s pick.request) (tuple_at s pick.tuple) refl refl e

-- it is of what was touched

touched_pair : (touched : Touched) (s : Plain) (pick : Pick) (p : Picked s pick) → waits_only touched s ≡ true → is_touched touched p.request p.tuple ≡ true
touched_pair touched s pick p only =
    is (is_touched touched p.request p.tuple) (wants s.clock p.request p.tuple) p.wanted
    (all_at (only_touched s.clock touched p.request) (λ t. t.id) pick.tuple s.tuples p.tuple p.there
    (all_at (λ r. list_all (only_touched s.clock touched r) s.tuples) (λ r. r.id) pick.request s.requests p.request p.asks only))
  where
    is : (a w : Bool) → w ≡ true → (a || not w) ≡ true → a ≡ true
    is a w e h = grind arith

pub pick_names : (touched : Touched) (s : Plain) (pick : Pick) → waits_only touched s ≡ true → Picked s pick → names touched pick ≡ true
pick_names NoRow s pick only p = touched_pair NoRow s pick p only
pick_names (ATuple id) s pick only p = subst (λ (i : ℕ). i == id ≡ true) (row_has_id (λ t. t.id) pick.tuple s.tuples p.tuple p.there) (touched_pair (ATuple id) s pick p only)
pick_names (ARequest id) s pick only p = subst (λ (i : ℕ). i == id ≡ true) (row_has_id (λ r. r.id) pick.request s.requests p.request p.asks) (touched_pair (ARequest id) s pick p only)

-- and the rest still is

pub served_is : (s : Plain) (pick : Pick) (p : Picked s pick) → served s pick ≡ served_as p.request.kind p.request p.tuple s
served_is s pick p = ap (λ (o : Option Request). served_rows s o (tuple_at s pick.tuple)) p.asks ∙ ap (λ (o : Option Entry). served_rows s (Some p.request) o) p.there

live_wanted : (w f l k : Bool) → (w && (f && (l && k))) ≡ true → l ≡ true
live_wanted w f l k e = grind arith

pub numbered_served : (s : Plain) (pick : Pick) → Numbered s → Picked s pick → Numbered (served s pick)
numbered_served s pick numbered p = subst (λ (x : Plain). Numbered x) (sym (served_is s pick p)) (numbered-served_as p.request.kind p.request p.tuple s numbered)

pub only_served : (touched : Touched) (s : Plain) (pick : Pick) → Numbered s → Picked s pick → waits_only touched s ≡ true → waits_only touched (served s pick) ≡ true
only_served touched s pick numbered p only =
    let r : Request = p.request in
    let t : Entry = p.tuple in
    subst (λ (x : Plain). waits_only touched x ≡ true) (sym (served_is s pick p))
    (kept-served_as touched r.kind r t s numbered (itself-tuple s pick.tuple t p.there) (live_wanted (is_waiting r) (matches r.pattern t.value) (is_live s.clock t) (is_read r.kind || is_free t) p.wanted) only)

pub picks_name : (touched : Touched) (s : Plain) (picks : List Pick) (s' : Plain) → Numbered s → waits_only touched s ≡ true → Serve s picks s' → list_all (names touched) picks ≡ true
picks_name touched s [] s' numbered only serve = refl
picks_name touched s (pick ∷ picks) s' numbered only serve =
    let p : Picked s pick = picked s pick serve.0 in
    both _ _ (pick_names touched s pick only p) (picks_name touched (served s pick) picks s' (numbered_served s pick numbered p) (only_served touched s pick numbered p only) serve.1)

-- Where nobody waits nobody is served.

pub none_picked : (s : Plain) (picks : List Pick) (s' : Plain) → Numbered s → nobody_waits s ≡ true → Serve s picks s' → picks ≡ []
none_picked s [] s' numbered nobody serve = refl
none_picked s (pick ∷ picks) s' numbered nobody serve = absurd (none (list_all (names NoRow) picks) (picks_name NoRow s (pick ∷ picks) s' numbered (none_touched s nobody) serve))
  where
    none : (b : Bool) → (false && b) ≡ true → ⊥
    none b e = grind arith

same_of_test : (a b : ℕ) → a == b ≡ true → a ≡ b
same_of_test a b e = grind (arith, nat_tests)

pub request_served_once : (id : ℕ) (s : Plain) (pick : Pick) (picks : List Pick) (s' : Plain) → Numbered s → waits_only (ARequest id) s ≡ true → Serve s (pick ∷ picks) s' → picks ≡ []
request_served_once id s pick picks s' numbered only serve =
    let p : Picked s pick = picked s pick serve.0 in
    let r : Request = p.request in
    let t : Entry = p.tuple in
    let named : pick.request ≡ id = same_of_test pick.request id (pick_names (ARequest id) s pick only p) in
    let own : r.id ≡ id = row_has_id (λ (r : Request). r.id) pick.request s.requests r p.asks ∙ named in
    let next : Plain = served_as r.kind r t s in
    let left : Numbered next = numbered-served_as r.kind r t s numbered in
    let still : waits_only (ARequest r.id) next ≡ true = subst (λ (i : ℕ). waits_only (ARequest i) next ≡ true) (sym own) (subst (λ (x : Plain). waits_only (ARequest id) x ≡ true) (served_is s pick p) (only_served (ARequest id) s pick numbered p only)) in
    none_picked next picks s' left
    (request_unserved r.id next left (served_unserved r.kind r t s (itself-request s pick.request r p.asks)) still)
    (subst (λ (x : Plain). Serve x picks s') (served_is s pick p) serve.1)
