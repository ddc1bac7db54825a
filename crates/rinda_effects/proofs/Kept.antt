-- What each change of a space keeps: nobody waits beside a match, but for what is touched.
use Rattle.std.proofs.Common.{◌≡◌, ℕ, Bool, true, false, cond, not, ◌&&◌, ◌||◌, max, List, [], ◌∷◌, map, Option, Some, None, refl, ◌∙◌, ap, arith}
use Rattle.std.specs.Prelude.{if◌then◌else◌, ◌==◌}
use Rattle.std.specs.List.{list_all, list_any}
use Rattle.std.proofs.lemmas.Bool.Decides.{nat_tests}
use Rattle.rinda_rules.specs.declared.plain.Entry.{Entry}
use Rattle.rinda_rules.specs.declared.plain.Request.{Request}
use Rattle.rinda_rules.specs.Space.{Plain, is_over, is_free, is_doubted, is_waiting, is_read, may_have}
use Rattle.rinda_rules.specs.Phases.{advanced, nobody_waits, with_tuple, with_request}
use Rattle.rinda_tuple.specs.Matching.{matches}
use Rattle.rinda_rules.proofs.Lists.{all_imp}
use Rattle.rinda_effects.specs.Touches.{Touched, NoRow, ATuple, ARequest, is_touched, wants, pairs, only_touched, waits_only}
use Rattle.rinda_effects.proofs.Pairs.{pairs_imp, pairs_requests, pairs_tuples}

-- Words on tests.

narrower : (a a' w w' : Bool) → a' ≡ a → (w' ≡ true → w ≡ true) → (a || not w) ≡ true → (a' || not w') ≡ true
narrower a a' w w' e h k = grind arith

same_touched : (a w w' : Bool) → (w' ≡ true → w ≡ true) → (a || not w) ≡ true → (a || not w') ≡ true
same_touched a w w' h k = grind arith

is_itself_touched : (a w : Bool) → a ≡ true → (a || not w) ≡ true
is_itself_touched a w e = grind arith

-- it is touched by its id

touched_tuple_row : (touched : Touched) (r : Request) (t t' : Entry) → t'.id ≡ t.id → is_touched touched r t' ≡ is_touched touched r t
touched_tuple_row NoRow r t t' e = refl
touched_tuple_row (ATuple id) r t t' e = ap (λ (i : ℕ). i == id) e
touched_tuple_row (ARequest id) r t t' e = refl

touched_request_row : (touched : Touched) (r r' : Request) (t : Entry) → r'.id ≡ r.id → is_touched touched r' t ≡ is_touched touched r t
touched_request_row NoRow r r' t e = refl
touched_request_row (ATuple id) r r' t e = refl
touched_request_row (ARequest id) r r' t e = ap (λ (i : ℕ). i == id) e

-- A change of each request after which it wants no more, and of each tuple after which it is wanted no more.

abbrev pub WantsLess : ℕ → (Request → Request) → Type 0
WantsLess now f = (r : Request) → ((f r).id ≡ r.id) × ((t : Entry) → wants now (f r) t ≡ true → wants now r t ≡ true)

abbrev pub WantedLess : ℕ → (Entry → Entry) → Type 0
WantedLess now g = (t : Entry) → ((g t).id ≡ t.id) × ((r : Request) → wants now r (g t) ≡ true → wants now r t ≡ true)

pub less_requests : (now : ℕ) (touched : Touched) (f : Request → Request) → WantsLess now f → (rs : List Request) (ts : List Entry) → pairs (only_touched now touched) rs ts ≡ true → pairs (only_touched now touched) (map f rs) ts ≡ true
less_requests now touched f less rs ts e =
    pairs_requests (only_touched now touched) (only_touched now touched) f
    (λ r t. narrower (is_touched touched r t) (is_touched touched (f r) t) (wants now r t) (wants now (f r) t) (touched_request_row touched r (f r) t ((less r).0)) ((less r).1 t)) rs ts e

pub less_tuples : (now : ℕ) (touched : Touched) (g : Entry → Entry) → WantedLess now g → (rs : List Request) (ts : List Entry) → pairs (only_touched now touched) rs ts ≡ true → pairs (only_touched now touched) rs (map g ts) ≡ true
less_tuples now touched g less rs ts e =
    pairs_tuples (only_touched now touched) (only_touched now touched) g
    (λ r t. narrower (is_touched touched r t) (is_touched touched r (g t)) (wants now r t) (wants now r (g t)) (touched_tuple_row touched r t (g t) ((less t).0)) ((less t).1 r)) rs ts e

-- a change of the row with an id alone

wants_less_at : (now id : ℕ) (f : Request → Request) → WantsLess now f → WantsLess now (λ r. if r.id == id then f r else r)
wants_less_at now id f less r = by_test (r.id == id)
  where
    by_test : (b : Bool) → let q : Request = cond b (f r) r in (q.id ≡ r.id) × ((t : Entry) → wants now q t ≡ true → wants now r t ≡ true)
    by_test true = less r
    by_test false = (refl, λ t e. e)

wanted_less_at : (now id : ℕ) (g : Entry → Entry) → WantedLess now g → WantedLess now (λ t. if t.id == id then g t else t)
wanted_less_at now id g less t = by_test (t.id == id)
  where
    by_test : (b : Bool) → let q : Entry = cond b (g t) t in (q.id ≡ t.id) × ((r : Request) → wants now r q ≡ true → wants now r t ≡ true)
    by_test true = less t
    by_test false = (refl, λ r e. e)

pub less_request : (touched : Touched) (id : ℕ) (f : Request → Request) (s : Plain) → WantsLess s.clock f → waits_only touched s ≡ true → waits_only touched (with_request id f s) ≡ true
less_request touched id f s less e = less_requests s.clock touched (λ r. if r.id == id then f r else r) (wants_less_at s.clock id f less) s.requests s.tuples e

pub less_tuple : (touched : Touched) (id : ℕ) (g : Entry → Entry) (s : Plain) → WantedLess s.clock g → waits_only touched s ≡ true → waits_only touched (with_tuple id g s) ≡ true
less_tuple touched id g s less e = less_tuples s.clock touched (λ t. if t.id == id then g t else t) (wanted_less_at s.clock id g less) s.requests s.tuples e

-- where nothing was touched, a row that is changed is touched

touched_at : (a a' w w' : Bool) → (w' ≡ w) → (false || not w) ≡ true → (a || not w') ≡ true
touched_at a a' w w' e h = grind arith

pub touched_request : (id : ℕ) (f : Request → Request) (s : Plain) → ((r : Request) → (f r).id ≡ r.id) → waits_only NoRow s ≡ true → waits_only (ARequest id) (with_request id f s) ≡ true
touched_request id f s keeps e =
    pairs_requests (only_touched s.clock NoRow) (only_touched s.clock (ARequest id)) (λ r. if r.id == id then f r else r) (λ r t. by_test r t (r.id == id) refl) s.requests s.tuples e
  where
    by_test : (r : Request) (t : Entry) (b : Bool) → r.id == id ≡ b → only_touched s.clock NoRow r t ≡ true → only_touched s.clock (ARequest id) (cond b (f r) r) t ≡ true
    by_test r t true is h = is_itself_touched ((f r).id == id) _ (ap (λ (i : ℕ). i == id) (keeps r) ∙ is)
    by_test r t false is h = touched_at (r.id == id) false (wants s.clock r t) (wants s.clock r t) refl h

pub touched_tuple : (id : ℕ) (g : Entry → Entry) (s : Plain) → ((t : Entry) → (g t).id ≡ t.id) → waits_only NoRow s ≡ true → waits_only (ATuple id) (with_tuple id g s) ≡ true
touched_tuple id g s keeps e =
    pairs_tuples (only_touched s.clock NoRow) (only_touched s.clock (ATuple id)) (λ t. if t.id == id then g t else t) (λ r t. by_test r t (t.id == id) refl) s.requests s.tuples e
  where
    by_test : (r : Request) (t : Entry) (b : Bool) → t.id == id ≡ b → only_touched s.clock NoRow r t ≡ true → only_touched s.clock (ATuple id) r (cond b (g t) t) ≡ true
    by_test r t true is h = is_itself_touched ((g t).id == id) _ (ap (λ (i : ℕ). i == id) (keeps t) ∙ is)
    by_test r t false is h = touched_at (t.id == id) false (wants s.clock r t) (wants s.clock r t) refl h

-- what was nothing touched is nothing touched among more
pub still_touched : (touched : Touched) (s : Plain) → waits_only NoRow s ≡ true → waits_only touched s ≡ true
still_touched touched s e = pairs_imp (only_touched s.clock NoRow) (only_touched s.clock touched) (λ r t. touched_at (is_touched touched r t) false (wants s.clock r t) (wants s.clock r t) refl) s.requests s.tuples e

-- Settled spaces have nothing touched, and where nothing is touched nobody waits.

none_waits : {T : Type 0} (w : Bool) (m : T → Bool) (ts : List T) → not (w && list_any m ts) ≡ true → list_all (λ t. false || not (w && m t)) ts ≡ true
none_waits w m [] e = refl
none_waits w m (t ∷ ts) e = grind (arith, none_waits w m ts)

waits_none : {T : Type 0} (w : Bool) (m : T → Bool) (ts : List T) → list_all (λ t. false || not (w && m t)) ts ≡ true → not (w && list_any m ts) ≡ true
waits_none w m [] e = grind arith
waits_none w m (t ∷ ts) e = grind (arith, waits_none w m ts)

pub none_touched : (s : Plain) → nobody_waits s ≡ true → waits_only NoRow s ≡ true
none_touched s e = all_imp (λ r. not (is_waiting r && list_any (may_have s.clock r) s.tuples)) (λ r. list_all (only_touched s.clock NoRow r) s.tuples) (λ r. none_waits (is_waiting r) (may_have s.clock r) s.tuples) s.requests e

pub nobody : (s : Plain) → waits_only NoRow s ≡ true → nobody_waits s ≡ true
nobody s e = all_imp (λ r. list_all (only_touched s.clock NoRow r) s.tuples) (λ r. not (is_waiting r && list_any (may_have s.clock r) s.tuples)) (λ r. waits_none (is_waiting r) (may_have s.clock r) s.tuples) s.requests e

-- Advancing.

still_over : (now at : ℕ) (deadline : Option ℕ) → is_over now deadline ≡ true → is_over (max now at) deadline ≡ true
still_over now at None e = cc
still_over now at (Some d) e = grind (arith, nat_tests)

later_test : (w f m d h o o' k : Bool) → (o ≡ true → o' ≡ true) → (w && (f && ((m && (d && (h || not o'))) && k))) ≡ true → (w && (f && ((m && (d && (h || not o))) && k))) ≡ true
later_test w f m d h o o' k mono e = grind arith

later_wants : (now at : ℕ) (r : Request) (t : Entry) → wants (max now at) r t ≡ true → wants now r t ≡ true
later_wants now at r t = later_test (is_waiting r) (matches r.pattern t.value) (not t.marked) (not (is_doubted t.doubt)) (not (is_free t)) (is_over now t.deadline) (is_over (max now at) t.deadline) (is_read r.kind || is_free t) (still_over now at t.deadline)

pub kept-advanced : (touched : Touched) (at : ℕ) (s : Plain) → waits_only touched s ≡ true → waits_only touched (advanced s at) ≡ true
kept-advanced touched at s e =
    pairs_imp (only_touched s.clock touched) (only_touched (max s.clock at) touched) (λ r t. same_touched (is_touched touched r t) (wants s.clock r t) (wants (max s.clock at) r t) (later_wants s.clock at r t)) s.requests s.tuples e
