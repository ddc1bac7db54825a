-- A request that is granted a tuple holds it: each way in which a turn changes the space keeps this.
use Rattle.std.proofs.Common.{◌≡◌, ◌≢◌, ℕ, Bool, true, false, cond, not, List, [], ◌∷◌, ◌++◌, Option, Some, None, refl, sym, ◌∙◌, subst, arith}
use Rattle.std.specs.Prelude.{◌==◌}
use Rattle.std.specs.List.{list_all}
use Rattle.std.proofs.lemmas.Bool.Decides.{nat_tests}
use Rattle.rinda_tuple.specs.declared.tuple.Tuple.{Tuple}
use Rattle.rinda_rules.specs.declared.object.Last.TheVariants as last
use Rattle.rinda_rules.specs.declared.event.Event.{Event}
use Rattle.rinda_rules.specs.declared.out.Out.TheVariants as out
use Rattle.rinda_rules.specs.declared.row.RequestState.{RequestState}
use Rattle.rinda_rules.specs.declared.row.RequestState.TheVariants as state
use Rattle.rinda_rules.specs.declared.plain.Entry.{Entry}
use Rattle.rinda_rules.specs.declared.plain.Request.{Request}
use Rattle.rinda_rules.specs.Rows.{row_of, changed, without}
use Rattle.rinda_rules.specs.Space.{Plain, tuple_at, request_at}
use Rattle.rinda_rules.specs.Phases.{with_tuple, tuple_ended, request_ended, request_in, in_state, held_by}
use Rattle.rinda_rules.specs.Cases.{new_tuple, new_request, read_by, asked_doubt, settle_tuple, shut_request}
use Rattle.rinda_rules.specs.Sound.{is_holder, is_held_by, is_holding, each_holds}
use Rattle.rinda_rules.proofs.Lists.{all_imp, all_map, all_filter, all_filter_imp, all_append, all_at, row_has_id, row_append, row_changed, row_changed_here, row_without}
use Rattle.rinda_rules.proofs.Ways.{Ways}

-- a request in that state, over these tuples
abbrev holds : List Entry → ℕ → RequestState → Bool
holds ts q state.Reserved = true
holds ts q state.Parked = true
holds ts q (state.Granted t) = is_held_by q (row_of (λ (t : Entry). t.id) t ts)
holds ts q (state.Answered o) = true

pub record Holds (s : Plain) : Type 0 where
  pub each : each_holds s ≡ true

as_holds : (s : Plain) (q : ℕ) (st : RequestState) → is_holding s q st ≡ holds s.tuples q st
as_holds s q state.Reserved = refl
as_holds s q state.Parked = refl
as_holds s q (state.Granted t) = refl
as_holds s q (state.Answered o) = refl

-- each request of these holds what it is granted
abbrev All : List Entry → List Request → Type 0
All ts rs = list_all (λ r. holds ts r.id r.state) rs ≡ true

to_all : (s : Plain) → Holds s → All s.tuples s.requests
to_all s h = all_imp (λ r. is_holding s r.id r.state) (λ r. holds s.tuples r.id r.state) (λ r e. sym (as_holds s r.id r.state) ∙ e) s.requests h.each

of_all : (s : Plain) → All s.tuples s.requests → Holds s
of_all s e = record { each = all_imp (λ r. holds s.tuples r.id r.state) (λ r. is_holding s r.id r.state) (λ r e. as_holds s r.id r.state ∙ e) s.requests e }

-- every held tuple that was there is there
KeepsHolds : List Entry → List Entry → Type 0
KeepsHolds ts ts' = (t q : ℕ) → is_held_by q (row_of (λ (t : Entry). t.id) t ts) ≡ true → is_held_by q (row_of (λ (t : Entry). t.id) t ts') ≡ true

holds_more : (ts ts' : List Entry) → KeepsHolds ts ts' → (q : ℕ) (st : RequestState) → holds ts q st ≡ true → holds ts' q st ≡ true
unfolding KeepsHolds
holds_more ts ts' keeps q state.Reserved e = refl
holds_more ts ts' keeps q state.Parked e = refl
holds_more ts ts' keeps q (state.Granted t) e = keeps t q e
holds_more ts ts' keeps q (state.Answered o) e = refl

all_more : (ts ts' : List Entry) (rs : List Request) → KeepsHolds ts ts' → All ts rs → All ts' rs
all_more ts ts' rs keeps e = all_imp (λ r. holds ts r.id r.state) (λ r. holds ts' r.id r.state) (λ r. holds_more ts ts' keeps r.id r.state) rs e

-- Tuples.

holds-append : (ts : List Entry) (x : Entry) → KeepsHolds ts (ts ++ x ∷ [])
unfolding KeepsHolds
holds-append ts x t q e = by_row (row_of (λ (t : Entry). t.id) t ts) refl e
  where
    by_row : (o : Option Entry) → row_of (λ (t : Entry). t.id) t ts ≡ o → is_held_by q o ≡ true → is_held_by q (row_of (λ (t : Entry). t.id) t (ts ++ x ∷ [])) ≡ true
    by_row None is e = cc
    by_row (Some y) is e = rw (row_append (λ (t : Entry). t.id) t ts (x ∷ []) y is) e

-- a tuple that is free leaves
holds-without : (ts : List Entry) (x : Entry) → row_of (λ (t : Entry). t.id) x.id ts ≡ Some x → x.holder ≡ None → KeepsHolds ts (without (λ t. t.id) x.id ts)
unfolding KeepsHolds
holds-without ts x there isfree t q e = by_test (t == x.id) refl
  where
    by_test : (b : Bool) → t == x.id ≡ b → is_held_by q (row_of (λ (t : Entry). t.id) t (without (λ t. t.id) x.id ts)) ≡ true
    by_test true same = absurd (none (rw (is_same t x.id same, there, isfree) at e))
      where
        is_same : (a b : ℕ) → a == b ≡ true → a ≡ b
        is_same a b e = grind (arith, nat_tests)

        none : false ≡ true → ⊥
        none e = cc
    by_test false other = rw (row_without (λ (t : Entry). t.id) x.id t ts (isnt t x.id other)) e
      where
        isnt : (a b : ℕ) → a == b ≡ false → a ≢ b
        isnt a b e same = grind (arith, nat_tests)

-- a change that keeps ids and holders
holds-changed : (id : ℕ) (f : Entry → Entry) (ts : List Entry) → ((t : Entry) → (f t).id ≡ t.id) → ((t : Entry) → (f t).holder ≡ t.holder) → KeepsHolds ts (changed (λ t. t.id) id f ts)
unfolding KeepsHolds
holds-changed id f ts ids holders t q e = by_test (t == id) refl (row_of (λ (t : Entry). t.id) t ts) refl e
  where
    by_test : (b : Bool) → t == id ≡ b → (o : Option Entry) → row_of (λ (t : Entry). t.id) t ts ≡ o → is_held_by q o ≡ true → is_held_by q (row_of (λ (t : Entry). t.id) t (changed (λ t. t.id) id f ts)) ≡ true
    by_test b is None none e = cc
    by_test true is (Some x) there e =
        let same : t ≡ id = is_same t id is in
        rw (← same, row_changed_here (λ (t : Entry). t.id) t f ts x ids there, holders x) e
      where
        is_same : (a b : ℕ) → a == b ≡ true → a ≡ b
        is_same a b e = grind (arith, nat_tests)
    by_test false is (Some x) there e = rw (row_changed (λ (t : Entry). t.id) id f t ts (isnt t id is) ids, there) e
      where
        isnt : (a b : ℕ) → a == b ≡ false → a ≢ b
        isnt a b e same = grind (arith, nat_tests)

-- Requests.

-- one request changes to a state that holds nothing, or to a granted one whose tuple it holds; the others hold on
all_changed_by : {R : Type 0} (p p' : R → Bool) (key : R → ℕ) (id : ℕ) (f : R → R) (xs : List R) → ((x : R) → key x ≢ id → p x ≡ true → p' x ≡ true) → ((x : R) → key x ≡ id → p x ≡ true → p' (f x) ≡ true) → list_all p xs ≡ true → list_all p' (changed key id f xs) ≡ true
all_changed_by p p' key id f [] other here e = refl
all_changed_by p p' key id f (x ∷ xs) other here e = grind (arith, nat_tests, other x, here x, all_changed_by p p' key id f xs other here)

-- a change of every request that keeps its id, and its state unless it then holds nothing
holds_by : (ts : List Entry) (r r' : Request) → r'.id ≡ r.id → r'.state ≡ r.state → holds ts r.id r.state ≡ true → holds ts r'.id r'.state ≡ true
holds_by ts r r' ids states e = rw (ids, states) e

in_state_holds : (ts : List Entry) (id : ℕ) (st : RequestState) (rs : List Request) → ((q : ℕ) → holds ts q st ≡ true) → All ts rs → All ts (changed (λ r. r.id) id (in_state st) rs)
in_state_holds ts id st rs none e = all_changed_by (λ r. holds ts r.id r.state) (λ r. holds ts r.id r.state) (λ r. r.id) id (in_state st) rs (λ x ne e. e) (λ x same e. none x.id) e

leased_holds : (ts : List Entry) (id : ℕ) (f : Request → Request) (rs : List Request) → ((r : Request) → (f r).id ≡ r.id) → ((r : Request) → (f r).state ≡ r.state) → All ts rs → All ts (changed (λ r. r.id) id f rs)
leased_holds ts id f rs ids states e = all_changed_by (λ r. holds ts r.id r.state) (λ r. holds ts r.id r.state) (λ r. r.id) id f rs (λ x ne e. e) (λ x same e. holds_by ts x (f x) (ids x) (states x) e) e

read_holds : (ts : List Entry) (value : Tuple) (r : Request) → holds ts r.id r.state ≡ true → holds ts (read_by value r).id (read_by value r).state ≡ true
read_holds ts value r e = grind (arith, nat_tests)

shut_holds : (ts : List Entry) (r : Request) → holds ts r.id r.state ≡ true → holds ts (shut_request r).id (shut_request r).state ≡ true
shut_holds ts r e = grind (arith, nat_tests)

is_same : (a b : ℕ) → a == b ≡ true → a ≡ b
is_same a b e = grind (arith, nat_tests)

isnt : (a b : ℕ) → a == b ≡ false → a ≢ b
isnt a b e same = grind (arith, nat_tests)

not_same : (a b : ℕ) → not (a == b) ≡ true → a ≢ b
not_same a b e same = grind (arith, nat_tests)

-- a free tuple is granted, and held
grants_holds : (r : Request) (t : Entry) (s : Plain) → tuple_at s t.id ≡ Some t → t.holder ≡ None → All s.tuples s.requests → All (changed (λ t. t.id) t.id (held_by r.id) s.tuples) (changed (λ r. r.id) r.id (in_state (state.Granted t.id)) s.requests)
grants_holds r t s there isfree e =
    all_changed_by (λ r. holds s.tuples r.id r.state) (λ x. holds held x.id x.state) (λ r. r.id) r.id (in_state (state.Granted t.id)) s.requests
    (λ x ne e. other x.id x.state e) here e
  where
    held : List Entry
    held = changed (λ t. t.id) t.id (held_by r.id) s.tuples

    here : (x : Request) → x.id ≡ r.id → holds s.tuples x.id x.state ≡ true → holds held x.id (state.Granted t.id) ≡ true
    here x same e = rw (row_changed_here (λ (t : Entry). t.id) t.id (held_by r.id) s.tuples t (λ _. refl) there, same) (grind (arith, nat_tests))

    other : (q : ℕ) (st : RequestState) → holds s.tuples q st ≡ true → holds held q st ≡ true
    other q state.Reserved e = refl
    other q state.Parked e = refl
    other q (state.Answered o) e = refl
    other q (state.Granted u) e = by_test (u == t.id) refl
      where
        none : false ≡ true → ⊥
        none e = cc

        by_test : (b : Bool) → u == t.id ≡ b → is_held_by q (row_of (λ (t : Entry). t.id) u held) ≡ true
        by_test true same = absurd (none (rw (is_same u t.id same, there, isfree) at e))
        by_test false ne = rw (row_changed (λ (t : Entry). t.id) t.id (held_by r.id) u s.tuples (isnt u t.id ne) (λ _. refl)) e

-- the holder of a tuple is one request
one_holder : (o : Option Entry) (a b : ℕ) → is_held_by a o ≡ true → is_held_by b o ≡ true → a ≡ b
one_holder None a b e f = cc
one_holder (Some t) a b e f = by_holder t.holder e f
  where
    by_holder : (h : Option ℕ) → is_holder a h ≡ true → is_holder b h ≡ true → a ≡ b
    by_holder None e f = cc
    by_holder (Some h) e f = sym (is_same h a e) ∙ is_same h b f

-- the request that holds a tuple ends, and of the tuples only that one changes
settled_holds : (r : Request) (tuple : ℕ) (s : Plain) (ts : List Entry) → request_at s r.id ≡ Some r → r.state ≡ state.Granted tuple → ((u : ℕ) → u ≢ tuple → row_of (λ (t : Entry). t.id) u ts ≡ tuple_at s u) → All s.tuples s.requests → All ts (without (λ r. r.id) r.id s.requests)
settled_holds r tuple s ts there is same e =
    all_filter_imp (λ r. holds s.tuples r.id r.state) (λ r. holds ts r.id r.state) (λ x. not (x.id == r.id)) (λ x ne e. other x.id x.state (not_same x.id r.id ne) e) s.requests e
  where
    held_in : (st : RequestState) → st ≡ state.Granted tuple → holds s.tuples r.id st ≡ true → is_held_by r.id (tuple_at s tuple) ≡ true
    held_in st is e = rw is at e

    mine : is_held_by r.id (tuple_at s tuple) ≡ true
    mine = held_in r.state is (all_at (λ (r : Request). holds s.tuples r.id r.state) (λ (r : Request). r.id) r.id s.requests r there e)

    other : (q : ℕ) (st : RequestState) → q ≢ r.id → holds s.tuples q st ≡ true → holds ts q st ≡ true
    other q state.Reserved ne e = refl
    other q state.Parked ne e = refl
    other q (state.Answered o) ne e = refl
    other q (state.Granted u) ne e = by_test (u == tuple) refl
      where
        by_test : (b : Bool) → u == tuple ≡ b → is_held_by q (row_of (λ (t : Entry). t.id) u ts) ≡ true
        by_test true is = absurd (ne (one_holder (tuple_at s tuple) q r.id (subst (λ (u : ℕ). is_held_by q (tuple_at s u) ≡ true) (is_same u tuple is) e) mine))
        by_test false is = rw (same u (isnt u tuple is)) e

settles_holds : (r : Request) (tuple : ℕ) (ok : Bool) (s : Plain) → request_at s r.id ≡ Some r → r.state ≡ state.Granted tuple → All s.tuples s.requests → Holds (request_ended last.Done r.id (settle_tuple ok (tuple_at s tuple) s))
settles_holds r tuple ok s there is e = by_row ok (tuple_at s tuple) refl
  where
    leaves : (t : Entry) → t.id ≡ tuple → (u : ℕ) → u ≢ tuple → row_of (λ (t : Entry). t.id) u (without (λ t. t.id) t.id s.tuples) ≡ tuple_at s u
    leaves t same u ne = row_without (λ (t : Entry). t.id) t.id u s.tuples (λ e. ne (e ∙ same))

    by_mark : (t : Entry) → t.id ≡ tuple → (b : Bool) → Holds (request_ended last.Done r.id (cond {A = Plain} b (tuple_ended last.Canceled t s) (with_tuple t.id (λ t. record t { holder = None }) s)))
    by_mark t same true = of_all _ (settled_holds r tuple s (without (λ t. t.id) t.id s.tuples) there is (leaves t same) e)
    by_mark t same false = of_all _ (settled_holds r tuple s (changed (λ t. t.id) t.id (λ t. record t { holder = None }) s.tuples) there is (λ u ne. row_changed (λ (t : Entry). t.id) t.id (λ t. record t { holder = None }) u s.tuples (λ e. ne (e ∙ same)) (λ _. refl)) e)

    by_row : (ok : Bool) (o : Option Entry) → tuple_at s tuple ≡ o → Holds (request_ended last.Done r.id (settle_tuple ok o s))
    by_row ok None here = of_all _ (settled_holds r tuple s s.tuples there is (λ u ne. refl) e)
    by_row true (Some t) here = of_all _ (settled_holds r tuple s (without (λ t. t.id) t.id s.tuples) there is (leaves t (row_has_id (λ (t : Entry). t.id) tuple s.tuples t here)) e)
    by_row false (Some t) here = by_mark t (row_has_id (λ (t : Entry). t.id) tuple s.tuples t here) t.marked

same_holds : (s s' : Plain) → s'.tuples ≡ s.tuples → s'.requests ≡ s.requests → Holds s → Holds s'
same_holds s s' ts rs h = of_all s' (rw (ts, rs) (to_all s h))

pub holds_ways : (caller : ℕ) (event : Event) → Ways caller event Holds
holds_ways caller event = record {
  advances = λ s at h. same_holds s _ refl refl h;
  writes = λ s value lease unshut h. of_all _ (all_more s.tuples (s.tuples ++ new_tuple s value lease ∷ []) s.requests (holds-append s.tuples (new_tuple s value lease)) (to_all s h));
  writes_over = λ s value lease unshut h. of_all _ (all_map (λ r. holds s.tuples r.id r.state) (read_by value) s.requests ∙ all_imp (λ r. holds s.tuples r.id r.state) (λ r. holds s.tuples (read_by value r).id (read_by value r).state) (read_holds s.tuples value) s.requests (to_all s h));
  reserves = λ s k pattern lease unshut h. of_all _ (all_append (λ r. holds s.tuples r.id r.state) s.requests (new_request s caller k pattern lease ∷ []) (to_all s h) refl);
  notifies = λ s e pattern lease unshut h. same_holds s _ refl refl h;
  tuple_leaves = λ l t s here isfree h. of_all _ (all_more s.tuples (without (λ t. t.id) t.id s.tuples) s.requests (holds-without s.tuples t here isfree) (to_all s h));
  tuple_leases = λ id f s leases doubts h. of_all _ (all_more s.tuples (changed (λ t. t.id) id f s.tuples) s.requests (holds-changed id f s.tuples leases.id leases.holder) (to_all s h));
  tuple_marks = λ t holder s here is h. of_all _ (all_more s.tuples (changed (λ t. t.id) t.id (λ t. record t { marked = true }) s.tuples) s.requests (holds-changed t.id (λ t. record t { marked = true }) s.tuples (λ _. refl) (λ _. refl)) (to_all s h));
  request_leases = λ r f s there leases may doubts h. of_all _ (leased_holds s.tuples r.id f s.requests leases.id leases.state (to_all s h));
  request_asks = λ id s h. of_all _ (leased_holds s.tuples id (λ r. record r { doubt = asked_doubt r.doubt }) s.requests (λ _. refl) (λ _. refl) (to_all s h));
  request_marks = λ r s there is e h. of_all _ (leased_holds s.tuples r.id (λ r. record r { marked = true }) s.requests (λ _. refl) (λ _. refl) (to_all s h));
  request_parks = λ r s there is unmarked own e h. of_all _ (in_state_holds s.tuples r.id state.Parked s.requests (λ _. refl) (to_all s h));
  request_answers = λ r o s there why h. of_all _ (in_state_holds s.tuples r.id (state.Answered o) s.requests (λ _. refl) (to_all s h));
  request_ends = λ l r s there none own of h. of_all _ (all_filter (λ r. holds s.tuples r.id r.state) (λ x. not (x.id == r.id)) s.requests (to_all s h));
  grants = λ r t s there here isfree why h. of_all _ (grants_holds r t s here isfree (to_all s h));
  settles = λ r tuple ok s there is own e h. settles_holds r tuple ok s there is (to_all s h);
  notifier_changes = λ id f s keeps becomes h. same_holds s _ refl refl h;
  notifier_ends = λ l n s there h. same_holds s _ refl refl h;
  shuts = λ s unshut is h. of_all _ (all_map (λ r. holds s.tuples r.id r.state) shut_request s.requests ∙ all_imp (λ r. holds s.tuples r.id r.state) (λ r. holds s.tuples (shut_request r).id (shut_request r).state) (shut_holds s.tuples) s.requests (to_all s h));
}

pub holds_expires : (r : Request) (s : Plain) → Holds s → Holds (request_in r.id (state.Answered out.Expired) s)
holds_expires r s h = of_all _ (in_state_holds s.tuples r.id (state.Answered out.Expired) s.requests (λ _. refl) (to_all s h))
