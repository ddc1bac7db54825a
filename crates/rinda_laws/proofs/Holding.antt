-- A request that is granted a tuple holds it.
use Rattle.std.proofs.Common.{◌≡◌, ◌≢◌, ℕ, Bool, true, false, cond, not, ◌&&◌, List, [], ◌∷◌, ◌++◌, map, Option, Some, None, refl, sym, ◌∙◌, ap, subst, arith}
use Rattle.std.specs.Prelude.{◌==◌, filter, if◌then◌else◌, is_none}
use Rattle.std.specs.List.{list_all}
use Rattle.std.proofs.lemmas.Bool.Decides.{nat_tests}
use Rattle.rinda_tuple.specs.declared.tuple.Tuple.{Tuple}
use Rattle.rinda_rules.specs.declared.object.Last.TheVariants as last
use Rattle.rinda_rules.specs.declared.event.Event.{Event}
use Rattle.rinda_rules.specs.declared.row.RequestState.{RequestState}
use Rattle.rinda_rules.specs.declared.row.RequestState.TheVariants as state
use Rattle.rinda_rules.specs.declared.plain.Entry.{Entry}
use Rattle.rinda_rules.specs.declared.plain.Request.{Request}
use Rattle.rinda_rules.specs.Rows.{row_of, changed, without}
use Rattle.rinda_rules.specs.Space.{Plain, tuple_at, request_at}
use Rattle.rinda_rules.specs.Sound.{Sound, is_holder, is_held_by, is_holding}
use Rattle.rinda_rules.specs.Phases.{in_state, held_by, tuple_ended, with_tuple}
use Rattle.rinda_rules.specs.AtOnce.{aged_tuple, aged_request, expires}
use Rattle.rinda_rules.specs.Cases.{new_tuple, new_request, read_by, settle_tuple, asked_doubt, shut_request}
use Rattle.rinda_rules.proofs.Lists.{all_imp, all_map, all_filter, all_filter_imp, all_append, all_changed, all_at, row_has_id, row_changed, row_changed_here, row_without}
use Rattle.rinda_rules.proofs.Keeping.{Keeps, LeasesRequest}

-- a request holds what it is granted, among these tuples
abbrev holds_granted : List Entry → ℕ → RequestState → Bool
holds_granted ts id state.Reserved = true
holds_granted ts id state.Parked = true
holds_granted ts id (state.Granted t) = is_held_by id (row_of (λ t. t.id) t ts)
holds_granted ts id (state.Answered o) = true

pub record Gripping (s : Plain) : Type 0 where
  pub each : list_all (λ r. holds_granted s.tuples r.id r.state) s.requests ≡ true

same_holds : (s : Plain) (id : ℕ) (st : RequestState) → is_holding s id st ≡ true → holds_granted s.tuples id st ≡ true
same_holds s id state.Reserved e = refl
same_holds s id state.Parked e = refl
same_holds s id (state.Granted t) e = e
same_holds s id (state.Answered o) e = refl

-- as a sound space has it
pub gripping_sound : (s : Plain) → Sound s → Gripping s
gripping_sound s sound = record { each = all_imp (λ r. is_holding s r.id r.state) (λ r. holds_granted s.tuples r.id r.state) (λ r. same_holds s r.id r.state) s.requests sound.granted }

-- every hold that was there is there
abbrev KeepsHolds : List Entry → List Entry → Type 0
KeepsHolds ts ts' = (id h : ℕ) → is_held_by h (row_of (λ t. t.id) id ts) ≡ true → is_held_by h (row_of (λ t. t.id) id ts') ≡ true

holds_more : (ts ts' : List Entry) → KeepsHolds ts ts' → (id : ℕ) (st : RequestState) → holds_granted ts id st ≡ true → holds_granted ts' id st ≡ true
holds_more ts ts' keeps id state.Reserved e = refl
holds_more ts ts' keeps id state.Parked e = refl
holds_more ts ts' keeps id (state.Granted t) e = keeps t id e
holds_more ts ts' keeps id (state.Answered o) e = refl

gripped_by : (ts ts' : List Entry) (rs : List Request) → KeepsHolds ts ts' → list_all (λ r. holds_granted ts r.id r.state) rs ≡ true → list_all (λ r. holds_granted ts' r.id r.state) rs ≡ true
gripped_by ts ts' rs keeps e = all_imp (λ r. holds_granted ts r.id r.state) (λ r. holds_granted ts' r.id r.state) (λ r. holds_more ts ts' keeps r.id r.state) rs e

holds-map : (f : Entry → Entry) (ts : List Entry) → ((t : Entry) → (f t).id ≡ t.id) → ((t : Entry) → (f t).holder ≡ t.holder) → KeepsHolds ts (map f ts)
holds-map f [] ids holders id h e = e
holds-map f (t ∷ ts) ids holders id h e = grind (arith, nat_tests, ids t, holders t, holds-map f ts ids holders id h)

-- what expires is held by nobody
free_of : (o : Option ℕ) (h : ℕ) → is_none o ≡ true → is_holder h o ≡ false
free_of None h e = refl
free_of (Some n) h e = cc

first : (a b : Bool) → (a && b) ≡ true → a ≡ true
first a b e = grind arith

expires_free : (now h : ℕ) (t : Entry) → expires now t ≡ true → is_holder h t.holder ≡ false
expires_free now h t e = free_of t.holder h (first _ _ (first _ _ e))

holds-filter : (now : ℕ) (ts : List Entry) → KeepsHolds ts (filter (λ t. not (expires now t)) ts)
holds-filter now [] id h e = e
holds-filter now (t ∷ ts) id h e = grind (arith, nat_tests, expires_free now h t, holds-filter now ts id h)

aged_id : (now : ℕ) (t : Entry) → (aged_tuple now t).id ≡ t.id
aged_id now t = grind (arith, nat_tests)

aged_holder : (now : ℕ) (t : Entry) → (aged_tuple now t).holder ≡ t.holder
aged_holder now t = grind (arith, nat_tests)

holds-aged : (now : ℕ) (ts : List Entry) → KeepsHolds ts (map (aged_tuple now) (filter (λ t. not (expires now t)) ts))
holds-aged now ts id h e = holds-map (aged_tuple now) (filter (λ t. not (expires now t)) ts) (aged_id now) (aged_holder now) id h (holds-filter now ts id h e)

holds-append : (ts new : List Entry) → KeepsHolds ts (ts ++ new)
holds-append [] new id h e = cc
holds-append (t ∷ ts) new id h e = grind (arith, nat_tests, holds-append ts new id h)

-- a free tuple is gone, or is held from now on
holds-without : (ts : List Entry) (t : Entry) → row_of (λ t. t.id) t.id ts ≡ Some t → t.holder ≡ None → KeepsHolds ts (without (λ t. t.id) t.id ts)
holds-without ts t here free id h e = by_test (id == t.id) refl
  where
    nobody : is_held_by h (row_of (λ t. t.id) t.id ts) ≡ false
    nobody = ap (is_held_by h) here ∙ ap (is_holder h) free

    contra : (b : Bool) → b ≡ true → b ≡ false → ⊥
    contra b x y = grind arith

    same : (a b : ℕ) → a == b ≡ true → a ≡ b
    same a b e = grind (arith, nat_tests)

    other : (a b : ℕ) → a == b ≡ false → a ≢ b
    other a b e f = grind (arith, nat_tests)

    by_test : (b : Bool) → id == t.id ≡ b → is_held_by h (row_of (λ t. t.id) id (without (λ t. t.id) t.id ts)) ≡ true
    by_test true is = absurd (contra _ (subst (λ (i : ℕ). is_held_by h (row_of (λ t. t.id) i ts) ≡ true) (same id t.id is) e) nobody)
    by_test false is = ap (is_held_by h) (row_without (λ (t : Entry). t.id) t.id id ts (other id t.id is)) ∙ e

holds-held : (ts : List Entry) (t : Entry) (request : ℕ) → row_of (λ t. t.id) t.id ts ≡ Some t → t.holder ≡ None → KeepsHolds ts (changed (λ t. t.id) t.id (held_by request) ts)
holds-held ts t request here free id h e = by_test (id == t.id) refl
  where
    nobody : is_held_by h (row_of (λ t. t.id) t.id ts) ≡ false
    nobody = ap (is_held_by h) here ∙ ap (is_holder h) free

    contra : (b : Bool) → b ≡ true → b ≡ false → ⊥
    contra b x y = grind arith

    same : (a b : ℕ) → a == b ≡ true → a ≡ b
    same a b e = grind (arith, nat_tests)

    other : (a b : ℕ) → a == b ≡ false → a ≢ b
    other a b e f = grind (arith, nat_tests)

    by_test : (b : Bool) → id == t.id ≡ b → is_held_by h (row_of (λ t. t.id) id (changed (λ t. t.id) t.id (held_by request) ts)) ≡ true
    by_test true is = absurd (contra _ (subst (λ (i : ℕ). is_held_by h (row_of (λ t. t.id) i ts) ≡ true) (same id t.id is) e) nobody)
    by_test false is = ap (is_held_by h) (row_changed (λ (t : Entry). t.id) t.id (held_by request) id ts (other id t.id is) (λ _. refl)) ∙ e

changed_id : (of : ℕ) (f : Entry → Entry) → ((t : Entry) → (f t).id ≡ t.id) → (t : Entry) → (if t.id == of then f t else t).id ≡ t.id
changed_id of f keeps t = by_test (t.id == of)
  where
    by_test : (b : Bool) → (cond {A = Entry} b (f t) t).id ≡ t.id
    by_test true = keeps t
    by_test false = refl

changed_holder : (of : ℕ) (f : Entry → Entry) → ((t : Entry) → (f t).holder ≡ t.holder) → (t : Entry) → (if t.id == of then f t else t).holder ≡ t.holder
changed_holder of f keeps t = by_test (t.id == of)
  where
    by_test : (b : Bool) → (cond {A = Entry} b (f t) t).holder ≡ t.holder
    by_test true = keeps t
    by_test false = refl

holds-changed : (of : ℕ) (f : Entry → Entry) (ts : List Entry) → ((t : Entry) → (f t).id ≡ t.id) → ((t : Entry) → (f t).holder ≡ t.holder) → KeepsHolds ts (changed (λ t. t.id) of f ts)
holds-changed of f ts ids holders = holds-map (λ t. if t.id == of then f t else t) ts (changed_id of f ids) (changed_holder of f holders)

-- Requests.

aged_grip : (now : ℕ) (ts : List Entry) (r : Request) → holds_granted ts r.id r.state ≡ true → holds_granted ts (aged_request now r).id (aged_request now r).state ≡ true
aged_grip now ts r e = grind (arith, nat_tests)

read_grip : (value : Tuple) (ts : List Entry) (r : Request) → holds_granted ts r.id r.state ≡ true → holds_granted ts (read_by value r).id (read_by value r).state ≡ true
read_grip value ts r e = grind (arith, nat_tests)

shut_grip : (ts : List Entry) (r : Request) → holds_granted ts r.id r.state ≡ true → holds_granted ts (shut_request r).id (shut_request r).state ≡ true
shut_grip ts r e = grind (arith, nat_tests)

leased_grip : (f : Request → Request) → LeasesRequest f → (ts : List Entry) (r : Request) → holds_granted ts r.id r.state ≡ true → holds_granted ts (f r).id (f r).state ≡ true
leased_grip f k ts r e = rw (k.id r, k.state r) e

pub all_changed_both : {R : Type 0} (p p' : R → Bool) (key : R → ℕ) (id : ℕ) (f : R → R) (xs : List R) → ((x : R) → key x ≡ id → p' (f x) ≡ true) → ((x : R) → p x ≡ true → p' x ≡ true) → list_all p xs ≡ true → list_all p' (changed key id f xs) ≡ true
all_changed_both p p' key id f [] here other e = refl
all_changed_both p p' key id f (x ∷ xs) here other e = grind (arith, nat_tests, here x, other x, all_changed_both p p' key id f xs here other)

-- the tuples after a Settle are those before, but for the one
pub settled_else : (ok : Bool) (tuple : ℕ) (o : Option Entry) (s : Plain) → tuple_at s tuple ≡ o → (u : ℕ) → u ≢ tuple → row_of (λ t. t.id) u (settle_tuple ok o s).tuples ≡ row_of (λ t. t.id) u s.tuples
settled_else ok tuple None s e u ne = refl
settled_else true tuple (Some t) s e u ne = row_without (λ (t : Entry). t.id) t.id u s.tuples (λ same. ne (same ∙ row_has_id (λ (t : Entry). t.id) tuple s.tuples t e))
settled_else false tuple (Some t) s e u ne = by_mark t.marked
  where
    apart : u ≢ t.id
    apart same = ne (same ∙ row_has_id (λ (t : Entry). t.id) tuple s.tuples t e)

    by_mark : (b : Bool) → row_of (λ t. t.id) u (cond {A = Plain} b (tuple_ended last.Canceled t s) (with_tuple t.id (λ t. record t { holder = None }) s)).tuples ≡ row_of (λ t. t.id) u s.tuples
    by_mark true = row_without (λ (t : Entry). t.id) t.id u s.tuples apart
    by_mark false = row_changed (λ (t : Entry). t.id) t.id (λ t. record t { holder = None }) u s.tuples apart (λ _. refl)

one_holder : (o : Option ℕ) (a b : ℕ) → is_holder a o ≡ true → is_holder b o ≡ true → a ≡ b
one_holder None a b x y = cc
one_holder (Some h) a b x y = grind (arith, nat_tests)

pub one_holds : (o : Option Entry) (a b : ℕ) → is_held_by a o ≡ true → is_held_by b o ≡ true → a ≡ b
one_holds None a b x y = cc
one_holds (Some t) a b x y = one_holder t.holder a b x y

-- a Settle leaves the requests
pub settle_keeps : (ok : Bool) (o : Option Entry) (s : Plain) → (settle_tuple ok o s).requests ≡ s.requests
settle_keeps ok None s = refl
settle_keeps true (Some t) s = refl
settle_keeps false (Some t) s = by_test t.marked
  where
    by_test : (b : Bool) → (cond {A = Plain} b (tuple_ended last.Canceled t s) (with_tuple t.id (λ t. record t { holder = None }) s)).requests ≡ s.requests
    by_test true = refl
    by_test false = refl

-- another request than the one that settles holds another tuple
else_grip : (ts ts' : List Entry) (tuple settler : ℕ) → ((u : ℕ) → u ≢ tuple → row_of (λ t. t.id) u ts' ≡ row_of (λ t. t.id) u ts) → is_held_by settler (row_of (λ t. t.id) tuple ts) ≡ true → (id : ℕ) (st : RequestState) → id ≢ settler → holds_granted ts id st ≡ true → holds_granted ts' id st ≡ true
else_grip ts ts' tuple settler others held id state.Reserved ne e = refl
else_grip ts ts' tuple settler others held id state.Parked ne e = refl
else_grip ts ts' tuple settler others held id (state.Answered o) ne e = refl
else_grip ts ts' tuple settler others held id (state.Granted u) ne e = by_test (u == tuple) refl
  where
    same : (a b : ℕ) → a == b ≡ true → a ≡ b
    same a b e = grind (arith, nat_tests)

    other : (a b : ℕ) → a == b ≡ false → a ≢ b
    other a b e f = grind (arith, nat_tests)

    by_test : (b : Bool) → u == tuple ≡ b → is_held_by id (row_of (λ t. t.id) u ts') ≡ true
    by_test true is = absurd (ne (one_holds (row_of (λ t. t.id) tuple ts) id settler (subst (λ (i : ℕ). is_held_by id (row_of (λ t. t.id) i ts) ≡ true) (same u tuple is) e) held))
    by_test false is = ap (is_held_by id) (others u (other u tuple is)) ∙ e

not_same : (a b : ℕ) → not (a == b) ≡ true → a ≢ b
not_same a b e same = grind (arith, nat_tests)

same_true : (a b : ℕ) → a ≡ b → a == b ≡ true
same_true a b e = grind (arith, nat_tests)

-- a granted request's row
pub grip_at : (s : Plain) (r : Request) (tuple : ℕ) → request_at s r.id ≡ Some r → r.state ≡ state.Granted tuple → Gripping s → is_held_by r.id (tuple_at s tuple) ≡ true
grip_at s r tuple there is h = subst (λ (st : RequestState). holds_granted s.tuples r.id st ≡ true) is (all_at (λ r. holds_granted s.tuples r.id r.state) (λ r. r.id) r.id s.requests r there h.each)

pub gripping_keeps : (caller : ℕ) (event : Event) → Keeps caller event Gripping
gripping_keeps caller event = record {
  advances = λ s at h. record { each = h.each };
  ages = λ s sound h.
      let ts : List Entry = map (aged_tuple s.clock) (filter (λ t. not (expires s.clock t)) s.tuples) in
      record {
        each = all_map (λ r. holds_granted ts r.id r.state) (aged_request s.clock) s.requests
            ∙ all_imp (λ r. holds_granted ts r.id r.state) (λ r. holds_granted ts (aged_request s.clock r).id (aged_request s.clock r).state) (aged_grip s.clock ts) s.requests (gripped_by s.tuples ts s.requests (holds-aged s.clock s.tuples) h.each);
      };
  writes = λ s value lease unshut h. record { each = gripped_by s.tuples (s.tuples ++ new_tuple s value lease ∷ []) s.requests (holds-append s.tuples (new_tuple s value lease ∷ [])) h.each };
  writes_over = λ s value lease unshut h. record { each = all_map (λ r. holds_granted s.tuples r.id r.state) (read_by value) s.requests ∙ all_imp (λ r. holds_granted s.tuples r.id r.state) (λ r. holds_granted s.tuples (read_by value r).id (read_by value r).state) (read_grip value s.tuples) s.requests h.each };
  reserves = λ s k pattern lease unshut h. record { each = all_append (λ r. holds_granted s.tuples r.id r.state) s.requests (new_request s caller k pattern lease ∷ []) h.each refl };
  notifies = λ s e pattern lease unshut h. record { each = h.each };
  tuple_leaves = λ l t s here isfree h. record { each = gripped_by s.tuples (without (λ t. t.id) t.id s.tuples) s.requests (holds-without s.tuples t here isfree) h.each };
  tuple_leases = λ i f s k h. record { each = gripped_by s.tuples (changed (λ t. t.id) i f s.tuples) s.requests (holds-changed i f s.tuples k.id k.holder) h.each };
  tuple_marks = λ t holder s here isheld h. record { each = gripped_by s.tuples (changed (λ t. t.id) t.id (λ t. record t { marked = true }) s.tuples) s.requests (holds-changed t.id (λ t. record t { marked = true }) s.tuples (λ t. refl) (λ t. refl)) h.each };
  request_leases = λ r f s there k may h. record { each = all_changed (λ r. holds_granted s.tuples r.id r.state) (λ r. r.id) r.id f s.requests (leased_grip f k s.tuples) h.each };
  request_asks = λ i s h. record { each = all_changed (λ r. holds_granted s.tuples r.id r.state) (λ r. r.id) i (λ r. record r { doubt = asked_doubt r.doubt }) s.requests (λ r e. e) h.each };
  request_marks = λ r s there is e h. record { each = all_changed (λ r. holds_granted s.tuples r.id r.state) (λ r. r.id) r.id (λ r. record r { marked = true }) s.requests (λ r e. e) h.each };
  request_parks = λ r s there res unmarked mine is h. record { each = all_changed (λ r. holds_granted s.tuples r.id r.state) (λ r. r.id) r.id (in_state state.Parked) s.requests (λ r e. refl) h.each };
  request_answers = λ r o s there why h. record { each = all_changed (λ r. holds_granted s.tuples r.id r.state) (λ r. r.id) r.id (in_state (state.Answered o)) s.requests (λ r e. refl) h.each };
  request_ends = λ l r s there none mine of h. record { each = all_filter (λ r. holds_granted s.tuples r.id r.state) (λ x. not (x.id == r.id)) s.requests h.each };
  grants = λ r t s there here isfree why h.
      let ts : List Entry = changed (λ t. t.id) t.id (held_by r.id) s.tuples in
      let here' : row_of (λ t. t.id) t.id ts ≡ Some (held_by r.id t) = row_changed_here (λ (t : Entry). t.id) t.id (held_by r.id) s.tuples t (λ _. refl) here in
      record {
        each = all_changed_both (λ r. holds_granted s.tuples r.id r.state) (λ r. holds_granted ts r.id r.state) (λ r. r.id) r.id (in_state (state.Granted t.id)) s.requests
            (λ x same. ap (is_held_by x.id) here' ∙ same_true r.id x.id (sym same))
            (λ x. holds_more s.tuples ts (holds-held s.tuples t r.id here isfree) x.id x.state) h.each;
      };
  settles = λ r tuple ok s there is mine e h.
      let q : Plain = settle_tuple ok (tuple_at s tuple) s in
      record {
        each = subst (λ (rs : List Request). list_all (λ r. holds_granted q.tuples r.id r.state) (without (λ x. x.id) r.id rs) ≡ true) (sym (settle_keeps ok (tuple_at s tuple) s))
            (all_filter_imp (λ r. holds_granted s.tuples r.id r.state) (λ r. holds_granted q.tuples r.id r.state) (λ x. not (x.id == r.id))
            (λ x ne. else_grip s.tuples q.tuples tuple r.id (settled_else ok tuple (tuple_at s tuple) s refl) (grip_at s r tuple there is h) x.id x.state (not_same x.id r.id ne)) s.requests h.each);
      };
  notifier_changes = λ i f s k h. record { each = h.each };
  notifier_ends = λ l n s h. record { each = h.each };
  shuts = λ s unshut is h. record { each = all_map (λ r. holds_granted s.tuples r.id r.state) shut_request s.requests ∙ all_imp (λ r. holds_granted s.tuples r.id r.state) (λ r. holds_granted s.tuples (shut_request r).id (shut_request r).state) (shut_grip s.tuples) s.requests h.each };
}
