-- A request stays its caller's.
use Rattle.std.proofs.Common.{◌≡◌, ◌≢◌, ℕ, Bool, true, false, cond, ◌&&◌, List, [], ◌∷◌, map, Option, Some, None, refl, sym, ◌∙◌, ap, subst, arith}
use Rattle.std.specs.Prelude.{◌==◌, if◌then◌else◌}
use Rattle.std.proofs.lemmas.Bool.Decides.{nat_tests}
use Rattle.rinda_tuple.specs.declared.tuple.Tuple.{Tuple}
use Rattle.rinda_rules.specs.declared.object.Last.TheVariants as last
use Rattle.rinda_rules.specs.declared.event.Event.{Event}
use Rattle.rinda_rules.specs.declared.event.Event.TheVariants.{Submit}
use Rattle.rinda_rules.specs.declared.out.Out.{Out}
use Rattle.rinda_rules.specs.declared.out.Out.TheVariants as out
use Rattle.rinda_rules.specs.declared.row.RequestState.{RequestState}
use Rattle.rinda_rules.specs.declared.row.RequestState.TheVariants as state
use Rattle.rinda_rules.specs.declared.plain.Entry.{Entry}
use Rattle.rinda_rules.specs.declared.plain.Request.{Request}
use Rattle.rinda_rules.specs.Rows.{row_of, changed, without}
use Rattle.rinda_rules.specs.Space.{Plain, request_at, tuple_at, is_due_request, is_waiting, is_parked, is_read}
use Rattle.rinda_tuple.specs.Matching.{matches}
use Rattle.rinda_rules.specs.Phases.{in_state, tuple_ended, with_tuple}
use Rattle.rinda_rules.specs.AtOnce.{aged_request}
use Rattle.rinda_rules.specs.Cases.{new_request, read_by, settle_tuple, asked_doubt, shut_request}
use Rattle.rinda_rules.specs.Own.{is_of}
use Rattle.rinda_rules.proofs.Lists.{row_has_id, row_map, row_append, row_without}
use Rattle.rinda_rules.proofs.Keeping.{Keeps, Serves, waits, submits, Answers, serves, cancels}
use Rattle.rinda_laws.specs.Owns.{Owns}

-- whoever may leave the parked state may be in every state
abbrev pub Open : (RequestState → Bool) → Type 0
Open states = states state.Parked ≡ true → (st : RequestState) → states st ≡ true

pub row_in : (id of : ℕ) (f : Request → Request) (rs : List Request) (r : Request) → ((r : Request) → (f r).id ≡ r.id) → row_of (λ r. r.id) id rs ≡ Some r → row_of (λ r. r.id) id (changed (λ r. r.id) of f rs) ≡ Some (if r.id == of then f r else r)
row_in id of f rs r keeps there = row_map (λ (r : Request). r.id) id (λ r. if r.id == of then f r else r) rs r (λ r. kept r (r.id == of)) there
  where
    kept : (r : Request) (b : Bool) → (cond {A = Request} b (f r) r).id ≡ r.id
    kept r true = keeps r
    kept r false = refl

is_waiting-parked : (r : Request) → is_waiting r ≡ true → r.state ≡ state.Parked
is_waiting-parked r e = by_state r.state (first _ _ e)
  where
    first : (a b : Bool) → (a && b) ≡ true → a ≡ true
    first a b e = grind arith

    by_state : (st : RequestState) → is_parked st ≡ true → st ≡ state.Parked
    by_state state.Reserved e = cc
    by_state state.Parked e = refl
    by_state (state.Granted t) e = cc
    by_state (state.Answered o) e = cc

some_same : {R : Type 0} {x y : R} → Some x ≡ Some y → x ≡ y
some_same e = grind arith

same_self : (i : ℕ) → i == i ≡ true
same_self i = grind (arith, nat_tests)

module _ (states : RequestState → Bool) (owner id : ℕ) (free : Open states) where
  -- where the row was parked, every state will do
  opened : (r : Request) (st : RequestState) → states r.state ≡ true → r.state ≡ state.Parked → states st ≡ true
  opened r st e parked = free (subst (λ (x : RequestState). states x ≡ true) parked e) st

  owns_map : (f : Request → Request) (rs : List Request) (r : Request) → ((r : Request) → (f r).id ≡ r.id) → row_of (λ r. r.id) id rs ≡ Some r → row_of (λ r. r.id) id (map f rs) ≡ Some (f r)
  owns_map f rs r keeps there = row_map (λ (r : Request). r.id) id f rs r keeps there

  aged_id : (now : ℕ) (r : Request) → (aged_request now r).id ≡ r.id
  aged_id now r = grind (arith, nat_tests)

  aged_caller : (now : ℕ) (r : Request) → (aged_request now r).caller ≡ r.caller
  aged_caller now r = grind (arith, nat_tests)

  aged_state : (now : ℕ) (r : Request) → states r.state ≡ true → states (aged_request now r).state ≡ true
  aged_state now r e = by_test (is_due_request now r) refl
    where
      first : (a b : Bool) → (a && b) ≡ true → a ≡ true
      first a b e = grind arith

      by_test : (b : Bool) → is_due_request now r ≡ b → states (aged_request now r).state ≡ true
      by_test true due = opened r (aged_request now r).state e (is_waiting-parked r (first _ _ due))
      by_test false due = rw due e

  read_id : (value : Tuple) (r : Request) → (read_by value r).id ≡ r.id
  read_id value r = grind (arith, nat_tests)

  read_caller : (value : Tuple) (r : Request) → (read_by value r).caller ≡ r.caller
  read_caller value r = grind (arith, nat_tests)

  read_state : (value : Tuple) (r : Request) → states r.state ≡ true → states (read_by value r).state ≡ true
  read_state value r e = by_test (is_read r.kind && (is_waiting r && matches r.pattern value)) refl
    where
      middle : (a b c : Bool) → (a && (b && c)) ≡ true → b ≡ true
      middle a b c e = grind arith

      by_test : (b : Bool) → (is_read r.kind && (is_waiting r && matches r.pattern value)) ≡ b → states (read_by value r).state ≡ true
      by_test true reads = opened r (read_by value r).state e (is_waiting-parked r (middle _ _ _ reads))
      by_test false reads = rw reads e

  shut_id : (r : Request) → (shut_request r).id ≡ r.id
  shut_id r = grind (arith, nat_tests)

  shut_caller : (r : Request) → (shut_request r).caller ≡ r.caller
  shut_caller r = grind (arith, nat_tests)

  shut_state : (r : Request) → states r.state ≡ true → states (shut_request r).state ≡ true
  shut_state r e = by_state r.state refl e
    where
      by_state : (st : RequestState) → r.state ≡ st → states st ≡ true → states (shut_request r).state ≡ true
      by_state state.Reserved is e = rw is e
      by_state state.Parked is e = rw is (free e (state.Answered out.Canceled))
      by_state (state.Granted t) is e = rw is e
      by_state (state.Answered o) is e = rw is e

  -- one row changed
  owns_changed : (of : ℕ) (f : Request → Request) (s : Plain) → ((r : Request) → (f r).id ≡ r.id) → ((r : Request) → (f r).caller ≡ r.caller) → ((r : Request) → request_at s id ≡ Some r → r.id ≡ of → states r.state ≡ true → states (f r).state ≡ true) → Owns states owner id s → Owns states owner id (record s { requests = changed (λ r. r.id) of f s.requests })
  owns_changed of f s ids callers fine h = by_test (h.row.id == of) refl
    where
      by_test : (b : Bool) → h.row.id == of ≡ b → Owns states owner id (record s { requests = changed (λ r. r.id) of f s.requests })
      by_test true e = record {
        row = f h.row;
        there = row_in id of f s.requests h.row ids h.there ∙ ap (λ (b : Bool). Some (cond {A = Request} b (f h.row) h.row)) e;
        own = callers h.row ∙ h.own;
        is = fine h.row h.there (grind (arith, nat_tests)) h.is;
      }
      by_test false e = record {
        row = h.row;
        there = row_in id of f s.requests h.row ids h.there ∙ ap (λ (b : Bool). Some (cond {A = Request} b (f h.row) h.row)) e;
        own = h.own;
        is = h.is;
      }

  -- a space with the same requests
  elsewhere : (s s' : Plain) → s'.requests ≡ s.requests → Owns states owner id s → Owns states owner id s'
  elsewhere s s' same h = record { row = h.row; there = ap (row_of (λ r. r.id) id) same ∙ h.there; own = h.own; is = h.is }

  owns_without : (of : ℕ) (s : Plain) → id ≢ of → Owns states owner id s → Owns states owner id (record s { requests = without (λ r. r.id) of s.requests })
  owns_without of s ne h = record { row = h.row; there = row_without (λ (r : Request). r.id) of id s.requests ne ∙ h.there; own = h.own; is = h.is }

  -- a row that is looked up by its own id, which is that one
  the_row : (s : Plain) (r q : Request) → request_at s r.id ≡ Some r → request_at s id ≡ Some q → q.id ≡ r.id → q ≡ r
  the_row s r q there here same =
      let e : id ≡ r.id = sym (row_has_id (λ (r : Request). r.id) id s.requests q here) ∙ same in
      some_same (sym here ∙ subst (λ (i : ℕ). request_at s i ≡ Some r) (sym e) there)

  module _ (caller : ℕ) (event : Event) (other : (caller == owner && is_of id event) ≡ false) where
    -- it isn't the owner's own turn
    not_own : (s : Plain) (r : Request) → request_at s r.id ≡ Some r → r.caller ≡ caller → is_of r.id event ≡ true → Owns states owner id s → id ≢ r.id
    not_own s r there mine of h same = absurd_by (caller == owner) (is_of id event) owner_is (subst (λ (i : ℕ). is_of i event ≡ true) (sym same) of) other
      where
        absurd_by : (a b : Bool) → a ≡ true → b ≡ true → (a && b) ≡ false → ⊥
        absurd_by a b x y z = grind arith

        row_is : h.row ≡ r
        row_is = some_same (sym h.there ∙ subst (λ (i : ℕ). request_at s i ≡ Some r) (sym same) there)

        owner_is : caller == owner ≡ true
        owner_is = equal caller owner (sym mine ∙ sym (ap (λ (r : Request). r.caller) row_is) ∙ h.own)
          where
            equal : (a b : ℕ) → a ≡ b → a == b ≡ true
            equal a b e = grind (arith, nat_tests)

    own_submit : (s : Plain) (r : Request) → request_at s r.id ≡ Some r → r.caller ≡ caller → event ≡ Submit r.id → Owns states owner id s → id ≢ r.id
    own_submit s r there mine e h = not_own s r there mine (rw e (same r.id)) h
      where
        same : (i : ℕ) → i == i ≡ true
        same i = grind (arith, nat_tests)

    -- a served row was parked
    served_fine : (s : Plain) (r : Request) (st : RequestState) → request_at s r.id ≡ Some r → Serves caller event r → Owns states owner id s → (q : Request) → request_at s id ≡ Some q → q.id ≡ r.id → states q.state ≡ true → states (in_state st q).state ≡ true
    served_fine s r st there (waits parked) h q here same e = opened q st e (ap (λ (r : Request). r.state) (the_row s r q there here same) ∙ parked)
    served_fine s r st there (submits res mine is) h q here same e = absurd (own_submit s r there mine is h (sym (row_has_id (λ (r : Request). r.id) id s.requests q here) ∙ same))

    answered_fine : (s : Plain) (r : Request) (o : Out) → request_at s r.id ≡ Some r → Answers caller event r o → Owns states owner id s → (q : Request) → request_at s id ≡ Some q → q.id ≡ r.id → states q.state ≡ true → states (in_state (state.Answered o) q).state ≡ true
    answered_fine s r o there (serves why v is) h q here same e = served_fine s r (state.Answered o) there why h q here same e
    answered_fine s r o there (cancels parked is out) h q here same e = opened q (state.Answered o) e (ap (λ (r : Request). r.state) (the_row s r q there here same) ∙ parked)

    settle_keeps : (ok : Bool) (o : Option Entry) (s : Plain) → (settle_tuple ok o s).requests ≡ s.requests
    settle_keeps ok None s = refl
    settle_keeps true (Some t) s = refl
    settle_keeps false (Some t) s = by_test t.marked
      where
        by_test : (b : Bool) → (cond {A = Plain} b (tuple_ended last.Canceled t s) (with_tuple t.id (λ t. record t { holder = None }) s)).requests ≡ s.requests
        by_test true = refl
        by_test false = refl

    pub owns_keeps : Keeps caller event (Owns states owner id)
    owns_keeps = record {
      advances = λ s at h. record { row = h.row; there = h.there; own = h.own; is = h.is };
      ages = λ s sound h. record { row = aged_request s.clock h.row; there = owns_map (aged_request s.clock) s.requests h.row (aged_id s.clock) h.there; own = aged_caller s.clock h.row ∙ h.own; is = aged_state s.clock h.row h.is };
      writes = λ s value lease unshut h. record { row = h.row; there = h.there; own = h.own; is = h.is };
      writes_over = λ s value lease unshut h. record { row = read_by value h.row; there = owns_map (read_by value) s.requests h.row (read_id value) h.there; own = read_caller value h.row ∙ h.own; is = read_state value h.row h.is };
      reserves = λ s k pattern lease unshut h. record { row = h.row; there = row_append (λ (r : Request). r.id) id s.requests (new_request s caller k pattern lease ∷ []) h.row h.there; own = h.own; is = h.is };
      notifies = λ s e pattern lease unshut h. record { row = h.row; there = h.there; own = h.own; is = h.is };
      tuple_leaves = λ l t s here isfree h. record { row = h.row; there = h.there; own = h.own; is = h.is };
      tuple_leases = λ i f s k h. record { row = h.row; there = h.there; own = h.own; is = h.is };
      tuple_marks = λ t holder s here isheld h. record { row = h.row; there = h.there; own = h.own; is = h.is };
      request_leases = λ r f s there k may h. owns_changed r.id f s k.id k.caller (λ q here same e. subst (λ (st : RequestState). states st ≡ true) (sym (k.state q)) e) h;
      request_asks = λ i s h. owns_changed i (λ r. record r { doubt = asked_doubt r.doubt }) s (λ r. refl) (λ r. refl) (λ q here same e. e) h;
      request_marks = λ r s there is e h. owns_changed r.id (λ r. record r { marked = true }) s (λ r. refl) (λ r. refl) (λ q here same e. e) h;
      request_parks = λ r s there res unmarked mine is h. owns_changed r.id (in_state state.Parked) s (λ r. refl) (λ r. refl) (λ q here same e. absurd (own_submit s r there mine is h (sym (row_has_id (λ (r : Request). r.id) id s.requests q here) ∙ same))) h;
      request_answers = λ r o s there why h. owns_changed r.id (in_state (state.Answered o)) s (λ r. refl) (λ r. refl) (answered_fine s r o there why h) h;
      request_ends = λ l r s there none mine of h. elsewhere (record s { requests = without (λ r. r.id) r.id s.requests }) _ refl (owns_without r.id s (not_own s r there mine of h) h);
      grants = λ r t s there here isfree why h. elsewhere (record s { requests = changed (λ r. r.id) r.id (in_state (state.Granted t.id)) s.requests }) _ refl (owns_changed r.id (in_state (state.Granted t.id)) s (λ r. refl) (λ r. refl) (served_fine s r (state.Granted t.id) there why h) h);
      settles = λ r tuple ok s there is mine e h. record {
        row = h.row;
        there = rw (settle_keeps ok (tuple_at s tuple) s) (row_without (λ (r : Request). r.id) r.id id s.requests (not_own s r there mine (rw e (same_self r.id)) h) ∙ h.there);
        own = h.own;
        is = h.is;
      };
      notifier_changes = λ i f s k h. record { row = h.row; there = h.there; own = h.own; is = h.is };
      notifier_ends = λ l n s h. record { row = h.row; there = h.there; own = h.own; is = h.is };
      shuts = λ s unshut is h. record {
        row = shut_request h.row;
        there = owns_map shut_request s.requests h.row shut_id h.there;
        own = shut_caller h.row ∙ h.own;
        is = shut_state h.row h.is;
      };
    }
