-- Ids rise and were minted, and each held tuple is granted to its holder: each way in which a turn changes the space
-- keeps this.
use Rattle.std.proofs.Common.{◌≡◌, ◌≢◌, ℕ, ◌+◌, Bool, true, false, cond, not, ◌&&◌, List, [], ◌∷◌, map, length, Option, Some, None, refl, sym, ◌∙◌, ap, subst, arith}
use Rattle.std.specs.Prelude.{◌==◌, filter, if◌then◌else◌, nat_lt}
use Rattle.std.specs.List.{list_all}
use Rattle.std.proofs.lemmas.Bool.Decides.{nat_tests}
use Rattle.rinda_tuple.specs.declared.tuple.Tuple.{Tuple}
use Rattle.rinda_rules.specs.declared.object.Last.{Last}
use Rattle.rinda_rules.specs.declared.object.Last.TheVariants as last
use Rattle.rinda_rules.specs.declared.event.Kind.TheVariants as kind
use Rattle.rinda_rules.specs.declared.event.Event.{Event}
use Rattle.rinda_rules.specs.declared.out.Out.{Out}
use Rattle.rinda_rules.specs.declared.out.Out.TheVariants as out
use Rattle.rinda_rules.specs.declared.row.RequestState.{RequestState}
use Rattle.rinda_rules.specs.declared.row.RequestState.TheVariants as state
use Rattle.rinda_rules.specs.declared.plain.Entry.{Entry}
use Rattle.rinda_rules.specs.declared.plain.Request.{Request}
use Rattle.rinda_rules.specs.declared.plain.Notifier.{Notifier}
use Rattle.rinda_rules.specs.Rows.{row_of, changed, without}
use Rattle.rinda_rules.specs.Space.{Plain, opening, tuple_at, request_at}
use Rattle.rinda_rules.specs.Phases.{with_tuple, with_request, tuple_ended, request_ended, in_state, request_in, held_by, served_as}
use Rattle.rinda_rules.specs.AtOnce.{aged_tuple, aged_request, aged_notifier, expires, aged_at_once}
use Rattle.rinda_rules.specs.Cases.{shut_request, shut_notifier, new_tuple, new_request, new_notifier, read_by, asked_doubt, settle_tuple}
use Rattle.rinda_rules.specs.Sound.{Numbered}
use Rattle.rinda_rules.specs.Settled.{grants, is_granted, is_kept, each_kept}
use Rattle.rinda_rules.proofs.Lists.{all_imp, all_map, all_filter, all_filter_imp, all_at, all_changed, all_changed_other, all_without_row, all_append, row_has_id, row_without, row_changed_here, numbered-map, numbered-filter, numbered-changed, numbered-more, numbered-push}
use Rattle.rinda_rules.proofs.Kept.{kept_by_grants, grants-map, grants-changed, grants-without, grants-append}
use Rattle.rinda_rules.proofs.Ways.{Keeps, LeasesTuple, LeasesRequest, Serves, waits, submits, Answers, serves, cancels}

pub record Ranked (s : Plain) : Type 0 where
  pub numbered : Numbered s
  pub kept : each_kept s ≡ true

pub ranked_opening : Ranked opening
ranked_opening = record { numbered = record { next = refl; tuples = refl; requests = refl; notifiers = refl }; kept = refl }

-- Aging.

aged_tuple_id : (now : ℕ) (t : Entry) → (aged_tuple now t).id ≡ t.id
aged_tuple_id now t = grind (arith, nat_tests)

aged_request_id : (now : ℕ) (r : Request) → (aged_request now r).id ≡ r.id
aged_request_id now r = grind (arith, nat_tests)

aged_notifier_id : (s : Plain) (n : Notifier) → (aged_notifier s n).id ≡ n.id
aged_notifier_id s n = grind (arith, nat_tests)

aged_request_grants : (now : ℕ) (r : Request) (t : ℕ) → grants t r.state ≡ true → grants t (aged_request now r).state ≡ true
aged_request_grants now r t e = grind (arith, nat_tests)

aged_tuple_kept : (now : ℕ) (rs : List Request) (t : Entry) → is_kept rs t t.holder ≡ true → is_kept rs (aged_tuple now t) (aged_tuple now t).holder ≡ true
aged_tuple_kept now rs t e = grind (arith, nat_tests)

pub each_kept-aged : (s : Plain) → each_kept s ≡ true → each_kept (aged_at_once s) ≡ true
each_kept-aged s e =
    let rs : List Request = map (aged_request s.clock) s.requests in
    let ts : List Entry = filter (λ t. not (expires s.clock t)) s.tuples in
    let grown : list_all (λ t. is_kept rs t t.holder) s.tuples ≡ true = kept_by_grants s.requests rs s.tuples (grants-map (aged_request s.clock) s.requests (aged_request_id s.clock) (aged_request_grants s.clock)) e in
    all_map (λ t. is_kept rs t t.holder) (aged_tuple s.clock) ts
    ∙ all_imp (λ t. is_kept rs t t.holder) (λ t. is_kept rs (aged_tuple s.clock t) (aged_tuple s.clock t).holder) (aged_tuple_kept s.clock rs) ts
    (all_filter (λ t. is_kept rs t t.holder) (λ t. not (expires s.clock t)) s.tuples grown)

pub numbered-aged : (s : Plain) → Numbered s → Numbered (aged_at_once s)
numbered-aged s h = record {
  next = h.next;
  tuples = numbered-map (λ t. t.id) s.next (aged_tuple s.clock) (filter (λ t. not (expires s.clock t)) s.tuples) (aged_tuple_id s.clock) (numbered-filter (λ t. t.id) s.next (λ t. not (expires s.clock t)) s.tuples h.tuples);
  requests = numbered-map (λ r. r.id) s.next (aged_request s.clock) s.requests (aged_request_id s.clock) h.requests;
  notifiers = numbered-map (λ n. n.id) s.next (aged_notifier s) s.notifiers (aged_notifier_id s) h.notifiers;
}

-- Requests.

above_zero : (n : ℕ) → nat_lt 0 n ≡ true → nat_lt 0 (n + 1) ≡ true
above_zero n e = grind (arith, nat_tests)

none_granted : (rs : List Request) (r : Request) → row_of (λ r. r.id) r.id rs ≡ Some r → ((t : ℕ) → grants t r.state ≡ false) → (t : ℕ) → is_granted t (row_of (λ r. r.id) r.id rs) ≡ false
none_granted rs r there none t = rw there (none t)

none_by : (st st' : RequestState) → st ≡ st' → ((t : ℕ) → grants t st' ≡ false) → (t : ℕ) → grants t st ≡ false
none_by st st' e none t = rw e (none t)

none_not : (st : RequestState) → ((t : ℕ) → st ≢ state.Granted t) → (t : ℕ) → grants t st ≡ false
none_not state.Reserved ne t = refl
none_not state.Parked ne t = refl
none_not (state.Granted u) ne t = absurd (ne u refl)
none_not (state.Answered o) ne t = refl

none_served : (caller : ℕ) (event : Event) (r : Request) → Serves caller event r → (t : ℕ) → grants t r.state ≡ false
none_served caller event r (waits e) t = none_by _ _ e (λ t. refl) t
none_served caller event r (submits e own is) t = none_by _ _ e (λ t. refl) t

none_answers : (caller : ℕ) (event : Event) (r : Request) (o : Out) → Answers caller event r o → (t : ℕ) → grants t r.state ≡ false
none_answers caller event r o (serves why v is) t = none_served caller event r why t
none_answers caller event r o (cancels e is out) t = none_by _ _ e (λ t. refl) t

ranked-request_in : (s : Plain) (r : Request) (st : RequestState) → request_at s r.id ≡ Some r → ((t : ℕ) → grants t r.state ≡ false) → Ranked s → Ranked (request_in r.id st s)
ranked-request_in s r st there none h = record {
  numbered = record { next = h.numbered.next; tuples = h.numbered.tuples; requests = numbered-changed (λ r. r.id) s.next r.id (in_state st) s.requests (λ _. refl) h.numbered.requests; notifiers = h.numbered.notifiers };
  kept = kept_by_grants s.requests _ s.tuples (grants-changed r.id (in_state st) s.requests (λ _. refl) (none_granted s.requests r there none)) h.kept;
}

in_state_here : (s : Plain) (r : Request) (st : RequestState) → request_at s r.id ≡ Some r → request_at (request_in r.id st s) r.id ≡ Some (in_state st r)
in_state_here s r st there = row_changed_here (λ (r : Request). r.id) r.id (in_state st) s.requests r (λ _. refl) there

held_granted : (rs : List Request) (id request : ℕ) → is_granted id (row_of (λ r. r.id) request rs) ≡ true → (x : Entry) → x.id ≡ id → is_kept rs (held_by request x) (held_by request x).holder ≡ true
held_granted rs id request e x same = rw same e

kept_held : (rs : List Request) (id request : ℕ) → is_granted id (row_of (λ r. r.id) request rs) ≡ true → (ts : List Entry) → list_all (λ t. is_kept rs t t.holder) ts ≡ true → list_all (λ t. is_kept rs t t.holder) (changed (λ t. t.id) id (held_by request) ts) ≡ true
kept_held rs id request granted [] e = refl
kept_held rs id request granted (x ∷ xs) e = grind (arith, nat_tests, kept_held rs id request granted xs, held_granted rs id request granted x)

ranked-grants : (caller : ℕ) (event : Event) (r : Request) (t : Entry) (s : Plain) → request_at s r.id ≡ Some r → Serves caller event r → Ranked s → Ranked (served_as kind.Move r t s)
ranked-grants caller event r t s there why h =
    let granted : Ranked (request_in r.id (state.Granted t.id) s) = ranked-request_in s r (state.Granted t.id) there (none_served caller event r why) h in
    record {
      numbered = record { next = h.numbered.next; tuples = numbered-changed (λ t. t.id) s.next t.id (held_by r.id) s.tuples (λ _. refl) h.numbered.tuples; requests = granted.numbered.requests; notifiers = h.numbered.notifiers };
      kept = kept_held (changed (λ r. r.id) r.id (in_state (state.Granted t.id)) s.requests) t.id r.id (rw (in_state_here s r (state.Granted t.id) there) (grind (arith, nat_tests))) s.tuples granted.kept;
    }

-- Settle.

rises : (a b : Bool) → (a && b) ≡ true → a ≡ true
rises a b e = grind arith

-- a tuple that isn't the granted one is held by another request
other_kept : (rs : List Request) (r : Request) (tuple : ℕ) → row_of (λ r. r.id) r.id rs ≡ Some r → r.state ≡ state.Granted tuple → (x : Entry) (h : Option ℕ) → x.id ≢ tuple → is_kept rs x h ≡ true → is_kept (without (λ r. r.id) r.id rs) x h ≡ true
other_kept rs r tuple there is x None ne e = e
other_kept rs r tuple there is x (Some h) ne e = grind (arith, nat_tests, row_without (λ (r : Request). r.id) r.id h rs, granted_here x.id)
  where
    granted_here : (t : ℕ) → is_granted t (row_of (λ r. r.id) r.id rs) ≡ (tuple == t)
    granted_here t = rw (there, is) refl

not_same : (a b : ℕ) → not (a == b) ≡ true → a ≢ b
not_same a b e same = grind (arith, nat_tests)

ranked-ends : (l : Last) (t : Entry) (r : Request) (s : Plain) → request_at s r.id ≡ Some r → r.state ≡ state.Granted t.id → Ranked s → Ranked (request_ended last.Done r.id (tuple_ended l t s))
ranked-ends l t r s there is h = record {
  numbered = record {
    next = h.numbered.next;
    tuples = numbered-filter (λ t. t.id) s.next (λ x. not (x.id == t.id)) s.tuples h.numbered.tuples;
    requests = numbered-filter (λ x. x.id) s.next (λ x. not (x.id == r.id)) s.requests h.numbered.requests;
    notifiers = h.numbered.notifiers;
  };
  kept = all_filter_imp (λ t. is_kept s.requests t t.holder) (λ t. is_kept (without (λ r. r.id) r.id s.requests) t t.holder) (λ x. not (x.id == t.id)) (λ x ne e. other_kept s.requests r t.id there is x x.holder (not_same x.id t.id ne) e) s.tuples h.kept;
}

ranked-frees : (t : Entry) (r : Request) (s : Plain) → request_at s r.id ≡ Some r → r.state ≡ state.Granted t.id → tuple_at s t.id ≡ Some t → t.marked ≡ false → Ranked s → Ranked (request_ended last.Done r.id (with_tuple t.id (λ t. record t { holder = None }) s))
ranked-frees t r s there is here e h = record {
  numbered = record {
    next = h.numbered.next;
    tuples = numbered-changed (λ t. t.id) s.next t.id (λ t. record t { holder = None }) s.tuples (λ _. refl) h.numbered.tuples;
    requests = numbered-filter (λ x. x.id) s.next (λ x. not (x.id == r.id)) s.requests h.numbered.requests;
    notifiers = h.numbered.notifiers;
  };
  kept = all_changed_other (λ t. is_kept s.requests t t.holder) (λ t. is_kept (without (λ r. r.id) r.id s.requests) t t.holder) (λ t. t.id) t.id (λ t. record t { holder = None }) s.tuples t (rises _ _ h.numbered.tuples) here (ap not e) (λ x ne e. other_kept s.requests r t.id there is x x.holder ne e) h.kept;
}

ranked-settles : (r : Request) (tuple : ℕ) (ok : Bool) (s : Plain) → request_at s r.id ≡ Some r → r.state ≡ state.Granted tuple → Ranked s → Ranked (request_ended last.Done r.id (settle_tuple ok (tuple_at s tuple) s))
ranked-settles r tuple ok s there is h = by_row ok (tuple_at s tuple) refl
  where
    by_mark : (t : Entry) (b : Bool) → t.marked ≡ b → r.state ≡ state.Granted t.id → tuple_at s t.id ≡ Some t → Ranked (request_ended last.Done r.id (cond {A = Plain} b (tuple_ended last.Canceled t s) (with_tuple t.id (λ t. record t { holder = None }) s)))
    by_mark t true e is here = ranked-ends last.Canceled t r s there is h
    by_mark t false e is here = ranked-frees t r s there is here e h

    by_row : (ok : Bool) (o : Option Entry) → tuple_at s tuple ≡ o → Ranked (request_ended last.Done r.id (settle_tuple ok o s))
    by_row ok None here = record {
      numbered = record { next = h.numbered.next; tuples = h.numbered.tuples; requests = numbered-filter (λ x. x.id) s.next (λ x. not (x.id == r.id)) s.requests h.numbered.requests; notifiers = h.numbered.notifiers };
      kept = all_without_row (λ t. is_kept s.requests t t.holder) (λ t. is_kept (without (λ r. r.id) r.id s.requests) t t.holder) (λ t. t.id) tuple s.tuples here (λ x ne e. other_kept s.requests r tuple there is x x.holder ne e) h.kept;
    }
    by_row true (Some t) here = ranked-ends last.Taken t r s there (is ∙ ap state.Granted (sym (row_has_id (λ (t : Entry). t.id) tuple s.tuples t here))) h
    by_row false (Some t) here =
        let same : t.id ≡ tuple = row_has_id (λ (t : Entry). t.id) tuple s.tuples t here in
        by_mark t t.marked refl (is ∙ ap state.Granted (sym same)) (subst (λ (id : ℕ). tuple_at s id ≡ Some t) (sym same) here)

-- Writes and leases.

read_id : (value : Tuple) (r : Request) → (read_by value r).id ≡ r.id
read_id value r = grind (arith, nat_tests)

read_grants : (value : Tuple) (r : Request) (t : ℕ) → grants t r.state ≡ true → grants t (read_by value r).state ≡ true
read_grants value r t e = grind (arith, nat_tests)

leased_kept : (f : Entry → Entry) → LeasesTuple f → (rs : List Request) (t : Entry) → is_kept rs t t.holder ≡ true → is_kept rs (f t) (f t).holder ≡ true
leased_kept f k rs t e = rw (k.holder t) (by_holder t.holder e)
  where
    by_holder : (o : Option ℕ) → is_kept rs t o ≡ true → is_kept rs (f t) o ≡ true
    by_holder None e = rw (k.marked t) e
    by_holder (Some h) e = rw (k.id t) e

leased_grants : (id : ℕ) (f : Request → Request) → LeasesRequest f → (r : Request) (t : ℕ) → grants t r.state ≡ true → grants t (if r.id == id then f r else r).state ≡ true
leased_grants id f k r t e = by_test (r.id == id)
  where
    by_test : (b : Bool) → grants t (cond {A = Request} b (f r) r).state ≡ true
    by_test true = rw (k.state r) e
    by_test false = e

leased_id : (id : ℕ) (f : Request → Request) → LeasesRequest f → (r : Request) → (if r.id == id then f r else r).id ≡ r.id
leased_id id f k r = by_test (r.id == id)
  where
    by_test : (b : Bool) → (cond {A = Request} b (f r) r).id ≡ r.id
    by_test true = k.id r
    by_test false = refl

ranked-leases : (id : ℕ) (f : Request → Request) (s : Plain) → LeasesRequest f → Ranked s → Ranked (with_request id f s)
ranked-leases id f s k h = record {
  numbered = record { next = h.numbered.next; tuples = h.numbered.tuples; requests = numbered-changed (λ r. r.id) s.next id f s.requests k.id h.numbered.requests; notifiers = h.numbered.notifiers };
  kept = kept_by_grants s.requests (changed (λ r. r.id) id f s.requests) s.tuples (grants-map (λ r. if r.id == id then f r else r) s.requests (leased_id id f k) (leased_grants id f k)) h.kept;
}

marked_kept : (rs : List Request) (t : Entry) (o : Option ℕ) (h : ℕ) → o ≡ Some h → is_kept rs t o ≡ true → is_kept rs (record t { marked = true }) o ≡ true
marked_kept rs t None h is e = cc
marked_kept rs t (Some h) h' is e = e

-- Shut.

shut_id : (r : Request) → (shut_request r).id ≡ r.id
shut_id r = grind (arith, nat_tests)

shut_notifier_id : (until : ℕ) (n : Notifier) → (shut_notifier until n).id ≡ n.id
shut_notifier_id until n = grind (arith, nat_tests)

shut_grants : (r : Request) (t : ℕ) → grants t r.state ≡ true → grants t (shut_request r).state ≡ true
shut_grants r t e = grind (arith, nat_tests)

pub ranked_keeps : (caller : ℕ) (event : Event) → Keeps caller event Ranked
ranked_keeps caller event = record {
  advances = λ s at h. record { numbered = record { next = h.numbered.next; tuples = h.numbered.tuples; requests = h.numbered.requests; notifiers = h.numbered.notifiers }; kept = h.kept };
  ages = λ s sound h. record { numbered = numbered-aged s h.numbered; kept = each_kept-aged s h.kept };
  writes = λ s value lease unshut h. record {
    numbered = record { next = above_zero s.next h.numbered.next; tuples = numbered-push (λ t. t.id) s.next (new_tuple s value lease) s.tuples refl h.numbered.tuples; requests = numbered-more (λ r. r.id) s.next s.requests h.numbered.requests; notifiers = numbered-more (λ n. n.id) s.next s.notifiers h.numbered.notifiers };
    kept = all_append (λ t. is_kept s.requests t t.holder) s.tuples (new_tuple s value lease ∷ []) h.kept refl;
  };
  writes_over = λ s value lease unshut h. record {
    numbered = record { next = above_zero s.next h.numbered.next; tuples = numbered-more (λ t. t.id) s.next s.tuples h.numbered.tuples; requests = numbered-map (λ r. r.id) (s.next + 1) (read_by value) s.requests (read_id value) (numbered-more (λ r. r.id) s.next s.requests h.numbered.requests); notifiers = numbered-more (λ n. n.id) s.next s.notifiers h.numbered.notifiers };
    kept = kept_by_grants s.requests (map (read_by value) s.requests) s.tuples (grants-map (read_by value) s.requests (read_id value) (read_grants value)) h.kept;
  };
  reserves = λ s k pattern lease unshut h. record {
    numbered = record { next = above_zero s.next h.numbered.next; tuples = numbered-more (λ t. t.id) s.next s.tuples h.numbered.tuples; requests = numbered-push (λ r. r.id) s.next (new_request s caller k pattern lease) s.requests refl h.numbered.requests; notifiers = numbered-more (λ n. n.id) s.next s.notifiers h.numbered.notifiers };
    kept = kept_by_grants s.requests _ s.tuples (grants-append s.requests (new_request s caller k pattern lease ∷ [])) h.kept;
  };
  notifies = λ s e pattern lease unshut h. record {
    numbered = record { next = above_zero s.next h.numbered.next; tuples = numbered-more (λ t. t.id) s.next s.tuples h.numbered.tuples; requests = numbered-more (λ r. r.id) s.next s.requests h.numbered.requests; notifiers = numbered-push (λ n. n.id) s.next (new_notifier s e pattern lease) s.notifiers refl h.numbered.notifiers };
    kept = h.kept;
  };
  tuple_leaves = λ l t s here free h. record {
    numbered = record { next = h.numbered.next; tuples = numbered-filter (λ t. t.id) s.next (λ x. not (x.id == t.id)) s.tuples h.numbered.tuples; requests = h.numbered.requests; notifiers = h.numbered.notifiers };
    kept = all_filter (λ t. is_kept s.requests t t.holder) (λ x. not (x.id == t.id)) s.tuples h.kept;
  };
  tuple_leases = λ id f s k h. record {
    numbered = record { next = h.numbered.next; tuples = numbered-changed (λ t. t.id) s.next id f s.tuples k.id h.numbered.tuples; requests = h.numbered.requests; notifiers = h.numbered.notifiers };
    kept = all_changed (λ t. is_kept s.requests t t.holder) (λ t. t.id) id f s.tuples (leased_kept f k s.requests) h.kept;
  };
  tuple_marks = λ t holder s here is h. record {
    numbered = record { next = h.numbered.next; tuples = numbered-changed (λ t. t.id) s.next t.id (λ t. record t { marked = true }) s.tuples (λ _. refl) h.numbered.tuples; requests = h.numbered.requests; notifiers = h.numbered.notifiers };
    kept = all_changed_other (λ t. is_kept s.requests t t.holder) (λ t. is_kept s.requests t t.holder) (λ t. t.id) t.id (λ t. record t { marked = true }) s.tuples t (rises _ _ h.numbered.tuples) here (marked_kept s.requests t t.holder holder is (all_at (λ t. is_kept s.requests t t.holder) (λ t. t.id) t.id s.tuples t here h.kept)) (λ x ne e. e) h.kept;
  };
  request_leases = λ r f s there k may h. ranked-leases r.id f s k h;
  request_asks = λ id s h. ranked-leases id (λ r. record r { doubt = asked_doubt r.doubt }) s (record { id = λ r. refl; caller = λ r. refl; kind = λ r. refl; pattern = λ r. refl; marked = λ r. refl; state = λ r. refl }) h;
  request_marks = λ r s there is e h. record {
    numbered = record { next = h.numbered.next; tuples = h.numbered.tuples; requests = numbered-changed (λ r. r.id) s.next r.id (λ r. record r { marked = true }) s.requests (λ _. refl) h.numbered.requests; notifiers = h.numbered.notifiers };
    kept = kept_by_grants s.requests _ s.tuples (grants-changed r.id (λ r. record r { marked = true }) s.requests (λ _. refl) (none_granted s.requests r there (none_by _ _ is (λ t. refl)))) h.kept;
  };
  request_parks = λ r s there is unmarked own e h. ranked-request_in s r state.Parked there (none_by _ _ is (λ t. refl)) h;
  request_answers = λ r o s there why h. ranked-request_in s r (state.Answered o) there (none_answers caller event r o why) h;
  request_ends = λ l r s there none own of h. record {
    numbered = record { next = h.numbered.next; tuples = h.numbered.tuples; requests = numbered-filter (λ x. x.id) s.next (λ x. not (x.id == r.id)) s.requests h.numbered.requests; notifiers = h.numbered.notifiers };
    kept = kept_by_grants s.requests _ s.tuples (grants-without r.id s.requests (none_granted s.requests r there (none_not r.state none))) h.kept;
  };
  grants = λ r t s there here free why h. ranked-grants caller event r t s there why h;
  settles = λ r tuple ok s there is own e h. ranked-settles r tuple ok s there is h;
  notifier_changes = λ id f s k h. record {
    numbered = record { next = h.numbered.next; tuples = h.numbered.tuples; requests = h.numbered.requests; notifiers = numbered-changed (λ n. n.id) s.next id f s.notifiers k.id h.numbered.notifiers };
    kept = h.kept;
  };
  notifier_ends = λ l n s h. record {
    numbered = record { next = h.numbered.next; tuples = h.numbered.tuples; requests = h.numbered.requests; notifiers = numbered-filter (λ x. x.id) s.next (λ x. not (x.id == n.id)) s.notifiers h.numbered.notifiers };
    kept = h.kept;
  };
  shuts = λ s unshut is h. record {
    numbered = record { next = h.numbered.next; tuples = h.numbered.tuples; requests = numbered-map (λ r. r.id) s.next shut_request s.requests shut_id h.numbered.requests; notifiers = numbered-map (λ n. n.id) s.next (shut_notifier (length s.events)) s.notifiers (shut_notifier_id (length s.events)) h.numbered.notifiers };
    kept = kept_by_grants s.requests (map shut_request s.requests) s.tuples (grants-map shut_request s.requests shut_id shut_grants) h.kept;
  };
}

pub ranked_expires : (r : Request) (s : Plain) → request_at s r.id ≡ Some r → r.state ≡ state.Parked → Ranked s → Ranked (request_in r.id (state.Answered out.Expired) s)
ranked_expires r s there is h = ranked-request_in s r (state.Answered out.Expired) there (none_by _ _ is (λ t. refl)) h
