-- No id names two objects: each way in which a turn changes the space keeps this.
use Rattle.std.proofs.Common.{◌≡◌, ℕ, ◌+◌, ◌≤◌, Bool, true, false, cond, List, [], ◌∷◌, ◌++◌, length, Option, Some, None, refl, sym, subst, arith}
use Rattle.std.specs.Prelude.{◌==◌, nat_lt, nat_le}
use Rattle.std.proofs.lemmas.Bool.Decides.{nat_tests}
use Rattle.rinda_tuple.specs.declared.tuple.Tuple.{Tuple}
use Rattle.rinda_rules.specs.declared.object.ObjectKind.TheVariants as object
use Rattle.rinda_rules.specs.declared.object.Last.{Last}
use Rattle.rinda_rules.specs.declared.object.Last.TheVariants as last
use Rattle.rinda_rules.specs.declared.event.Event.{Event}
use Rattle.rinda_rules.specs.declared.out.Out.TheVariants as out
use Rattle.rinda_rules.specs.declared.row.RequestState.{RequestState}
use Rattle.rinda_rules.specs.declared.row.RequestState.TheVariants as state
use Rattle.rinda_rules.specs.declared.plain.Entry.{Entry}
use Rattle.rinda_rules.specs.declared.plain.Request.{Request}
use Rattle.rinda_rules.specs.declared.plain.Notifier.{Notifier}
use Rattle.rinda_rules.specs.declared.plain.Ended.{Ended}
use Rattle.rinda_rules.specs.Space.{Plain, tuple_at, request_at}
use Rattle.rinda_rules.specs.Phases.{with_tuple, request_in, in_state, tuple_ended, request_ended, notifier_ended, held_by}
use Rattle.rinda_rules.specs.Cases.{minted, written, written_over, shut_down, new_tuple, new_request, new_notifier, read_by, asked_doubt, settle_tuple, shut_request, shut_notifier}
use Rattle.rinda_rules.specs.Sound.{Apart, named, objects}
use Rattle.rinda_rules.proofs.Lists.{row_has_id}
use Rattle.rinda_rules.proofs.Ways.{with_new_request, with_new_notifier, Ways}
use Rattle.rinda_rules.proofs.Named.{one_at, named_map, named_changed, named_push, named_leaves, named_ended, retained_few}

-- the ids are apart, and few objects that ended are kept
pub record Parted (s : Plain) : Type 0 where
  pub next : nat_lt 0 s.next ≡ true
  pub apart : Apart s
  pub few : length s.ended ≤ 4096

-- no more objects have an id
pub fewer : (s s' : Plain) → s'.next ≡ s.next → ((id : ℕ) → objects s' id ≤ objects s id) → length s'.ended ≤ 4096 → Parted s → Parted s'
fewer s s' same less few h = record {
  next = rw same h.next;
  apart = record {
    once = λ id. at_most (less id) (h.apart.once id);
    minted = λ id e. none (less id) (h.apart.minted id (subst (λ (n : ℕ). nat_le n id ≡ true) same e));
    zero = none (less 0) h.apart.zero;
  };
  few = few;
}
  where
    at_most : {a b : ℕ} → a ≤ b → b ≤ 1 → a ≤ 1
    at_most p q = omega arith

    none : {a b : ℕ} → a ≤ b → b ≡ 0 → a ≡ 0
    none p q = omega arith

-- the next id names one more
minted_one : (s s' : Plain) → s'.next ≡ s.next + 1 → ((id : ℕ) → objects s' id ≤ objects s id + one_at s.next id) → length s'.ended ≤ 4096 → Parted s → Parted s'
minted_one s s' same less few h = record {
  next = rw same (grind (arith, nat_tests));
  apart = record {
    once = λ id. by_test id (s.next == id) refl;
    minted = λ id e. none id (subst (λ (n : ℕ). nat_le n id ≡ true) same e);
    zero = first s.next h.next (less 0) h.apart.zero;
  };
  few = few;
}
  where
    by_test : (id : ℕ) (b : Bool) → s.next == id ≡ b → objects s' id ≤ 1
    by_test id true e = here s.next id (less id) (h.apart.minted id (minted_here s.next id e)) e
      where
        minted_here : (n id : ℕ) → n == id ≡ true → nat_le n id ≡ true
        minted_here n id e = grind (arith, nat_tests)

        here : {a b : ℕ} (n id : ℕ) → a ≤ b + one_at n id → b ≡ 0 → n == id ≡ true → a ≤ 1
        here n id p q e = grind (arith, nat_tests)
    by_test id false e = other s.next id (less id) (h.apart.once id) e
      where
        other : {a b : ℕ} (n id : ℕ) → a ≤ b + one_at n id → b ≤ 1 → n == id ≡ false → a ≤ 1
        other n id p q e = grind (arith, nat_tests)

    none : (id : ℕ) → nat_le (s.next + 1) id ≡ true → objects s' id ≡ 0
    none id e = past s.next id (less id) (h.apart.minted id (later s.next id e)) e
      where
        later : (n id : ℕ) → nat_le (n + 1) id ≡ true → nat_le n id ≡ true
        later n id e = grind (arith, nat_tests)

        past : {a b : ℕ} (n id : ℕ) → a ≤ b + one_at n id → b ≡ 0 → nat_le (n + 1) id ≡ true → a ≡ 0
        past n id p q e = grind (arith, nat_tests)

    first : {a b : ℕ} (n : ℕ) → nat_lt 0 n ≡ true → a ≤ b + one_at n 0 → b ≡ 0 → a ≡ 0
    first n e p q = grind (arith, nat_tests)

-- What changes how many rows have an id.

abbrev tuple_end : ℕ → Last → Ended
tuple_end id l = record { id = id; kind = object.Entry; last = l }

abbrev request_end : ℕ → Last → Ended
request_end id l = record { id = id; kind = object.Request; last = l }

abbrev notifier_end : ℕ → Last → Ended
notifier_end id l = record { id = id; kind = object.Notifier; last = l }

read_id : (value : Tuple) (r : Request) → (read_by value r).id ≡ r.id
read_id value r = grind (arith, nat_tests)

shut_id : (r : Request) → (shut_request r).id ≡ r.id
shut_id r = grind (arith, nat_tests)

shut_notifier_id : (until : ℕ) (n : Notifier) → (shut_notifier until n).id ≡ n.id
shut_notifier_id until n = grind (arith, nat_tests)

pub same_tuples : (s : Plain) (ts : List Entry) → ((id : ℕ) → named (λ t. t.id) id ts ≡ named (λ t. t.id) id s.tuples) → Parted s → Parted (record s { tuples = ts })
same_tuples s ts same h = fewer s (record s { tuples = ts }) refl (λ id. omega (arith, same id)) h.few h

same_requests : (s : Plain) (rs : List Request) → ((id : ℕ) → named (λ r. r.id) id rs ≡ named (λ r. r.id) id s.requests) → Parted s → Parted (record s { requests = rs })
same_requests s rs same h = fewer s (record s { requests = rs }) refl (λ id. omega (arith, same id)) h.few h

same_notifiers : (s : Plain) (xs : List Notifier) → ((id : ℕ) → named (λ n. n.id) id xs ≡ named (λ n. n.id) id s.notifiers) → Parted s → Parted (record s { notifiers = xs })
same_notifiers s xs same h = fewer s (record s { notifiers = xs }) refl (λ id. omega (arith, same id)) h.few h

state_parts : (s : Plain) (id : ℕ) (st : RequestState) → Parted s → Parted (request_in id st s)
state_parts s q st h = same_requests s _ (λ id. named_changed (λ (r : Request). r.id) id q (in_state st) s.requests (λ _. refl)) h

pub tuple_leaves_parts : (l : Last) (t : Entry) (s : Plain) → tuple_at s t.id ≡ Some t → Parted s → Parted (tuple_ended l t s)
tuple_leaves_parts l t s there h = fewer s (tuple_ended l t s) refl (λ id. omega (arith, named_leaves (λ (t : Entry). t.id) id t.id s.tuples t there, named_ended id s.ended (tuple_end t.id l))) (retained_few (s.ended ++ tuple_end t.id l ∷ [])) h

pub request_ends_parts : (l : Last) (r : Request) (s : Plain) → request_at s r.id ≡ Some r → Parted s → Parted (request_ended l r.id s)
request_ends_parts l r s there h = fewer s (request_ended l r.id s) refl (λ id. omega (arith, named_leaves (λ (r : Request). r.id) id r.id s.requests r there, named_ended id s.ended (request_end r.id l))) (retained_few (s.ended ++ request_end r.id l ∷ [])) h

settles_parts : (r : Request) (tuple : ℕ) (ok : Bool) (s : Plain) → request_at s r.id ≡ Some r → Parted s → Parted (request_ended last.Done r.id (settle_tuple ok (tuple_at s tuple) s))
settles_parts r tuple ok s there h = by_row ok (tuple_at s tuple) refl
  where
    itself : (t : Entry) → tuple_at s tuple ≡ Some t → tuple_at s t.id ≡ Some t
    itself t e = subst (λ (id : ℕ). tuple_at s id ≡ Some t) (sym (row_has_id (λ (t : Entry). t.id) tuple s.tuples t e)) e

    by_mark : (t : Entry) → tuple_at s t.id ≡ Some t → (b : Bool) → Parted (request_ended last.Done r.id (cond {A = Plain} b (tuple_ended last.Canceled t s) (with_tuple t.id (λ t. record t { holder = None }) s)))
    by_mark t here true = request_ends_parts last.Done r (tuple_ended last.Canceled t s) there (tuple_leaves_parts last.Canceled t s here h)
    by_mark t here false = request_ends_parts last.Done r (with_tuple t.id (λ t. record t { holder = None }) s) there (same_tuples s _ (λ id. named_changed (λ (t : Entry). t.id) id t.id (λ t. record t { holder = None }) s.tuples (λ _. refl)) h)

    by_row : (ok : Bool) (o : Option Entry) → tuple_at s tuple ≡ o → Parted (request_ended last.Done r.id (settle_tuple ok o s))
    by_row ok None here = request_ends_parts last.Done r s there h
    by_row true (Some t) here = request_ends_parts last.Done r (tuple_ended last.Taken t s) there (tuple_leaves_parts last.Taken t s (itself t here) h)
    by_row false (Some t) here = by_mark t (itself t here) t.marked

pub parted_ways : (caller : ℕ) (event : Event) → Ways caller event Parted
parted_ways caller event = record {
  advances = λ s at h. record { next = h.next; apart = record { once = h.apart.once; minted = h.apart.minted; zero = h.apart.zero }; few = h.few };
  writes = λ s value lease unshut h. minted_one s (written (new_tuple s value lease) (minted s)) refl (λ id. omega (arith, named_push (λ (t : Entry). t.id) id s.tuples (new_tuple s value lease))) h.few h;
  writes_over = λ s value lease unshut h. minted_one s (written_over (new_tuple s value lease) (minted s)) refl (λ id. omega (arith, named_map (λ (r : Request). r.id) id (read_by value) s.requests (read_id value), named_ended id s.ended (tuple_end s.next last.Expired))) (retained_few (s.ended ++ tuple_end s.next last.Expired ∷ [])) h;
  reserves = λ s k pattern lease unshut h. minted_one s (with_new_request s caller k pattern lease) refl (λ id. omega (arith, named_push (λ (r : Request). r.id) id s.requests (new_request s caller k pattern lease))) h.few h;
  notifies = λ s e pattern lease unshut h. minted_one s (with_new_notifier s e pattern lease) refl (λ id. omega (arith, named_push (λ (n : Notifier). n.id) id s.notifiers (new_notifier s e pattern lease))) h.few h;
  tuple_leaves = λ l t s here isfree h. tuple_leaves_parts l t s here h;
  tuple_leases = λ q f s leases doubts h. same_tuples s _ (λ id. named_changed (λ (t : Entry). t.id) id q f s.tuples leases.id) h;
  tuple_marks = λ t holder s here is h. same_tuples s _ (λ id. named_changed (λ (t : Entry). t.id) id t.id (λ t. record t { marked = true }) s.tuples (λ _. refl)) h;
  request_leases = λ r f s there leases may doubts h. same_requests s _ (λ id. named_changed (λ (r : Request). r.id) id r.id f s.requests leases.id) h;
  request_asks = λ q s h. same_requests s _ (λ id. named_changed (λ (r : Request). r.id) id q (λ r. record r { doubt = asked_doubt r.doubt }) s.requests (λ _. refl)) h;
  request_marks = λ r s there is e h. same_requests s _ (λ id. named_changed (λ (r : Request). r.id) id r.id (λ r. record r { marked = true }) s.requests (λ _. refl)) h;
  request_parks = λ r s there is unmarked own e h. state_parts s r.id state.Parked h;
  request_answers = λ r o s there why h. state_parts s r.id (state.Answered o) h;
  request_ends = λ l r s there none own of h. request_ends_parts l r s there h;
  grants = λ r t s there here isfree why h. state_parts _ r.id (state.Granted t.id) (same_tuples s _ (λ id. named_changed (λ (t : Entry). t.id) id t.id (held_by r.id) s.tuples (λ _. refl)) h);
  settles = λ r tuple ok s there is own e h. settles_parts r tuple ok s there h;
  notifier_changes = λ q f s keeps becomes h. same_notifiers s _ (λ id. named_changed (λ (n : Notifier). n.id) id q f s.notifiers keeps.id) h;
  notifier_ends = λ l n s there h. fewer s (notifier_ended l n.id s) refl (λ id. omega (arith, named_leaves (λ (n : Notifier). n.id) id n.id s.notifiers n there, named_ended id s.ended (notifier_end n.id l))) (retained_few (s.ended ++ notifier_end n.id l ∷ [])) h;
  shuts = λ s unshut is h. fewer s (shut_down s) refl (λ id. omega (arith, named_map (λ (r : Request). r.id) id shut_request s.requests shut_id, named_map (λ (n : Notifier). n.id) id (shut_notifier (length s.events)) s.notifiers (shut_notifier_id (length s.events)))) h.few h;
}

pub parted_expires : (r : Request) (s : Plain) → Parted s → Parted (request_in r.id (state.Answered out.Expired) s)
parted_expires r s h = state_parts s r.id (state.Answered out.Expired) h
