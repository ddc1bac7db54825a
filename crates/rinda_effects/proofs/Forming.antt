-- However a tuple that was touched is served: its readers, and then at most one that takes or holds it.
use Rattle.std.proofs.Common.{◌≡◌, ◌≢◌, ℕ, Bool, true, false, not, ◌&&◌, ◌||◌, List, [], ◌∷◌, ◌++◌, map, Option, Some, None, refl, sym, ◌∙◌, ap, subst, arith}
use Rattle.std.specs.Prelude.{◌==◌, if◌then◌else◌}
use Rattle.std.specs.List.{list_all, list_any}
use Rattle.std.proofs.lemmas.Bool.Decides.{nat_tests}
use Rattle.rinda_tuple.specs.Tuples.{value_of}
use Rattle.rinda_rules.specs.declared.out.Out.TheVariants as out
use Rattle.rinda_rules.specs.declared.event.Kind.{Kind}
use Rattle.rinda_rules.specs.declared.event.Kind.TheVariants as kind
use Rattle.rinda_rules.specs.declared.turn.Pick.{Pick}
use Rattle.rinda_rules.specs.declared.row.RequestState.TheVariants as state
use Rattle.rinda_rules.specs.declared.plain.Entry.{Entry}
use Rattle.rinda_rules.specs.declared.plain.Request.{Request}
use Rattle.rinda_rules.specs.Rows.{row_of}
use Rattle.rinda_rules.specs.Space.{Plain, tuple_at, request_at, is_waiting, is_read, has_match, can_be_served, may_have}
use Rattle.rinda_rules.specs.Phases.{request_in, may_serve_row, is_match, read_waits, nobody_waits, served, served_as, served_with, Serve}
use Rattle.rinda_rules.specs.Sound.{Numbered}
use Rattle.rinda_rules.proofs.Lists.{all_imp, row_has_id, row_changed, row_changed_here}
use Rattle.rinda_rules.proofs.Finding.{itself-request}
use Rattle.rinda_rules.proofs.Histories.{fits-Serve}
use Rattle.rinda_effects.specs.Touches.{ATuple, wants, waits_only}
use Rattle.rinda_effects.specs.Serves.{reads, takes, reads_row, told_value, read_all, picks_of, Readers}
use Rattle.rinda_effects.specs.Served.{Taker, last_pick, taken_by, ServedTuple}
use Rattle.rinda_effects.proofs.Cases.{rising_requests}
use Rattle.rinda_effects.proofs.Picking.{tuple_read, tuple_taken}
use Rattle.rinda_effects.proofs.Naming.{Picked, picked, pick_names, served_is, numbered_served, only_served, none_picked}
use Rattle.rinda_effects.proofs.Single.{not_it}

both : (a b : Bool) → a ≡ true → b ≡ true → (a && b) ≡ true
both a b e f = grind arith

front : (a b : Bool) → (a && b) ≡ true → a ≡ true
front a b e = grind arith

back : (a b : Bool) → (a && b) ≡ true → b ≡ true
back a b e = grind arith

some_same : {X : Type 0} {x y : X} → Some x ≡ Some y → x ≡ y
some_same e = cc

same_of_test : (a b : ℕ) → a == b ≡ true → a ≡ b
same_of_test a b e = grind (arith, nat_tests)

-- Nobody waits for the tuple.

any_at : {T : Type 0} (key : T → ℕ) (id : ℕ) (p : T → Bool) (ts : List T) (t : T) → row_of key id ts ≡ Some t → p t ≡ true → list_any p ts ≡ true
any_at key id p [] t there e = cc
any_at key id p (x ∷ ts) t there e = grind (arith, nat_tests, any_at key id p ts t)

unwanted : (w m any : Bool) → (m ≡ true → any ≡ true) → not (w && any) ≡ true → not (w && m) ≡ true
unwanted w m any h e = grind arith

unread : (k w m any : Bool) → (m ≡ true → any ≡ true) → not (k && (w && any)) ≡ true → not (k && (w && m)) ≡ true
unread k w m any h e = grind arith

has_it : (s : Plain) (t : Entry) → tuple_at s t.id ≡ Some t → (r : Request) → may_have s.clock r t ≡ true → has_match s r ≡ true
has_it s t here r m = any_at (λ t. t.id) t.id (may_have s.clock r) s.tuples t here m

nobody_wants : (s : Plain) (t : Entry) → tuple_at s t.id ≡ Some t → nobody_waits s ≡ true → list_all (λ r. not (wants s.clock r t)) s.requests ≡ true
nobody_wants s t here e = all_imp (λ r. not (can_be_served s r)) (λ r. not (wants s.clock r t)) (λ r. unwanted (is_waiting r) (may_have s.clock r t) (has_match s r) (has_it s t here r)) s.requests e

all_not : {R : Type 0} (p : R → Bool) (rs : List R) → list_any p rs ≡ false → list_all (λ r. not (p r)) rs ≡ true
all_not p [] e = refl
all_not p (r ∷ rs) e = grind (arith, all_not p rs)

no_reader : (s : Plain) (t : Entry) → tuple_at s t.id ≡ Some t → read_waits s ≡ false → list_all (λ r. not (reads s.clock t r)) s.requests ≡ true
no_reader s t here e = all_imp (λ r. not (is_read r.kind && can_be_served s r)) (λ r. not (reads s.clock t r)) (λ r. unread (is_read r.kind) (is_waiting r) (may_have s.clock r t) (has_match s r) (has_it s t here r)) s.requests (all_not (λ r. is_read r.kind && can_be_served s r) s.requests e)

no_readers : (s : Plain) (t : Entry) → list_all (λ r. not (reads s.clock t r)) s.requests ≡ true → Readers s t []
no_readers s t e = record { distinct = refl; each = refl; all = all_imp (λ r. not (reads s.clock t r)) (λ r. not (reads s.clock t r) || false) (λ r. left (not (reads s.clock t r))) s.requests e }
  where
    left : (a : Bool) → a ≡ true → (a || false) ≡ true
    left a e = grind arith

and_not : (k w : Bool) → not w ≡ true → not (k && w) ≡ true
and_not k w e = grind arith

-- One more reads it before.

from_map : {R : Type 0} (p p' : R → Bool) (f : R → R) → ((x : R) → p (f x) ≡ true → p' x ≡ true) → (xs : List R) → list_all p (map f xs) ≡ true → list_all p' xs ≡ true
from_map p p' f h [] e = refl
from_map p p' f h (x ∷ xs) e = grind (arith, h x, from_map p p' f h xs)

module _ (s : Plain) (t : Entry) (r : Request) (numbered : Numbered s) (there : request_at s r.id ≡ Some r) (e : reads s.clock t r ≡ true) where
  abbrev next : Plain
  next = request_in r.id (state.Answered (out.Answer (value_of t.value))) s

  told_there : request_at next r.id ≡ Some (told_value t r)
  told_there = row_changed_here (λ (r : Request). r.id) r.id (told_value t) s.requests r (λ r. refl) there

  told_reads : reads s.clock t (told_value t r) ≡ false
  told_reads = none (is_read r.kind) (may_have s.clock r t)
    where
      none : (k m : Bool) → (k && (false && m)) ≡ false
      none k m = grind arith

  told_takes : takes s.clock t (told_value t r) ≡ false
  told_takes = none (is_read r.kind) (may_have s.clock r t)
    where
      none : (k m : Bool) → (not k && (false && m)) ≡ false
      none k m = grind arith

  apart_one : (i : ℕ) → reads_row s.clock t (request_at next i) ≡ true → not (i == r.id) ≡ true
  apart_one i h = by_test (i == r.id) refl
    where
      none : i ≡ r.id → ⊥
      none is = absurd_of (reads s.clock t (told_value t r)) told_reads (ap (reads_row s.clock t) (sym (ap (request_at next) is ∙ told_there)) ∙ h)
        where
          absurd_of : (b : Bool) → b ≡ false → b ≡ true → ⊥
          absurd_of b x y = cc

      by_test : (b : Bool) → i == r.id ≡ b → not b ≡ true
      by_test true is = absurd (none (same_of_test i r.id is))
      by_test false is = refl

  each_one : (i : ℕ) → reads_row s.clock t (request_at next i) ≡ true → reads_row s.clock t (request_at s i) ≡ true
  each_one i h = subst (λ (o : Option Request). reads_row s.clock t o ≡ true) (row_changed (λ (r : Request). r.id) r.id (told_value t) i s.requests (apart i r.id (apart_one i h)) (λ r. refl)) h
    where
      apart : (i id : ℕ) → not (i == id) ≡ true → i ≢ id
      apart i id h = grind (arith, nat_tests)

  all_one : (ids : List ℕ) (x : Request) → (not (reads s.clock t (if x.id == r.id then told_value t x else x)) || list_any (λ i. i == (if x.id == r.id then told_value t x else x).id) ids) ≡ true → (not (reads s.clock t x) || (r.id == x.id || list_any (λ i. i == x.id) ids)) ≡ true
  all_one ids x = by_test (x.id == r.id) refl
    where
      itself : (a b : ℕ) (q any : Bool) → a == b ≡ true → (q || (b == a || any)) ≡ true
      itself a b q any h = grind (arith, nat_tests)

      other : (q any mine : Bool) → (q || any) ≡ true → (q || (mine || any)) ≡ true
      other q any mine h = grind arith

      by_test : (b : Bool) → x.id == r.id ≡ b → (not (reads s.clock t (Rattle.std.proofs.Common.cond {A = Request} b (told_value t x) x)) || list_any (λ i. i == (Rattle.std.proofs.Common.cond {A = Request} b (told_value t x) x).id) ids) ≡ true → (not (reads s.clock t x) || (r.id == x.id || list_any (λ i. i == x.id) ids)) ≡ true
      by_test true is h = itself x.id r.id (not (reads s.clock t x)) (list_any (λ i. i == x.id) ids) is
      by_test false is h = other (not (reads s.clock t x)) (list_any (λ i. i == x.id) ids) (r.id == x.id) h

  one_more_reader : (ids : List ℕ) → Readers next t ids → Readers s t (r.id ∷ ids)
  one_more_reader ids h = record {
    distinct = both _ _ (all_imp (λ i. reads_row s.clock t (request_at next i)) (λ i. not (i == r.id)) apart_one ids h.each) h.distinct;
    each = both _ _ (ap (reads_row s.clock t) there ∙ e) (all_imp (λ i. reads_row s.clock t (request_at next i)) (λ i. reads_row s.clock t (request_at s i)) each_one ids h.each);
    all = from_map (λ x. not (reads s.clock t x) || list_any (λ i. i == x.id) ids) (λ x. not (reads s.clock t x) || (r.id == x.id || list_any (λ i. i == x.id) ids)) (λ x. if x.id == r.id then told_value t x else x) (all_one ids) s.requests h.all;
  }

  reads_not_takes : not (takes s.clock t r) ≡ true
  reads_not_takes = no (is_read r.kind) (wants s.clock r t) e
    where
      no : (k w : Bool) → (k && w) ≡ true → not (not k && w) ≡ true
      no k w e = grind arith

  taker_one : (x : Request) → not (takes s.clock t (if x.id == r.id then told_value t x else x)) ≡ true → (x.id == r.id || not (takes s.clock t x)) ≡ true
  taker_one x = by_test (x.id == r.id) refl
    where
      by_test : (b : Bool) → x.id == r.id ≡ b → not (takes s.clock t (Rattle.std.proofs.Common.cond {A = Request} b (told_value t x) x)) ≡ true → (b || not (takes s.clock t x)) ≡ true
      by_test true is h = refl
      by_test false is h = h

  same_taker : (taker : Option Request) → Taker next t taker → Taker s t taker
  same_taker None h = not_it (λ x. x.id) r.id (takes s.clock t) s.requests (from_map (λ x. not (takes s.clock t x)) (λ x. x.id == r.id || not (takes s.clock t x)) (λ x. if x.id == r.id then told_value t x else x) taker_one s.requests h) (rising_requests s numbered) r there reads_not_takes
  same_taker (Some q) h = by_test (q.id == r.id) refl
    where
      none : q.id ≡ r.id → ⊥
      none is = absurd_of (takes s.clock t (told_value t r)) told_takes (subst (λ (x : Request). takes s.clock t x ≡ true) (some_same (sym h.0 ∙ ap (request_at next) is ∙ told_there)) h.1)
        where
          absurd_of : (b : Bool) → b ≡ false → b ≡ true → ⊥
          absurd_of b x y = cc

      apart : (i id : ℕ) → i == id ≡ false → i ≢ id
      apart i id h = grind (arith, nat_tests)

      by_test : (b : Bool) → q.id == r.id ≡ b → Taker s t (Some q)
      by_test true is = absurd (none (same_of_test q.id r.id is))
      by_test false is = (sym (row_changed (λ (r : Request). r.id) r.id (told_value t) q.id s.requests (apart q.id r.id is) (λ r. refl)) ∙ h.0, h.1)

-- The form of the picks.

record Form (s : Plain) (t : Entry) (picks : List Pick) : Type 0 where
  ids : List ℕ
  taker : Option Request
  readers : Readers s t ids
  takes : Taker s t taker
  picks_are : picks ≡ picks_of t.id ids ++ last_pick t taker

served_read : (s : Plain) (t : Entry) (k : Kind) (r : Request) → is_read k ≡ true → served_as k r t s ≡ request_in r.id (state.Answered (out.Answer (value_of t.value))) s
served_read s t kind.Read r e = refl
served_read s t kind.Take r e = cc
served_read s t kind.Move r e = cc

same_pick : (pick : Pick) (a b : ℕ) → pick.request ≡ a → pick.tuple ≡ b → pick ≡ record { request = a; tuple = b }
same_pick pick a b e f = rw (← e, ← f) refl

form : (picks : List Pick) (s : Plain) (t : Entry) (s' : Plain) → Numbered s → tuple_at s t.id ≡ Some t → waits_only (ATuple t.id) s ≡ true → Serve s picks s' → Form s t picks
form [] s t s' numbered here only serve = record {
  ids = [];
  taker = None;
  readers = no_readers s t (all_imp (λ r. not (wants s.clock r t)) (λ r. not (reads s.clock t r)) (λ r. and_not (is_read r.kind) (wants s.clock r t)) s.requests (nobody_wants s t here serve.0));
  takes = all_imp (λ r. not (wants s.clock r t)) (λ r. not (takes s.clock t r)) (λ r. and_not (not (is_read r.kind)) (wants s.clock r t)) s.requests (nobody_wants s t here serve.0);
  picks_are = refl;
}
form (pick ∷ picks) s t s' numbered here only serve =
    let p : Picked s pick = picked s pick serve.0 in
    let of_it : pick.tuple ≡ t.id = same_of_test pick.tuple t.id (pick_names (ATuple t.id) s pick only p) in
    let is_it : p.tuple ≡ t = some_same (sym p.there ∙ ap (tuple_at s) of_it ∙ here) in
    let own : pick.request ≡ p.request.id = sym (row_has_id (λ (r : Request). r.id) pick.request s.requests p.request p.asks) in
    let leads : served s pick ≡ served_as p.request.kind p.request t s = served_is s pick p ∙ ap (λ (x : Entry). served_as p.request.kind p.request x s) is_it in
    first p.request (itself-request s pick.request p.request p.asks) (subst (λ (x : Entry). wants s.clock p.request x ≡ true) is_it p.wanted) (same_pick pick p.request.id t.id own of_it) leads
    (numbered_served s pick numbered p) (only_served (ATuple t.id) s pick numbered p only) (readers_first p)
    (λ n numbered' here' only' serve'. form picks n t s' numbered' here' only' serve')
  where
    -- a Take or a Move comes after all Reads
    readers_first : Picked s pick → (r : Request) → request_at s pick.request ≡ Some r → is_read r.kind ≡ false → read_waits s ≡ false
    readers_first p r asks k = last (is_waiting r) (is_match s r pick) (is_read r.kind) (read_waits s) k (subst (λ (o : Option Request). may_serve_row s pick o ≡ true) asks serve.0)
      where
        last : (w m k o : Bool) → k ≡ false → (w && (m && (k || not o))) ≡ true → o ≡ false
        last w m k o e h = grind arith

    first : (r : Request) → request_at s r.id ≡ Some r → wants s.clock r t ≡ true → pick ≡ record { request = r.id; tuple = t.id } → served s pick ≡ served_as r.kind r t s → Numbered (served s pick) → waits_only (ATuple t.id) (served s pick) ≡ true → ((r : Request) → request_at s pick.request ≡ Some r → is_read r.kind ≡ false → read_waits s ≡ false) → ((n : Plain) → Numbered n → tuple_at n t.id ≡ Some t → waits_only (ATuple t.id) n ≡ true → Serve n picks s' → Form n t picks) → Form s t (pick ∷ picks)
    first r there w same leads left still reads_first rest = by_test (is_read r.kind) refl
      where
        more : is_read r.kind ≡ true → Form (request_in r.id (state.Answered (out.Answer (value_of t.value))) s) t picks → Form s t (pick ∷ picks)
        more k f = record {
          ids = r.id ∷ f.ids;
          taker = f.taker;
          readers = one_more_reader s t r numbered there (both _ _ k w) f.ids f.readers;
          takes = same_taker s t r numbered there (both _ _ k w) f.taker f.takes;
          picks_are = ap (λ (x : Pick). x ∷ picks) same ∙ ap (λ (xs : List Pick). record { request = r.id; tuple = t.id } ∷ xs) f.picks_are;
        }

        reads_it : is_read r.kind ≡ true → Form s t (pick ∷ picks)
        reads_it k =
            let is : served s pick ≡ request_in r.id (state.Answered (out.Answer (value_of t.value))) s = leads ∙ served_read s t r.kind r k in
            more k (rest _ (subst (λ (x : Plain). Numbered x) is left) here (subst (λ (x : Plain). waits_only (ATuple t.id) x ≡ true) is still) (subst (λ (x : Plain). Serve x picks s') is serve.1))

        takes_it : is_read r.kind ≡ false → Form s t (pick ∷ picks)
        takes_it k =
            let readers : Readers s t [] = no_readers s t (no_reader s t here (reads_first r (ap (λ (x : Pick). request_at s x.request) same ∙ there) k)) in
            let taken : takes s.clock t r ≡ true = both _ _ (ap not k) w in
            let ends : Serve s (record { request = r.id; tuple = t.id } ∷ []) (served_with r t (read_all t s)) = tuple_taken s t [] r numbered here readers there taken only in
            let none : picks ≡ [] = none_picked (served s pick) picks s' left (subst (λ (x : Pick). nobody_waits (served s x) ≡ true) (sym same) ends.1.0) serve.1 in
            record { ids = []; taker = Some r; readers = readers; takes = (there, taken); picks_are = ap (λ (x : Pick). x ∷ picks) same ∙ ap (λ (xs : List Pick). record { request = r.id; tuple = t.id } ∷ xs) none }

        by_test : (b : Bool) → is_read r.kind ≡ b → Form s t (pick ∷ picks)
        by_test true k = reads_it k
        by_test false k = takes_it k

more_none : {R : Type 0} (xs : List R) → xs ++ [] ≡ xs
more_none [] = refl
more_none (x ∷ xs) = ap (λ (ys : List _). x ∷ ys) (more_none xs)

-- such picks lead there
form_serves : (s : Plain) (t : Entry) (ids : List ℕ) (taker : Option Request) → Numbered s → tuple_at s t.id ≡ Some t → waits_only (ATuple t.id) s ≡ true → Readers s t ids → Taker s t taker → Serve s (picks_of t.id ids ++ last_pick t taker) (taken_by t taker (read_all t s))
form_serves s t ids None numbered here only readers h = subst (λ (picks : List Pick). Serve s picks (read_all t s)) (sym (more_none (picks_of t.id ids))) (tuple_read s t ids numbered here readers h only)
form_serves s t ids (Some r) numbered here only readers h = tuple_taken s t ids r numbered here readers h.0 h.1 only

pub tuple_is_served_so : (s : Plain) (t : Entry) (picks : List Pick) (s' : Plain) → Numbered s → waits_only (ATuple t.id) s ≡ true → tuple_at s t.id ≡ Some t → Serve s picks s' → ServedTuple s t picks s'
tuple_is_served_so s t picks s' numbered only here serve =
    let f : Form s t picks = form picks s t s' numbered here only serve in
    let end : Plain = taken_by t f.taker (read_all t s) in
    let other : Serve s picks end = subst (λ (ps : List Pick). Serve s ps end) (sym f.picks_are) (form_serves s t f.ids f.taker numbered here only f.readers f.takes) in
    record {
      ids = f.ids;
      taker = f.taker;
      readers = f.readers;
      takes = f.takes;
      picks_are = f.picks_are;
      leads = (fits-Serve s picks s' serve).1 ∙ sym (fits-Serve s picks end other).1;
    }
