-- What a notifier hears is what was raised since its registration.
use Rattle.std.proofs.Common.{◌≡◌, ◌≢◌, ℕ, ◌+◌, ◌<◌, ◌≤◌, Bool, true, false, cond, ◌&&◌, ltb, List, [], ◌∷◌, ◌++◌, map, Option, Some, None, refl, sym, ◌∙◌, ap, subst, arith, length-append}
use Rattle.std.specs.Prelude.{◌==◌, filter, drop, length, if◌then◌else◌}
use Rattle.std.specs.List.{list_all}
use Rattle.std.proofs.lemmas.Bool.Decides.{nat_tests}
use Rattle.drb_tree.specs.declared.Tree.{Tree}
use Rattle.rinda_tuple.specs.declared.tuple.Template.{Template}
use Rattle.rinda_tuple.specs.declared.lease.Lease.{Lease}
use Rattle.rinda_rules.specs.declared.object.Last.TheVariants as last
use Rattle.rinda_rules.specs.declared.event.Event.{Event}
use Rattle.rinda_rules.specs.declared.event.Event.TheVariants.{Notify}
use Rattle.rinda_rules.specs.declared.out.Out.{Out}
use Rattle.rinda_rules.specs.declared.out.Out.TheVariants as out
use Rattle.rinda_rules.specs.declared.plain.Entry.{Entry}
use Rattle.rinda_rules.specs.declared.plain.Notifier.{Notifier}
use Rattle.rinda_rules.specs.declared.plain.Raised.{Raised}
use Rattle.rinda_rules.specs.declared.plain.Happening.TheVariants as happening
use Rattle.rinda_rules.specs.Rows.{row_of, changed, without}
use Rattle.rinda_rules.specs.Space.{Plain, notifier_at, tuple_at}
use Rattle.rinda_rules.specs.Phases.{tuple_ended, happening_of, with_tuple}
use Rattle.rinda_rules.specs.AtOnce.{aged_notifier, deleted, expires}
use Rattle.rinda_rules.specs.Cases.{Outcome, answers, new_notifier, settle_tuple, shut_notifier, outcome}
use Rattle.rinda_rules.specs.Sound.{Sound}
use Rattle.rinda_rules.proofs.Keeping.{Keeps, KeepsNotifier, with_new_notifier}

-- the row that a changed one was
pub unmap : (id : ℕ) (f : Notifier → Notifier) (ns : List Notifier) (n : Notifier) → ((n : Notifier) → (f n).id ≡ n.id) → row_of (λ n. n.id) id (map f ns) ≡ Some n → (m : Notifier) × (row_of (λ n. n.id) id ns ≡ Some m) × (n ≡ f m)
unmap id f [] n ids e = cc
unmap id f (x ∷ xs) n ids e = by_test (x.id == id) refl (unmap id f xs n ids)
  where
    by_test : (b : Bool) → x.id == id ≡ b → (row_of (λ n. n.id) id (map f xs) ≡ Some n → (m : Notifier) × (row_of (λ n. n.id) id xs ≡ Some m) × (n ≡ f m)) → (m : Notifier) × (row_of (λ n. n.id) id (x ∷ xs) ≡ Some m) × (n ≡ f m)
    by_test true is further = (x, grind (arith, nat_tests, ids x), grind (arith, nat_tests, ids x))
    by_test false is further =
        let later : row_of (λ n. n.id) id (map f xs) ≡ Some n = grind (arith, nat_tests, ids x) in
        let rest = further later in
        (rest.0, grind (arith, nat_tests, rest.1), rest.2)

pub unpush : (id : ℕ) (x : Notifier) (ns : List Notifier) (n : Notifier) → x.id ≢ id → row_of (λ n. n.id) id (ns ++ x ∷ []) ≡ Some n → row_of (λ n. n.id) id ns ≡ Some n
unpush id x [] n ne e = absurd (none (x.id == id) refl e)
  where
    none : (b : Bool) → x.id == id ≡ b → cond {A = Option Notifier} b (Some x) None ≡ Some n → ⊥
    none true is e = ne (grind (arith, nat_tests))
    none false is e = cc
unpush id x (y ∷ ys) n ne e = grind (arith, nat_tests, unpush id x ys n ne)

pub gone : (id : ℕ) (ns : List Notifier) → row_of (λ n. n.id) id (without (λ n. n.id) id ns) ≡ None
gone id [] = refl
gone id (x ∷ xs) = grind (arith, nat_tests, gone id xs)

pub unwithout : (id of : ℕ) (ns : List Notifier) (n : Notifier) → row_of (λ n. n.id) id (without (λ n. n.id) of ns) ≡ Some n → row_of (λ n. n.id) id ns ≡ Some n
unwithout id of [] n e = cc
unwithout id of (x ∷ xs) n e = by_test (x.id == of) refl (unwithout id of xs n)
  where
    by_test : (b : Bool) → x.id == of ≡ b → (row_of (λ n. n.id) id (without (λ n. n.id) of xs) ≡ Some n → row_of (λ n. n.id) id xs ≡ Some n) → row_of (λ n. n.id) id (x ∷ xs) ≡ Some n
    by_test true is further = grind (arith, nat_tests, further, gone id xs)
    by_test false is further = grind (arith, nat_tests, further)

assoc : (xs ys zs : List Raised) → (xs ++ ys) ++ zs ≡ xs ++ (ys ++ zs)
assoc [] ys zs = refl
assoc (x ∷ xs) ys zs = ap (λ (l : List Raised). x ∷ l) (assoc xs ys zs)

more : (es base grown new : List Raised) → es ≡ base ++ grown → es ++ new ≡ base ++ (grown ++ new)
more es base grown new e = ap (λ (l : List Raised). l ++ new) e ∙ assoc base grown new

pub aged_id : (s : Plain) (n : Notifier) → (aged_notifier s n).id ≡ n.id
aged_id s n = grind (arith, nat_tests)

aged_event : (s : Plain) (n : Notifier) → (aged_notifier s n).event ≡ n.event
aged_event s n = grind (arith, nat_tests)

aged_pattern : (s : Plain) (n : Notifier) → (aged_notifier s n).pattern ≡ n.pattern
aged_pattern s n = grind (arith, nat_tests)

aged_since : (s : Plain) (n : Notifier) → (aged_notifier s n).since ≡ n.since
aged_since s n = grind (arith, nat_tests)

settle_grows : (ok : Bool) (o : Option Entry) (s : Plain) → (new : List Raised) × ((settle_tuple ok o s).events ≡ s.events ++ new)
settle_grows ok None s = ([], nothing s.events)
  where
    nothing : (es : List Raised) → es ≡ es ++ []
    nothing [] = refl
    nothing (e ∷ es) = ap (λ (l : List Raised). e ∷ l) (nothing es)
settle_grows true (Some t) s = (record { what = happening.Take; id = t.id; tuple = t.value } ∷ [], refl)
settle_grows false (Some t) s = by_mark t.marked
  where
    nothing : (es : List Raised) → es ≡ es ++ []
    nothing [] = refl
    nothing (e ∷ es) = ap (λ (l : List Raised). e ∷ l) (nothing es)

    by_mark : (b : Bool) → (new : List Raised) × ((cond {A = Plain} b (tuple_ended last.Canceled t s) (with_tuple t.id (λ t. record t { holder = None }) s)).events ≡ s.events ++ new)
    by_mark true = (record { what = happening.Delete; id = t.id; tuple = t.value } ∷ [], refl)
    by_mark false = ([], nothing s.events)

pub settle_notifiers : (ok : Bool) (o : Option Entry) (s : Plain) → ((settle_tuple ok o s).notifiers ≡ s.notifiers) × ((settle_tuple ok o s).next ≡ s.next)
settle_notifiers ok None s = (refl, refl)
settle_notifiers true (Some t) s = (refl, refl)
settle_notifiers false (Some t) s = by_mark t.marked
  where
    by_mark : (b : Bool) → ((cond {A = Plain} b (tuple_ended last.Canceled t s) (with_tuple t.id (λ t. record t { holder = None }) s)).notifiers ≡ s.notifiers) × ((cond {A = Plain} b (tuple_ended last.Canceled t s) (with_tuple t.id (λ t. record t { holder = None }) s)).next ≡ s.next)
    by_mark true = (refl, refl)
    by_mark false = (refl, refl)

-- what is known of a notifier's row
pub record Same (event : Tree) (pattern : Template) (since : ℕ) (n : Notifier) : Type 0 where
  pub event_is : n.event ≡ event
  pub pattern_is : n.pattern ≡ pattern
  pub since_is : n.since ≡ since

pub shut_id : (until : ℕ) (n : Notifier) → (shut_notifier until n).id ≡ n.id
shut_id until n = grind (arith, nat_tests)

shut_event : (until : ℕ) (n : Notifier) → (shut_notifier until n).event ≡ n.event
shut_event until n = grind (arith, nat_tests)

shut_pattern : (until : ℕ) (n : Notifier) → (shut_notifier until n).pattern ≡ n.pattern
shut_pattern until n = grind (arith, nat_tests)

shut_since : (until : ℕ) (n : Notifier) → (shut_notifier until n).since ≡ n.since
shut_since until n = grind (arith, nat_tests)

longer : (xs ys : List Raised) → length xs ≤ length (xs ++ ys)
longer xs ys = omega (arith, length-append xs ys)

pub dropped : (xs ys : List Raised) → drop (length xs) (xs ++ ys) ≡ ys
dropped [] ys = refl
dropped (x ∷ xs) ys = dropped xs ys

module _ (id : ℕ) (event : Tree) (pattern : Template) (from : ℕ) (base : List Raised) where
  -- the lists of a space that this is about
  pub record Since (next : ℕ) (ns : List Notifier) (es : List Raised) : Type 0 where
    pub grown : List Raised
    pub events : es ≡ base ++ grown
    pub minted : id < next
    pub rows : (n : Notifier) → row_of (λ n. n.id) id ns ≡ Some n → Same event pattern from n

  abbrev pub SinceOf : Plain → Type 0
  SinceOf s = Since s.next s.notifiers s.events

  grows : (next : ℕ) (ns : List Notifier) (es new : List Raised) → Since next ns es → Since next ns (es ++ new)
  grows next ns es new h = record { grown = h.grown ++ new; events = more es base h.grown new h.events; minted = h.minted; rows = h.rows }

  mints : (next : ℕ) (ns : List Notifier) (es : List Raised) → Since next ns es → Since (next + 1) ns es
  mints next ns es h = record { grown = h.grown; events = h.events; minted = omega (arith, h.minted); rows = h.rows }

  mapped : (next : ℕ) (f : Notifier → Notifier) (ns : List Notifier) (es : List Raised) → ((n : Notifier) → (f n).id ≡ n.id) → ((n : Notifier) → Same event pattern from n → Same event pattern from (f n)) → Since next ns es → Since next (map f ns) es
  mapped next f ns es ids same h = record {
    grown = h.grown;
    events = h.events;
    minted = h.minted;
    rows = λ n e. let was = unmap id f ns n ids e in subst (λ (m : Notifier). Same event pattern from m) (sym was.2) (same was.0 (h.rows was.0 was.1));
  }

  one_changed : (next of : ℕ) (f : Notifier → Notifier) (ns : List Notifier) (es : List Raised) → KeepsNotifier f → Since next ns es → Since next (changed (λ n. n.id) of f ns) es
  one_changed next of f ns es k h = mapped next (λ n. if n.id == of then f n else n) ns es (λ n. ids n (n.id == of)) (λ n same. sames n (n.id == of) same) h
    where
      ids : (n : Notifier) (b : Bool) → (cond {A = Notifier} b (f n) n).id ≡ n.id
      ids n true = k.id n
      ids n false = refl

      sames : (n : Notifier) (b : Bool) → Same event pattern from n → Same event pattern from (cond {A = Notifier} b (f n) n)
      sames n true same = record { event_is = k.event n ∙ same.event_is; pattern_is = k.pattern n ∙ same.pattern_is; since_is = k.since n ∙ same.since_is }
      sames n false same = same

  above : (n : ℕ) → id < n → n ≢ id
  above n h e = omega (arith, h, e)

  pub since_keeps : (caller : ℕ) (what : Event) → Keeps caller what SinceOf
  since_keeps caller what = record {
    advances = λ s at h. h;
    ages = λ s sound h. grows s.next (map (aged_notifier s) s.notifiers) s.events (map deleted (filter (expires s.clock) s.tuples))
        (mapped s.next (aged_notifier s) s.notifiers s.events (aged_id s) (λ n same. record { event_is = aged_event s n ∙ same.event_is; pattern_is = aged_pattern s n ∙ same.pattern_is; since_is = aged_since s n ∙ same.since_is }) h);
    writes = λ s value lease unshut h. mints s.next s.notifiers _ (grows s.next s.notifiers s.events (record { what = happening.Write; id = s.next; tuple = value } ∷ []) h);
    writes_over = λ s value lease unshut h. mints s.next s.notifiers _ (grows s.next s.notifiers (s.events ++ record { what = happening.Write; id = s.next; tuple = value } ∷ []) (record { what = happening.Delete; id = s.next; tuple = value } ∷ []) (grows s.next s.notifiers s.events (record { what = happening.Write; id = s.next; tuple = value } ∷ []) h));
    reserves = λ s k p lease unshut h. mints s.next s.notifiers s.events h;
    notifies = λ s e p lease unshut h. record { grown = h.grown; events = h.events; minted = omega (arith, h.minted); rows = λ n there. h.rows n (unpush id (new_notifier s e p lease) s.notifiers n (above s.next h.minted) there) };
    tuple_leaves = λ l t s here isfree h. grows s.next s.notifiers s.events (record { what = happening_of l; id = t.id; tuple = t.value } ∷ []) h;
    tuple_leases = λ i f s k h. h;
    tuple_marks = λ t holder s here isheld h. h;
    request_leases = λ r f s there k may h. h;
    request_asks = λ i s h. h;
    request_marks = λ r s there is e h. h;
    request_parks = λ r s there res unmarked mine is h. h;
    request_answers = λ r o s there why h. h;
    request_ends = λ l r s there none mine of h. h;
    grants = λ r t s there here isfree why h. h;
    settles = λ r tuple ok s there is mine e h.
        let new = settle_grows ok (tuple_at s tuple) s in
        let same = settle_notifiers ok (tuple_at s tuple) s in
        let g : Since s.next s.notifiers (s.events ++ new.0) = grows s.next s.notifiers s.events new.0 h in
        record { grown = g.grown; events = new.1 ∙ g.events; minted = subst (λ (n : ℕ). id < n) (sym same.1) g.minted; rows = λ n there. g.rows n (ap (row_of (λ n. n.id) id) (sym same.0) ∙ there) };
    notifier_changes = λ i f s k h. one_changed s.next i f s.notifiers s.events k h;
    notifier_ends = λ l n s h. record { grown = h.grown; events = h.events; minted = h.minted; rows = λ m there. h.rows m (unwithout id n.id s.notifiers m there) };
    shuts = λ s unshut is h. mapped s.next (shut_notifier (length s.events)) s.notifiers s.events (shut_id (length s.events)) (λ n same. record { event_is = shut_event (length s.events) n ∙ same.event_is; pattern_is = shut_pattern (length s.events) n ∙ same.pattern_is; since_is = shut_since (length s.events) n ∙ same.since_is }) h;
  }

  -- all that was raised before is raised
  pub long_of : (s : Plain) → SinceOf s → length base ≤ length s.events
  long_of s h = subst (λ (es : List Raised). length base ≤ length es) (sym h.events) (longer base h.grown)

  pub grown_is : (s : Plain) (h : SinceOf s) → drop (length base) s.events ≡ h.grown
  grown_is s h = ap (drop (length base)) h.events ∙ dropped base h.grown

-- The registration.

row_push : (n : ℕ) (x : Notifier) (ns : List Notifier) → list_all (λ y. ltb y.id n) ns ≡ true → x.id ≡ n → row_of (λ y. y.id) n (ns ++ x ∷ []) ≡ Some x
row_push n x [] below e = grind (arith, nat_tests)
row_push n x (y ∷ ys) below e = grind (arith, nat_tests, row_push n x ys)

two : (a b : Bool) → (a && b) ≡ true → b ≡ true
two a b e = grind arith

abbrev notifier_id : Out → ℕ
notifier_id (out.Notifier i) = i
notifier_id _ = 0

-- the space with the new notifier, where it isn't shut
abbrev pub fresh : Plain → Tree → Template → Lease → Outcome
fresh s event pattern lease = answers (with_new_notifier s event pattern lease) (out.Notifier s.next)

notifies_unshut : (b : Bool) (s : Plain) (o : Outcome) (id : ℕ) → (cond {A = Outcome} b (answers s out.Shut) o).out ≡ out.Notifier id → b ≡ false
notifies_unshut true s o id e = cc
notifies_unshut false s o id e = refl

-- a Notify that is answered so
pub record Registers (s : Plain) (event : Tree) (pattern : Template) (lease : Lease) (id caller : ℕ) : Type 0 where
  pub next_is : s.next ≡ id
  pub after_is : (outcome s caller (Notify event pattern lease) None).after ≡ with_new_notifier s event pattern lease

pub registers : (s : Plain) (event : Tree) (pattern : Template) (lease : Lease) (id caller : ℕ) → (outcome s caller (Notify event pattern lease) None).out ≡ out.Notifier id → Registers s event pattern lease id caller
registers s event pattern lease id caller said = record {
  next_is = ap notifier_id (subst (λ (b : Bool). (cond {A = Outcome} b (answers s out.Shut) (fresh s event pattern lease)).out ≡ out.Notifier id) unshut said);
  after_is = ap (λ (b : Bool). (cond {A = Outcome} b (answers s out.Shut) (fresh s event pattern lease)).after) unshut;
}
  where
    unshut : s.shut ≡ false
    unshut = notifies_unshut s.shut s (fresh s event pattern lease) id said

-- the row of a new notifier
pub new_row : (s : Plain) (event : Tree) (pattern : Template) (lease : Lease) (id : ℕ) (m : Notifier) → Sound s → s.next ≡ id → notifier_at (with_new_notifier s event pattern lease) id ≡ Some m → new_notifier s event pattern lease ≡ m
new_row s event pattern lease id m sound next_is there =
    some_same (sym (row_push id (new_notifier s event pattern lease) s.notifiers (subst (λ (i : ℕ). list_all (λ y. ltb y.id i) s.notifiers ≡ true) next_is (two _ _ sound.numbered.notifiers)) next_is) ∙ there)
  where
    some_same : {x y : Notifier} → Some x ≡ Some y → x ≡ y
    some_same e = grind arith

no_more : (es : List Raised) → es ≡ es ++ []
no_more [] = refl
no_more (e ∷ es) = ap (λ (l : List Raised). e ∷ l) (no_more es)

pub new_since : (s : Plain) (event : Tree) (pattern : Template) (lease : Lease) (id : ℕ) → Sound s → s.next ≡ id → SinceOf id event pattern (length s.events) s.events (with_new_notifier s event pattern lease)
new_since s event pattern lease id sound next_is = record {
  grown = [];
  events = no_more s.events;
  minted = omega (arith, next_is);
  rows = λ m there. subst (λ (m : Notifier). Same event pattern (length s.events) m) (new_row s event pattern lease id m sound next_is there) (record { event_is = refl; pattern_is = refl; since_is = refl });
}
