-- A space that is opened again is sound and settled, and has no requests.
use Rattle.std.proofs.Common.{◌≡◌, ◌≢◌, ℕ, Bool, true, false, cond, not, ◌&&◌, ◌||◌, List, [], ◌∷◌, map, Option, Some, None, refl, ◌∙◌, ap, subst, arith}
use Rattle.std.specs.Prelude.{◌==◌, is_none, nat_lt, if◌then◌else◌}
use Rattle.std.specs.List.{list_all, list_any}
use Rattle.std.proofs.lemmas.Bool.Decides.{nat_tests}
use Rattle.rinda_rules.specs.declared.object.Last.TheVariants as last
use Rattle.rinda_rules.specs.declared.object.Doubt.{Doubt}
use Rattle.rinda_rules.specs.declared.object.Doubt.TheVariants as doubt
use Rattle.rinda_rules.specs.declared.plain.Entry.{Entry}
use Rattle.rinda_rules.specs.declared.plain.Request.{Request}
use Rattle.rinda_rules.specs.declared.plain.Notifier.{Notifier}
use Rattle.rinda_rules.specs.Rows.{row_of, changed, without, rising}
use Rattle.rinda_rules.specs.Space.{Plain, tuple_at, is_free}
use Rattle.rinda_rules.specs.Phases.{aged, with_tuple, tuple_ended, request_ended, nobody_waits}
use Rattle.rinda_rules.specs.Cases.{let_go}
use Rattle.rinda_rules.specs.AtOnce.{aged_request}
use Rattle.rinda_rules.specs.Settled.{Settled, is_kept}
use Rattle.rinda_rules.specs.Sound.{Sound, Numbered, may_doubt, hears_within}
use Rattle.rinda_rules.specs.Reopened.{all_let_go, all_ended, doubt_again, tuple_again, notifier_again, all_doubt_again, reopened}
use Rattle.rinda_rules.proofs.Lists.{all_imp, all_map, all_filter, all_filter_imp, all_changed, all_changed_other, row_changed, row_without, numbered-map, numbered-filter, numbered-changed}
use Rattle.rinda_rules.proofs.Below.{changed_same}
use Rattle.rinda_rules.proofs.Becoming.{leased_within}
use Rattle.rinda_rules.proofs.Named.{named_map, named_changed}
use Rattle.rinda_rules.proofs.Parting.{Parted, fewer, same_tuples, tuple_leaves_parts, request_ends_parts}
use Rattle.rinda_rules.proofs.Sounding.{all_hear_more, sound-aged}
use Rattle.rinda_rules.proofs.AtOnce.{aging_at_once}
use Rattle.rinda_rules.proofs.Settling.{nothing_due-aged}

-- What holds while a space is opened again.

abbrev tuple_may : Entry → Bool
tuple_may t = may_doubt t.doubt (is_none t.renewer)

abbrev notifier_may : Notifier → Bool
notifier_may n = may_doubt n.doubt (is_none n.renewer)

record Opens (s : Plain) : Type 0 where
  numbers : Numbered s
  parted : Parted s
  tuples : list_all tuple_may s.tuples ≡ true
  notifiers : list_all notifier_may s.notifiers ≡ true
  heard : list_all (hears_within s.events) s.notifiers ≡ true

opens_of : (s : Plain) → Sound s → Opens s
opens_of s h = record { numbers = h.numbered; parted = record { next = h.numbered.next; apart = h.apart; few = h.few }; tuples = h.doubts.tuples; notifiers = h.doubts.notifiers; heard = h.heard }

front : (a b : Bool) → (a && b) ≡ true → a ≡ true
front a b e = grind arith

back : (a b : Bool) → (a && b) ≡ true → b ≡ true
back a b e = grind arith

-- Rows that are there, one by one.

abbrev Each : {R : Type 0} → (R → ℕ) → List R → List R → Type 0
Each key xs [] = Unit {0}
Each key xs (z ∷ zs) = (row_of key (key z) xs ≡ Some z) × Each key xs zs

each_behind : {R : Type 0} (key : R → ℕ) (x : R) (xs zs : List R) → list_all (λ z. nat_lt (key x) (key z)) zs ≡ true → Each key xs zs → Each key (x ∷ xs) zs
each_behind key x xs [] later h = tt
each_behind key x xs (z ∷ zs) later h = (grind (arith, nat_tests, h.0), each_behind key x xs zs (back _ _ later) h.1)

each_itself : {R : Type 0} (key : R → ℕ) (xs : List R) → rising key xs ≡ true → Each key xs xs
each_itself key [] up = tt
each_itself key (x ∷ xs) up = (grind (arith, nat_tests), each_behind key x xs xs (front _ _ up) (each_itself key xs (back _ _ up)))

-- what is said of one id leaves the rows of later ids where they are
each_after : {R : Type 0} (key : R → ℕ) (id : ℕ) (xs ys zs : List R) → ((q : ℕ) → q ≢ id → row_of key q ys ≡ row_of key q xs) → list_all (λ z. nat_lt id (key z)) zs ≡ true → Each key xs zs → Each key ys zs
each_after key id xs ys [] same later h = tt
each_after key id xs ys (z ∷ zs) same later h = (same (key z) (past id (key z) (front _ _ later)) ∙ h.0, each_after key id xs ys zs same (back _ _ later) h.1)
  where
    past : (a b : ℕ) → nat_lt a b ≡ true → b ≢ a
    past a b e same = grind (arith, nat_tests)

-- Tuples are let go.

opens_tuple_ended : (t : Entry) (s : Plain) → tuple_at s t.id ≡ Some t → Opens s → Opens (tuple_ended last.Canceled t s)
opens_tuple_ended t s there h = record {
  numbers = record { next = h.numbers.next; tuples = numbered-filter (λ t. t.id) s.next (λ x. not (x.id == t.id)) s.tuples h.numbers.tuples; requests = h.numbers.requests; notifiers = h.numbers.notifiers };
  parted = tuple_leaves_parts last.Canceled t s there h.parted;
  tuples = all_filter tuple_may (λ x. not (x.id == t.id)) s.tuples h.tuples;
  notifiers = h.notifiers;
  heard = all_hear_more s.events _ s.notifiers h.heard;
}

abbrev freed : Entry → Entry
freed t = record t { holder = None }

opens_freed : (t : Entry) (s : Plain) → Opens s → Opens (with_tuple t.id freed s)
opens_freed t s h = record {
  numbers = record { next = h.numbers.next; tuples = numbered-changed (λ t. t.id) s.next t.id freed s.tuples (λ _. refl) h.numbers.tuples; requests = h.numbers.requests; notifiers = h.numbers.notifiers };
  parted = same_tuples s _ (λ id. named_changed (λ (t : Entry). t.id) id t.id freed s.tuples (λ _. refl)) h.parted;
  tuples = all_changed tuple_may (λ t. t.id) t.id freed s.tuples (λ x e. e) h.tuples;
  notifiers = h.notifiers;
  heard = h.heard;
}

-- free, and not marked
abbrev is_loose : Entry → Bool
is_loose t = is_free t && not t.marked

-- it is free and not marked, or is among those that are let go later
abbrev loose_or_later : List Entry → Entry → Bool
loose_or_later ts x = is_loose x || list_any (λ t. t.id == x.id) ts

-- who is free isn't marked
abbrev free_unmarked : Entry → Bool
free_unmarked t = not (is_free t) || not t.marked

-- a space of which these tuples are still to be let go
record Going (ts : List Entry) (s : Plain) : Type 0 where
  opens : Opens s
  there : Each (λ t. t.id) s.tuples ts
  up : rising (λ t. t.id) ts ≡ true
  unmarked : list_all free_unmarked ts ≡ true
  left : list_all (loose_or_later ts) s.tuples ≡ true

other_left : (t : Entry) (ts : List Entry) (x : Entry) → x.id ≢ t.id → loose_or_later (t ∷ ts) x ≡ true → loose_or_later ts x ≡ true
other_left t ts x ne e = grind (arith, nat_tests)

other_left-by : (t : Entry) (ts : List Entry) (x : Entry) → not (x.id == t.id) ≡ true → loose_or_later (t ∷ ts) x ≡ true → loose_or_later ts x ≡ true
other_left-by t ts x ne e = grind (arith, nat_tests)

loose_left : (ts : List Entry) (t : Entry) → is_free t ≡ true → t.marked ≡ false → loose_or_later ts t ≡ true
loose_left ts t a b = rw (a, b) refl

tuples_up : (s : Plain) → Opens s → rising (λ t. t.id) s.tuples ≡ true
tuples_up s h = front _ _ h.numbers.tuples

going_next : (t : Entry) (ts : List Entry) (s : Plain) → Going (t ∷ ts) s → Going ts (if is_free t then s else let_go t s)
going_next t ts s h = by_free (is_free t) refl
  where
    by_mark : (b : Bool) → t.marked ≡ b → Going ts (cond {A = Plain} b (tuple_ended last.Canceled t s) (with_tuple t.id (λ t. record t { holder = None }) s))
    by_mark true e = record {
      opens = opens_tuple_ended t s h.there.0 h.opens;
      there = each_after (λ (t : Entry). t.id) t.id s.tuples (without (λ t. t.id) t.id s.tuples) ts (λ q ne. row_without (λ (t : Entry). t.id) t.id q s.tuples ne) (front _ _ h.up) h.there.1;
      up = back _ _ h.up;
      unmarked = back _ _ h.unmarked;
      left = all_filter_imp (loose_or_later (t ∷ ts)) (loose_or_later ts) (λ x. not (x.id == t.id)) (λ x ne e. other_left-by t ts x ne e) s.tuples h.left;
    }
    by_mark false e = record {
      opens = opens_freed t s h.opens;
      there = each_after (λ (t : Entry). t.id) t.id s.tuples (changed (λ t. t.id) t.id freed s.tuples) ts (λ q ne. row_changed (λ (t : Entry). t.id) t.id freed q s.tuples ne (λ _. refl)) (front _ _ h.up) h.there.1;
      up = back _ _ h.up;
      unmarked = back _ _ h.unmarked;
      left = all_changed_other (loose_or_later (t ∷ ts)) (loose_or_later ts) (λ t. t.id) t.id freed s.tuples t (tuples_up s h.opens) h.there.0 (loose_left ts (freed t) refl e) (other_left t ts) h.left;
    }

    stays : is_free t ≡ true → list_all (loose_or_later ts) s.tuples ≡ true
    stays e =
        subst (λ (xs : List Entry). list_all (loose_or_later ts) xs ≡ true) (changed_same (λ (t : Entry). t.id) t.id (λ t. t) s.tuples t (tuples_up s h.opens) h.there.0 refl)
        (all_changed_other (loose_or_later (t ∷ ts)) (loose_or_later ts) (λ t. t.id) t.id (λ t. t) s.tuples t (tuples_up s h.opens) h.there.0 (loose_left ts t e (unmarked_of (is_free t) t.marked e (front _ _ h.unmarked))) (other_left t ts) h.left)
      where
        unmarked_of : (a b : Bool) → a ≡ true → (not a || not b) ≡ true → b ≡ false
        unmarked_of a b e f = grind arith

    by_free : (b : Bool) → is_free t ≡ b → Going ts (cond {A = Plain} b s (let_go t s))
    by_free true e = record {
      opens = h.opens;
      there = h.there.1;
      up = back _ _ h.up;
      unmarked = back _ _ h.unmarked;
      left = stays e;
    }
    by_free false e = by_mark t.marked refl

going_all : (ts : List Entry) (s : Plain) → Going ts s → Going [] (all_let_go ts s)
going_all [] s h = h
going_all (t ∷ ts) s h = going_all ts (if is_free t then s else let_go t s) (going_next t ts s h)

kept_unmarked : (rs : List Request) (t : Entry) → is_kept rs t t.holder ≡ true → free_unmarked t ≡ true
kept_unmarked rs t e = by_holder t.holder e
  where
    by_holder : (o : Option ℕ) → is_kept rs t o ≡ true → (not (is_none o) || not t.marked) ≡ true
    by_holder None e = e
    by_holder (Some h) e = refl

later_itself : (ts : List Entry) → list_all (loose_or_later ts) ts ≡ true
later_itself ts = within ts ts (λ x e. e)
  where
    within : (ts xs : List Entry) → ((q : ℕ) → list_any (λ t. t.id == q) xs ≡ true → list_any (λ t. t.id == q) ts ≡ true) → list_all (loose_or_later ts) xs ≡ true
    within ts [] sub = refl
    within ts (x ∷ xs) sub = grind (arith, nat_tests, sub x.id (first x xs), within ts xs (λ q e. sub q (more q x xs e)))
      where
        first : (x : Entry) (xs : List Entry) → list_any (λ t. t.id == x.id) (x ∷ xs) ≡ true
        first x xs = grind (arith, nat_tests)

        more : (q : ℕ) (x : Entry) (xs : List Entry) → list_any (λ t. t.id == q) xs ≡ true → list_any (λ t. t.id == q) (x ∷ xs) ≡ true
        more q x xs e = grind arith

going_first : (s : Plain) → Sound s → Going s.tuples s
going_first s h = record {
  opens = opens_of s h;
  there = each_itself (λ (t : Entry). t.id) s.tuples (front _ _ h.numbered.tuples);
  up = front _ _ h.numbered.tuples;
  unmarked = all_imp (λ t. is_kept s.requests t t.holder) free_unmarked (kept_unmarked s.requests) s.tuples h.held;
  left = later_itself s.tuples;
}

loose_all : (s : Plain) → Going [] s → list_all is_loose s.tuples ≡ true
loose_all s h = all_imp (loose_or_later []) is_loose (λ x e. none _ e) s.tuples h.left
  where
    none : (b : Bool) → (b || false) ≡ true → b ≡ true
    none b e = grind arith

-- Requests end.

record Ending (rs : List Request) (s : Plain) : Type 0 where
  opens : Opens s
  there : Each (λ r. r.id) s.requests rs
  up : rising (λ r. r.id) rs ≡ true
  loose : list_all is_loose s.tuples ≡ true
  left : list_all (λ x. list_any (λ r. r.id == x.id) rs) s.requests ≡ true

ending_next : (r : Request) (rs : List Request) (s : Plain) → Ending (r ∷ rs) s → Ending rs (request_ended last.Done r.id s)
ending_next r rs s h = record {
  opens = record {
    numbers = record { next = h.opens.numbers.next; tuples = h.opens.numbers.tuples; requests = numbered-filter (λ r. r.id) s.next (λ x. not (x.id == r.id)) s.requests h.opens.numbers.requests; notifiers = h.opens.numbers.notifiers };
    parted = request_ends_parts last.Done r s h.there.0 h.opens.parted;
    tuples = h.opens.tuples;
    notifiers = h.opens.notifiers;
    heard = h.opens.heard;
  };
  there = each_after (λ (r : Request). r.id) r.id s.requests (without (λ r. r.id) r.id s.requests) rs (λ q ne. row_without (λ (r : Request). r.id) r.id q s.requests ne) (front _ _ h.up) h.there.1;
  up = back _ _ h.up;
  loose = h.loose;
  left = all_filter_imp (λ x. list_any (λ r. r.id == x.id) (r ∷ rs)) (λ x. list_any (λ r. r.id == x.id) rs) (λ x. not (x.id == r.id)) (λ x ne e. other x ne e) s.requests h.left;
}
  where
    other : (x : Request) → not (x.id == r.id) ≡ true → list_any (λ r. r.id == x.id) (r ∷ rs) ≡ true → list_any (λ r. r.id == x.id) rs ≡ true
    other x ne e = grind (arith, nat_tests)

ending_all : (rs : List Request) (s : Plain) → Ending rs s → Ending [] (all_ended rs s)
ending_all [] s h = h
ending_all (r ∷ rs) s h = ending_all rs (request_ended last.Done r.id s) (ending_next r rs s h)

ending_first : (s : Plain) → Opens s → list_all is_loose s.tuples ≡ true → Ending s.requests s
ending_first s h loose = record {
  opens = h;
  there = each_itself (λ (r : Request). r.id) s.requests (front _ _ h.numbers.requests);
  up = front _ _ h.numbers.requests;
  loose = loose;
  left = within s.requests s.requests (λ q e. e);
}
  where
    within : (rs xs : List Request) → ((q : ℕ) → list_any (λ r. r.id == q) xs ≡ true → list_any (λ r. r.id == q) rs ≡ true) → list_all (λ x. list_any (λ r. r.id == x.id) rs) xs ≡ true
    within rs [] sub = refl
    within rs (x ∷ xs) sub = grind (arith, nat_tests, sub x.id (first x xs), within rs xs (λ q e. sub q (more q x xs e)))
      where
        first : (x : Request) (xs : List Request) → list_any (λ r. r.id == x.id) (x ∷ xs) ≡ true
        first x xs = grind (arith, nat_tests)

        more : (q : ℕ) (x : Request) (xs : List Request) → list_any (λ r. r.id == q) xs ≡ true → list_any (λ r. r.id == q) (x ∷ xs) ≡ true
        more q x xs e = grind arith

no_requests : (s : Plain) → Ending [] s → s.requests ≡ []
no_requests s h = empty s.requests h.left
  where
    empty : (xs : List Request) → list_all (λ x. false) xs ≡ true → xs ≡ []
    empty [] e = refl
    empty (x ∷ xs) e = cc

-- Who was being asked is asked again, and the space is open.

doubts_again : (d : Doubt) (alone : Bool) → may_doubt d alone ≡ true → may_doubt (doubt_again d) alone ≡ true
doubts_again doubt.No alone e = e
doubts_again doubt.Waiting alone e = e
doubts_again doubt.Asked alone e = e

abbrev opened : Plain → Plain
opened s = record (all_doubt_again s) { shut = false }

kept_loose : (rs : List Request) (t : Entry) → is_loose t ≡ true → is_kept rs t t.holder ≡ true
kept_loose rs t e = by_holder t.holder e
  where
    by_holder : (o : Option ℕ) → (is_none o && not t.marked) ≡ true → is_kept rs t o ≡ true
    by_holder None e = e
    by_holder (Some h) e = cc

sound_opened : (s : Plain) → Ending [] s → Sound (opened s)
sound_opened s h =
    let none : s.requests ≡ [] = no_requests s h in
    let parted : Parted (opened s) = fewer s (opened s) refl (λ id. omega (arith, named_map (λ (t : Entry). t.id) id tuple_again s.tuples (λ _. refl), named_map (λ (n : Notifier). n.id) id notifier_again s.notifiers (λ _. refl))) h.opens.parted.few h.opens.parted in
    record {
      numbered = record { next = h.opens.numbers.next; tuples = numbered-map (λ t. t.id) s.next tuple_again s.tuples (λ _. refl) h.opens.numbers.tuples; requests = h.opens.numbers.requests; notifiers = numbered-map (λ n. n.id) s.next notifier_again s.notifiers (λ _. refl) h.opens.numbers.notifiers };
      apart = parted.apart;
      few = parted.few;
      held = all_map (λ t. is_kept s.requests t t.holder) tuple_again s.tuples ∙ all_imp is_loose (λ t. is_kept s.requests (tuple_again t) (tuple_again t).holder) (λ t e. kept_loose s.requests (tuple_again t) e) s.tuples h.loose;
      granted = rw none refl;
      answers = rw none refl;
      doubts = record {
        tuples = all_map tuple_may tuple_again s.tuples ∙ all_imp tuple_may (λ t. tuple_may (tuple_again t)) (λ t e. doubts_again t.doubt (is_none t.renewer) e) s.tuples h.opens.tuples;
        requests = rw none refl;
        notifiers = all_map notifier_may notifier_again s.notifiers ∙ all_imp notifier_may (λ n. notifier_may (notifier_again n)) (λ n e. doubts_again n.doubt (is_none n.renewer) e) s.notifiers h.opens.notifiers;
      };
      heard = all_map (hears_within s.events) notifier_again s.notifiers ∙ all_imp (hears_within s.events) (λ n. hears_within s.events (notifier_again n)) (λ n e. leased_within n n.deadline n.renewer (doubt_again n.doubt) s.events e) s.notifiers h.opens.heard;
      closed = refl;
    }

-- Aging makes no requests.
aged_none : (s : Plain) → Sound s → s.requests ≡ [] → (aged s).requests ≡ []
aged_none s sound none = ap (λ (p : Plain). p.requests) (aging_at_once s sound) ∙ ap (map (aged_request s.clock)) none

nobody_without : (s : Plain) → s.requests ≡ [] → nobody_waits s ≡ true
nobody_without s none = rw none refl

pub record Reopens (s : Plain) : Type 0 where
  pub sound : Sound s
  pub settled : Settled s
  pub requests : s.requests ≡ []

reopens_aged : (s : Plain) → Sound s → s.requests ≡ [] → Reopens (aged s)
reopens_aged s before none =
    let sound : Sound (aged s) = sound-aged s before in
    record { sound = sound; settled = record { nobody = nobody_without (aged s) (aged_none s before none); not_due = nothing_due-aged s before; kept = sound.held; closed = sound.closed }; requests = aged_none s before none }

ending_of : (s : Plain) → Sound s → Ending [] (all_ended (all_let_go s.tuples s).requests (all_let_go s.tuples s))
ending_of s h =
    let gone : Going [] (all_let_go s.tuples s) = going_all s.tuples s (going_first s h) in
    ending_all (all_let_go s.tuples s).requests (all_let_go s.tuples s) (ending_first (all_let_go s.tuples s) gone.opens (loose_all (all_let_go s.tuples s) gone))

pub reopens : (s : Plain) → Sound s → Reopens (reopened s)
reopens s h =
    let ending : Ending [] (all_ended (all_let_go s.tuples s).requests (all_let_go s.tuples s)) = ending_of s h in
    reopens_aged (opened (all_ended (all_let_go s.tuples s).requests (all_let_go s.tuples s))) (sound_opened _ ending) (no_requests _ ending)
