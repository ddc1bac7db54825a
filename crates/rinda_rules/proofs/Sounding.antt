-- What is sound stays so, in each way in which a turn changes the space, and thereby in each phase of each turn.
use Rattle.std.proofs.Common.{◌≡◌, ℕ, ◌+◌, ◌≤◌, Bool, true, false, cond, not, ◌&&◌, ◌||◌, List, [], ◌∷◌, ◌++◌, length, drop, take, Option, Some, None, refl, ◌∙◌, ap, arith, length-append}
use Rattle.std.specs.Prelude.{◌==◌, filter, is_none, nat_le}
use Rattle.std.specs.List.{list_all}
use Rattle.std.proofs.lemmas.Bool.Decides.{nat_tests}
use Rattle.std.proofs.lemmas.List.{take-append-le, drop-append-le}
use Rattle.drb_tree.specs.declared.Tree.{Tree}
use Rattle.rinda_tuple.specs.declared.tuple.Tuple.{Tuple}
use Rattle.rinda_tuple.specs.declared.tuple.Template.{Template}
use Rattle.rinda_tuple.specs.declared.lease.Lease.{Lease}
use Rattle.rinda_rules.specs.declared.object.Last.{Last}
use Rattle.rinda_rules.specs.declared.object.Last.TheVariants as last
use Rattle.rinda_rules.specs.declared.event.Kind.{Kind}
use Rattle.rinda_rules.specs.declared.event.Kind.TheVariants as kind
use Rattle.rinda_rules.specs.declared.event.Event.TheVariants.{Tick}
use Rattle.rinda_rules.specs.declared.event.Event.{Event}
use Rattle.rinda_rules.specs.declared.out.Out.{Out}
use Rattle.rinda_rules.specs.declared.out.Out.TheVariants as out
use Rattle.rinda_rules.specs.declared.turn.Pick.{Pick}
use Rattle.rinda_rules.specs.declared.row.RequestState.{RequestState}
use Rattle.rinda_rules.specs.declared.row.RequestState.TheVariants as state
use Rattle.rinda_rules.specs.declared.plain.Entry.{Entry}
use Rattle.rinda_rules.specs.declared.plain.Request.{Request}
use Rattle.rinda_rules.specs.declared.plain.Notifier.{Notifier}
use Rattle.rinda_rules.specs.declared.plain.Hearing.{Hearing}
use Rattle.rinda_rules.specs.declared.plain.Hearing.TheVariants as hearing
use Rattle.rinda_rules.specs.declared.plain.Raised.{Raised}
use Rattle.rinda_rules.specs.Rows.{row_of, changed, rising}
use Rattle.rinda_rules.specs.Space.{Plain, opening, tuple_at, request_at, hears, is_running, is_reserved, is_parked}
use Rattle.rinda_rules.specs.Queue.{until_end}
use Rattle.rinda_rules.specs.Phases.{advanced, aged, with_tuple, with_request, with_notifier, tuple_ended, request_ended, notifier_ended, request_in, in_state, held_by, served_as, Serve}
use Rattle.rinda_rules.specs.Cases.{minted, written, written_over, shut_down, outcome, new_tuple, new_request, new_notifier, read_by, asked_doubt, settle_tuple, shut_request, shut_notifier}
use Rattle.rinda_rules.specs.Steps.{chooser, found_by, Case, Step}
use Rattle.rinda_rules.specs.Settled.{is_shut_request, is_shut_down}
use Rattle.rinda_rules.specs.Sound.{Sound, has_answer, may_doubt, ends_within, hears_within}
use Rattle.rinda_rules.proofs.Lists.{all_imp, all_map, all_filter, all_append, all_changed, all_changed_one, all_at, all_true}
use Rattle.rinda_rules.proofs.Ways.{BecomesAt, with_new_request, with_new_notifier, Ways, ways_of, LeasesRequest, Answers, serves, cancels}
use Rattle.rinda_rules.proofs.Becoming.{doubts_asked, becomes_shut}
use Rattle.rinda_rules.proofs.Below.{changed_none}
use Rattle.rinda_rules.proofs.Outcomes.{Chosen, chosen_none, chosen_match, outcome_ways, serve_ways}
use Rattle.rinda_rules.proofs.Aging.{ages_by}
use Rattle.rinda_rules.proofs.Ranking.{Ranked, ranked_keeps, ranked_expires}
use Rattle.rinda_rules.proofs.Parting.{Parted, parted_ways, parted_expires}
use Rattle.rinda_rules.proofs.Holders.{Holds, holds_ways, holds_expires}

pub sound_opening : Sound opening
sound_opening = record {
  numbered = record { next = refl; tuples = refl; requests = refl; notifiers = refl };
  apart = record { once = λ id. less; minted = λ id e. refl; zero = refl };
  few = omega arith;
  held = refl;
  granted = refl;
  answers = refl;
  doubts = record { tuples = refl; requests = refl; notifiers = refl };
  heard = refl;
  closed = refl;
}
  where
    less : 0 ≤ 1
    less = omega arith

ranked_of : (s : Plain) → Sound s → Ranked s
ranked_of s h = record { numbered = h.numbered; kept = h.held }

parted_of : (s : Plain) → Sound s → Parted s
parted_of s h = record { next = h.numbered.next; apart = h.apart; few = h.few }

holds_of : (s : Plain) → Sound s → Holds s
holds_of s h = record { each = h.granted }

-- What each row says for itself.

abbrev AllAnswers : List Request → Type 0
AllAnswers rs = list_all (λ r. has_answer r.state) rs ≡ true

abbrev AllHear : List Raised → List Notifier → Type 0
AllHear es ns = list_all (hears_within es) ns ≡ true

abbrev tuple_may : Entry → Bool
tuple_may t = may_doubt t.doubt (is_none t.renewer)

abbrev request_may : Request → Bool
request_may r = may_doubt r.doubt (is_none r.renewer)

abbrev notifier_may : Notifier → Bool
notifier_may n = may_doubt n.doubt (is_none n.renewer)

-- what each row says for itself, and whether the space is shut
record Rows (s : Plain) : Type 0 where
  answers : AllAnswers s.requests
  tuples : list_all tuple_may s.tuples ≡ true
  requests : list_all request_may s.requests ≡ true
  notifiers : list_all notifier_may s.notifiers ≡ true
  heard : AllHear s.events s.notifiers
  closed : is_shut_down s ≡ true

rows_of : (s : Plain) → Sound s → Rows s
rows_of s h = record { answers = h.answers; tuples = h.doubts.tuples; requests = h.doubts.requests; notifiers = h.doubts.notifiers; heard = h.heard; closed = h.closed }

sound_of : (s : Plain) → Ranked s → Parted s → Holds s → Rows s → Sound s
sound_of s a b c d = record { numbered = a.numbered; apart = b.apart; few = b.few; held = a.kept; granted = c.each; answers = d.answers; doubts = record { tuples = d.tuples; requests = d.requests; notifiers = d.notifiers }; heard = d.heard; closed = d.closed }

-- More is raised.

more_taken : (n : ℕ) (xs : List Raised) (e : Raised) → nat_le n (length xs) ≡ true → take n (xs ++ e ∷ []) ≡ take n xs
more_taken n xs e le = take-append-le n xs (e ∷ []) (le_of n (length xs) le)
  where
    le_of : (a b : ℕ) → nat_le a b ≡ true → a ≤ b
    le_of a b e = grind (arith, nat_tests)

more_heard : (p : Raised → Bool) (k : ℕ) (xs : List Raised) (e : Raised) → nat_le k (length xs) ≡ true → length (filter p (drop k xs)) ≤ length (filter p (drop k (xs ++ e ∷ [])))
more_heard p k xs e le = rw (drop-append-le k xs (e ∷ []) (le_of k (length xs) le)) (longer (drop k xs))
  where
    le_of : (a b : ℕ) → nat_le a b ≡ true → a ≤ b
    le_of a b e = grind (arith, nat_tests)

    longer : (ys : List Raised) → length (filter p ys) ≤ length (filter p (ys ++ e ∷ []))
    longer [] = omega arith
    longer (y ∷ ys) = grind (arith, nat_tests, longer ys)

hears_more : (es : List Raised) (e : Raised) (n : Notifier) → hears_within es n ≡ true → hears_within (es ++ e ∷ []) n ≡ true
hears_more es e n h = by_state n.state h
  where
    long : length (es ++ e ∷ []) ≡ length es + 1
    long = length-append es (e ∷ [])

    by_state : (st : Hearing) → (ends_within n.since (length es) st && nat_le n.popped (length (filter (hears n) (drop n.since (until_end st es))))) ≡ true → (ends_within n.since (length (es ++ e ∷ [])) st && nat_le n.popped (length (filter (hears n) (drop n.since (until_end st (es ++ e ∷ [])))))) ≡ true
    by_state hearing.Running h = rw long (grow n.since (length es) n.popped _ _ h (more_heard (hears n) n.since es e (front _ _ h)))
      where
        front : (a b : Bool) → (a && b) ≡ true → a ≡ true
        front a b e = grind arith

        grow : (since raised popped a b : ℕ) → (nat_le since raised && nat_le popped a) ≡ true → a ≤ b → (nat_le since (raised + 1) && nat_le popped b) ≡ true
        grow since raised popped a b e le = grind (arith, nat_tests)
    by_state (hearing.Closed l until) h = rw (long, more_taken until es e (within n.since until (length es) _ h)) (grow n.since until (length es) _ h)
      where
        within : (since until raised : ℕ) (b : Bool) → ((nat_le since until && nat_le until raised) && b) ≡ true → nat_le until raised ≡ true
        within since until raised b e = grind (arith, nat_tests)

        grow : (since until raised : ℕ) (b : Bool) → ((nat_le since until && nat_le until raised) && b) ≡ true → ((nat_le since until && nat_le until (raised + 1)) && b) ≡ true
        grow since until raised b e = grind (arith, nat_tests)

pub all_hear_more : (es : List Raised) (e : Raised) (ns : List Notifier) → AllHear es ns → AllHear (es ++ e ∷ []) ns
all_hear_more es e ns h = all_imp (hears_within es) (hears_within (es ++ e ∷ [])) (hears_more es e) ns h

heard_new : (n : Notifier) (es : List Raised) → n.state ≡ hearing.Running → n.since ≡ length es → n.popped ≡ 0 → hears_within es n ≡ true
heard_new n es runs since popped = rw (runs, since, popped) (grind (arith, nat_tests))

-- The space is shut.

closed_open : (s : Plain) → s.shut ≡ false → is_shut_down s ≡ true
closed_open s e = rw e refl

closed_from : (s s' : Plain) → s'.shut ≡ s.shut → (list_all is_shut_request s.requests ≡ true → list_all is_shut_request s'.requests ≡ true) → (list_all (λ n. not (is_running n.state)) s.notifiers ≡ true → list_all (λ n. not (is_running n.state)) s'.notifiers ≡ true) → is_shut_down s ≡ true → is_shut_down s' ≡ true
closed_from s s' same rs ns e = rw same (by_tests s.shut _ _ _ _ rs ns e)
  where
    by_tests : (a b c b' c' : Bool) → (b ≡ true → b' ≡ true) → (c ≡ true → c' ≡ true) → (not a || (b && c)) ≡ true → (not a || (b' && c')) ≡ true
    by_tests a b c b' c' f g e = grind arith

-- where a reserved request is not marked, the space isn't shut
unshut_by : (s : Plain) (r : Request) → request_at s r.id ≡ Some r → r.state ≡ state.Reserved → r.marked ≡ false → is_shut_down s ≡ true → s.shut ≡ false
unshut_by s r there is unmarked e = by_test s.shut refl
  where
    none : false ≡ true → ⊥
    none e = cc

    requests : (a b c : Bool) → a ≡ true → (not a || (b && c)) ≡ true → b ≡ true
    requests a b c f e = grind arith

    marked : is_shut_request r ≡ true → false ≡ true
    marked e = rw (is, unmarked) at e

    by_test : (b : Bool) → s.shut ≡ b → s.shut ≡ false
    by_test false f = f
    by_test true f = absurd (none (marked (all_at is_shut_request (λ r. r.id) r.id s.requests r there (requests s.shut _ _ f e))))

shut_in : (st : RequestState) (r : Request) → is_reserved st ≡ false → is_parked st ≡ false → is_shut_request (in_state st r) ≡ true
shut_in st r a b = rw (a, b) refl

shut_all_in : (id : ℕ) (st : RequestState) (rs : List Request) → is_reserved st ≡ false → is_parked st ≡ false → list_all is_shut_request rs ≡ true → list_all is_shut_request (changed (λ r. r.id) id (in_state st) rs) ≡ true
shut_all_in id st rs a b e = all_changed is_shut_request (λ r. r.id) id (in_state st) rs (λ x _. shut_in st x a b) e

shut_leased : (f : Request → Request) → LeasesRequest f → (r : Request) → is_shut_request r ≡ true → is_shut_request (f r) ≡ true
shut_leased f k r e = rw (k.state r, k.marked r) e

shut_marked : (r : Request) → is_shut_request r ≡ true → is_shut_request (record r { marked = true }) ≡ true
shut_marked r e = grind arith

shut_read : (value : Tuple) (r : Request) → is_shut_request r ≡ true → is_shut_request (read_by value r) ≡ true
shut_read value r e = grind arith

shut_shut : (r : Request) → is_shut_request (shut_request r) ≡ true
shut_shut r = by_state r.state refl
  where
    by_state : (st : RequestState) → r.state ≡ st → is_shut_request (shut_request r) ≡ true
    by_state state.Reserved is = rw is refl
    by_state state.Parked is = rw is refl
    by_state (state.Granted t) is = rw is refl
    by_state (state.Answered o) is = rw is refl

shut_notifier_closed : (until : ℕ) (n : Notifier) → not (is_running (shut_notifier until n).state) ≡ true
shut_notifier_closed until n = grind arith

-- Answers and doubts.

answers_read : (value : Tuple) (r : Request) → has_answer r.state ≡ true → has_answer (read_by value r).state ≡ true
answers_read value r e = grind arith

answers_shut : (r : Request) → has_answer r.state ≡ true → has_answer (shut_request r).state ≡ true
answers_shut r e = grind arith

answers_in : (id : ℕ) (st : RequestState) (rs : List Request) → has_answer st ≡ true → AllAnswers rs → AllAnswers (changed (λ r. r.id) id (in_state st) rs)
answers_in id st rs e h = all_changed (λ r. has_answer r.state) (λ r. r.id) id (in_state st) rs (λ x _. e) h

answers_leased : (f : Request → Request) → LeasesRequest f → (r : Request) → has_answer r.state ≡ true → has_answer (f r).state ≡ true
answers_leased f k r e = rw (k.state r) e

answers_by : (caller : ℕ) (event : Event) (r : Request) (o : Out) → Answers caller event r o → has_answer (state.Answered o) ≡ true
answers_by caller event r o (serves why v is) = rw is refl
answers_by caller event r o (cancels p c is) = rw is refl

doubts_read : (value : Tuple) (r : Request) → request_may r ≡ true → request_may (read_by value r) ≡ true
doubts_read value r e = grind arith

doubts_shut : (r : Request) → request_may r ≡ true → request_may (shut_request r) ≡ true
doubts_shut r e = grind arith

doubts_in : (id : ℕ) (st : RequestState) (rs : List Request) → list_all request_may rs ≡ true → list_all request_may (changed (λ r. r.id) id (in_state st) rs) ≡ true
doubts_in id st rs h = all_changed request_may (λ r. r.id) id (in_state st) rs (λ x e. e) h

-- a change of the row with that id, if there is one
one_changes : {R : Type 0} (p : R → Bool) (key : R → ℕ) (id : ℕ) (f : R → R) (xs : List R) → rising key xs ≡ true → ((x : R) → row_of key id xs ≡ Some x → p x ≡ true → p (f x) ≡ true) → list_all p xs ≡ true → list_all p (changed key id f xs) ≡ true
one_changes {R} p key id f xs up here e = by_row (row_of key id xs) refl
  where
    by_row : (o : Option R) → row_of key id xs ≡ o → list_all p (changed key id f xs) ≡ true
    by_row None there = rw (changed_none key id f xs there) e
    by_row (Some r) there = all_changed_one p key id f xs r up there (here r there (all_at p key id xs r there e)) e

up : (a b : Bool) → (a && b) ≡ true → a ≡ true
up a b e = grind arith

-- Each way.

rows_tuple_ended : (l : Last) (t : Entry) (s : Plain) → Rows s → Rows (tuple_ended l t s)
rows_tuple_ended l t s d = record { answers = d.answers; tuples = all_filter tuple_may (λ x. not (x.id == t.id)) s.tuples d.tuples; requests = d.requests; notifiers = d.notifiers; heard = all_hear_more s.events _ s.notifiers d.heard; closed = closed_from s (tuple_ended l t s) refl (λ e. e) (λ e. e) d.closed }

rows_request_ended : (l : Last) (id : ℕ) (s : Plain) → Rows s → Rows (request_ended l id s)
rows_request_ended l id s d = record { answers = all_filter (λ r. has_answer r.state) (λ x. not (x.id == id)) s.requests d.answers; tuples = d.tuples; requests = all_filter request_may (λ x. not (x.id == id)) s.requests d.requests; notifiers = d.notifiers; heard = d.heard; closed = closed_from s (request_ended l id s) refl (all_filter is_shut_request (λ x. not (x.id == id)) s.requests) (λ e. e) d.closed }

rows_tuples : (s : Plain) (ts : List Entry) → list_all tuple_may ts ≡ true → Rows s → Rows (record s { tuples = ts })
rows_tuples s ts e d = record { answers = d.answers; tuples = e; requests = d.requests; notifiers = d.notifiers; heard = d.heard; closed = closed_from s (record s { tuples = ts }) refl (λ e. e) (λ e. e) d.closed }

rows_state : (s : Plain) (id : ℕ) (st : RequestState) → has_answer st ≡ true → is_shut_down (request_in id st s) ≡ true → Rows s → Rows (request_in id st s)
rows_state s id st e closed d = record { answers = answers_in id st s.requests e d.answers; tuples = d.tuples; requests = doubts_in id st s.requests d.requests; notifiers = d.notifiers; heard = d.heard; closed = closed }

closed_state : (s : Plain) (id : ℕ) (st : RequestState) → is_reserved st ≡ false → is_parked st ≡ false → is_shut_down s ≡ true → is_shut_down (request_in id st s) ≡ true
closed_state s id st a b e = closed_from s (request_in id st s) refl (shut_all_in id st s.requests a b) (λ e. e) e

rows_leased : (s : Plain) (id : ℕ) (f : Request → Request) → LeasesRequest f → list_all request_may (changed (λ r. r.id) id f s.requests) ≡ true → Rows s → Rows (with_request id f s)
rows_leased s id f k e d = record { answers = all_changed (λ r. has_answer r.state) (λ r. r.id) id f s.requests (answers_leased f k) d.answers; tuples = d.tuples; requests = e; notifiers = d.notifiers; heard = d.heard; closed = closed_from s (with_request id f s) refl (all_changed is_shut_request (λ r. r.id) id f s.requests (shut_leased f k)) (λ e. e) d.closed }

rows_settles : (r : Request) (ok : Bool) (o : Option Entry) (s : Plain) → Rows s → Rows (request_ended last.Done r.id (settle_tuple ok o s))
rows_settles r ok None s d = rows_request_ended last.Done r.id s d
rows_settles r true (Some t) s d = rows_request_ended last.Done r.id (tuple_ended last.Taken t s) (rows_tuple_ended last.Taken t s d)
rows_settles r false (Some t) s d = by_mark t.marked
  where
    by_mark : (b : Bool) → Rows (request_ended last.Done r.id (cond {A = Plain} b (tuple_ended last.Canceled t s) (with_tuple t.id (λ t. record t { holder = None }) s)))
    by_mark true = rows_request_ended last.Done r.id (tuple_ended last.Canceled t s) (rows_tuple_ended last.Canceled t s d)
    by_mark false = rows_request_ended last.Done r.id (with_tuple t.id (λ t. record t { holder = None }) s) (rows_tuples s _ (all_changed tuple_may (λ t. t.id) t.id (λ t. record t { holder = None }) s.tuples (λ x e. e) d.tuples) d)

rows_written : (s : Plain) (value : Tuple) (lease : Lease) → s.shut ≡ false → Rows s → Rows (written (new_tuple s value lease) (minted s))
rows_written s value lease e d = record { answers = d.answers; tuples = all_append tuple_may s.tuples (new_tuple s value lease ∷ []) d.tuples refl; requests = d.requests; notifiers = d.notifiers; heard = all_hear_more s.events _ s.notifiers d.heard; closed = closed_open (written (new_tuple s value lease) (minted s)) e }

rows_written_over : (s : Plain) (value : Tuple) (lease : Lease) → s.shut ≡ false → Rows s → Rows (written_over (new_tuple s value lease) (minted s))
rows_written_over s value lease e d = record {
  answers = all_map (λ r. has_answer r.state) (read_by value) s.requests ∙ all_imp (λ r. has_answer r.state) (λ r. has_answer (read_by value r).state) (answers_read value) s.requests d.answers;
  tuples = d.tuples;
  requests = all_map request_may (read_by value) s.requests ∙ all_imp request_may (λ r. request_may (read_by value r)) (doubts_read value) s.requests d.requests;
  notifiers = d.notifiers;
  heard = all_hear_more _ _ s.notifiers (all_hear_more s.events _ s.notifiers d.heard);
  closed = closed_open (written_over (new_tuple s value lease) (minted s)) e;
}

rows_reserved : (s : Plain) (caller : ℕ) (k : Kind) (pattern : Template) (lease : Lease) → s.shut ≡ false → Rows s → Rows (with_new_request s caller k pattern lease)
rows_reserved s caller k pattern lease e d = record { answers = all_append (λ r. has_answer r.state) s.requests (new_request s caller k pattern lease ∷ []) d.answers refl; tuples = d.tuples; requests = all_append request_may s.requests (new_request s caller k pattern lease ∷ []) d.requests refl; notifiers = d.notifiers; heard = d.heard; closed = closed_open (with_new_request s caller k pattern lease) e }

rows_notified : (s : Plain) (x : Tree) (pattern : Template) (lease : Lease) → s.shut ≡ false → Rows s → Rows (with_new_notifier s x pattern lease)
rows_notified s x pattern lease e d = record { answers = d.answers; tuples = d.tuples; requests = d.requests; notifiers = all_append notifier_may s.notifiers (new_notifier s x pattern lease ∷ []) d.notifiers refl; heard = all_append (hears_within s.events) s.notifiers (new_notifier s x pattern lease ∷ []) d.heard (grind (arith, heard_new (new_notifier s x pattern lease) s.events refl refl refl)); closed = closed_open (with_new_notifier s x pattern lease) e }

rows_notifier : (s : Plain) (id : ℕ) (f : Notifier → Notifier) → rising (λ n. n.id) s.notifiers ≡ true → BecomesAt s id f → Rows s → Rows (with_notifier id f s)
rows_notifier s id f up becomes d = record {
  answers = d.answers;
  tuples = d.tuples;
  requests = d.requests;
  notifiers = one_changes notifier_may (λ n. n.id) id f s.notifiers up (λ n there. (becomes n there).doubts) d.notifiers;
  heard = one_changes (hears_within s.events) (λ n. n.id) id f s.notifiers up (λ n there. (becomes n there).heard) d.heard;
  closed = closed_from s (with_notifier id f s) refl (λ e. e) (one_changes (λ n. not (is_running n.state)) (λ n. n.id) id f s.notifiers up (λ n there e. ap not ((becomes n there).closed (flip _ e)))) d.closed;
}
  where
    flip : (b : Bool) → not b ≡ true → b ≡ false
    flip b e = grind arith

rows_notifier_ended : (l : Last) (id : ℕ) (s : Plain) → Rows s → Rows (notifier_ended l id s)
rows_notifier_ended l id s d = record { answers = d.answers; tuples = d.tuples; requests = d.requests; notifiers = all_filter notifier_may (λ x. not (x.id == id)) s.notifiers d.notifiers; heard = all_filter (hears_within s.events) (λ x. not (x.id == id)) s.notifiers d.heard; closed = closed_from s (notifier_ended l id s) refl (λ e. e) (all_filter (λ n. not (is_running n.state)) (λ x. not (x.id == id)) s.notifiers) d.closed }

rows_shut : (s : Plain) → Rows s → Rows (shut_down s)
rows_shut s d = record {
  answers = all_map (λ r. has_answer r.state) shut_request s.requests ∙ all_imp (λ r. has_answer r.state) (λ r. has_answer (shut_request r).state) answers_shut s.requests d.answers;
  tuples = d.tuples;
  requests = all_map request_may shut_request s.requests ∙ all_imp request_may (λ r. request_may (shut_request r)) doubts_shut s.requests d.requests;
  notifiers = all_map notifier_may (shut_notifier (length s.events)) s.notifiers ∙ all_imp notifier_may (λ n. notifier_may (shut_notifier (length s.events) n)) (λ n. (becomes_shut s n).doubts) s.notifiers d.notifiers;
  heard = all_map (hears_within s.events) (shut_notifier (length s.events)) s.notifiers ∙ all_imp (hears_within s.events) (λ n. hears_within s.events (shut_notifier (length s.events) n)) (λ n. (becomes_shut s n).heard) s.notifiers d.heard;
  closed = pair _ _ (all_map is_shut_request shut_request s.requests ∙ all_true (λ r. is_shut_request (shut_request r)) shut_shut s.requests)
      (all_map (λ n. not (is_running n.state)) (shut_notifier (length s.events)) s.notifiers ∙ all_true (λ n. not (is_running (shut_notifier (length s.events) n).state)) (shut_notifier_closed (length s.events)) s.notifiers);
}
  where
    pair : (a b : Bool) → a ≡ true → b ≡ true → (a && b) ≡ true
    pair a b e f = grind arith

rows_marked : (s : Plain) (id : ℕ) → Rows s → Rows (with_request id (λ r. record r { marked = true }) s)
rows_marked s id d = record { answers = all_changed (λ r. has_answer r.state) (λ r. r.id) id (λ r. record r { marked = true }) s.requests (λ x e. e) d.answers; tuples = d.tuples; requests = all_changed request_may (λ r. r.id) id (λ r. record r { marked = true }) s.requests (λ x e. e) d.requests; notifiers = d.notifiers; heard = d.heard; closed = closed_from s (with_request id (λ r. record r { marked = true }) s) refl (all_changed is_shut_request (λ r. r.id) id (λ r. record r { marked = true }) s.requests shut_marked) (λ e. e) d.closed }

rows_grants : (r : Request) (t : Entry) (s : Plain) → Rows s → Rows (served_as kind.Move r t s)
rows_grants r t s d =
    let held : Plain = record s { tuples = changed (λ t. t.id) t.id (held_by r.id) s.tuples } in
    let rows : Rows held = rows_tuples s (changed (λ t. t.id) t.id (held_by r.id) s.tuples) (all_changed tuple_may (λ t. t.id) t.id (held_by r.id) s.tuples (λ x e. e) d.tuples) d in
    rows_state held r.id (state.Granted t.id) refl (closed_state held r.id (state.Granted t.id) refl refl rows.closed) rows

rows_asks : (s : Plain) (id : ℕ) → Rows s → Rows (with_request id (λ r. record r { doubt = asked_doubt r.doubt }) s)
rows_asks s id d = rows_leased s id (λ r. record r { doubt = asked_doubt r.doubt }) (record { id = λ r. refl; caller = λ r. refl; kind = λ r. refl; pattern = λ r. refl; marked = λ r. refl; state = λ r. refl }) (all_changed request_may (λ r. r.id) id (λ r. record r { doubt = asked_doubt r.doubt }) s.requests (λ r e. doubts_asked r.doubt (is_none r.renewer) e) d.requests) d

pub sound_ways : (caller : ℕ) (event : Event) → Ways caller event Sound
sound_ways caller event = record {
  advances = λ s at h. sound_of _ (a.advances s at (ranked_of s h)) (b.advances s at (parted_of s h)) (c.advances s at (holds_of s h)) (record { answers = (rows_of s h).answers; tuples = (rows_of s h).tuples; requests = (rows_of s h).requests; notifiers = (rows_of s h).notifiers; heard = (rows_of s h).heard; closed = closed_from s (advanced s at) refl (λ e. e) (λ e. e) (rows_of s h).closed });
  writes = λ s value lease unshut h. sound_of _ (a.writes s value lease unshut (ranked_of s h)) (b.writes s value lease unshut (parted_of s h)) (c.writes s value lease unshut (holds_of s h)) (rows_written s value lease unshut (rows_of s h));
  writes_over = λ s value lease unshut h. sound_of _ (a.writes_over s value lease unshut (ranked_of s h)) (b.writes_over s value lease unshut (parted_of s h)) (c.writes_over s value lease unshut (holds_of s h)) (rows_written_over s value lease unshut (rows_of s h));
  reserves = λ s k pattern lease unshut h. sound_of _ (a.reserves s k pattern lease unshut (ranked_of s h)) (b.reserves s k pattern lease unshut (parted_of s h)) (c.reserves s k pattern lease unshut (holds_of s h)) (rows_reserved s caller k pattern lease unshut (rows_of s h));
  notifies = λ s e pattern lease unshut h. sound_of _ (a.notifies s e pattern lease unshut (ranked_of s h)) (b.notifies s e pattern lease unshut (parted_of s h)) (c.notifies s e pattern lease unshut (holds_of s h)) (rows_notified s e pattern lease unshut (rows_of s h));
  tuple_leaves = λ l t s here isfree h. sound_of _ (a.tuple_leaves l t s here isfree (ranked_of s h)) (b.tuple_leaves l t s here isfree (parted_of s h)) (c.tuple_leaves l t s here isfree (holds_of s h)) (rows_tuple_ended l t s (rows_of s h));
  tuple_leases = λ id f s leases doubts h. sound_of _ (a.tuple_leases id f s leases doubts (ranked_of s h)) (b.tuple_leases id f s leases doubts (parted_of s h)) (c.tuple_leases id f s leases doubts (holds_of s h)) (rows_tuples s _ (one_changes tuple_may (λ t. t.id) id f s.tuples (up _ _ h.numbered.tuples) doubts (rows_of s h).tuples) (rows_of s h));
  tuple_marks = λ t holder s here is h. sound_of _ (a.tuple_marks t holder s here is (ranked_of s h)) (b.tuple_marks t holder s here is (parted_of s h)) (c.tuple_marks t holder s here is (holds_of s h)) (rows_tuples s _ (all_changed tuple_may (λ t. t.id) t.id (λ t. record t { marked = true }) s.tuples (λ x e. e) (rows_of s h).tuples) (rows_of s h));
  request_leases = λ r f s there leases may doubts h. sound_of _ (a.request_leases r f s there leases may doubts (ranked_of s h)) (b.request_leases r f s there leases may doubts (parted_of s h)) (c.request_leases r f s there leases may doubts (holds_of s h)) (rows_leased s r.id f leases (all_changed_one request_may (λ r. r.id) r.id f s.requests r (up _ _ h.numbered.requests) there (doubts (all_at request_may (λ r. r.id) r.id s.requests r there (rows_of s h).requests)) (rows_of s h).requests) (rows_of s h));
  request_asks = λ id s h. sound_of _ (a.request_asks id s (ranked_of s h)) (b.request_asks id s (parted_of s h)) (c.request_asks id s (holds_of s h)) (rows_asks s id (rows_of s h));
  request_marks = λ r s there is e h. sound_of _ (a.request_marks r s there is e (ranked_of s h)) (b.request_marks r s there is e (parted_of s h)) (c.request_marks r s there is e (holds_of s h)) (rows_marked s r.id (rows_of s h));
  request_parks = λ r s there is unmarked own e h. sound_of _ (a.request_parks r s there is unmarked own e (ranked_of s h)) (b.request_parks r s there is unmarked own e (parted_of s h)) (c.request_parks r s there is unmarked own e (holds_of s h)) (rows_state s r.id state.Parked refl (closed_open (request_in r.id state.Parked s) (unshut_by s r there is unmarked (rows_of s h).closed)) (rows_of s h));
  request_answers = λ r o s there why h. sound_of _ (a.request_answers r o s there why (ranked_of s h)) (b.request_answers r o s there why (parted_of s h)) (c.request_answers r o s there why (holds_of s h)) (rows_state s r.id (state.Answered o) (answers_by caller event r o why) (closed_state s r.id (state.Answered o) refl refl (rows_of s h).closed) (rows_of s h));
  request_ends = λ l r s there none own of h. sound_of _ (a.request_ends l r s there none own of (ranked_of s h)) (b.request_ends l r s there none own of (parted_of s h)) (c.request_ends l r s there none own of (holds_of s h)) (rows_request_ended l r.id s (rows_of s h));
  grants = λ r t s there here isfree why h. sound_of _ (a.grants r t s there here isfree why (ranked_of s h)) (b.grants r t s there here isfree why (parted_of s h)) (c.grants r t s there here isfree why (holds_of s h)) (rows_grants r t s (rows_of s h));
  settles = λ r tuple ok s there is own e h. sound_of _ (a.settles r tuple ok s there is own e (ranked_of s h)) (b.settles r tuple ok s there is own e (parted_of s h)) (c.settles r tuple ok s there is own e (holds_of s h)) (rows_settles r ok (tuple_at s tuple) s (rows_of s h));
  notifier_changes = λ id f s keeps becomes h. sound_of _ (a.notifier_changes id f s keeps becomes (ranked_of s h)) (b.notifier_changes id f s keeps becomes (parted_of s h)) (c.notifier_changes id f s keeps becomes (holds_of s h)) (rows_notifier s id f (up _ _ h.numbered.notifiers) becomes (rows_of s h));
  notifier_ends = λ l n s there h. sound_of _ (a.notifier_ends l n s there (ranked_of s h)) (b.notifier_ends l n s there (parted_of s h)) (c.notifier_ends l n s there (holds_of s h)) (rows_notifier_ended l n.id s (rows_of s h));
  shuts = λ s unshut is h. sound_of _ (a.shuts s unshut is (ranked_of s h)) (b.shuts s unshut is (parted_of s h)) (c.shuts s unshut is (holds_of s h)) (rows_shut s (rows_of s h));
}
  where
    a : Ways caller event Ranked
    a = ways_of (ranked_keeps caller event)

    b : Ways caller event Parted
    b = parted_ways caller event

    c : Ways caller event Holds
    c = holds_ways caller event

sound_expires : (r : Request) (s : Plain) → request_at s r.id ≡ Some r → r.state ≡ state.Parked → Sound s → Sound (request_in r.id (state.Answered out.Expired) s)
sound_expires r s there is h = sound_of _ (ranked_expires r s there is (ranked_of s h)) (parted_expires r s (parted_of s h)) (holds_expires r s (holds_of s h)) (rows_state s r.id (state.Answered out.Expired) refl (closed_state s r.id (state.Answered out.Expired) refl refl h.closed) (rows_of s h))

pub sound-aged : (s : Plain) → Sound s → Sound (aged s)
sound-aged s h = ages_by 0 Tick Sound (sound_ways 0 Tick) sound_expires s h

pub sound-advanced : (s : Plain) (at : ℕ) → Sound s → Sound (advanced s at)
sound-advanced s at h = (sound_ways 0 Tick).advances s at h

pub sound-found_by : (s : Plain) (at : ℕ) → Sound s → Sound (found_by s at)
sound-found_by s at h = sound-aged (advanced s at) ((sound_ways 0 Tick).advances s at h)

pub sound-outcome : (s : Plain) (caller : ℕ) (event : Event) (choice : Option Entry) → Chosen s event choice → Sound s → Sound (outcome s caller event choice).after
sound-outcome s caller event choice chosen h = outcome_ways caller event Sound (sound_ways caller event) s event choice refl chosen h

pub sound-Serve : (s : Plain) (picks : List Pick) (s' : Plain) → Serve s picks s' → Sound s → Sound s'
sound-Serve s picks s' serve h = serve_ways 0 Tick Sound (sound_ways 0 Tick) s picks s' serve h

sound-Case : (s : Plain) (caller : ℕ) (event : Event) (r : Option Request) (o : Out) (picks : List Pick) (s' : Plain) → chooser s caller event ≡ r → Case s caller event r o picks s' → Sound s → Sound s'
sound-Case s caller event None o picks s' chooses case h = sound-Serve _ picks s' case.1 (sound-aged _ (sound-outcome s caller event None (chosen_none s event) h))
sound-Case s caller event (Some r) o [] s' chooses case h = absurd case
sound-Case s caller event (Some r) o (pick ∷ picks) s' chooses case h = sound-Serve _ picks s' case.2 (sound-aged _ (sound-outcome s caller event (tuple_at s pick.tuple) (chosen_match s caller event r pick chooses case.0) h))

-- each step leads from a sound space to a sound one
pub sound-Step : (s : Plain) (caller at : ℕ) (event : Event) (o : Out) (picks : List Pick) (s' : Plain) → Step s caller at event o picks s' → Sound s → Sound s'
sound-Step s caller at event o picks s' step h = sound-Case (found_by s at) caller event (chooser (found_by s at) caller event) o picks s' refl step (sound-found_by s at h)
