-- What aging keeps, one row after another.
use Rattle.std.proofs.Common.{◌≡◌, ℕ, zero, suc, Bool, true, false, cond, not, ◌&&◌, ◌||◌, max, refl, ◌∙◌, ap, arith}
use Rattle.std.specs.Prelude.{is_none, length}
use Rattle.rinda_tuple.specs.Matching.{matches}
use Rattle.rinda_rules.specs.declared.object.Last.TheVariants as last
use Rattle.rinda_rules.specs.declared.out.Out.TheVariants as out
use Rattle.rinda_rules.specs.declared.row.RequestState.TheVariants as state
use Rattle.rinda_rules.specs.declared.plain.Entry.{Entry}
use Rattle.rinda_rules.specs.declared.plain.Request.{Request}
use Rattle.rinda_rules.specs.declared.plain.Notifier.{Notifier}
use Rattle.rinda_rules.specs.Space.{Plain, Found, TheTuple, TheRequest, TheNotifier, HasEnded, IsRecycled, IsUnknown, found, is_over, is_free, is_doubted, is_parked, is_running, is_waiting, is_read, is_due_tuple, is_due_request, is_due_notifier, may_have}
use Rattle.rinda_effects.specs.Ages.{lasts, all_last}
use Rattle.rinda_rules.specs.Phases.{advanced, aged, aged_below, age_found, age_tuple, age_request, age_notifier, doubt_tuple, doubt_request, doubt_notifier, close_after, tuple_ended, request_in, with_tuple, with_request, with_notifier, nothing_due}
use Rattle.rinda_rules.proofs.Lists.{all_at, all_imp}
use Rattle.rinda_rules.proofs.Finding.{found-tuple, found-request, found-notifier}
use Rattle.rinda_effects.specs.Touches.{Touched, wants, waits_only}
use Rattle.rinda_effects.proofs.Kept.{WantsLess, WantedLess, less_request, less_tuple}
use Rattle.rinda_effects.proofs.Cases.{kept-in_state, kept-tuple_ended}

front : (a b : Bool) → (a && b) ≡ true → a ≡ true
front a b e = grind arith

back : (a b : Bool) → (a && b) ≡ true → b ≡ true
back a b e = grind arith

-- Who is doubted wants nothing, and is wanted by nobody.

doubt_request_less : (now : ℕ) → WantsLess now doubt_request
doubt_request_less now r = (refl, λ t e. absurd_of (is_parked r.state) (may_have now r t) (wants now r t) e)
  where
    absurd_of : (p m w : Bool) → ((p && false) && m) ≡ true → w ≡ true
    absurd_of p m w e = grind arith

doubt_tuple_less : (now : ℕ) → WantedLess now doubt_tuple
doubt_tuple_less now t = (refl, λ r. dead (is_waiting r) (matches r.pattern t.value) (not t.marked) (not (is_free t) || not (is_over now t.deadline)) (is_read r.kind || is_free t) (wants now r t))
  where
    dead : (w f m x k g : Bool) → (w && (f && ((m && (false && x)) && k))) ≡ true → g ≡ true
    dead w f m x k g e = grind arith

-- Aging touches no row.

kept-age_tuple : (touched : Touched) (s : Plain) (t : Entry) → waits_only touched s ≡ true → waits_only touched (age_tuple s t) ≡ true
kept-age_tuple touched s t e = by_test (is_none t.renewer)
  where
    by_test : (b : Bool) → waits_only touched (cond {A = Plain} b (tuple_ended last.Expired t s) (with_tuple t.id doubt_tuple s)) ≡ true
    by_test true = kept-tuple_ended touched last.Expired t s e
    by_test false = less_tuple touched t.id doubt_tuple s (doubt_tuple_less s.clock) e

kept-age_request : (touched : Touched) (s : Plain) (r : Request) → waits_only touched s ≡ true → waits_only touched (age_request s r) ≡ true
kept-age_request touched s r e = by_test (is_none r.renewer)
  where
    by_test : (b : Bool) → waits_only touched (cond {A = Plain} b (request_in r.id (state.Answered out.Expired) s) (with_request r.id doubt_request s)) ≡ true
    by_test true = kept-in_state touched r.id (state.Answered out.Expired) s refl e
    by_test false = less_request touched r.id doubt_request s (doubt_request_less s.clock) e

kept-age_notifier : (touched : Touched) (s : Plain) (n : Notifier) → waits_only touched s ≡ true → waits_only touched (age_notifier s n) ≡ true
kept-age_notifier touched s n e = by_test (is_none n.renewer)
  where
    by_test : (b : Bool) → waits_only touched (cond {A = Plain} b (with_notifier n.id (close_after last.Expired (length s.events)) s) (with_notifier n.id doubt_notifier s)) ≡ true
    by_test true = e
    by_test false = e

kept-age_found : (touched : Touched) (s : Plain) (f : Found) → waits_only touched s ≡ true → waits_only touched (age_found s f) ≡ true
kept-age_found touched s (TheTuple t) e = by_test (is_due_tuple s.clock t)
  where
    by_test : (b : Bool) → waits_only touched (cond {A = Plain} b (age_tuple s t) s) ≡ true
    by_test true = kept-age_tuple touched s t e
    by_test false = e
kept-age_found touched s (TheRequest r) e = by_test (is_due_request s.clock r)
  where
    by_test : (b : Bool) → waits_only touched (cond {A = Plain} b (age_request s r) s) ≡ true
    by_test true = kept-age_request touched s r e
    by_test false = e
kept-age_found touched s (TheNotifier n) e = by_test (is_due_notifier s.clock n)
  where
    by_test : (b : Bool) → waits_only touched (cond {A = Plain} b (age_notifier s n) s) ≡ true
    by_test true = kept-age_notifier touched s n e
    by_test false = e
kept-age_found touched s (HasEnded k l) e = e
kept-age_found touched s IsRecycled e = e
kept-age_found touched s IsUnknown e = e

kept-aged_below : (touched : Touched) (id : ℕ) (s : Plain) → waits_only touched s ≡ true → waits_only touched (aged_below id s) ≡ true
kept-aged_below touched zero s e = e
kept-aged_below touched (suc id) s e = kept-age_found touched (aged_below id s) (found (aged_below id s) id) (kept-aged_below touched id s e)

pub kept-aged : (touched : Touched) (s : Plain) → waits_only touched s ≡ true → waits_only touched (aged s) ≡ true
unfolding aged
kept-aged touched s e = kept-aged_below touched s.next s e

-- Where nothing is due, aging changes nothing.

pub not_aged : (b : Bool) (x y : Plain) → not b ≡ true → cond {A = Plain} b x y ≡ y
not_aged true x y e = cc
not_aged false x y e = refl

pub none_ages : (s : Plain) (id : ℕ) (f : Found) → found s id ≡ f → nothing_due s ≡ true → age_found s f ≡ s
none_ages s id (TheTuple t) is e = not_aged (is_due_tuple s.clock t) _ s (all_at (λ t. not (is_due_tuple s.clock t)) (λ t. t.id) id s.tuples t (found-tuple s id t is) (front _ _ e))
none_ages s id (TheRequest r) is e = not_aged (is_due_request s.clock r) _ s (all_at (λ r. not (is_due_request s.clock r)) (λ r. r.id) id s.requests r (found-request s id r is) (front _ _ (back _ _ e)))
none_ages s id (TheNotifier n) is e = not_aged (is_due_notifier s.clock n) _ s (all_at (λ n. not (is_due_notifier s.clock n)) (λ n. n.id) id s.notifiers n (found-notifier s id n is) (back _ _ (back _ _ e)))
none_ages s id (HasEnded k l) is e = refl
none_ages s id IsRecycled is e = refl
none_ages s id IsUnknown is e = refl

none_below : (id : ℕ) (s : Plain) → nothing_due s ≡ true → aged_below id s ≡ s
none_below zero s e = refl
none_below (suc id) s e = ap (λ (p : Plain). age_found p (found p id)) (none_below id s e) ∙ none_ages s id (found s id) refl e

pub nothing_ages : (s : Plain) → nothing_due s ≡ true → aged s ≡ s
unfolding aged
nothing_ages s e = none_below s.next s e

-- Where each deadline is later, nothing is due.

later_tuple : (a d o : Bool) → (d || not o) ≡ true → not (a && (not d && o)) ≡ true
later_tuple a d o e = grind arith

later_request : (p d o : Bool) → (d || not o) ≡ true → not ((p && not d) && o) ≡ true
later_request p d o e = grind arith

both : (a b : Bool) → a ≡ true → b ≡ true → (a && b) ≡ true
both a b e f = grind arith

pub later_is_not_due : (s : Plain) (at : ℕ) → all_last (max s.clock at) s ≡ true → nothing_due (advanced s at) ≡ true
later_is_not_due s at e =
    let now : ℕ = max s.clock at in
    both _ _ (all_imp (λ t. lasts now t.doubt t.deadline) (λ t. not (is_due_tuple now t)) (λ t. later_tuple (is_free t) (is_doubted t.doubt) (is_over now t.deadline)) s.tuples (front _ _ e))
    (both _ _ (all_imp (λ r. lasts now r.doubt r.deadline) (λ r. not (is_due_request now r)) (λ r. later_request (is_parked r.state) (is_doubted r.doubt) (is_over now r.deadline)) s.requests (front _ _ (back _ _ e)))
    (all_imp (λ n. lasts now n.doubt n.deadline) (λ n. not (is_due_notifier now n)) (λ n. later_tuple (is_running n.state) (is_doubted n.doubt) (is_over now n.deadline)) s.notifiers (back _ _ (back _ _ e))))
