-- A request that is marked, or was answered Canceled, was canceled by a turn before.
use Rattle.std.proofs.Common.{◌≡◌, ℕ, Bool, true, false, cond, not, ◌&&◌, ◌||◌, List, [], ◌∷◌, ◌++◌, Some, refl, sym, ◌∙◌, ap, subst, arith}
use Rattle.std.specs.Prelude.{◌==◌, is_none}
use Rattle.std.specs.List.{list_all, list_any}
use Rattle.std.proofs.lemmas.Bool.Decides.{nat_tests}
use Rattle.rinda_tuple.specs.declared.tuple.Tuple.{Tuple}
use Rattle.rinda_rules.specs.declared.object.Doubt.TheVariants as doubt
use Rattle.rinda_rules.specs.declared.event.Event.{Event}
use Rattle.rinda_rules.specs.declared.event.Event.TheVariants.{Cancel, Tick}
use Rattle.rinda_rules.specs.declared.out.Out.{Out}
use Rattle.rinda_rules.specs.declared.out.Out.TheVariants as out
use Rattle.rinda_rules.specs.declared.row.RequestState.{RequestState}
use Rattle.rinda_rules.specs.declared.row.RequestState.TheVariants as state
use Rattle.rinda_rules.specs.declared.plain.Request.{Request}
use Rattle.rinda_rules.specs.declared.turn.Turn.{Turn}
use Rattle.rinda_rules.specs.Rows.{changed}
use Rattle.rinda_rules.specs.Space.{Plain, request_at, tuple_at, is_waiting, is_due_request, is_read}
use Rattle.rinda_tuple.specs.Matching.{matches}
use Rattle.rinda_tuple.specs.Tuples.{value_of}
use Rattle.rinda_rules.specs.Phases.{in_state}
use Rattle.rinda_rules.specs.AtOnce.{aged_request}
use Rattle.rinda_rules.specs.Cases.{new_request, read_by, asked_doubt}
use Rattle.rinda_rules.specs.Sound.{Sound}
use Rattle.rinda_rules.specs.Steps.{chooser, found_by}
use Rattle.rinda_rules.specs.Fixed.{after}
use Rattle.rinda_rules.specs.Legal.{plain_from, LegalFrom}
use Rattle.rinda_rules.proofs.Lists.{row_has_id, all_imp, all_map, all_filter, all_append, all_at, all_changed}
use Rattle.rinda_rules.proofs.Keeping.{Keeps, LeasesRequest, Answers, serves, cancels, found_kept, step_kept}
use Rattle.rinda_laws.specs.Decides.{asks_for, is_cancel}
use Rattle.rinda_laws.specs.Starting.{IsStart}
use Rattle.rinda_laws.proofs.Deciding.{is_canceled_out, was_canceled}
use Rattle.rinda_laws.proofs.Canceling.{Cancels, why_canceled, canceled_case}
use Rattle.rinda_laws.proofs.Holding.{all_changed_both, settle_keeps}
use Rattle.rinda_laws.proofs.Turning.{sound_Step, sound_before, LegalFrom-front, last_step}

-- Canceled: where no turn cancels that id, its request isn't marked and isn't answered so.

abbrev pub is_unmarked : ℕ → Request → Bool
is_unmarked id r = not (r.id == id) || not (r.marked || was_canceled r.state)

pub record Unmarked (id : ℕ) (s : Plain) : Type 0 where
  pub each : list_all (is_unmarked id) s.requests ≡ true

unmarked_state : (id : ℕ) (st : RequestState) (r : Request) → was_canceled st ≡ false → is_unmarked id r ≡ true → is_unmarked id (in_state st r) ≡ true
unmarked_state id st r e h = subst (λ (b : Bool). (not (r.id == id) || not (r.marked || b)) ≡ true) (sym e) (less (r.id == id) r.marked (was_canceled r.state) h)
  where
    less : (a b c : Bool) → (not a || not (b || c)) ≡ true → (not a || not (b || false)) ≡ true
    less a b c e = grind arith

aged_unmarked : (id now : ℕ) (r : Request) → is_unmarked id r ≡ true → is_unmarked id (aged_request now r) ≡ true
aged_unmarked id now r h = by_tests (is_due_request now r) (is_none r.renewer)
  where
    by_tests : (a b : Bool) → is_unmarked id (cond {A = Request} a (cond {A = Request} b (record r { state = state.Answered out.Expired }) (record r { doubt = doubt.Waiting })) r) ≡ true
    by_tests true true = unmarked_state id (state.Answered out.Expired) r refl h
    by_tests true false = h
    by_tests false b = h

read_unmarked : (id : ℕ) (value : Tuple) (r : Request) → is_unmarked id r ≡ true → is_unmarked id (read_by value r) ≡ true
read_unmarked id value r h = by_test (is_read r.kind && (is_waiting r && matches r.pattern value))
  where
    by_test : (b : Bool) → is_unmarked id (cond {A = Request} b (in_state (state.Answered (out.Answer (value_of value))) r) r) ≡ true
    by_test true = unmarked_state id (state.Answered (out.Answer (value_of value))) r refl h
    by_test false = h

leased_unmarked : (id : ℕ) (f : Request → Request) → LeasesRequest f → (r : Request) → is_unmarked id r ≡ true → is_unmarked id (f r) ≡ true
leased_unmarked id f k r h = rw (k.id r, k.marked r, k.state r) h

-- a Cancel of another id
other_cancel : (id i : ℕ) (event : Event) → is_cancel id event ≡ false → event ≡ Cancel i → i == id ≡ false
other_cancel id i event not_its is = subst (λ (x : Event). is_cancel id x ≡ false) is not_its

apart : (id : ℕ) (x : Request) (i : ℕ) (m : Bool) → i == id ≡ false → x.id ≡ i → (not (x.id == id) || m) ≡ true
apart id x i m not_its same = subst (λ (j : ℕ). (not (j == id) || m) ≡ true) (sym same) (first (i == id) m not_its)
  where
    first : (a m : Bool) → a ≡ false → (not a || m) ≡ true
    first a m e = grind arith

pub unmarked_keeps : (id caller : ℕ) (event : Event) → is_cancel id event ≡ false → Keeps caller event (Unmarked id)
unmarked_keeps id caller event not_its = record {
  advances = λ s at h. record { each = h.each };
  ages = λ s sound h. record { each = all_map (is_unmarked id) (aged_request s.clock) s.requests ∙ all_imp (is_unmarked id) (λ r. is_unmarked id (aged_request s.clock r)) (aged_unmarked id s.clock) s.requests h.each };
  writes = λ s value lease unshut h. record { each = h.each };
  writes_over = λ s value lease unshut h. record { each = all_map (is_unmarked id) (read_by value) s.requests ∙ all_imp (is_unmarked id) (λ r. is_unmarked id (read_by value r)) (read_unmarked id value) s.requests h.each };
  reserves = λ s kd pattern lease unshut h. record { each = all_append (is_unmarked id) s.requests (new_request s caller kd pattern lease ∷ []) h.each (new (s.next == id)) };
  notifies = λ s e pattern lease unshut h. record { each = h.each };
  tuple_leaves = λ l t s here isfree h. record { each = h.each };
  tuple_leases = λ i f s c h. record { each = h.each };
  tuple_marks = λ t holder s here isheld h. record { each = h.each };
  request_leases = λ r f s there c may h. record { each = all_changed (is_unmarked id) (λ r. r.id) r.id f s.requests (leased_unmarked id f c) h.each };
  request_asks = λ i s h. record { each = all_changed (is_unmarked id) (λ r. r.id) i (λ r. record r { doubt = asked_doubt r.doubt }) s.requests (λ x e. e) h.each };
  request_marks = λ r s there is e h. record { each = all_changed_both (is_unmarked id) (is_unmarked id) (λ r. r.id) r.id (λ r. record r { marked = true }) s.requests (λ x same. apart id x r.id _ (other_cancel id r.id event not_its e) same) (λ x e. e) h.each };
  request_parks = λ r s there res unmarked mine is h. record { each = all_changed (is_unmarked id) (λ r. r.id) r.id (in_state state.Parked) s.requests (λ x e. unmarked_state id state.Parked x refl e) h.each };
  request_answers = λ r o s there why h. record { each = answered s r o why h.each };
  request_ends = λ l r s there none mine of h. record { each = all_filter (is_unmarked id) (λ x. not (x.id == r.id)) s.requests h.each };
  grants = λ r t s there here isfree why h. record { each = all_changed (is_unmarked id) (λ r. r.id) r.id (in_state (state.Granted t.id)) s.requests (λ x e. unmarked_state id (state.Granted t.id) x refl e) h.each };
  settles = λ r tuple ok s there is mine e h. record { each = rw (settle_keeps ok (tuple_at s tuple) s) (all_filter (is_unmarked id) (λ x. not (x.id == r.id)) s.requests h.each) };
  notifier_changes = λ i f s c h. record { each = h.each };
  notifier_ends = λ l n s h. record { each = h.each };
  shuts = λ s unshut is h. absurd (no_shut (subst (λ (x : Event). is_cancel id x ≡ false) is not_its));
}
  where
    no_shut : true ≡ false → ⊥
    no_shut e = cc

    new : (b : Bool) → ((not b || not (false || false)) && true) ≡ true
    new true = refl
    new false = refl

    answered : (s : Plain) (r : Request) (o : Out) → Answers caller event r o → list_all (is_unmarked id) s.requests ≡ true → list_all (is_unmarked id) (changed (λ r. r.id) r.id (in_state (state.Answered o)) s.requests) ≡ true
    answered s r o (serves why v is) e = all_changed (is_unmarked id) (λ r. r.id) r.id (in_state (state.Answered o)) s.requests (λ x e. unmarked_state id (state.Answered o) x (ap is_canceled_out is) e) e
    answered s r o (cancels p c is) e = all_changed_both (is_unmarked id) (is_unmarked id) (λ r. r.id) r.id (in_state (state.Answered o)) s.requests (λ x same. apart id x r.id _ (other_cancel id r.id event not_its c) same) (λ x e. e) e

unmarked_from : (id : ℕ) (s : Plain) (h : List Turn) → LegalFrom s h → list_any (λ turn. is_cancel id turn.event) h ≡ false → Sound s → Unmarked id s → Unmarked id (plain_from s h)
unmarked_from id s [] legal none sound g = g
unmarked_from id s (t ∷ ts) legal none sound g =
    unmarked_from id (after s t) ts legal.1 (second _ _ none) (sound_Step s t (after s t) legal.0.step sound)
    (step_kept t.caller t.event (Unmarked id) (unmarked_keeps id t.caller t.event (first _ _ none)) s t.at t.out t.picks (after s t) legal.0.step sound g)
  where
    first : (a b : Bool) → (a || b) ≡ false → a ≡ false
    first a b e = grind arith

    second : (a b : Bool) → (a || b) ≡ false → b ≡ false
    second a b e = grind arith

contradicts : (a b : Bool) → a ≡ true → b ≡ true → (not a || not b) ≡ true → ⊥
contradicts a b x y z = grind arith

-- no such request is marked, or was answered Canceled
unmarked_row : (s : Plain) (id : ℕ) (r : Request) → Unmarked id s → request_at s id ≡ Some r → (r.marked || was_canceled r.state) ≡ true → ⊥
unmarked_row s id r g there e = contradicts (r.id == id) (r.marked || was_canceled r.state) (same r.id id (row_has_id (λ (r : Request). r.id) id s.requests r there)) e (all_at (is_unmarked id) (λ r. r.id) id s.requests r there g.each)
  where
    same : (a b : ℕ) → a ≡ b → a == b ≡ true
    same a b e = grind (arith, nat_tests)

-- the law

any_front : {X : Type 0} (p : X → Bool) (xs ys : List X) → list_any p (xs ++ ys) ≡ false → list_any p xs ≡ false
any_front p [] ys e = refl
any_front p (x ∷ xs) ys e = both (p x) _ _ (any_front p xs ys) e
  where
    both : (a b c : Bool) → (b ≡ false → c ≡ false) → (a || b) ≡ false → (a || c) ≡ false
    both a b c f e = grind arith

pub canceled_is_named : (start : Plain) (h : List Turn) (turn : Turn) → IsStart start → LegalFrom start (h ++ turn ∷ []) → turn.out ≡ out.Canceled → (id : ℕ) × (asks_for turn.event ≡ Some id) × (list_any (λ t. is_cancel id t.event) (h ++ turn ∷ []) ≡ true)
canceled_is_named start h turn from legal e = (why.id, why.asks, by_test (list_any (λ t. is_cancel why.id t.event) (h ++ turn ∷ [])) refl)
  where
    why : Cancels (found_by (plain_from start h) turn.at) turn.event
    why = why_canceled (found_by (plain_from start h) turn.at) turn.event
        (canceled_case (found_by (plain_from start h) turn.at) turn.caller turn.event (chooser (found_by (plain_from start h) turn.at) turn.caller turn.event) turn.out turn.picks (after (plain_from start h) turn) (last_step start h turn [] legal) (ap is_canceled_out e))

    nobody : Unmarked why.id start
    nobody = record { each = ap (list_all (is_unmarked why.id)) from.alone }

    by_test : (b : Bool) → list_any (λ t. is_cancel why.id t.event) (h ++ turn ∷ []) ≡ b → list_any (λ t. is_cancel why.id t.event) (h ++ turn ∷ []) ≡ true
    by_test true is = is
    by_test false is =
        let g : Unmarked why.id (plain_from start h) = unmarked_from why.id start h (LegalFrom-front start h (turn ∷ []) legal) (any_front (λ (t : Turn). is_cancel why.id t.event) h (turn ∷ []) is) from.sound nobody in
        absurd (unmarked_row (found_by (plain_from start h) turn.at) why.id why.row
        (found_kept turn.caller Tick (Unmarked why.id) (unmarked_keeps why.id turn.caller Tick refl) (plain_from start h) turn.at (sound_before start h (turn ∷ []) from legal) g)
        why.there why.canceled)
