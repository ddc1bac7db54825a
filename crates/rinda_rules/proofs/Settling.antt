-- Aging leaves nothing due, and serving then leads to a settled space.
use Rattle.std.proofs.Common.{◌≡◌, ℕ, Bool, true, false, not, ◌&&◌, List, [], ◌∷◌, Option, Some, None, refl, sym, ◌∙◌, subst, arith}
use Rattle.std.specs.Prelude.{◌==◌, filter}
use Rattle.std.specs.List.{list_all}
use Rattle.std.proofs.lemmas.Bool.Decides.{nat_tests}
use Rattle.rinda_rules.specs.declared.event.Kind.{Kind}
use Rattle.rinda_rules.specs.declared.event.Kind.TheVariants as kind
use Rattle.rinda_rules.specs.declared.event.Event.{Event}
use Rattle.rinda_rules.specs.declared.out.Out.{Out}
use Rattle.rinda_rules.specs.declared.turn.Pick.{Pick}
use Rattle.rinda_rules.specs.declared.turn.Turn.{Turn}
use Rattle.rinda_rules.specs.declared.row.RequestState.{RequestState}
use Rattle.rinda_rules.specs.declared.plain.Entry.{Entry}
use Rattle.rinda_rules.specs.declared.plain.Request.{Request}
use Rattle.rinda_rules.specs.declared.plain.Notifier.{Notifier}
use Rattle.rinda_rules.specs.Rows.{changed}
use Rattle.rinda_rules.specs.Space.{Plain, opening, tuple_at, request_at, is_parked, is_due_tuple, is_due_request, is_due_notifier}
use Rattle.rinda_rules.specs.AtOnce.{aged_tuple, aged_request, aged_notifier, expires, aged_at_once}
use Rattle.rinda_rules.specs.Phases.{aged, nothing_due, nobody_waits, in_state, held_by, served_as, served, served_rows, Serve}
use Rattle.rinda_rules.specs.Cases.{outcome}
use Rattle.rinda_rules.specs.Steps.{Case, Step, chooser, found_by}
use Rattle.rinda_rules.specs.Settled.{Settled}
use Rattle.rinda_rules.specs.Sound.{Sound}
use Rattle.rinda_rules.specs.Fixed.{after}
use Rattle.rinda_rules.specs.Legal.{LegalFrom, Legal, plain_from, plain}
use Rattle.rinda_rules.proofs.Lists.{all_imp, all_map, all_filter, all_of_filter, all_true, all_changed}
use Rattle.rinda_rules.proofs.Outcomes.{chosen_none, chosen_match}
use Rattle.rinda_rules.proofs.AtOnce.{aging_at_once}
use Rattle.rinda_rules.proofs.Sounding.{sound_opening, sound-outcome, sound-found_by, sound-Step}

both : (a b : Bool) → a ≡ true → b ≡ true → (a && b) ≡ true
both a b e f = grind arith

one : (a b : Bool) → (a && b) ≡ true → a ≡ true
one a b e = grind arith

two : (a b : Bool) → (a && b) ≡ true → b ≡ true
two a b e = grind arith

-- Aging.

aged_tuple_not_due : (now : ℕ) (t : Entry) → not (expires now t) ≡ true → not (is_due_tuple now (aged_tuple now t)) ≡ true
aged_tuple_not_due now t e = grind (arith, nat_tests)

aged_request_not_due : (now : ℕ) (r : Request) → not (is_due_request now (aged_request now r)) ≡ true
aged_request_not_due now r = grind (arith, nat_tests)

aged_notifier_not_due : (s : Plain) (n : Notifier) → not (is_due_notifier s.clock (aged_notifier s n)) ≡ true
aged_notifier_not_due s n = grind (arith, nat_tests)

pub nothing_due-aged_at_once : (s : Plain) → nothing_due (aged_at_once s) ≡ true
nothing_due-aged_at_once s =
    let ts : List Entry = filter (λ t. not (expires s.clock t)) s.tuples in
    both _ _ (all_map (λ t. not (is_due_tuple s.clock t)) (aged_tuple s.clock) ts
    ∙ all_imp (λ t. not (expires s.clock t)) (λ t. not (is_due_tuple s.clock (aged_tuple s.clock t))) (aged_tuple_not_due s.clock) ts (all_of_filter (λ t. not (expires s.clock t)) s.tuples))
    (both _ _ (all_map (λ r. not (is_due_request s.clock r)) (aged_request s.clock) s.requests ∙ all_true (λ r. not (is_due_request s.clock (aged_request s.clock r))) (aged_request_not_due s.clock) s.requests)
    (all_map (λ n. not (is_due_notifier s.clock n)) (aged_notifier s) s.notifiers ∙ all_true (λ n. not (is_due_notifier s.clock (aged_notifier s n))) (aged_notifier_not_due s) s.notifiers))

pub nothing_due-aged : (s : Plain) → Sound s → nothing_due (aged s) ≡ true
nothing_due-aged s sound = rw (aging_at_once s sound) (nothing_due-aged_at_once s)

-- Serving.

-- nothing is due, list by list
record NotDue (s : Plain) : Type 0 where
  tuples : list_all (λ t. not (is_due_tuple s.clock t)) s.tuples ≡ true
  requests : list_all (λ r. not (is_due_request s.clock r)) s.requests ≡ true
  notifiers : list_all (λ n. not (is_due_notifier s.clock n)) s.notifiers ≡ true

not_due-of : (s : Plain) → nothing_due s ≡ true → NotDue s
not_due-of s e = record { tuples = one _ _ e; requests = one _ _ (two _ _ e); notifiers = two _ _ (two _ _ e) }

of-not_due : (s : Plain) → NotDue s → nothing_due s ≡ true
of-not_due s h = both _ _ h.tuples (both _ _ h.requests h.notifiers)

not_due-in_state : (now : ℕ) (st : RequestState) (r : Request) → is_parked st ≡ false → not (is_due_request now (in_state st r)) ≡ true
not_due-in_state now st r e = grind (arith, nat_tests)

answered : (now id : ℕ) (st : RequestState) (rs : List Request) → is_parked st ≡ false → list_all (λ r. not (is_due_request now r)) rs ≡ true → list_all (λ r. not (is_due_request now r)) (changed (λ r. r.id) id (in_state st) rs) ≡ true
answered now id st rs e h = all_changed (λ r. not (is_due_request now r)) (λ r. r.id) id (in_state st) rs (λ x _. not_due-in_state now st x e) h

not_due-served_as : (k : Kind) (r : Request) (t : Entry) (s : Plain) → NotDue s → NotDue (served_as k r t s)
not_due-served_as kind.Read r t s h = record { tuples = h.tuples; requests = answered s.clock r.id _ s.requests refl h.requests; notifiers = h.notifiers }
not_due-served_as kind.Take r t s h = record { tuples = all_filter (λ t. not (is_due_tuple s.clock t)) (λ x. not (x.id == t.id)) s.tuples h.tuples; requests = answered s.clock r.id _ s.requests refl h.requests; notifiers = h.notifiers }
not_due-served_as kind.Move r t s h = record { tuples = all_changed (λ t. not (is_due_tuple s.clock t)) (λ t. t.id) t.id (held_by r.id) s.tuples (λ x _. refl) h.tuples; requests = answered s.clock r.id _ s.requests refl h.requests; notifiers = h.notifiers }

not_due-rows : (s : Plain) (r : Option Request) (t : Option Entry) → NotDue s → NotDue (served_rows s r t)
not_due-rows s None t h = h
not_due-rows s (Some r) None h = h
not_due-rows s (Some r) (Some t) h = not_due-served_as r.kind r t s h

-- what is left once the picks were served
pub record Served (s : Plain) : Type 0 where
  pub nobody : nobody_waits s ≡ true
  pub not_due : nothing_due s ≡ true

pub served-Serve : (s : Plain) (picks : List Pick) (s' : Plain) → Serve s picks s' → nothing_due s ≡ true → Served s'
served-Serve s [] s' h due = subst (λ (p : Plain). Served p) (sym h.1) (record { nobody = h.0; not_due = due })
served-Serve s (pick ∷ picks) s' h due =
    served-Serve (served s pick) picks s' h.1 (of-not_due _ (not_due-rows s (request_at s pick.request) (tuple_at s pick.tuple) (not_due-of s due)))

served-Case : (s : Plain) (caller : ℕ) (event : Event) (r : Option Request) (o : Out) (picks : List Pick) (s' : Plain) → chooser s caller event ≡ r → Sound s → Case s caller event r o picks s' → Served s'
served-Case s caller event None o picks s' chooses sound case = served-Serve _ picks s' case.1 (nothing_due-aged (outcome s caller event None).after (sound-outcome s caller event None (chosen_none s event) sound))
served-Case s caller event (Some r) o [] s' chooses sound case = absurd case
served-Case s caller event (Some r) o (pick ∷ picks) s' chooses sound case =
    served-Serve _ picks s' case.2 (nothing_due-aged (outcome s caller event (tuple_at s pick.tuple)).after (sound-outcome s caller event (tuple_at s pick.tuple) (chosen_match s caller event r pick chooses case.0) sound))

-- A step leads from a settled space to a settled one.

-- sound and settled
pub record Both (s : Plain) : Type 0 where
  pub sound : Sound s
  pub settled : Settled s

pub settled-Step : (s : Plain) (caller at : ℕ) (event : Event) (o : Out) (picks : List Pick) (s' : Plain) → Sound s → Step s caller at event o picks s' → Both s'
settled-Step s caller at event o picks s' before step =
    let sound : Sound s' = sound-Step s caller at event o picks s' step before in
    let served : Served s' = served-Case (found_by s at) caller event (chooser (found_by s at) caller event) o picks s' refl (sound-found_by s at before) step in
    record { sound = sound; settled = record { nobody = served.nobody; not_due = served.not_due; kept = sound.held; closed = sound.closed } }

-- what a legal history leads to is sound and settled
pub reached : (s : Plain) (h : List Turn) → Sound s → Settled s → LegalFrom s h → Both (plain_from s h)
reached s [] sound settled legal = record { sound = sound; settled = settled }
reached s (t ∷ ts) sound settled legal =
    let next : Both (after s t) = settled-Step s t.caller t.at t.event t.out t.picks (after s t) sound legal.0.step in
    reached (after s t) ts next.sound next.settled legal.1

pub settled_opening : Settled opening
settled_opening = record { nobody = refl; not_due = refl; kept = refl; closed = refl }

pub reached_opening : (h : List Turn) → Legal h → Both (plain h)
reached_opening h legal = reached opening h sound_opening settled_opening legal
