-- A fact of the space that each of the few ways in which a turn changes it keeps holds after the turn.
use Rattle.std.proofs.Common.{◌≡◌, ℕ, List, [], ◌∷◌, Option, Some, None, refl, sym, subst}
use Rattle.rinda_rules.specs.declared.event.Event.{Event}
use Rattle.rinda_rules.specs.declared.out.Out.{Out}
use Rattle.rinda_rules.specs.declared.turn.Pick.{Pick}
use Rattle.rinda_rules.specs.declared.plain.Entry.{Entry}
use Rattle.rinda_rules.specs.declared.plain.Request.{Request}
use Rattle.rinda_rules.specs.Space.{Plain, tuple_at}
use Rattle.rinda_rules.specs.Phases.{advanced, aged, Serve}
use Rattle.rinda_rules.specs.Cases.{outcome}
use Rattle.rinda_rules.specs.Steps.{chooser, found_by, Case, Step}
use Rattle.rinda_rules.specs.Sound.{Sound}
pub use Rattle.rinda_rules.proofs.Ways.{Keeps, ways_of, KeepsNotifier, LeasesTuple, LeasesRequest, Serves, waits, submits, Answers, serves, cancels, may_lease, with_new_request, with_new_notifier}
pub use Rattle.rinda_rules.proofs.Outcomes.{Chosen, chosen_none, chosen_match}
use Rattle.rinda_rules.proofs.Outcomes.{serve_ways, outcome_ways}
use Rattle.rinda_rules.proofs.AtOnce.{aging_at_once}
use Rattle.rinda_rules.proofs.Sounding.{sound-advanced, sound-found_by, sound-outcome}

module _ (caller : ℕ) (event : Event) (P : Plain → Type 0) (k : Keeps caller event P) where
  pub serve_kept : (s : Plain) (picks : List Pick) (s' : Plain) → Serve s picks s' → P s → P s'
  serve_kept s picks s' serve h = serve_ways caller event P (ways_of k) s picks s' serve h

  pub outcome_kept : (s : Plain) (e : Event) (choice : Option Entry) → event ≡ e → Chosen s event choice → P s → P (outcome s caller e choice).after
  outcome_kept s e choice is chosen h = outcome_ways caller event P (ways_of k) s e choice is chosen h

  -- what these keep, aging keeps in a sound space
  pub aged_kept : (s : Plain) → Sound s → P s → P (aged s)
  aged_kept s sound h = subst P (sym (aging_at_once s sound)) (k.ages s sound h)

  case_kept : (s : Plain) (r : Option Request) (o : Out) (picks : List Pick) (s' : Plain) → chooser s caller event ≡ r → Case s caller event r o picks s' → Sound s → P s → P s'
  case_kept s None o picks s' chooses case sound h =
      serve_kept _ picks s' case.1
      (aged_kept (outcome s caller event None).after (sound-outcome s caller event None (chosen_none s event) sound) (outcome_kept s event None refl (chosen_none s event) h))
  case_kept s (Some r) o [] s' chooses case sound h = absurd case
  case_kept s (Some r) o (pick ∷ picks) s' chooses case sound h =
      let chosen : Chosen s event (tuple_at s pick.tuple) = chosen_match s caller event r pick chooses case.0 in
      serve_kept _ picks s' case.2
      (aged_kept (outcome s caller event (tuple_at s pick.tuple)).after (sound-outcome s caller event (tuple_at s pick.tuple) chosen sound) (outcome_kept s event (tuple_at s pick.tuple) refl chosen h))

  -- what is kept as the event finds the space
  pub found_kept : (s : Plain) (at : ℕ) → Sound s → P s → P (found_by s at)
  found_kept s at sound h = aged_kept (advanced s at) (sound-advanced s at sound) (k.advances s at h)

  -- what these keep, each step keeps
  pub step_kept : (s : Plain) (at : ℕ) (o : Out) (picks : List Pick) (s' : Plain) → Step s caller at event o picks s' → Sound s → P s → P s'
  step_kept s at o picks s' step sound h = case_kept (found_by s at) (chooser (found_by s at) caller event) o picks s' refl step (sound-found_by s at sound) (found_kept s at sound h)
