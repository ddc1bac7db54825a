-- Turns of a history.
use Rattle.std.proofs.Common.{◌≡◌, ℕ, Bool, true, false, List, [], ◌∷◌, refl, sym, ◌∙◌, subst}
use Rattle.std.specs.Prelude.{◌&&◌}
use Rattle.rinda_rules.specs.declared.event.Event.{Event}
use Rattle.rinda_rules.specs.declared.event.Event.TheVariants.{Submit}
use Rattle.rinda_rules.specs.declared.turn.Pick.{Pick}
use Rattle.rinda_rules.specs.declared.turn.Turn.{Turn}
use Rattle.rinda_rules.specs.Space.{Plain, opening, tuple_at}
use Rattle.rinda_rules.specs.Phases.{advanced, nothing_due, Serve}
use Rattle.rinda_rules.specs.Cases.{outcome}
use Rattle.rinda_rules.specs.Steps.{found_by, Step}
use Rattle.rinda_rules.specs.Fixed.{after}
use Rattle.rinda_rules.specs.Settled.{Settled}
use Rattle.rinda_rules.specs.Sound.{Sound}
use Rattle.rinda_rules.specs.Legal.{Legal, plain_from, MayCome}
use Rattle.rinda_rules.proofs.Sounding.{sound_opening}
use Rattle.rinda_rules.proofs.Settling.{Both, settled-Step, settled_opening, reached}
use Rattle.rinda_rules.proofs.Histories.{fits-Step, plain_from-push, LegalFrom-push}
use Rattle.rinda_effects.specs.Touches.{Touched, NoRow, ATuple, ARequest}
use Rattle.rinda_effects.specs.Serves.{picks_of}
use Rattle.rinda_effects.specs.Unserved.{unserved, Unserved}
use Rattle.rinda_effects.specs.Turns.{Reached, Made, Comes, turn_of, left_by, StepMakesTurn, EventMakesTurn, ReadMakesTurn, TakeMakesTurn, DeadMakesTurn, LoneMakesTurn, ServeMakesTurn, MatchMakesTurn}
use Rattle.rinda_effects.proofs.Kept.{nobody}
use Rattle.rinda_effects.proofs.Picking.{tuple_dead, tuple_read, tuple_taken, request_unserved, request_served}
use Rattle.rinda_effects.proofs.Touching.{event_touches_one, match_touches_none, serving_ends_turn, serving_ends_match}

pub opening_is_reached : (turns : List Turn) → Legal turns → Reached opening turns
opening_is_reached turns legal = record { sound = sound_opening; settled = settled_opening; legal = legal }

pub reached_is_settled : (start : Plain) (turns : List Turn) → Reached start turns → Sound (plain_from start turns) × Settled (plain_from start turns)
reached_is_settled start turns h = let both : Both (plain_from start turns) = reached start turns h.sound h.settled h.legal in (both.sound, both.settled)

pub step_makes_turn : StepMakesTurn
step_makes_turn start old turn s h something step =
    let now : Plain = plain_from start old in
    let both = reached_is_settled start old h in
    let fixed = fits-Step now turn.caller turn.at turn.event turn.out turn.picks s step in
    let leads : s ≡ after now turn = fixed.2 in
    let taken : Step now turn.caller turn.at turn.event turn.out turn.picks (after now turn) = subst (λ (s : Plain). Step now turn.caller turn.at turn.event turn.out turn.picks s) leads step in
    let may : MayCome now turn = record { something = something; step = taken; settled = (settled-Step now turn.caller turn.at turn.event turn.out turn.picks (after now turn) both.0 taken).settled } in
    record {
      may_come = may;
      reached = record { sound = h.sound; settled = h.settled; legal = LegalFrom-push start old turn h.legal may };
      leads = plain_from-push start old turn ∙ sym leads;
    }

module _ (start : Plain) (old : List Turn) (caller at : ℕ) (event : Event) where
  -- from how it is served
  served_makes_turn : (touched : Touched) (picks : List Pick) (s : Plain) → Comes start old caller at event touched → Serve (left_by start old caller at event) picks s → Made start old (turn_of start old caller at event picks) s
  served_makes_turn touched picks s h serve = step_makes_turn start old (turn_of start old caller at event picks) s h.reached h.something (serving_ends_turn (plain_from start old) caller at event picks s h.chooses serve)

  touches_it : (touched : Touched) → Comes start old caller at event touched → Unserved touched (left_by start old caller at event)
  touches_it touched h =
      let both = reached_is_settled start old h.reached in
      subst (λ (n : Touched). Unserved n (left_by start old caller at event)) h.touches (event_touches_one (plain_from start old) caller at event both.0 both.1 h.chooses)

pub event_makes_turn : EventMakesTurn
event_makes_turn start old caller at event h = served_makes_turn start old caller at event NoRow [] (left_by start old caller at event) h (nobody (left_by start old caller at event) (touches_it start old caller at event NoRow h).only, refl)

pub read_makes_turn : ReadMakesTurn
read_makes_turn start old caller at event t ids h here readers free =
    let u : Unserved (ATuple t.id) (left_by start old caller at event) = touches_it start old caller at event (ATuple t.id) h in
    served_makes_turn start old caller at event (ATuple t.id) (picks_of t.id ids) _ h (tuple_read (left_by start old caller at event) t ids u.sound.numbered here readers free u.only)

pub take_makes_turn : TakeMakesTurn
take_makes_turn start old caller at event t ids r h here readers there e =
    let u : Unserved (ATuple t.id) (left_by start old caller at event) = touches_it start old caller at event (ATuple t.id) h in
    served_makes_turn start old caller at event (ATuple t.id) _ _ h (tuple_taken (left_by start old caller at event) t ids r u.sound.numbered here readers there e u.only)

pub dead_makes_turn : DeadMakesTurn
dead_makes_turn start old caller at event id h dead =
    let u : Unserved (ATuple id) (left_by start old caller at event) = touches_it start old caller at event (ATuple id) h in
    served_makes_turn start old caller at event (ATuple id) [] _ h (tuple_dead id (left_by start old caller at event) u.sound.numbered dead u.only, refl)

pub lone_makes_turn : LoneMakesTurn
lone_makes_turn start old caller at event id h lone =
    let u : Unserved (ARequest id) (left_by start old caller at event) = touches_it start old caller at event (ARequest id) h in
    served_makes_turn start old caller at event (ARequest id) [] _ h (request_unserved id (left_by start old caller at event) u.sound.numbered lone u.only, refl)

pub serve_makes_turn : ServeMakesTurn
serve_makes_turn start old caller at event r t h there here e =
    let u : Unserved (ARequest r.id) (left_by start old caller at event) = touches_it start old caller at event (ARequest r.id) h in
    served_makes_turn start old caller at event (ARequest r.id) _ _ h (request_served (left_by start old caller at event) r t u.sound.numbered there here e u.only)

no_nothing : (b : Bool) → (b && false) ≡ false
no_nothing true = refl
no_nothing false = refl

pub match_makes_turn : MatchMakesTurn
match_makes_turn start old caller at id r pick h chooses match =
    let now : Plain = plain_from start old in
    let both = reached_is_settled start old h in
    let s : Plain = unserved now caller at (Submit id) (tuple_at (found_by now at) pick.tuple) in
    let u : Unserved NoRow s = match_touches_none now caller at id r pick both.0 both.1 chooses match in
    step_makes_turn start old (record { caller = caller; at = at; event = Submit id; out = (outcome (found_by now at) caller (Submit id) (tuple_at (found_by now at) pick.tuple)).out; picks = pick ∷ [] }) s h (no_nothing (nothing_due (advanced now at)))
    (serving_ends_match now caller at (Submit id) r pick [] s chooses match (nobody s u.only, refl))
