-- A turn from a settled space: what it touches, and how it is served.
use Rattle.std.proofs.Common.{◌≡◌, ℕ, Bool, true, false, cond, ◌&&◌, List, [], ◌∷◌, Option, Some, None, refl, sym, subst, arith}
use Rattle.std.specs.Prelude.{◌==◌}
use Rattle.rinda_rules.specs.declared.event.Event.{Event}
use Rattle.rinda_rules.specs.declared.event.Event.TheVariants.{Submit}
use Rattle.rinda_rules.specs.declared.out.Out.{Out}
use Rattle.rinda_rules.specs.declared.turn.Pick.{Pick}
use Rattle.rinda_rules.specs.declared.plain.Entry.{Entry}
use Rattle.rinda_rules.specs.declared.plain.Request.{Request}
use Rattle.rinda_rules.specs.Space.{Plain, Found, TheTuple, TheRequest, TheNotifier, HasEnded, IsRecycled, IsUnknown, found, tuple_at, request_at, is_reserved, has_match}
use Rattle.rinda_rules.specs.Phases.{advanced, nothing_due, is_match, may_have_row, Serve}
use Rattle.rinda_rules.specs.Cases.{outcome}
use Rattle.rinda_rules.specs.Steps.{matched, chooser, found_by, Case, Step}
use Rattle.rinda_rules.specs.Settled.{Settled}
use Rattle.rinda_rules.specs.Sound.{Sound}
use Rattle.rinda_rules.proofs.Finding.{found-request}
use Rattle.rinda_rules.proofs.Outcomes.{Chosen, chosen_none, chosen_match}
use Rattle.rinda_rules.proofs.Sounding.{sound-aged, sound-advanced, sound-found_by, sound-outcome}
use Rattle.rinda_rules.proofs.Settling.{nothing_due-aged}
use Rattle.rinda_effects.specs.Touches.{NoRow, waits_only, touched_by}
use Rattle.rinda_effects.specs.Unserved.{unserved, Unserved}
use Rattle.rinda_effects.specs.Answers.{may_answer}
use Rattle.rinda_effects.proofs.Answered.{case_answers}
use Rattle.rinda_effects.proofs.Kept.{none_touched, kept-advanced}
use Rattle.rinda_effects.proofs.Aged.{kept-aged}
use Rattle.rinda_effects.proofs.Cases.{outcome_touches}

back : (a b : Bool) → (a && b) ≡ true → b ≡ true
back a b e = grind arith

-- as the event finds a settled space, no row is touched
pub found_none_touched : (s : Plain) (at : ℕ) → Settled s → waits_only NoRow (found_by s at) ≡ true
found_none_touched s at settled = kept-aged NoRow (advanced s at) (kept-advanced NoRow at s (none_touched s settled.nobody))

made_touches : (s : Plain) (caller at : ℕ) (event : Event) (choice : Option Entry) → Sound s → Settled s → Chosen (found_by s at) event choice → (choice ≡ None → chooser (found_by s at) caller event ≡ None) → Unserved (touched_by (found_by s at) event) (unserved s caller at event choice)
made_touches s caller at event choice sound settled chosen without =
    let ready : Plain = found_by s at in
    let found : Sound ready = sound-found_by s at sound in
    let after : Plain = (outcome ready caller event choice).after in
    let still : Sound after = sound-outcome ready caller event choice chosen found in
    record {
      sound = sound-aged after still;
      only = kept-aged (touched_by ready event) after (outcome_touches ready caller event choice found.numbered chosen without (found_none_touched s at settled));
      not_due = nothing_due-aged after still;
    }

pub event_touches_one : (s : Plain) (caller at : ℕ) (event : Event) → Sound s → Settled s → chooser (found_by s at) caller event ≡ None → Unserved (touched_by (found_by s at) event) (unserved s caller at event None)
event_touches_one s caller at event sound settled chooses = made_touches s caller at event None sound settled (chosen_none (found_by s at) event) (λ _. chooses)

-- The request that a Submit's own case serves.

pub record Choosing (s : Plain) (id : ℕ) (r : Request) : Type 0 where
  pub there : request_at s id ≡ Some r
  pub has : has_match s r ≡ true

some_same : {X : Type 0} {x y : X} → Some x ≡ Some y → x ≡ y
some_same e = cc

matched_has : (s : Plain) (caller id : ℕ) (f : Found) (r : Request) → found s id ≡ f → matched s caller f ≡ Some r → Choosing s id r
matched_has s caller id (TheRequest q) r is e = by_test (q.caller == caller && (is_reserved q.state && has_match s q)) refl e
  where
    by_test : (b : Bool) → (q.caller == caller && (is_reserved q.state && has_match s q)) ≡ b → cond {A = Option Request} b (Some q) None ≡ Some r → Choosing s id r
    by_test true t e = let same : q ≡ r = some_same e in subst (λ (x : Request). Choosing s id x) same (record { there = found-request s id q is; has = back (is_reserved q.state) _ (back (q.caller == caller) _ t) })
    by_test false t e = cc
matched_has s caller id (TheTuple t) r is e = cc
matched_has s caller id (TheNotifier n) r is e = cc
matched_has s caller id (HasEnded k l) r is e = cc
matched_has s caller id IsRecycled r is e = cc
matched_has s caller id IsUnknown r is e = cc

pub chooser_has : (s : Plain) (caller id : ℕ) (r : Request) → chooser s caller (Submit id) ≡ Some r → Choosing s id r
chooser_has s caller id r e = matched_has s caller id (found s id) r refl e

matched_some : (s : Plain) (r : Request) (pick : Pick) (o : Option Entry) → (pick.request == r.id && may_have_row s r o) ≡ true → o ≡ None → ⊥
matched_some s r pick o e is = none (pick.request == r.id) (subst (λ (o : Option Entry). (pick.request == r.id && may_have_row s r o) ≡ true) is e)
  where
    none : (a : Bool) → (a && false) ≡ true → ⊥
    none a e = grind arith

pub match_touches_none : (s : Plain) (caller at id : ℕ) (r : Request) (pick : Pick) → Sound s → Settled s → chooser (found_by s at) caller (Submit id) ≡ Some r → is_match (found_by s at) r pick ≡ true → Unserved NoRow (unserved s caller at (Submit id) (tuple_at (found_by s at) pick.tuple))
match_touches_none s caller at id r pick sound settled chooses match =
    made_touches s caller at (Submit id) (tuple_at (found_by s at) pick.tuple) sound settled (chosen_match (found_by s at) caller (Submit id) r pick chooses match)
    (λ none. absurd (matched_some (found_by s at) r pick (tuple_at (found_by s at) pick.tuple) match none))

-- What is left once it is served is what the turn leaves.

pub serving_ends_turn : (s : Plain) (caller at : ℕ) (event : Event) (picks : List Pick) (s' : Plain) → chooser (found_by s at) caller event ≡ None → Serve (unserved s caller at event None) picks s' → Step s caller at event (outcome (found_by s at) caller event None).out picks s'
serving_ends_turn s caller at event picks s' chooses serve =
    subst (λ (r : Option Request). Case (found_by s at) caller event r (outcome (found_by s at) caller event None).out picks s') (sym chooses) (refl, serve)

pub serving_ends_match : (s : Plain) (caller at : ℕ) (event : Event) (r : Request) (pick : Pick) (picks : List Pick) (s' : Plain) → chooser (found_by s at) caller event ≡ Some r → is_match (found_by s at) r pick ≡ true → Serve (unserved s caller at event (tuple_at (found_by s at) pick.tuple)) picks s' → Step s caller at event (outcome (found_by s at) caller event (tuple_at (found_by s at) pick.tuple)).out (pick ∷ picks) s'
serving_ends_match s caller at event r pick picks s' chooses match serve =
    subst (λ (o : Option Request). Case (found_by s at) caller event o (outcome (found_by s at) caller event (tuple_at (found_by s at) pick.tuple)).out (pick ∷ picks) s') (sym chooses) (match, refl, serve)

pub found_is_sound : (s : Plain) (at : ℕ) → Sound s → Sound (advanced s at) × Sound (found_by s at) × (nothing_due (found_by s at) ≡ true)
found_is_sound s at sound = (sound-advanced s at sound, sound-found_by s at sound, nothing_due-aged (advanced s at) (sound-advanced s at sound))

pub case_is_sound : (s : Plain) (caller : ℕ) (event : Event) → Sound s → Sound (outcome s caller event None).after
case_is_sound s caller event sound = sound-outcome s caller event None (chosen_none s event) sound

pub match_is_sound : (s : Plain) (caller id : ℕ) (r : Request) (pick : Pick) → Sound s → chooser s caller (Submit id) ≡ Some r → is_match s r pick ≡ true → Sound (outcome s caller (Submit id) (tuple_at s pick.tuple)).after
match_is_sound s caller id r pick sound chooses match = sound-outcome s caller (Submit id) (tuple_at s pick.tuple) (chosen_match s caller (Submit id) r pick chooses match) sound

-- Which answers a step may give.

case_step_answers : (s : Plain) (caller : ℕ) (event : Event) (r : Option Request) (out : Out) (picks : List Pick) (s' : Plain) → Sound s → Case s caller event r out picks s' → may_answer event out ≡ true
case_step_answers s caller event None out picks s' sound case = subst (λ (o : Out). may_answer event o ≡ true) (sym case.0) (case_answers s caller event None sound.answers)
case_step_answers s caller event (Some r) out [] s' sound case = absurd case
case_step_answers s caller event (Some r) out (pick ∷ picks) s' sound case = subst (λ (o : Out). may_answer event o ≡ true) (sym case.1) (case_answers s caller event (tuple_at s pick.tuple) sound.answers)

pub step_answers : (s : Plain) (caller at : ℕ) (event : Event) (out : Out) (picks : List Pick) (s' : Plain) → Sound s → Step s caller at event out picks s' → may_answer event out ≡ true
step_answers s caller at event out picks s' sound step = case_step_answers (found_by s at) caller event (chooser (found_by s at) caller event) out picks s' (sound-found_by s at sound) step
