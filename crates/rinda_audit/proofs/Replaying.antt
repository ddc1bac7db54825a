-- A replay, by the names that the code has for its parts.
use Rattle.std.proofs.Common.{◌≡◌, ℕ, Bool, false, ◌&&◌, List, Result, Ok, Err, IfOk, refl, sym, ◌∙◌, ap, subst, arith}
use Rattle.std.specs.Prelude.{IsTrue, ◌↔◌}
use Rattle.rinda_rules.specs.declared.event.Event.{Event}
use Rattle.rinda_rules.specs.declared.out.Out.{Out}
use Rattle.rinda_rules.specs.declared.turn.Pick.{Pick}
use Rattle.rinda_rules.specs.declared.turn.Turn.{Turn}
use Rattle.rinda_rules.specs.Space.{Plain}
use Rattle.rinda_rules.specs.Phases.{advanced, aged, nothing_due}
use Rattle.rinda_rules.specs.Steps.{chooser, found_by}
use Rattle.rinda_rules.specs.Nothing.{finds_nothing, is_nothing}
use Rattle.rinda_rules.specs.Fixed.{picks_fit_case, case_with, after}
use Rattle.rinda_rules.proofs.Histories.{Step-of, fits-Step}
use Rattle.rinda_audit.specs.Replays.{IsStep}

-- What is known once the space has advanced.
pub record Ahead (s : Plain) (turn : Turn) (quiet : Bool) (ahead : Plain) (due : Bool) : Type 0 where
  pub quiet_is : quiet ≡ finds_nothing s turn.caller turn.event
  pub ahead_is : ahead ≡ advanced s turn.at
  pub due_is : due ≡ nothing_due ahead

nothing_is : (s : Plain) (turn : Turn) (quiet : Bool) (ahead : Plain) (due : Bool) → Ahead s turn quiet ahead due → is_nothing s turn.caller turn.at turn.event ≡ (due && quiet)
nothing_is s turn quiet ahead due a =
    let d : due ≡ nothing_due (advanced s turn.at) = a.due_is ∙ ap nothing_due a.ahead_is in
    sym (ap (λ (b : Bool). b && quiet) d ∙ ap (λ (b : Bool). nothing_due (advanced s turn.at) && b) a.quiet_is)

-- What is known once the space has aged.
pub record Ready (s : Plain) (turn : Turn) (quiet : Bool) (ahead : Plain) (due : Bool) (ready : Plain) : Type 0 where
  pub before : Ahead s turn quiet ahead due
  pub something : (due && quiet) ≡ false
  pub ready_is : ready ≡ aged ahead

found_is : (s : Plain) (turn : Turn) (quiet : Bool) (ahead : Plain) (due : Bool) (ready : Plain) → Ready s turn quiet ahead due ready → ready ≡ found_by s turn.at
found_is s turn quiet ahead due ready r = r.ready_is ∙ ap aged r.before.ahead_is

-- what the case said of the picks and the answer
abbrev pub Played : Plain → ℕ → Event → Out → List Pick → Type 0
Played s caller event out picks = IsTrue (picks_fit_case s caller event (chooser s caller event) picks) × (out ≡ (case_with s caller event (chooser s caller event) picks).out)

-- the picks fit and the answer is the one that they fix, exactly at a step
pub played_yes : (s : Plain) (turn : Turn) (quiet : Bool) (ahead : Plain) (due : Bool) (ready : Plain) (picks : List Pick) (b : Bool) → Ready s turn quiet ahead due ready → picks ≡ turn.picks → IsTrue b ↔ Played ready turn.caller turn.event turn.out picks → IsTrue b ↔ IsStep s turn
played_yes s turn quiet ahead due ready picks b r p same =
    let q : ready ≡ found_by s turn.at = found_is s turn quiet ahead due ready r in (
      λ h.
          let one : Played (found_by s turn.at) turn.caller turn.event turn.out picks = subst (λ (x : Plain). Played x turn.caller turn.event turn.out picks) q (same.0 h) in
          let two : Played (found_by s turn.at) turn.caller turn.event turn.out turn.picks = subst (λ (x : List Pick). Played (found_by s turn.at) turn.caller turn.event turn.out x) p one in
          record {
            something = nothing_is s turn quiet ahead due r.before ∙ r.something;
            step = Step-of s turn.caller turn.at turn.event turn.out turn.picks (after s turn) two.0 two.1 refl;
          },
      λ step.
          let f = fits-Step s turn.caller turn.at turn.event turn.out turn.picks (after s turn) step.step in
          let two : Played (found_by s turn.at) turn.caller turn.event turn.out turn.picks = (f.0, f.1) in
          let one : Played (found_by s turn.at) turn.caller turn.event turn.out picks = subst (λ (x : List Pick). Played (found_by s turn.at) turn.caller turn.event turn.out x) (sym p) two in
          same.1 (subst (λ (x : Plain). Played x turn.caller turn.event turn.out picks) (sym q) one),
    )

-- the same of a call that may want memory
pub played_ok : {E : Type 0} (s : Plain) (turn : Turn) (quiet : Bool) (ahead : Plain) (due : Bool) (ready : Plain) (picks : List Pick) (result : Result Bool E) → Ready s turn quiet ahead due ready → picks ≡ turn.picks → IfOk result (λ b. IsTrue b ↔ Played ready turn.caller turn.event turn.out picks) → IfOk result (λ b. IsTrue b ↔ IsStep s turn)
played_ok s turn quiet ahead due ready picks (Ok b) r p same = played_yes s turn quiet ahead due ready picks b r p same
played_ok s turn quiet ahead due ready picks (Err e) r p same = tt

pub not_both_one : (a b : Bool) → a ≡ false → (a && b) ≡ false
not_both_one a b e = grind arith

pub not_both_two : (a b : Bool) → b ≡ false → (a && b) ≡ false
not_both_two a b e = grind arith
