-- What the picks of a turn fix, and a history with one more turn.
use Rattle.std.proofs.Common.{◌≡◌, ℕ, Bool, true, ◌&&◌, List, [], ◌∷◌, ◌++◌, Option, Some, None, refl, arith}
use Rattle.std.specs.Prelude.{◌↔◌}
use Rattle.rinda_rules.specs.declared.plain.Request.{Request}
use Rattle.rinda_rules.specs.declared.turn.Pick.{Pick}
use Rattle.rinda_rules.specs.declared.event.Event.{Event}
use Rattle.rinda_rules.specs.declared.out.Out.{Out}
use Rattle.rinda_rules.specs.declared.turn.Turn.{Turn}
use Rattle.rinda_rules.specs.Space.{Plain}
use Rattle.rinda_rules.specs.Phases.{Serve, served}
use Rattle.rinda_rules.specs.Steps.{Case, Step, found_by}
use Rattle.rinda_rules.specs.Fixed.{served_all, picks_serve, case_with, picks_fit_case, turn_with, picks_fit, after}
use Rattle.rinda_rules.specs.Legal.{MayCome, plain_from, LegalFrom}

both : (a b : Bool) → a ≡ true → b ≡ true → (a && b) ≡ true
both a b e f = grind arith

one : (a b : Bool) → (a && b) ≡ true → a ≡ true
one a b e = grind arith

two : (a b : Bool) → (a && b) ≡ true → b ≡ true
two a b e = grind arith

-- picks that fit serve, and lead to the space that they fix
pub Serve-fits : (s : Plain) (picks : List Pick) → picks_serve s picks ≡ true → Serve s picks (served_all s picks)
Serve-fits s [] fit = (fit, refl)
Serve-fits s (pick ∷ picks) fit = (one _ _ fit, Serve-fits (served s pick) picks (two _ _ fit))

pub fits-Serve : (s : Plain) (picks : List Pick) (s' : Plain) → Serve s picks s' → (picks_serve s picks ≡ true) × (s' ≡ served_all s picks)
fits-Serve s [] s' h = (h.0, h.1)
fits-Serve s (pick ∷ picks) s' h = let rest = fits-Serve (served s pick) picks s' h.1 in (both _ _ h.0 rest.0, rest.1)

Case-fits : (s : Plain) (caller : ℕ) (event : Event) (r : Option Request) (picks : List Pick) → picks_fit_case s caller event r picks ≡ true → Case s caller event r (case_with s caller event r picks).out picks (case_with s caller event r picks).after
Case-fits s caller event None picks fit = (refl, Serve-fits _ picks fit)
Case-fits s caller event (Some r) [] fit = cc
Case-fits s caller event (Some r) (pick ∷ picks) fit = (one _ _ fit, refl, Serve-fits _ picks (two _ _ fit))

fits-Case : (s : Plain) (caller : ℕ) (event : Event) (r : Option Request) (out : Out) (picks : List Pick) (s' : Plain) → Case s caller event r out picks s' → (picks_fit_case s caller event r picks ≡ true) × (out ≡ (case_with s caller event r picks).out) × (s' ≡ (case_with s caller event r picks).after)
fits-Case s caller event None out picks s' h = let rest = fits-Serve _ picks s' h.1 in (rest.0, h.0, rest.1)
fits-Case s caller event (Some r) out [] s' h = absurd h
fits-Case s caller event (Some r) out (pick ∷ picks) s' h = let rest = fits-Serve _ picks s' h.2 in (both _ _ h.0 rest.0, h.1, rest.1)

-- picks that fit make a step with the answer and the space that they fix
pub Step-fits : (s : Plain) (caller at : ℕ) (event : Event) (picks : List Pick) → picks_fit s caller at event picks ≡ true → Step s caller at event (turn_with s caller at event picks).out picks (turn_with s caller at event picks).after
Step-fits s caller at event picks fit = Case-fits (found_by s at) caller event _ picks fit

-- a step has picks that fit, and the answer and the space that they fix
pub fits-Step : (s : Plain) (caller at : ℕ) (event : Event) (out : Out) (picks : List Pick) (s' : Plain) → Step s caller at event out picks s' → (picks_fit s caller at event picks ≡ true) × (out ≡ (turn_with s caller at event picks).out) × (s' ≡ (turn_with s caller at event picks).after)
fits-Step s caller at event out picks s' h = fits-Case (found_by s at) caller event _ out picks s' h

-- what is reached with one more turn
pub plain_from-push : (s : Plain) (h : List Turn) (t : Turn) → plain_from s (h ++ t ∷ []) ≡ after (plain_from s h) t
plain_from-push s [] t = refl
plain_from-push s (x ∷ xs) t = plain_from-push (after s x) xs t

-- a legal history with one more turn that may come
pub LegalFrom-push : (s : Plain) (h : List Turn) (t : Turn) → LegalFrom s h → MayCome (plain_from s h) t → LegalFrom s (h ++ t ∷ [])
LegalFrom-push s [] t legal may = (may, tt)
LegalFrom-push s (x ∷ xs) t legal may = (legal.0, LegalFrom-push (after s x) xs t legal.1 may)

-- what fits, is answered so and leads there is a step
pub Step-of : (s : Plain) (caller at : ℕ) (event : Event) (out : Out) (picks : List Pick) (s' : Plain) → picks_fit s caller at event picks ≡ true → out ≡ (turn_with s caller at event picks).out → s' ≡ (turn_with s caller at event picks).after → Step s caller at event out picks s'
Step-of s caller at event out picks s' fit o p = rw (o, p) (Step-fits s caller at event picks fit)

pub Step-is-fixed : (s : Plain) (caller at : ℕ) (event : Event) (out : Out) (picks : List Pick) (s' : Plain) → Step s caller at event out picks s' ↔ ((picks_fit s caller at event picks ≡ true) × (out ≡ (turn_with s caller at event picks).out) × (s' ≡ (turn_with s caller at event picks).after))
Step-is-fixed s caller at event out picks s' = (λ h. fits-Step s caller at event out picks s' h, λ h. Step-of s caller at event out picks s' h.0 h.1 h.2)
