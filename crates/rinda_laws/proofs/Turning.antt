-- What each way of changing the space keeps, whole turns and histories keep, from a sound space on.
use Rattle.std.proofs.Common.{◌≡◌, ℕ, List, [], ◌∷◌, ◌++◌, refl}
use Rattle.rinda_rules.specs.declared.event.Event.{Event}
use Rattle.rinda_rules.specs.declared.turn.Pick.{Pick}
use Rattle.rinda_rules.specs.declared.turn.Turn.{Turn}
use Rattle.rinda_rules.specs.Space.{Plain}
use Rattle.rinda_rules.specs.Phases.{aged, Serve}
use Rattle.rinda_rules.specs.Steps.{Step}
use Rattle.rinda_rules.specs.Settled.{Settled}
use Rattle.rinda_rules.specs.Sound.{Sound}
use Rattle.rinda_rules.specs.Fixed.{after}
use Rattle.rinda_rules.specs.Legal.{plain_from, LegalFrom}
use Rattle.rinda_rules.proofs.Keeping.{Keeps, serve_kept, aged_kept, step_kept}
use Rattle.rinda_rules.proofs.Sounding.{sound-Step}
use Rattle.rinda_laws.specs.Starting.{IsStart}

-- Sound and settled in each space of a history.

pub sound_Step : (s : Plain) (t : Turn) (s' : Plain) → Step s t.caller t.at t.event t.out t.picks s' → Sound s → Sound s'
sound_Step s t s' step h = sound-Step s t.caller t.at t.event t.out t.picks s' step h

pub sound_from : (s : Plain) (h : List Turn) → LegalFrom s h → Sound s → Sound (plain_from s h)
sound_from s [] legal sound = sound
sound_from s (t ∷ ts) legal sound = sound_from (after s t) ts legal.1 (sound_Step s t (after s t) legal.0.step sound)

pub settled_from : (s : Plain) (h : List Turn) → LegalFrom s h → Settled s → Settled (plain_from s h)
settled_from s [] legal settled = settled
settled_from s (t ∷ ts) legal settled = settled_from (after s t) ts legal.1 legal.0.settled

-- Histories in two parts.

pub plain_from-append : (s : Plain) (xs ys : List Turn) → plain_from s (xs ++ ys) ≡ plain_from (plain_from s xs) ys
plain_from-append s [] ys = refl
plain_from-append s (x ∷ xs) ys = plain_from-append (after s x) xs ys

pub LegalFrom-front : (s : Plain) (xs ys : List Turn) → LegalFrom s (xs ++ ys) → LegalFrom s xs
LegalFrom-front s [] ys legal = tt
LegalFrom-front s (x ∷ xs) ys legal = (legal.0, LegalFrom-front (after s x) xs ys legal.1)

pub LegalFrom-back : (s : Plain) (xs ys : List Turn) → LegalFrom s (xs ++ ys) → LegalFrom (plain_from s xs) ys
LegalFrom-back s [] ys legal = legal
LegalFrom-back s (x ∷ xs) ys legal = LegalFrom-back (after s x) xs ys legal.1

pub sound_before : (start : Plain) (h later : List Turn) → IsStart start → LegalFrom start (h ++ later) → Sound (plain_from start h)
sound_before start h later is legal = sound_from start h (LegalFrom-front start h later legal) is.sound

pub last_step : (start : Plain) (h : List Turn) (turn : Turn) (later : List Turn) → LegalFrom start (h ++ turn ∷ later) → Step (plain_from start h) turn.caller turn.at turn.event turn.out turn.picks (after (plain_from start h) turn)
last_step start h turn later legal = (LegalFrom-back start h (turn ∷ later) legal).0.step

-- What each way keeps.

-- what the event left is aged and served
pub rest_kept : (caller : ℕ) (event : Event) (P : Plain → Type 0) (k : Keeps caller event P) (s : Plain) (picks : List Pick) (s' : Plain) → Serve (aged s) picks s' → Sound s → P s → P s'
rest_kept caller event P k s picks s' serve sound h = serve_kept caller event P k (aged s) picks s' serve (aged_kept caller event P k s sound h)

-- what each turn keeps a history keeps
pub kept_from : (P : Plain → Type 0) → ((caller : ℕ) (event : Event) → Keeps caller event P) → (s : Plain) (h : List Turn) → LegalFrom s h → Sound s → P s → P (plain_from s h)
kept_from P keeps s [] legal sound h = h
kept_from P keeps s (t ∷ ts) legal sound h =
    kept_from P keeps (after s t) ts legal.1 (sound_Step s t (after s t) legal.0.step sound) (step_kept t.caller t.event P (keeps t.caller t.event) s t.at t.out t.picks (after s t) legal.0.step sound h)
