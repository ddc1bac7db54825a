-- What a step of showing leaves of the bytes that were there.
use Rattle.std.specs.Prelude.{ℕ, ◌≡◌, ◌≤◌, ◌<◌, Bool, true, false, List, ◌++◌, length, Option, Some, None, Result, MatchResult}
use Rattle.marshal_write.specs.declared.error.WriteError.{WriteError}
use Rattle.marshal_write.specs.declared.error.WriteError.TheVariants.{TooLong}
use Rattle.marshal_write.specs.Limits.{max_dump}
use Rattle.drb_text.specs.Shown.{Piece}

-- the bytes from before are still in front
abbrev pub Grows : List ℕ → List ℕ → Type 0
Grows old new = (rest : List ℕ) × (new ≡ old ++ rest)

-- that text was appended, or the bytes from before are still in front
abbrev pub Appends : {E : Type 0} → List ℕ → List ℕ → List ℕ → Result (Unit {0}) E → Type 0
Appends t old new r = MatchResult r (λ _. new ≡ old ++ t) (λ _. Grows old new)

-- where there is a text, it was appended; it is told whether there is one
abbrev pub Puts : Option (List ℕ) → List ℕ → List ℕ → Bool → Type 0
Puts (Some t) old new done = (done ≡ true) × (new ≡ old ++ t)
Puts None old new done = (done ≡ false) × (new ≡ old)

-- the same, or there is no memory
abbrev pub MayPut : {E : Type 0} → Option (List ℕ) → List ℕ → List ℕ → Result Bool E → Type 0
MayPut t old new r = MatchResult r (Puts t old new) (λ _. Grows old new)

-- that was shown
pub record Shows (p : Piece) (old new : List ℕ) : Type 0 where
  pub text : new ≡ old ++ p.text
  pub within : p.longest ≤ max_dump

-- it was not shown
pub record GaveUp (p : Piece) (old new : List ℕ) (e : WriteError) : Type 0 where
  pub front : Grows old new
  pub too_long : e ≡ TooLong → max_dump < p.longest

-- a step that shows a piece
abbrev pub MayShow : Piece → List ℕ → List ℕ → Result (Unit {0}) WriteError → Type 0
MayShow p old new r = MatchResult r (λ _. Shows p old new) (GaveUp p old new)
