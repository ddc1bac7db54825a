-- What a function of the reader leaves, by its result.
use Rattle.std.specs.Prelude.{◌≡◌, ℕ, List, Ok, IfOk, OnOk, IfErr}
use Rattle.std.specs.declared.result.Result.{Result}
use denote.Ref.{Bor}
use Rattle.drb_tree.specs.declared.Tree.{Tree}
use Rattle.marshal_grammar.specs.Grammar.{Grammar}
use Rattle.marshal_read.specs.declared.error.Stop.{Stop}
use Rattle.marshal_read.specs.declared.steps.Step.{Step}
use Rattle.marshal_read.specs.Fails.{Fails, read_at, error_of}
use Rattle.marshal_read.specs.Making.{value_of, added, AddsOne}
use Rattle.marshal_read.specs.State.{State}

-- from the old state the piece gives this, and the new state is behind it
abbrev pub Reached : {A : Type 0} → Grammar A → A → State → State → Type 0
Reached g a old new = read_at g old ≡ Ok (a, new.seen, new.rest)

-- the value that these steps make is what the piece gives, which is told that value
abbrev pub ReachedBy : (Tree → Grammar Tree) → List Step → State → State → Type 0
ReachedBy g ss old new = Reached (g (value_of ss)) (value_of ss) old new

-- A result stands for what the piece gives from the old state, the new state is behind it, and no step was added. A stop has
-- the refusal that the piece meets there.
pub record GivesAs {A B : Type 0} (g : Grammar A) (of : B → A) (old new : State) (r : Result B Stop)
    : Type 0 where
  pub ok : IfOk r (λ x. Reached g (of x) old new)
  pub kept : OnOk r (new.steps ≡ old.steps)
  pub err : IfErr r (λ e. Fails (error_of e new.refused) (read_at g old))

-- the result itself is what the piece gives
abbrev pub Gives : {A : Type 0} → Grammar A → State → State → Result A Stop → Type 0
Gives g old new r = GivesAs g (λ x. x) old new r

-- the same of bytes of the input
abbrev pub GivesBytes : Grammar (List ℕ) → State → State → Result (Bor (List ℕ)) Stop → Type 0
GivesBytes g old new r = GivesAs g (λ b. b.now) old new r

-- The steps that were added make what the piece gives from the old state, and the new state is behind it. A stop has the refusal
-- that the piece meets there.
pub record AddsAs {A : Type 0} (g : Grammar A) (a : A) (Added : Type 0) (old new : State)
    (r : Result (Unit {0}) Stop) : Type 0 where
  pub ok : OnOk r (Reached g a old new)
  pub adds : OnOk r Added
  pub err : IfErr r (λ e. Fails (error_of e new.refused) (read_at g old))

-- they make one value
abbrev pub Adds : Grammar Tree → State → State → Result (Unit {0}) Stop → Type 0
Adds g old new r = AddsAs g (added old.steps new.steps) (AddsOne old.steps new.steps) old new r
