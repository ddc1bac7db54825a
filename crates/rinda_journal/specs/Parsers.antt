-- What is read next of a turn: its fields and its values come in two rows.
use Rattle.std.specs.Prelude.{◌≡◌, List, Option, Some, None, Result, Ok, Err}
use Rattle.drb_tree.specs.declared.Tree.{Tree}
use Rattle.rinda_journal.specs.declared.error.ReadTurnError.{ReadTurnError}
use Rattle.rinda_journal.specs.declared.error.ReadTurnError.TheVariants.{NotATurn, Memory}
use Rattle.rinda_journal.specs.declared.field.Field.{Field}

-- the fields of the head that were not read yet, and the values that follow
pub record Left : Type 0 where
  pub fields : List Field
  pub values : List Tree

-- what is read next, and what is left behind it; None where it is not there
abbrev pub Parser : Type 0 → Type 0
Parser A = Left → Option (A × Left)

-- this is known, and nothing is read
abbrev pub gives : {A : Type 0} → A → Parser A
gives a left = Some (a, left)

-- it is not there
abbrev pub fails : {A : Type 0} → Parser A
fails left = None

-- what was found, or nothing
abbrev pub given : {A : Type 0} → Option A → Parser A
given None = fails
given (Some a) = gives a

-- what is read behind
abbrev pub on : {A B : Type 0} → Option (A × Left) → (A → Parser B) → Option (B × Left)
on None f = None
on (Some r) f = f r.0 r.1

-- one after the other
infixl 10 ◌>>=◌
abbrev pub ◌>>=◌ : {A B : Type 0} → Parser A → (A → Parser B) → Parser B
(p >>= f) left = on (p left) f

-- A step of reading gave what is read next, and left what is behind it; or it is not there; want of memory says nothing.
abbrev pub Parses : {A : Type 0} → Parser A → Left → Left → Result A ReadTurnError → Type 0
Parses p old new (Ok a) = p old ≡ Some (a, new)
Parses p old new (Err NotATurn) = p old ≡ None
Parses p old new (Err Memory) = Unit {0}

-- the same of what needs no reading
abbrev pub Finds : {A : Type 0} → Option A → Result A ReadTurnError → Type 0
Finds o (Ok a) = o ≡ Some a
Finds o (Err NotATurn) = o ≡ None
Finds o (Err Memory) = Unit {0}
