-- What an answer says of what is read.
use Rattle.std.specs.Prelude.{ℕ, ◌≡◌, ◌≤◌, List, length, Result, Ok, Err}
use Rattle.drb_tree.specs.declared.Tree.{Tree}
use Rattle.drb_text.specs.declared.error.TextError.{TextError}
use Rattle.drb_text.specs.declared.error.TextError.TheVariants as error
use Rattle.drb_text.specs.declared.fault.Fault.{Fault}
use Rattle.drb_text.specs.declared.fault.Fault.TheVariants as fault
use Rattle.drb_text.specs.Reading.{Read}

-- that is read, and of the bytes those are left
pub record ReadsAs {A : Type 0} (r : Read A) (bs : List ℕ) (a : A) (rest : List ℕ) : Type 0 where
  pub reads : r ≡ Ok (a, rest)
  pub within : length rest ≤ length bs

-- nothing can go on where so many of the bytes are left
pub record StuckAt {A : Type 0} (r : Read A) (bs : List ℕ) (left : ℕ) : Type 0 where
  pub stuck : r ≡ Err left
  pub within : left ≤ length bs

-- nothing can go on where that says, or there is no memory
abbrev pub Faults : {A : Type 0} → Read A → List ℕ → Fault → Type 0
Faults r bs (fault.Stuck left) = StuckAt r bs left
Faults r bs fault.Memory = Unit {0}

-- the same of a whole word
abbrev pub WholeFault : Result Tree ℕ → List ℕ → Fault → Type 0
WholeFault r bs (fault.Stuck left) = (r ≡ Err left) × (left ≤ length bs)
WholeFault r bs fault.Memory = Unit {0}

-- the place is the one at which the word is not read, or there is no memory
abbrev pub IsToldOf : Result Tree ℕ → TextError → Type 0
IsToldOf r (error.Syntax at) = r ≡ Err at
IsToldOf r error.Memory = Unit {0}
