-- One line after the other.
use Rattle.std.specs.Prelude.{◌≡◌, ◌⊎◌, ℕ, ◌+◌, Bool, true, false, List, ◌∷◌, Result, Err}
use Rattle.drb_acl.specs.declared.line.Line.{Line}
use Rattle.drb_acl.specs.declared.acl.AclError.{AclError}
use Rattle.drb_acl.specs.declared.acl.AclError.TheVariants as error
use Rattle.drb_acl.specs.Judging.{Access}
use Rattle.drb_acl.specs.Reading.{rules_from, lines_from, unsaid}

-- what the lines from that number on come to, where something was said above them or nothing
abbrev pub rest_of : Bool → Access → ℕ → List Line → Result Access AclError
rest_of true above n ls = rules_from above n ls
rest_of false above n ls = lines_from n ls

-- where nothing was said, the access list is as at the head
abbrev pub Fresh : Bool → Access → Type 0
Fresh begun above = begun ≡ false → above ≡ unsaid

-- whatever follows, the line leads to that state
pub record Goes (begun : Bool) (old : Access) (n : ℕ) (line : Line) (now : Bool)
    (new : Access) : Type 0 where
  pub fresh : Fresh now new
  pub rest : (ls : List Line) → rest_of begun old n (line ∷ ls) ≡ rest_of now new (n + 1) ls

-- whatever follows, the line is refused so, or there is no memory
abbrev pub Stops : Bool → Access → ℕ → Line → AclError → Type 0
Stops begun old n line e =
    (e ≡ error.Memory) ⊎ ((ls : List Line) → rest_of begun old n (line ∷ ls) ≡ Err e)
