-- What follows of how a file reads, in other words. docs/ACCESS.md, Files.
use Rattle.std.specs.Prelude.{◌≡◌, ℕ, ◌+◌, ◌≤◌, List, [], ◌∷◌, length, take, Ok, Err}
use Rattle.drb_acl.specs.declared.rule.Rule.{Rule}
use Rattle.drb_acl.specs.declared.line.Line.{Line}
use Rattle.drb_acl.specs.declared.line.Line.TheVariants as line
use Rattle.drb_acl.specs.declared.acl.AclError.{AclError}
use Rattle.drb_acl.specs.declared.acl.AclError.TheVariants as error
use Rattle.drb_acl.specs.Judging.{Access}
use Rattle.drb_acl.specs.Reading.{lines_from}

-- what is told names that line
abbrev pub Names : ℕ → AclError → Type 0
Names n (error.Word m) = m ≡ n
Names n (error.Address m) = m ≡ n
Names n (error.TooMany m) = m ≡ n
Names n error.Memory = ⊥

-- Of lines that are refused, those above the one that is named are an access list, and with it they are refused so: it
-- is the first that is wrong, and what follows it plays no part.
abbrev pub NamesFirst : Type 0
NamesFirst = (ls : List Line) (e : AclError) → lines_from 1 ls ≡ Err e
    → (above : ℕ) × (acl : Access) × Names (above + 1) e
    × (lines_from 1 (take above ls) ≡ Ok acl)
    × (lines_from 1 (take (above + 1) ls) ≡ Err e)

-- the rules that lines say
abbrev pub rules_in : List Line → List Rule
rules_in [] = []
rules_in (line.Rule rule ∷ ls) = rule ∷ rules_in ls
rules_in (line.Nothing ∷ ls) = rules_in ls
rules_in (line.Order order ∷ ls) = rules_in ls
rules_in (line.NoForm ∷ ls) = rules_in ls
rules_in (line.NoPattern ∷ ls) = rules_in ls

-- an access list has the rules of its lines, every one, in their order, and at most 1,024
abbrev pub HasItsRules : Type 0
HasItsRules = (ls : List Line) (acl : Access) → lines_from 1 ls ≡ Ok acl
    → (acl.rules ≡ rules_in ls) × (length acl.rules ≤ 1024)
