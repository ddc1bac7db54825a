-- The laws of outgoing calls: docs/WIRE.md, Outgoing calls.
use Rattle.std.specs.Prelude.{◌≡◌, ℕ, ◌≤◌, List, ◌++◌, length}
use Rattle.drb_tree.specs.declared.Tree.{Tree}
use Rattle.drb_tree.specs.declared.Remote.{Remote}
use Rattle.drb_outside.specs.Records.{Record}
use Rattle.drb_outside.specs.Calls.{hung_up}
use Rattle.drb_packet.specs.declared.request.Limits.{Limits}
use Rattle.drb_back.specs.declared.back.Back.{Back}
use Rattle.drb_back.specs.Outgoing.{Outgoing}

-- no call of the list is up
abbrev pub AllDown : List Record → Type 0
AllDown records = hung_up records ≡ records

-- one list is another with at most one record behind it
abbrev pub OneMore : List Record → List Record → Type 0
OneMore old new = (more : List Record) × (new ≡ old ++ more) × (length more ≤ 1)

-- where none was up before, or the list has changed, none is up
abbrev pub NoneUp : Type 0
NoneUp = (limits : Limits) (to : Remote) (name : List ℕ) (args : List Tree) (b : Back)
    (old new : List Record) → Outgoing limits to name args b old new →
    ((AllDown old → AllDown new) × ((new ≡ old → ⊥) → AllDown new))

-- where none was up, the list is as it was with at most one record behind it
abbrev pub Appends : Type 0
Appends = (limits : Limits) (to : Remote) (name : List ℕ) (args : List Tree) (b : Back)
    (old new : List Record) → Outgoing limits to name args b old new → AllDown old → OneMore old new

-- two calls in a row
abbrev pub InOrder : Type 0
InOrder = (limits : Limits) (to to' : Remote) (name name' : List ℕ) (args args' : List Tree)
    (b b' : Back) (old between new : List Record) →
    Outgoing limits to name args b old between → Outgoing limits to' name' args' b' between new →
    AllDown old → (first second : List Record) × (between ≡ old ++ first)
    × (new ≡ old ++ first ++ second) × (length first ≤ 1) × (length second ≤ 1)
