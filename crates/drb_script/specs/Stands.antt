-- The script of a call, its prefixes, and where a machine stands in it: docs/SESSIONS.md, Scripts.
use Rattle.std.specs.Prelude.{◌≡◌, false, List, [], ◌∷◌, ◌++◌, map, Option, None, Some}
use Rattle.drb_tree.specs.declared.Remote.{Remote}
use Rattle.rinda_rules.specs.declared.turn.Turn.{Turn}
use Rattle.rinda_rules.specs.declared.event.Event.{Event}
use Rattle.rinda_rules.specs.declared.event.Event.TheVariants.{Withdraw, Settle}
use Rattle.rinda_rules.specs.declared.out.Out.{Out}
use Rattle.drb_dispatch.specs.declared.call.Call.{Call}
use Rattle.drb_back.specs.declared.back.Back.{Back}
use Rattle.drb_script.specs.declared.patience.Patience.{Patience}
use Rattle.drb_script.specs.declared.reply.Reply.{Reply}
use Rattle.drb_script.specs.declared.next.Saying.{Saying}
use Rattle.drb_script.specs.declared.next.Loose.{Loose}
use Rattle.drb_script.specs.declared.next.Loose.TheVariants as left
use Rattle.drb_script.specs.declared.next.AfterTurn.{AfterTurn}
use Rattle.drb_script.specs.declared.next.AfterCall.{AfterCall}
use Rattle.drb_script.specs.declared.next.Next.{Next}
use Rattle.drb_script.specs.declared.next.Next.TheVariants as step
use Rattle.drb_script.specs.Acting.{Deed, makes, calls, Answer, by_space, by_peer, Course, does, replied, wants, lost}
use Rattle.drb_script.specs.Scripts.{script}
use Rattle.drb_script.specs.Rest.{rest}

-- an action: a turn that was made, or a peer that was called with this, and what it came to
pub data Action : Type 0 where
  turned : Turn → Action
  called : Remote → Saying → Back → Action

-- what was done
abbrev pub deed_of : Action → Deed
deed_of (turned t) = makes t.event
deed_of (called to saying back) = calls to saying

-- what it was answered
abbrev pub answer_of : Action → Answer
answer_of (turned t) = by_space t.out
answer_of (called to saying back) = by_peer back

-- these deeds were done, and then it goes on so
abbrev pub doing : List Deed → Course (Unit {0}) → Course (Unit {0})
doing [] course = course
doing (d ∷ ds) course = does d (doing ds course)

-- the script goes by these actions, and then so
abbrev pub Goes : Patience → Call → List Action → Course (Unit {0}) → Type 0
Goes p call actions course =
    script p call (map answer_of actions) ≡ doing (map deed_of actions) course

-- These are the actions of the call, and this is its reply.
abbrev pub Script : Patience → Call → List Action → Reply → Type 0
Script p call actions reply = Goes p call actions (replied reply [])

-- These actions are the first ones of the call's script, this is to be done next, and this would be left
-- behind.
abbrev pub IsBefore : Patience → Call → List Action → Loose → Deed → Type 0
IsBefore p call actions loose deed = Goes p call actions (wants loose deed)

-- These actions are the first ones of the call's script, the last one is a call that found no memory, and
-- this is left behind.
abbrev pub IsLost : Patience → Call → List Action → Loose → Type 0
IsLost p call actions loose = Goes p call actions (lost loose [])

-- what is left behind where it goes no further
abbrev pub Leaving : Course (Unit {0}) → Loose → Type 0
Leaving (wants l deed) loose = l ≡ loose
Leaving (lost l []) loose = l ≡ loose
Leaving (replied r []) loose = loose ≡ left.Nothing
Leaving _ loose = ⊥

-- the one turn that may still be made for it: the reserved request is withdrawn, and the tuple that the
-- granted one holds is given back
abbrev pub clearing : Loose → Option Event
clearing left.Nothing = None
clearing (left.Reserved id) = Some (Withdraw id)
clearing (left.Granted id) = Some (Settle id false)

-- nothing, or that one turn
abbrev pub Clears : Loose → List Action → Type 0
Clears loose [] = Unit {0}
Clears loose (turned t ∷ []) = clearing loose ≡ Some t.event
Clears loose _ = ⊥

-- Where memory ran out: these are the first actions of the call's script, perhaps all of it, and then at
-- most the one turn for what was left behind.
pub record Stops (p : Patience) (call : Call) (actions : List Action) : Type 0 where
  pub first : List Action
  pub more : List Action
  pub course : Course (Unit {0})
  pub loose : Loose
  pub split : actions ≡ first ++ more
  pub goes : Goes p call first course
  pub leaving : Leaving course loose
  pub clears : Clears loose more

-- After these actions the machine stands where the script does: whatever the further answers are, both go
-- on alike.
unfoldable pub Stands : Patience → Call → List Action → Next → Type 0
Stands p call actions next = (more : List Answer) →
    script p call (map answer_of actions ++ more) ≡ doing (map deed_of actions) (rest p next more)

-- One step: a machine that stood where the script does, and was answered so by the space, does so again.
abbrev pub TurnedTo : Patience → AfterTurn → Out → Next → Type 0
TurnedTo p then out next = (call : Call) (actions : List Action) (turn : Turn) → turn.out ≡ out →
    Stands p call actions (step.Turn turn.event then) →
    Stands p call (actions ++ turned turn ∷ []) next

-- the same where the peer's call came to this
abbrev pub CalledTo : Patience → AfterCall → Remote → Back → Next → Type 0
CalledTo p then to back next = (call : Call) (actions : List Action) (saying : Saying) →
    Stands p call actions (step.Call to saying then) →
    Stands p call (actions ++ called to saying back ∷ []) next
