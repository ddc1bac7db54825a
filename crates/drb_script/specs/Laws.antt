-- What follows from where the machine stands: docs/SESSIONS.md, Scripts.
use Rattle.std.specs.Prelude.{◌≡◌, List, [], ◌∷◌, ◌++◌, Some}
use Rattle.drb_tree.specs.declared.Remote.{Remote}
use Rattle.rinda_rules.specs.declared.turn.Turn.{Turn}
use Rattle.rinda_rules.specs.declared.event.Event.{Event}
use Rattle.drb_dispatch.specs.declared.call.Call.{Call}
use Rattle.drb_script.specs.declared.patience.Patience.{Patience}
use Rattle.drb_script.specs.declared.reply.Reply.{Reply}
use Rattle.drb_script.specs.declared.next.Saying.{Saying}
use Rattle.drb_script.specs.declared.next.Loose.{Loose}
use Rattle.drb_script.specs.declared.next.AfterTurn.{AfterTurn}
use Rattle.drb_script.specs.declared.next.AfterCall.{AfterCall}
use Rattle.drb_script.specs.declared.next.Next.{Next}
use Rattle.drb_script.specs.declared.next.Next.TheVariants as step
use Rattle.drb_script.specs.Acting.{makes, calls}
use Rattle.drb_script.specs.Rest.{loose_turn, loose_call, loose_next}
use Rattle.drb_script.specs.Stands.{Action, turned, Script, IsBefore, IsLost, Stops, clearing, Stands}

-- the machine's reply is that of the script
abbrev pub RepliesAsScript : Type 0
RepliesAsScript = (p : Patience) (call : Call) (actions : List Action) (r : Reply) →
    Stands p call actions (step.Reply r) → Script p call actions r

-- the machine's next turn is that of the script
abbrev pub TurnsAsScript : Type 0
TurnsAsScript = (p : Patience) (call : Call) (actions : List Action)
    (e : Event) (then : AfterTurn) →
    Stands p call actions (step.Turn e then) → IsBefore p call actions (loose_turn then) (makes e)

-- the machine's next call is that of the script
abbrev pub CallsAsScript : Type 0
CallsAsScript = (p : Patience) (call : Call) (actions : List Action)
    (to : Remote) (saying : Saying) (then : AfterCall) →
    Stands p call actions (step.Call to saying then) →
    IsBefore p call actions (loose_call then) (calls to saying)

-- the machine has stopped where the script has
abbrev pub LosesAsScript : Type 0
LosesAsScript = (p : Patience) (call : Call) (actions : List Action) (loose : Loose) →
    Stands p call actions (step.Lost loose) → IsLost p call actions loose

-- wherever the machine stands, want of memory may end the script
abbrev pub MayStop : Type 0
MayStop = (p : Patience) (call : Call) (actions : List Action) (next : Next) →
    Stands p call actions next → Stops p call actions

-- and then the one turn for what is left behind may be made
abbrev pub MayClear : Type 0
MayClear = (p : Patience) (call : Call) (actions : List Action) (next : Next) (turn : Turn) →
    Stands p call actions next → clearing (loose_next next) ≡ Some turn.event →
    Stops p call (actions ++ turned turn ∷ [])

-- by the same actions a call has one reply
abbrev pub OneReply : Type 0
OneReply = (p : Patience) (call : Call) (actions : List Action) (r s : Reply) →
    Script p call actions r → Script p call actions s → r ≡ s
