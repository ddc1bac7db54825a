-- What a keeper does: docs/SESSIONS.md, The keeper.
use Rattle.std.specs.Prelude.{◌≡◌, ◌↔◌, ℕ, ◌≤◌, List, [], ◌∷◌, Ok}
use Rattle.std.specs.declared.result.Result.{Result}
use Rattle.drb_tree.specs.declared.Remote.{Remote}
use Rattle.drb_outside.specs.Told.{Told, Rose, Reads}
use Rattle.drb_packet.specs.declared.request.Limits.{Limits}
use Rattle.drb_packet.specs.Texts.{ask_values, SomeLong}
use Rattle.drb_back.specs.declared.back.Back.{Back}
use Rattle.drb_back.specs.declared.back.Back.TheVariants as back
use Rattle.drb_back.specs.Outgoing.{NamesNone, IsFault, Outgoing, OrMemory}
use Rattle.rinda_rules.specs.declared.event.Event.{Event}
use Rattle.rinda_rules.specs.declared.out.Out.{Out}
use Rattle.rinda_rules.specs.declared.turn.Turn.{Turn}
use Rattle.drb_script.specs.declared.next.Saying.TheVariants as say
use Rattle.drb_reply.specs.Arguments.{method_of}
use Rattle.rinda_space.specs.declared.turned.Turned.{Turned}
use Rattle.rinda_space.specs.declared.turned.Turned.TheVariants.{Done}
use Rattle.rinda_space.specs.declared.turned.TurnError.{TurnError}
use Rattle.drb_session.specs.Passes.{Tries}
use Rattle.drb_session.specs.Runs.{Side}

-- One deed: an event was tried at that reading of the clock, and came to this; or `renew` was called on that renewer,
-- and came to this.
pub data Deed : Type 0 where
  tried : ℕ → Event → Result Turned TurnError → Deed
  called : Remote → Back → Deed

-- The clock was read once, and then the event was tried at that reading.
pub record Trial (at : ℕ) (event : Event) (result : Result Turned TurnError) (old new : Side) : Type
    0 where
  pub reads : Reads old.readings new.readings at
  pub tries : Tries old.pass new.pass at event result
  pub calls : new.calls ≡ old.calls
  pub faults : new.faults ≡ old.faults

-- One outgoing call of `renew` without arguments. A bad uri exactly where the renewer's uri names no address; too long
-- exactly where a dump of the request is, of a uri that names one; and a fault only where the dialer's count rose.
pub record Renewal (limits : Limits) (to : Remote) (b : Back) (old new : Side) : Type 0 where
  pub calls : Told old.calls new.calls new.faults (Outgoing limits to (method_of say.Renew) [] b)
  pub bad_uri : (b ≡ back.BadUri) ↔ NamesNone to.uri.bytes
  pub too_long : b ≡ back.TooLong → SomeLong (ask_values to.id (method_of say.Renew) [])
  pub every_too_long : (NamesNone to.uri.bytes → ⊥) →
      SomeLong (ask_values to.id (method_of say.Renew) []) → OrMemory back.TooLong b
  pub fault : IsFault b → Rose old.faults new.faults
  pub later : old.faults ≤ new.faults
  pub pass : new.pass ≡ old.pass
  pub readings : new.readings ≡ old.readings

-- what a deed does
abbrev pub Does : Limits → Deed → Side → Side → Type 0
Does limits (tried at event result) old new = Trial at event result old new
Does limits (called to back) old new = Renewal limits to back old new

-- one deed after the other
abbrev pub DoesAll : Limits → List Deed → Side → Side → Type 0
DoesAll limits [] old new = new ≡ old
DoesAll limits (deed ∷ deeds) old new =
    (between : Side) × Does limits deed old between × DoesAll limits deeds between new

-- the readings of the clock, one for each try
abbrev pub ats_of : List Deed → List ℕ
ats_of [] = []
ats_of (tried at event result ∷ deeds) = at ∷ ats_of deeds
ats_of (called to back ∷ deeds) = ats_of deeds

-- a turn's reading, event and answer
abbrev pub Saw : Type 0
Saw = ℕ × Event × Out

abbrev pub saw_of : Turn → Saw
saw_of turn = (turn.at, turn.event, turn.out)

-- those of the turns that were made
abbrev pub made_of : List Deed → List Saw
made_of [] = []
made_of (tried at event (Ok (Done out)) ∷ deeds) = (at, event, out) ∷ made_of deeds
made_of (deed ∷ deeds) = made_of deeds
