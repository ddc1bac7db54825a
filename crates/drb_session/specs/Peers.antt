-- What a script's call of a peer comes to: docs/SESSIONS.md, Replies; docs/WIRE.md, Outgoing calls.
use Rattle.std.specs.Prelude.{◌≡◌, ◌↔◌, ◌⊎◌, ℕ, List, ⊤}
use Rattle.drb_tree.specs.declared.Tree.{Tree}
use Rattle.drb_tree.specs.declared.Remote.{Remote}
use Rattle.drb_outside.specs.Told.{Rose}
use Rattle.drb_outside.specs.Records.{Record}
use Rattle.drb_packet.specs.Texts.{ask_values, SomeLong}
use Rattle.drb_back.specs.declared.back.Back.{Back}
use Rattle.drb_back.specs.declared.back.Back.TheVariants as back
use Rattle.drb_back.specs.Outgoing.{NamesNone, IsFault, Outgoing, OrMemory}
use Rattle.drb_dispatch.specs.declared.place.Place.{Place}
use Rattle.drb_script.specs.declared.next.Saying.{Saying}
use Rattle.drb_reply.specs.Arguments.{method_of, Arguments, IsTooLongFor}

-- Nothing was sent, since the array for a block is too long, or since there was no memory for the argument.
abbrev pub Unsaid : Saying → Back → Type 0
Unsaid saying back.TooLong = IsTooLongFor saying
Unsaid saying back.Memory = ⊤
Unsaid saying _ = ⊥

-- What it does to the records of the dialer: the call has the method and the arguments of what is said, or there is
-- none.
abbrev pub Says : Place → Remote → Saying → Back → List Record → List Record → Type 0
Says place to saying b old new =
    (Unsaid saying b × (new ≡ old))
    ⊎ ((args : List Tree) × Arguments place.uri saying args
    × Outgoing place.limits to (method_of saying) args b old new)

-- Why it came to this, as far as the bytes of the peer don't say so. A bad uri exactly where the uri names no
-- address; too long exactly where a dump of the request is, of a uri that names one; and a fault only where the
-- dialer's count of faults rose.
pub record Causes (place : Place) (before now : ℕ) (to : Remote) (saying : Saying) (b : Back) : Type
    0 where
  pub args : List Tree
  pub arguments : Arguments place.uri saying args
  pub short : IsTooLongFor saying → ⊥
  pub bad_uri : (b ≡ back.BadUri) ↔ NamesNone to.uri.bytes
  pub too_long : b ≡ back.TooLong → SomeLong (ask_values to.id (method_of saying) args)
  pub every_too_long : (NamesNone to.uri.bytes → ⊥) →
      SomeLong (ask_values to.id (method_of saying) args) → OrMemory back.TooLong b
  pub fault : IsFault b → Rose before now

-- the same, or nothing was sent
abbrev pub Caused : Place → ℕ → ℕ → Remote → Saying → Back → Type 0
Caused place before now to saying b = Unsaid saying b ⊎ Causes place before now to saying b
