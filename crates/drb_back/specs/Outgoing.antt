-- What one outgoing call does to the records of a dialer: docs/WIRE.md, Outgoing calls.
use Rattle.std.specs.Prelude.{◌≡◌, ◌⊎◌, ℕ, List, [], ◌∷◌, ◌++◌, take, true, false, ⊤, None, Some}
use Rattle.std.specs.declared.option.Option.{Option}
use Rattle.drb_tree.specs.declared.Tree.{Tree}
use Rattle.drb_tree.specs.declared.Remote.{Remote}
use Rattle.drb_outside.specs.Records.{Peer, Record}
use Rattle.drb_outside.specs.Calls.{hung_up, refused_at}
use Rattle.drb_packet.specs.declared.request.Limits.{Limits}
use Rattle.drb_packet.specs.Parsers.{is_open}
use Rattle.drb_packet.specs.Replies.{next_reply}
use Rattle.drb_packet.specs.Texts.{ask_text}
use Rattle.drb_ref.specs.Uris.{IsUri}
use Rattle.drb_back.specs.declared.back.Back.{Back}
use Rattle.drb_back.specs.declared.back.Back.TheVariants as back
use Rattle.drb_back.specs.Answers.{answer_of, behind}

-- a uri names this address
abbrev pub Names : List ℕ → Option Peer → Type 0
Names uri None = ⊥
Names uri (Some p) = IsUri uri p.host p.port

-- a uri names no address
abbrev pub NamesNone : List ℕ → Type 0
NamesNone uri = (host : List ℕ) (port : ℕ) → IsUri uri host port → ⊥

-- what was sent of the text of the request: all of it, or after a fault of a send a front of it
abbrev pub Sent : Back → List ℕ → List ℕ → Type 0
Sent back.WriteFault text sent = (n : ℕ) × (sent ≡ take n text)
Sent _ text sent = sent ≡ text

-- all that the peer of a call gave and still gives
abbrev pub peer_bytes : Record → List ℕ
peer_bytes r = r.received ++ r.gives

-- What the bytes of the peer come to. After a fault of a send nothing was received, and after a fault of a receive
-- the bytes received don't decide what stands first. Want of memory says nothing. Every other answer is that of all
-- that the peer gave and still gives, of which exactly the bytes behind the answer are left.
abbrev pub Heard : Limits → Back → Record → Type 0
Heard limits back.WriteFault r = r.received ≡ []
Heard limits back.ReadFault r = is_open (next_reply limits.load r.received) ≡ true
Heard limits back.Memory r = ⊤
Heard limits b r = (b ≡ answer_of (next_reply limits.load (peer_bytes r)))
    × (behind (next_reply limits.load (peer_bytes r)) ≡ r.gives)

-- the record of a call that was made under these limits, with the text of a request
pub record Made (limits : Limits) (to : Remote) (name : List ℕ) (args : List Tree) (b : Back)
    (r : Record) : Type 0 where
  pub address : Names to.uri.bytes r.address
  pub dialled : r.refused ≡ false
  pub sent : Sent b (ask_text to.id name args) r.sent
  pub heard : Heard limits b r
  pub down : r.up ≡ false

-- the earlier records stay, but one that was up has ended, and this one is added
abbrev pub Adds : Record → List Record → List Record → Type 0
Adds r old new = new ≡ hung_up old ++ r ∷ []

-- One outgoing call. A bad uri and a request that is too long add nothing. A fault of the dial adds the record of a
-- failed dial, with the address that the uri names, or with none. Want of memory adds nothing, or the record of a
-- call that was made. Every other answer adds the record of a call that was made.
abbrev pub Outgoing : Limits → Remote → List ℕ → List Tree → Back → List Record → List Record
    → Type 0
Outgoing limits to name args back.BadUri old new = new ≡ old
Outgoing limits to name args back.TooLong old new = new ≡ old
Outgoing limits to name args back.DialFault old new =
    (address : Option Peer) × ((address ≡ None) ⊎ Names to.uri.bytes address)
    × Adds (refused_at address) old new
Outgoing limits to name args back.Memory old new = (new ≡ old)
    ⊎ ((r : Record) × Made limits to name args back.Memory r × Adds r old new)
Outgoing limits to name args b old new =
    (r : Record) × Made limits to name args b r × Adds r old new

-- nobody was dialled
abbrev pub Uncalled : Back → Type 0
Uncalled back.BadUri = ⊤
Uncalled back.TooLong = ⊤
Uncalled _ = ⊥

-- the dialer failed
abbrev pub IsFault : Back → Type 0
IsFault back.DialFault = ⊤
IsFault back.ReadFault = ⊤
IsFault back.WriteFault = ⊤
IsFault _ = ⊥

-- this is the answer, or memory ran out
abbrev pub OrMemory : Back → Back → Type 0
OrMemory b result = (result ≡ b) ⊎ (result ≡ back.Memory)

-- all that the peer of the last call gave and still gives
abbrev pub last_bytes : List Record → List ℕ
last_bytes [] = []
last_bytes (r ∷ []) = peer_bytes r
last_bytes (r ∷ s ∷ rs) = last_bytes (s ∷ rs)

-- Nobody was dialled, memory ran out, or the answer is the one by the bytes of the peer that was called.
abbrev pub Replied : Limits → Back → List Record → List Record → Type 0
Replied limits back.BadUri old new = ⊤
Replied limits back.TooLong old new = ⊤
Replied limits back.Memory old new = ⊤
Replied limits b old new = b ≡ answer_of (next_reply limits.load (last_bytes new))
