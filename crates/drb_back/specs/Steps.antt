-- The steps of one outgoing call.
use Rattle.std.specs.Prelude.{◌≡◌, ◌⊎◌, ℕ, List, ◌++◌, take, Bool, true, false, ⊤, None, Some}
use Rattle.drb_outside.specs.Records.{Peer, Record}
use Rattle.drb_outside.specs.Calls.{on_last, send_more, merged, last_gives, refused_at}
use Rattle.drb_packet.specs.declared.request.Limits.{Limits}
use Rattle.drb_packet.specs.Parsers.{is_open}
use Rattle.drb_packet.specs.Replies.{next_reply}
use Rattle.drb_back.specs.declared.back.Back.{Back}
use Rattle.drb_back.specs.declared.back.Back.TheVariants as back
use Rattle.drb_back.specs.Answers.{answer_of, behind}
use Rattle.drb_back.specs.Outgoing.{Sent, Heard, Adds}

-- this was sent over the last call
abbrev pub SentMore : List ℕ → List Record → List Record → Type 0
SentMore bytes old new = new ≡ on_last (send_more bytes) old

-- all of it was sent, or as much as a fault let through
abbrev pub SentAll : Bool → List ℕ → List Record → List Record → Type 0
SentAll true bytes old new = SentMore bytes old new
SentAll false bytes old new = (n : ℕ) × SentMore (take n bytes) old new

-- what the bytes that were left come to, with what is left of them
abbrev pub Says : Limits → Back → List ℕ → List ℕ → Type 0
Says limits back.BadUri left left' = ⊥
Says limits back.TooLong left left' = ⊥
Says limits back.DialFault left left' = ⊥
Says limits back.WriteFault left left' = ⊥
Says limits back.ReadFault left left' = (taken : List ℕ) × (left ≡ taken ++ left')
    × (is_open (next_reply limits.load taken) ≡ true)
Says limits back.Memory left left' = ⊤
Says limits b left left' = (b ≡ answer_of (next_reply limits.load left))
    × (behind (next_reply limits.load left) ≡ left')

-- the text was sent over the last call, and this came back
abbrev pub Asked : Limits → List ℕ → Back → List Record → List Record → Type 0
Asked limits text back.WriteFault old new = (n : ℕ) × SentMore (take n text) old new
Asked limits text b old new = (on_last merged new ≡ on_last merged (on_last (send_more text) old))
    × Says limits b (last_gives old) (last_gives new)

-- the record of a call that was made to this address with this text
pub record MadeAt (limits : Limits) (at : Peer) (text : List ℕ) (b : Back) (r : Record) : Type 0
  where
    pub address : r.address ≡ Some at
    pub dialled : r.refused ≡ false
    pub sent : Sent b text r.sent
    pub heard : Heard limits b r
    pub down : r.up ≡ false

-- this address was called with this text
abbrev pub CalledAt : Limits → Peer → List ℕ → Back → List Record → List Record → Type 0
CalledAt limits at text back.DialFault old new =
    Adds (refused_at None) old new ⊎ Adds (refused_at (Some at)) old new
CalledAt limits at text b old new = (r : Record) × MadeAt limits at text b r × Adds r old new
