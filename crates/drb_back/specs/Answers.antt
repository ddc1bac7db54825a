-- What the bytes of a peer come to: docs/WIRE.md, Outgoing calls.
use Rattle.std.specs.Prelude.{ℕ, List, [], Bool, true, false, Ok, Err}
use Rattle.std.specs.declared.result.Result.{Result}
use Rattle.drb_tree.specs.declared.Tree.{Tree}
use Rattle.drb_packet.specs.declared.refusal.PacketRefusal.{PacketRefusal}
use Rattle.drb_packet.specs.declared.refusal.PacketRefusal.TheVariants.{CutBetween}
use Rattle.drb_packet.specs.declared.refusal.PacketError.{PacketError}
use Rattle.drb_packet.specs.declared.refusal.PacketError.TheVariants as fault
use Rattle.drb_packet.specs.declared.reply.Reply.{Reply}
use Rattle.drb_packet.specs.declared.reply.Reply.TheVariants as reply
use Rattle.drb_packet.specs.Parsers.{Parsed, holds, ended, refused}
use Rattle.drb_back.specs.declared.back.Back.{Back}
use Rattle.drb_back.specs.declared.back.Back.TheVariants as back

-- a reply of success is the value that was answered, one of failure the exception that was raised
abbrev pub replied : Bool → Tree → Back
replied true v = back.Value v
replied false v = back.Raised v

-- bytes that end before the first byte of the second packet are cut, and other bytes that are no reply are refused
abbrev pub unread : PacketRefusal → Back
unread CutBetween = back.Cut
unread why = back.Refused why

-- the answer by what stands first in the bytes of the peer; no bytes are cut before the first packet
abbrev pub answer_of : Parsed (Bool × Tree) → Back
answer_of (holds r rest) = replied r.0 r.1
answer_of ended = back.Cut
answer_of (refused why rest) = unread why

-- the bytes behind what stands first
abbrev pub behind : {A : Type 0} → Parsed A → List ℕ
behind (holds a rest) = rest
behind ended = []
behind (refused why rest) = rest

-- the answer by what the reading of a reply came to
abbrev pub back_of : Result Reply PacketError → Back
back_of (Ok (reply.Reply ok v)) = replied ok v
back_of (Ok reply.End) = back.Cut
back_of (Ok (reply.Refused why)) = unread why
back_of (Err fault.ReadFault) = back.ReadFault
back_of (Err fault.Memory) = back.Memory
