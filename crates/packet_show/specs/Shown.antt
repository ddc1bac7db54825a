-- What is shown of what stands first in bytes: docs/WIRE.md, What stands first.
use Rattle.std.specs.Prelude.{ℕ, List, length, Bool, is_some}
use Rattle.drb_tree.specs.declared.Tree.{Tree}
use Rattle.drb_packet.specs.declared.request.Limits.{Limits}
use Rattle.drb_packet.specs.declared.request.Request.{Request}
use Rattle.drb_packet.specs.Parsers.{Parsed, holds, ended, refused}
use Rattle.drb_packet.specs.Requests.{next_request}
use Rattle.drb_packet.specs.Replies.{next_reply}
use Rattle.packet_show.specs.declared.seen.Kind.{Kind}
use Rattle.packet_show.specs.declared.seen.Kind.TheVariants as kind
use Rattle.packet_show.specs.declared.seen.Call.{Call}
use Rattle.packet_show.specs.declared.seen.Seen.{Seen}
use Rattle.packet_show.specs.declared.seen.Seen.TheVariants as seen

-- the limits that are usual
abbrev pub limits : Limits
limits = record { load = 26214400; args = 256 }

-- the name's bytes, the number of arguments, and whether there is a block
abbrev pub call_shown : Request → Call
call_shown r = record { name = r.name.bytes; arguments = length r.args; block = is_some r.block }

-- a request, the end or a refusal, and how many bytes are behind it
abbrev pub request_shown : Parsed Request → Seen
request_shown (holds r rest) = seen.Request (call_shown r) (length rest)
request_shown ended = seen.End
request_shown (refused why rest) = seen.Refused why (length rest)

-- the same of a reply, of which only success is shown
abbrev pub reply_shown : Parsed (Bool × Tree) → Seen
reply_shown (holds r rest) = seen.Reply r.0 (length rest)
reply_shown ended = seen.End
reply_shown (refused why rest) = seen.Refused why (length rest)

-- what stands first in the bytes, as what is looked for
abbrev pub shown : Kind → List ℕ → Seen
shown kind.Request bytes = request_shown (next_request limits bytes)
shown kind.Reply bytes = reply_shown (next_reply limits.load bytes)
