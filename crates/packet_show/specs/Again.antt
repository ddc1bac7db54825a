-- What is written again of what stands first in bytes: docs/WIRE.md, What stands first.
use Rattle.std.specs.Prelude.{ℕ, List, [], ◌∷◌, length, Bool, ◌&&◌, nat_le, Option, Some, None, is_none, option_map, if◌then◌else◌}
use Rattle.drb_tree.specs.declared.Tree.{Tree}
use Rattle.drb_tree.specs.declared.Tree.TheViews.{out-Tree}
use Rattle.drb_tree.specs.Same.{all_ascii}
use Rattle.marshal_grammar.specs.Trees.{bool, id_of}
use Rattle.drb_packet.specs.declared.request.Request.{Request}
use Rattle.drb_packet.specs.Parsers.{Parsed, holds, ended, refused}
use Rattle.drb_packet.specs.Requests.{next_request}
use Rattle.drb_packet.specs.Replies.{next_reply}
use Rattle.drb_packet.specs.Texts.{ask_values}
use Rattle.packet_show.specs.declared.seen.Kind.{Kind}
use Rattle.packet_show.specs.declared.seen.Kind.TheVariants as kind
use Rattle.packet_show.specs.Shown.{limits}

-- a request that can be written has no block, an ASCII name, and at most 256 arguments
abbrev pub is_plain : Request → Bool
is_plain r = is_none r.block && (all_ascii r.name.bytes && nat_le (length r.args) 256)

-- the packets that are written of a request: where it can be written, and calls the front object, or one by its number
-- or its text
abbrev pub request_packets : Request → Option (List Tree)
request_packets r =
    if is_plain r then option_map (λ to. ask_values to r.name.bytes r.args)
    (id_of (out-Tree r.reference)) else None

-- the packets of what stands first: none where nothing does
abbrev pub first_request : Parsed Request → Option (List Tree)
first_request (holds r rest) = request_packets r
first_request ended = None
first_request (refused why rest) = None

abbrev pub first_reply : Parsed (Bool × Tree) → Option (List Tree)
first_reply (holds r rest) = Some (bool r.0 ∷ r.1 ∷ [])
first_reply ended = None
first_reply (refused why rest) = None

-- the packets of what stands first in the bytes, as what is looked for
abbrev pub packets_again : Kind → List ℕ → Option (List Tree)
packets_again kind.Request bytes = first_request (next_request limits bytes)
packets_again kind.Reply bytes = first_reply (next_reply limits.load bytes)
