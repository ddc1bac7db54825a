-- Whole requests and replies, as they are answered.
use Rattle.std.proofs.Common.{◌≡◌, ℕ, List, [], ◌++◌, Bool, sym, ◌∙◌}
use Rattle.std.specs.Prelude.{Ok, Err}
use Rattle.std.specs.declared.option.Option.{Option}
use Rattle.std.specs.declared.result.Result.{Result}
use Rattle.drb_tree.specs.declared.Tree.{Tree}
use Rattle.drb_outside.specs.Records.{Record}
use Rattle.drb_outside.specs.Changes.{ChangesBytes}
use Rattle.drb_outside.specs.Telling.{changes_as}
use Rattle.drb_packet.specs.declared.refusal.PacketError.{PacketError}
use Rattle.drb_packet.specs.declared.refusal.PacketError.TheVariants as fault
use Rattle.drb_packet.specs.declared.stop.Stop.{Stop}
use Rattle.drb_packet.specs.declared.stop.Stop.TheVariants as stop
use Rattle.drb_packet.specs.declared.request.Limits.{Limits}
use Rattle.drb_packet.specs.declared.request.Request.{Request}
use Rattle.drb_packet.specs.declared.request.Inbound.{Inbound}
use Rattle.drb_packet.specs.declared.request.Inbound.TheVariants as inbound
use Rattle.drb_packet.specs.declared.reply.Reply.{Reply}
use Rattle.drb_packet.specs.declared.reply.Reply.TheVariants as reply
use Rattle.drb_packet.specs.Requests.{next_request}
use Rattle.drb_packet.specs.Replies.{next_reply}
use Rattle.drb_packet.specs.Reads.{Parses, ReadsRequest, ReadsReply}
use Rattle.drb_packet.proofs.Steps.{taken_at}
use Rattle.drb_packet.proofs.Keeping.{requests_behind, replies_behind}
use Rattle.drb_packet.proofs.Ending.{requests_end, replies_end}

-- what is answered for a request, and for why there is none
abbrev pub inbound_of : Result Request Stop → Result Inbound PacketError
inbound_of (Ok request) = Ok (inbound.Request request)
inbound_of (Err stop.End) = Ok inbound.End
inbound_of (Err (stop.Refused why)) = Ok (inbound.Refused why)
inbound_of (Err stop.ReadFault) = Err fault.ReadFault
inbound_of (Err stop.Memory) = Err fault.Memory

reads_request : (limits : Limits) (r : Result Request Stop) (x y : List ℕ) → Parses (next_request limits) r x y → ReadsRequest limits (inbound_of r) x y
reads_request limits (Ok request) x y h = record { taken = h.0; front = h.1; says = taken_at (next_request limits) request x y h }
reads_request limits (Err stop.End) x y h =
    let e : x ≡ [] = (requests_end limits x).0 h.0 in
    record { taken = []; front = e ∙ sym h.1; says = (e, h.1) }
reads_request limits (Err (stop.Refused why)) x y h =
    let k : (b : List ℕ) × (x ≡ b ++ y) = (requests_behind limits x y).1 why h in
    record { taken = k.0; front = k.1; says = h }
reads_request limits (Err stop.ReadFault) x y h = record { taken = h.0; front = h.1; says = h.2 }
reads_request limits (Err stop.Memory) x y h = record { taken = h.0; front = h.1; says = tt }

pub changes_request : {X : Type 0} {t : X → Option (List ℕ)} {k : X → List Record} {h f : X → ℕ} {a b : X} (limits : Limits) (r : Result Request Stop) → ChangesBytes t k h f a b (Parses (next_request limits) r) → ChangesBytes t k h f a b (ReadsRequest limits (inbound_of r))
changes_request limits r s = changes_as (Parses (next_request limits) r) (ReadsRequest limits (inbound_of r)) (reads_request limits r) s

-- the same of a reply
abbrev pub reply_of : Result (Bool × Tree) Stop → Result Reply PacketError
reply_of (Ok r) = Ok (reply.Reply r.0 r.1)
reply_of (Err stop.End) = Ok reply.End
reply_of (Err (stop.Refused why)) = Ok (reply.Refused why)
reply_of (Err stop.ReadFault) = Err fault.ReadFault
reply_of (Err stop.Memory) = Err fault.Memory

reads_reply : (limits : Limits) (r : Result (Bool × Tree) Stop) (x y : List ℕ) → Parses (next_reply limits.load) r x y → ReadsReply limits (reply_of r) x y
reads_reply limits (Ok r) x y h = record { taken = h.0; front = h.1; says = taken_at (next_reply limits.load) r x y h }
reads_reply limits (Err stop.End) x y h =
    let e : x ≡ [] = (replies_end limits.load x).0 h.0 in
    record { taken = []; front = e ∙ sym h.1; says = (e, h.1) }
reads_reply limits (Err (stop.Refused why)) x y h =
    let k : (b : List ℕ) × (x ≡ b ++ y) = (replies_behind limits.load x y).1 why h in
    record { taken = k.0; front = k.1; says = h }
reads_reply limits (Err stop.ReadFault) x y h = record { taken = h.0; front = h.1; says = h.2 }
reads_reply limits (Err stop.Memory) x y h = record { taken = h.0; front = h.1; says = tt }

pub changes_reply : {X : Type 0} {t : X → Option (List ℕ)} {k : X → List Record} {h f : X → ℕ} {a b : X} (limits : Limits) (r : Result (Bool × Tree) Stop) → ChangesBytes t k h f a b (Parses (next_reply limits.load) r) → ChangesBytes t k h f a b (ReadsReply limits (reply_of r))
changes_reply limits r s = changes_as (Parses (next_reply limits.load) r) (ReadsReply limits (reply_of r)) (reads_reply limits r) s
