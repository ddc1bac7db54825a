-- What is shown where there are no bytes.
use Rattle.std.proofs.Common.{◌≡◌, ℕ, List, [], Bool, None, refl, sym, ◌∙◌, ap, subst}
use Rattle.std.specs.Prelude.{Result, Ok, option_map}
use Rattle.drb_tree.specs.declared.Tree.{Tree}
use Rattle.drb_packet.specs.declared.refusal.PacketError.{PacketError}
use Rattle.drb_packet.specs.declared.request.Request.{Request}
use Rattle.drb_packet.specs.declared.request.Limits.{Limits}
use Rattle.drb_packet.specs.declared.request.Inbound.{Inbound}
use Rattle.drb_packet.specs.declared.request.Inbound.TheVariants as inbound
use Rattle.drb_packet.specs.declared.reply.Reply.{Reply}
use Rattle.drb_packet.specs.declared.reply.Reply.TheVariants as reply
use Rattle.drb_packet.specs.Parsers.{Parsed, ended}
use Rattle.drb_packet.specs.Packets.{packet}
use Rattle.drb_packet.specs.Requests.{next_request}
use Rattle.drb_packet.specs.Replies.{next_reply}
use Rattle.drb_packet.specs.Reads.{ReadsRequest, ReadsReply}
use Rattle.packet_show.specs.declared.seen.Seen.TheVariants as seen
use Rattle.drb_packet.specs.Texts.{packets_text}
use Rattle.packet_show.specs.Shown.{request_shown, reply_shown}
use Rattle.packet_show.specs.Again.{first_request, first_reply}

no_request : (l : Limits) → next_request l [] ≡ ended
unfolding next_request packet
no_request l = refl

no_reply : (load : ℕ) → next_reply load [] ≡ ended
unfolding next_reply packet
no_reply load = refl

-- no bytes are shown as the end
pub end_request : (l : Limits) (r : Inbound) (a b : List ℕ) → r ≡ inbound.End → ReadsRequest l (Ok r) a b → seen.End ≡ request_shown (next_request l a)
end_request l inbound.End a b e h = sym (ap (λ q. request_shown (next_request l q)) h.says.0 ∙ ap request_shown (no_request l))
end_request l (inbound.Request r) a b e h = cc e
end_request l (inbound.Refused why) a b e h = cc e

pub end_reply : (l : Limits) (r : Reply) (a b : List ℕ) → r ≡ reply.End → ReadsReply l (Ok r) a b → seen.End ≡ reply_shown (next_reply l.load a)
end_reply l reply.End a b e h = sym (ap (λ q. reply_shown (next_reply l.load q)) h.says.0 ∙ ap reply_shown (no_reply l.load))
end_reply l (reply.Reply ok v) a b e h = cc e
end_reply l (reply.Refused why) a b e h = cc e

-- no bytes are written again as nothing
pub end_request_again : (l : Limits) (q : Result Inbound PacketError) (r : Inbound) (a b : List ℕ) → q ≡ Ok r → r ≡ inbound.End → ReadsRequest l q a b → None ≡ option_map packets_text (first_request (next_request l a))
end_request_again l q r a b is that h =
    let k : ReadsRequest l (Ok inbound.End) a b = subst (λ (r : Inbound). ReadsRequest l (Ok r) a b) that (subst (λ (q : Result Inbound PacketError). ReadsRequest l q a b) is h) in
    sym (ap (λ (x : Parsed Request). option_map packets_text (first_request x)) (ap (λ (bs : List ℕ). next_request l bs) k.says.0 ∙ no_request l))

pub end_reply_again : (l : Limits) (q : Result Reply PacketError) (r : Reply) (a b : List ℕ) → q ≡ Ok r → r ≡ reply.End → ReadsReply l q a b → None ≡ option_map packets_text (first_reply (next_reply l.load a))
end_reply_again l q r a b is that h =
    let k : ReadsReply l (Ok reply.End) a b = subst (λ (r : Reply). ReadsReply l (Ok r) a b) that (subst (λ (q : Result Reply PacketError). ReadsReply l q a b) is h) in
    sym (ap (λ (x : Parsed (Bool × Tree)). option_map packets_text (first_reply x)) (ap (λ (bs : List ℕ). next_reply l.load bs) k.says.0 ∙ no_reply l.load))
