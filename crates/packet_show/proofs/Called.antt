-- Whom a request calls, and the packets of a request or a reply that are too long.
use Rattle.std.proofs.Common.{◌≡◌, ℕ, List, [], ◌∷◌, Bool, true, cond, Some, None, ap, sym, ◌∙◌, subst}
use Rattle.std.specs.Prelude.{Option, Result, Ok, IfOk, option_map}
use Rattle.drb_tree.specs.declared.RefId.{RefId}
use Rattle.drb_tree.specs.declared.Tree.{Tree}
use Rattle.drb_tree.specs.declared.Tree.TheViews.{out-Tree, out-roll-Tree}
use Rattle.drb_tree.specs.declared.Tree.TheOpen.{Tree-F}
use Rattle.drb_value.specs.declared.Node.{Node}
use Rattle.drb_value.specs.View.{layer, view_of}
use Rattle.marshal_grammar.specs.Trees.{bool, id_of}
use Rattle.drb_packet.specs.declared.refusal.PacketError.{PacketError}
use Rattle.drb_packet.specs.declared.request.Limits.{Limits}
use Rattle.drb_packet.specs.declared.request.Request.{Request}
use Rattle.drb_packet.specs.declared.reply.Reply.{Reply}
use Rattle.drb_packet.specs.declared.reply.Reply.TheVariants as reply
use Rattle.drb_packet.specs.Replies.{next_reply}
use Rattle.drb_packet.specs.Reads.{ReadsReply}
use Rattle.drb_packet.specs.Texts.{ask_values, SomeLong}
use Rattle.packet_show.specs.Again.{is_plain, request_packets, first_reply}

pub called_is : {E : Type 0} (r : Result (Option RefId) E) (n : Node) (t : Tree) → view_of n ≡ t → IfOk r (λ o. o ≡ id_of (layer n)) → IfOk r (λ o. o ≡ id_of (out-Tree t))
called_is r n t e h = subst (λ (x : Tree-F Tree). IfOk r (λ o. o ≡ id_of x)) (sym (out-roll-Tree (layer n)) ∙ ap out-Tree e) h

plain_packets : (r : Request) (to : RefId) → is_plain r ≡ true → id_of (out-Tree r.reference) ≡ Some to → request_packets r ≡ Some (ask_values to r.name.bytes r.args)
plain_packets r to plain e =
    ap (λ (b : Bool). cond b (option_map (λ to. ask_values to r.name.bytes r.args) (id_of (out-Tree r.reference))) None) plain
    ∙ ap (λ (o : Option RefId). option_map (λ to. ask_values to r.name.bytes r.args) o) e

pub long_request : (r : Request) (to : RefId) → is_plain r ≡ true → id_of (out-Tree r.reference) ≡ Some to → SomeLong (ask_values to r.name.bytes r.args) → (vs : List Tree) × (request_packets r ≡ Some vs) × SomeLong vs
long_request r to plain e long = (ask_values to r.name.bytes r.args, plain_packets r to plain e, long)

pub long_reply : (l : Limits) (q : Result Reply PacketError) (f : Reply) (ok ok' : Bool) (v v' : Tree) (a b : List ℕ) → q ≡ Ok f → f ≡ reply.Reply ok v → ok' ≡ ok → v' ≡ v → ReadsReply l q a b → SomeLong (bool ok' ∷ v' ∷ []) → (vs : List Tree) × (first_reply (next_reply l.load a) ≡ Some vs) × SomeLong vs
long_reply l q f ok ok' v v' a b is that same_ok same_v h long =
    let k : ReadsReply l (Ok (reply.Reply ok v)) a b = subst (λ (f : Reply). ReadsReply l (Ok f) a b) that (subst (λ (q : Result Reply PacketError). ReadsReply l q a b) is h) in
    (bool ok ∷ v ∷ [], ap first_reply k.says, subst (λ (v : Tree). SomeLong (bool ok ∷ v ∷ [])) same_v (subst (λ (ok : Bool). SomeLong (bool ok ∷ v' ∷ [])) same_ok long))
