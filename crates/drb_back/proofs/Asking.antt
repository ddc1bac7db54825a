-- The text sent, and what came back.
use Rattle.std.proofs.Common.{◌≡◌, ℕ, ◌≤◌, List, [], ◌∷◌, Bool, true, false, true≢false, refl, sym, ◌∙◌, ap, subst, arith}
use Rattle.std.specs.Prelude.{Ok, Err, IsErrOf}
use Rattle.std.specs.declared.option.Option.{Option}
use Rattle.std.specs.declared.result.Result.{Result}
use Rattle.drb_tree.specs.declared.Tree.{Tree}
use Rattle.drb_outside.specs.Told.{Told, Rose}
use Rattle.drb_outside.specs.Telling.{told_on, rose_in}
use Rattle.drb_outside.specs.Records.{Record}
use Rattle.drb_outside.specs.Calls.{on_last, send_more, merged, last_gives}
use Rattle.drb_outside.specs.Lines.{line_left, line_stays}
use Rattle.drb_packet.specs.declared.refusal.PacketRefusal.TheVariants.{CutBetween}
use Rattle.drb_packet.specs.declared.refusal.PacketError.{PacketError}
use Rattle.drb_packet.specs.declared.refusal.PacketError.TheVariants as fault
use Rattle.drb_packet.specs.declared.reply.Reply.{Reply}
use Rattle.drb_packet.specs.declared.reply.Reply.TheVariants as reply
use Rattle.drb_packet.specs.declared.request.Limits.{Limits}
use Rattle.drb_packet.specs.Packets.{packet}
use Rattle.drb_packet.specs.Parsers.{ended}
use Rattle.drb_packet.specs.Replies.{next_reply}
use Rattle.drb_packet.specs.Reads.{ReadsReply}
use Rattle.drb_back.specs.declared.back.Back.{Back}
use Rattle.drb_back.specs.declared.back.Back.TheVariants as back
use Rattle.drb_back.specs.Answers.{answer_of, behind, back_of}
use Rattle.drb_back.specs.Outgoing.{Uncalled, IsFault}
use Rattle.drb_back.specs.Steps.{SentAll, Says, Asked}
use Rattle.drb_back.proofs.Lines.{line_heard}

none_first : (load : ℕ) → next_reply load [] ≡ ended
unfolding next_reply packet
none_first load = refl

says_of : (limits : Limits) (result : Result Reply PacketError) (left left' : List ℕ) → ReadsReply limits result left left' → Says limits (back_of result) left left'
says_of limits (Ok reply.End) left left' h = (
  sym (ap (λ q. answer_of (next_reply limits.load q)) h.says.0 ∙ ap (λ q. answer_of q) (none_first limits.load)),
  ap (λ q. behind {A = Bool × Tree} (next_reply limits.load q)) h.says.0 ∙ ap (λ q. behind {A = Bool × Tree} q) (none_first limits.load) ∙ sym h.says.1,
)
says_of limits (Ok (reply.Reply true v)) left left' h = (sym (ap (λ q. answer_of q) h.says), ap (λ q. behind {A = Bool × Tree} q) h.says)
says_of limits (Ok (reply.Reply false v)) left left' h = (sym (ap (λ q. answer_of q) h.says), ap (λ q. behind {A = Bool × Tree} q) h.says)
says_of limits (Ok (reply.Refused CutBetween)) left left' h = (sym (ap (λ q. answer_of q) h.says), ap (λ q. behind {A = Bool × Tree} q) h.says)
says_of limits (Ok (reply.Refused why)) left left' h = (sym (ap (λ q. answer_of q) h.says), ap (λ q. behind {A = Bool × Tree} q) h.says)
says_of limits (Err fault.ReadFault) left left' h = (h.taken, h.front, h.says)
says_of limits (Err fault.Memory) left left' h = tt

gives_sent : (bytes : List ℕ) (rs : List Record) → last_gives (on_last (send_more bytes) rs) ≡ last_gives rs
gives_sent bytes [] = refl
gives_sent bytes (r ∷ []) = refl
gives_sent bytes (r ∷ s ∷ []) = refl
gives_sent bytes (r ∷ s ∷ t ∷ rs) = gives_sent bytes (s ∷ t ∷ rs)

asked_of : (limits : Limits) (text : List ℕ) (result : Result Reply PacketError) (x y : List Record) → on_last merged y ≡ on_last merged (on_last (send_more text) x) → Says limits (back_of result) (last_gives x) (last_gives y) → Asked limits text (back_of result) x y
asked_of limits text (Ok reply.End) x y e h = (e, h)
asked_of limits text (Ok (reply.Reply true v)) x y e h = (e, h)
asked_of limits text (Ok (reply.Reply false v)) x y e h = (e, h)
asked_of limits text (Ok (reply.Refused CutBetween)) x y e h = (e, h)
asked_of limits text (Ok (reply.Refused why)) x y e h = (e, h)
asked_of limits text (Err fault.ReadFault) x y e h = (e, h)
asked_of limits text (Err fault.Memory) x y e h = (e, h)

-- all of the text was sent, and a reply was read
pub asked_whole : (limits : Limits) (text : List ℕ) (result : Result Reply PacketError) (b : Back) (all : Bool) (x y z : Option (List Record)) (m n : ℕ) → b ≡ back_of result → all ≡ true → m ≤ n → Told x y m (SentAll all text) → Told (line_left y) (line_left z) n (ReadsReply limits result) → Told (line_left y) (line_left z) n (λ _ _. line_stays z ≡ line_stays y) → Told x z n (Asked limits text b)
asked_whole limits text result b false x y z m n is which le h k s = absurd (true≢false (sym which))
asked_whole limits text result b true x y z m n is which le h k s = subst (λ (q : Back). Told x z n (Asked limits text q)) (sym is)
    (told_on (SentAll true text) (λ u v. ReadsReply limits result (last_gives u) (last_gives v) × (on_last merged v ≡ on_last merged u)) (Asked limits text (back_of result)) x y z m n le
    (λ u v w p q. asked_of limits text result u w (q.1 ∙ ap (λ r. on_last merged r) p)
    (says_of limits result (last_gives u) (last_gives w) (subst (λ (bytes : List ℕ). ReadsReply limits result bytes (last_gives w)) (ap (λ r. last_gives r) p ∙ gives_sent text u) q.0)))
    h (line_heard (ReadsReply limits result) y z n k s))

-- a send failed
pub asked_cut : (limits : Limits) (text : List ℕ) (all : Bool) (x y : Option (List Record)) (m : ℕ) → all ≡ false → Told x y m (SentAll all text) → Told x y m (Asked limits text back.WriteFault)
asked_cut limits text true x y m which h = absurd (true≢false which)
asked_cut limits text false x y m which h = h

fault_of : (r : Result Reply PacketError) → IsFault (back_of r) → IsErrOf r fault.ReadFault
fault_of (Ok reply.End) e = absurd e
fault_of (Ok (reply.Reply true v)) e = absurd e
fault_of (Ok (reply.Reply false v)) e = absurd e
fault_of (Ok (reply.Refused CutBetween)) e = absurd e
fault_of (Ok (reply.Refused why)) e = absurd e
fault_of (Err fault.ReadFault) e = refl
fault_of (Err fault.Memory) e = absurd e

-- a fault of the reading is one of the dialer, in all of the call
pub ask_fault : (b : Back) (r : Result Reply PacketError) (n m k : ℕ) → b ≡ back_of r → n ≤ m → (IsErrOf r fault.ReadFault → Rose m k) → IsFault b → Rose n k
ask_fault b r n m k is le h e = rose_in n m k k le (omega arith) (h (fault_of r (subst (λ (q : Back). IsFault q) is e)))

called_of : (r : Result Reply PacketError) → Uncalled (back_of r) → ⊥
called_of (Ok reply.End) e = e
called_of (Ok (reply.Reply true v)) e = e
called_of (Ok (reply.Reply false v)) e = e
called_of (Ok (reply.Refused CutBetween)) e = e
called_of (Ok (reply.Refused why)) e = e
called_of (Err fault.ReadFault) e = e
called_of (Err fault.Memory) e = e

pub ask_called : (b : Back) (r : Result Reply PacketError) → b ≡ back_of r → Uncalled b → ⊥
ask_called b r is e = called_of r (subst (λ (q : Back). Uncalled q) is e)
