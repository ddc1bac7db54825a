-- The record of one call.
use Rattle.std.proofs.Common.{◌≡◌, ℕ, ◌≤◌, List, [], ◌∷◌, ◌++◌, take, Bool, true, false, refl, sym, ◌∙◌, ap, subst, inl, inr, arith}
use Rattle.std.proofs.lemmas.List.{append_cancel_right}
use Rattle.std.specs.Prelude.{None, Some, Ok}
use Rattle.std.specs.declared.option.Option.{Option}
use Rattle.std.specs.declared.result.Result.{Result}
use Rattle.drb_tree.specs.declared.Tree.{Tree}
use Rattle.drb_tree.specs.declared.Remote.{Remote}
use Rattle.drb_outside.specs.Told.{Told, Rose}
use Rattle.drb_outside.specs.Telling.{told_on, told_as}
use Rattle.drb_outside.specs.Records.{Peer, Record}
use Rattle.drb_outside.specs.Calls.{hung_up, ended, called, on_last, send_more, merged, last_gives, Dials}
use Rattle.drb_packet.specs.declared.request.Limits.{Limits}
use Rattle.drb_packet.specs.Parsers.{is_open}
use Rattle.drb_packet.specs.Replies.{next_reply}
use Rattle.drb_packet.specs.Texts.{ask_text}
use Rattle.drb_ref.specs.Uris.{IsUri}
use Rattle.drb_back.specs.declared.back.Back.{Back}
use Rattle.drb_back.specs.declared.back.Back.TheVariants as back
use Rattle.drb_back.specs.Answers.{answer_of, behind}
use Rattle.drb_back.specs.Outgoing.{Names, Sent, Heard, Made, Adds, Outgoing, Uncalled, IsFault, Replied, last_bytes, peer_bytes}
use Rattle.drb_back.specs.Steps.{Says, Asked, MadeAt, CalledAt}
use Rattle.drb_back.proofs.Ends.{head_is, tail_is, no_end, last_on, gives_last, bytes_last, hung_on, hung_twice}

-- Where all but the last are these, and the last is that one when its bytes are put together.
split_last : (hs c : List Record) (m : Record) → on_last merged c ≡ hs ++ m ∷ [] → (r : Record) × (c ≡ hs ++ r ∷ []) × (merged r ≡ m)
split_last [] [] m e = absurd (no_end m [] (sym e))
split_last [] (r ∷ []) m e = (r, refl, head_is (merged r) m [] [] e)
split_last [] (r ∷ s ∷ []) m e = absurd (no_end (merged s) [] (tail_is r m (merged s ∷ []) [] e))
split_last [] (r ∷ s ∷ t ∷ c) m e = absurd (no_end s (on_last merged (t ∷ c)) (tail_is r m (s ∷ on_last merged (t ∷ c)) [] e))
split_last (h ∷ hs) [] m e = absurd (no_end h (hs ++ m ∷ []) (sym e))
split_last (h ∷ []) (r ∷ []) m e = absurd (no_end m [] (sym (tail_is (merged r) h [] (m ∷ []) e)))
split_last (h ∷ k ∷ hs) (r ∷ []) m e = absurd (no_end k (hs ++ m ∷ []) (sym (tail_is (merged r) h [] (k ∷ (hs ++ m ∷ [])) e)))
split_last (h ∷ hs) (r ∷ s ∷ c) m e =
    let k : (q : Record) × ((s ∷ c) ≡ hs ++ q ∷ []) × (merged q ≡ m) = split_last hs (s ∷ c) m (tail_is r h (on_last merged (s ∷ c)) (hs ++ m ∷ []) e) in
    (k.0, ap (λ q. r ∷ q) k.1 ∙ ap (λ q. q ∷ (hs ++ k.0 ∷ [])) (head_is r h (on_last merged (s ∷ c)) (hs ++ m ∷ []) e), k.2)

ended_one : (old c new : List Record) (r : Record) → c ≡ hung_up old ++ r ∷ [] → new ≡ hung_up c → new ≡ hung_up old ++ ended r ∷ []
ended_one old c new r e k = k ∙ ap (λ q. hung_up q) e ∙ hung_on (hung_up old) r ∙ ap (λ q. q ++ ended r ∷ []) (hung_twice old)

-- what the bytes come to, by the record
heard_of : (limits : Limits) (b : Back) (r : Record) (left left' : List ℕ) → peer_bytes r ≡ left → r.gives ≡ left' → Says limits b left left' → Heard limits b r
heard_of limits back.BadUri r left left' whole rest h = absurd h
heard_of limits back.TooLong r left left' whole rest h = absurd h
heard_of limits back.DialFault r left left' whole rest h = absurd h
heard_of limits back.WriteFault r left left' whole rest h = absurd h
heard_of limits back.Memory r left left' whole rest h = tt
heard_of limits back.ReadFault r left left' whole rest h =
    subst (λ (q : List ℕ). is_open (next_reply limits.load q) ≡ true) (sym (append_cancel_right r.received h.0 r.gives (whole ∙ h.1 ∙ ap (λ q. h.0 ++ q) (sym rest)))) h.2
heard_of limits b r left left' whole rest h =
    (h.0 ∙ ap (λ q. answer_of (next_reply limits.load q)) (sym whole), ap (λ q. behind {A = Bool × Tree} (next_reply limits.load q)) whole ∙ h.1 ∙ sym rest)

-- a call after which a send failed
cut_at : (limits : Limits) (at : Peer) (text gives : List ℕ) (old x y new : List Record) → x ≡ hung_up old ++ called at gives ∷ [] → Asked limits text back.WriteFault x y → new ≡ hung_up y → CalledAt limits at text back.WriteFault old new
cut_at limits at text gives old x y new e h k = (
  ended (send_more (take h.0 text) (called at gives)),
  record { address = refl; dialled = refl; sent = (h.0, refl); heard = refl; down = refl },
  ended_one old y new (send_more (take h.0 text) (called at gives)) (h.1 ∙ ap (λ q. on_last (send_more (take h.0 text)) q) e ∙ last_on (send_more (take h.0 text)) (hung_up old) (called at gives)) k,
)

-- the record of a call of which all was sent, with what is known of it
record Whole (old y new : List Record) (at : Peer) (text gives : List ℕ) : Type 0 where
  pub r : Record
  pub adds : Adds r old new
  pub address : r.address ≡ Some at
  pub dialled : r.refused ≡ false
  pub sent : r.sent ≡ text
  pub bytes : peer_bytes r ≡ gives
  pub left : r.gives ≡ last_gives y
  pub down : r.up ≡ false

whole_at : (old x y new : List Record) (at : Peer) (text gives : List ℕ) → x ≡ hung_up old ++ called at gives ∷ [] → on_last merged y ≡ on_last merged (on_last (send_more text) x) → new ≡ hung_up y → Whole old y new at text gives
whole_at old x y new at text gives e k h =
    let c : Record = send_more text (called at gives) in
    let e' : on_last (send_more text) x ≡ hung_up old ++ c ∷ [] = ap (λ q. on_last (send_more text) q) e ∙ last_on (send_more text) (hung_up old) (called at gives) in
    let s : (q : Record) × (y ≡ hung_up old ++ q ∷ []) × (merged q ≡ merged c) = split_last (hung_up old) y (merged c) (k ∙ ap (λ q. on_last merged q) e' ∙ last_on merged (hung_up old) c) in
    record {
      r = ended s.0;
      adds = ended_one old y new s.0 s.1 h;
      address = ap (λ (q : Record). q.address) s.2;
      dialled = ap (λ (q : Record). q.refused) s.2;
      sent = ap (λ (q : Record). q.sent) s.2;
      bytes = ap (λ (q : Record). q.received) s.2;
      left = sym (ap (λ q. last_gives q) s.1 ∙ gives_last (hung_up old) s.0);
      down = refl;
    }

gives_called : (old x : List Record) (at : Peer) (gives : List ℕ) → x ≡ hung_up old ++ called at gives ∷ [] → last_gives x ≡ gives
gives_called old x at gives e = ap (λ q. last_gives q) e ∙ gives_last (hung_up old) (called at gives)

called_at : (limits : Limits) (at : Peer) (text gives : List ℕ) (b : Back) (old x y new : List Record) → x ≡ hung_up old ++ called at gives ∷ [] → Asked limits text b x y → new ≡ hung_up y → CalledAt limits at text b old new
called_at limits at text gives back.WriteFault old x y new e h k = cut_at limits at text gives old x y new e h k
called_at limits at text gives back.DialFault old x y new e h k = absurd h.1
called_at limits at text gives back.BadUri old x y new e h k = absurd h.1
called_at limits at text gives back.TooLong old x y new e h k = absurd h.1
called_at limits at text gives b old x y new e h k =
    let w : Whole old y new at text gives = whole_at old x y new at text gives e h.0 k in
    (w.r, record { address = w.address; dialled = w.dialled; sent = w.sent; heard = heard_of limits b w.r (last_gives x) (last_gives y) (w.bytes ∙ sym (gives_called old x at gives e)) w.left h.1; down = w.down }, w.adds)

le_trans : (k m n : ℕ) → k ≤ m → m ≤ n → k ≤ n
le_trans k m n a b = omega arith

-- dialled, asked and hung up
pub dialled_asked : {E : Type 0} (limits : Limits) (at : Peer) (text : List ℕ) (b : Back) (r : Result (Unit {0}) E) (a c d e : Option (List Record)) (k m n : ℕ) → r ≡ Ok tt → k ≤ m → m ≤ n → Told a c k (Dials at r) → Told c d m (Asked limits text b) → Told d e n (λ old new. new ≡ hung_up old) → Told a e n (CalledAt limits at text b)
dialled_asked {E = E} limits at text b r a c d e k m n is km mn p q s =
    told_on (λ x y. (gives : List ℕ) × (y ≡ hung_up x ++ called at gives ∷ [])) (λ x z. (y : List Record) × Asked limits text b x y × (z ≡ hung_up y)) (CalledAt limits at text b) a c e k n (le_trans k m n km mn)
    (λ x y z h w. called_at limits at text h.0 b x y w.0 z h.1 w.1 w.2)
    (subst (λ (v : Result (Unit {0}) E). Told a c k (Dials at v)) is p)
    (told_on (Asked limits text b) (λ old new. new ≡ hung_up old) (λ x z. (y : List Record) × Asked limits text b x y × (z ≡ hung_up y)) c d e m n mn (λ x y z h w. (y, h, w)) q s)

-- the call in the words of its reference and its arguments
made_of : (limits : Limits) (to : Remote) (name : List ℕ) (args : List Tree) (at : Peer) (text : List ℕ) (b : Back) (r : Record) → IsUri to.uri.bytes at.host at.port → text ≡ ask_text to.id name args → MadeAt limits at text b r → Made limits to name args b r
made_of limits to name args at text b r uri is m = record {
  address = subst (λ (q : Option Peer). Names to.uri.bytes q) (sym m.address) uri;
  dialled = m.dialled;
  sent = subst (λ (q : List ℕ). Sent b q r.sent) is m.sent;
  heard = m.heard;
  down = m.down;
}

outgoing_of : (limits : Limits) (to : Remote) (name : List ℕ) (args : List Tree) (at : Peer) (text : List ℕ) (b : Back) (x y : List Record) → IsUri to.uri.bytes at.host at.port → text ≡ ask_text to.id name args → (Uncalled b → ⊥) → CalledAt limits at text b x y → Outgoing limits to name args b x y
outgoing_of limits to name args at text back.BadUri x y uri is never h = absurd (never tt)
outgoing_of limits to name args at text back.TooLong x y uri is never h = absurd (never tt)
outgoing_of limits to name args at text back.DialFault x y uri is never (inl e) = (None, inl refl, e)
outgoing_of limits to name args at text back.DialFault x y uri is never (inr e) = (Some at, inr uri, e)
outgoing_of limits to name args at text back.Memory x y uri is never h = inr (h.0, made_of limits to name args at text back.Memory h.0 uri is h.1, h.2)
outgoing_of limits to name args at text b x y uri is never h = (h.0, made_of limits to name args at text b h.0 uri is h.1, h.2)

pub called_out : (limits : Limits) (to : Remote) (name : List ℕ) (args : List Tree) (at : Peer) (text : List ℕ) (b : Back) (x y : Option (List Record)) (n : ℕ) → IsUri to.uri.bytes at.host at.port → text ≡ ask_text to.id name args → (Uncalled b → ⊥) → Told x y n (CalledAt limits at text b) → Told x y n (Outgoing limits to name args b)
called_out limits to name args at text b x y n uri is never h = told_as (CalledAt limits at text b) (Outgoing limits to name args b) x y n (λ u v k. outgoing_of limits to name args at text b u v uri is never k) h

-- Where no fault rose, the answer is the one by the bytes.
replied_of : (limits : Limits) (to : Remote) (name : List ℕ) (args : List Tree) (b : Back) (m n : ℕ) (x y : List Record) → (IsFault b → Rose m n) → (Rose m n → ⊥) → Outgoing limits to name args b x y → Replied limits b x y
replied_of limits to name args back.BadUri m n x y f never h = tt
replied_of limits to name args back.TooLong m n x y f never h = tt
replied_of limits to name args back.Memory m n x y f never h = tt
replied_of limits to name args back.DialFault m n x y f never h = absurd (never (f tt))
replied_of limits to name args back.ReadFault m n x y f never h = absurd (never (f tt))
replied_of limits to name args back.WriteFault m n x y f never h = absurd (never (f tt))
replied_of limits to name args b m n x y f never h = h.1.heard.0 ∙ ap (λ q. answer_of (next_reply limits.load q)) (sym (ap (λ q. last_bytes q) h.2 ∙ bytes_last (hung_up x) h.0))

pub replied_out : (limits : Limits) (to : Remote) (name : List ℕ) (args : List Tree) (b : Back) (m n : ℕ) (x y : Option (List Record)) → (IsFault b → Rose m n) → Told x y n (Outgoing limits to name args b) → (Rose m n → ⊥) → Told x y n (Replied limits b)
replied_out limits to name args b m n x y f h never = told_as (Outgoing limits to name args b) (Replied limits b) x y n (λ u v k. replied_of limits to name args b m n u v f never k) h
