-- What a reading takes off a source, and answers.
use Rattle.std.specs.Prelude.{◌≡◌, ℕ, ◌<◌, List, [], ◌++◌, length, Bool, true, false, Ok, Err, IfOk}
use Rattle.std.specs.declared.result.Result.{Result}
use Rattle.drb_packet.specs.declared.refusal.PacketError.{PacketError}
use Rattle.drb_packet.specs.declared.refusal.PacketError.TheVariants as fault
use Rattle.drb_packet.specs.declared.stop.Stop.{Stop}
use Rattle.drb_packet.specs.declared.stop.Stop.TheVariants as stop
use Rattle.drb_packet.specs.declared.request.Limits.{Limits}
use Rattle.drb_packet.specs.declared.request.Inbound.{Inbound}
use Rattle.drb_packet.specs.declared.request.Inbound.TheVariants as inbound
use Rattle.drb_packet.specs.declared.reply.Reply.{Reply}
use Rattle.drb_packet.specs.declared.reply.Reply.TheVariants as reply
use Rattle.drb_packet.specs.Parsers.{holds, ended, refused, Parser, is_open}
use Rattle.drb_packet.specs.Requests.{next_request}
use Rattle.drb_packet.specs.Replies.{next_reply}

-- What stands first in the bytes that were there, by the answer. End: there were none. A request or a refusal: it stands
-- first, and what is left is what is behind it. After a read fault the bytes that were taken don't decide what stands
-- first. Want of memory says nothing.
abbrev pub SaysRequest : Limits → Result Inbound PacketError → List ℕ → List ℕ → List ℕ → Type 0
SaysRequest limits (Ok inbound.End) taken left left' = (left ≡ []) × (left' ≡ [])
SaysRequest limits (Ok (inbound.Request request)) taken left left' =
    next_request limits left ≡ holds request left'
SaysRequest limits (Ok (inbound.Refused why)) taken left left' =
    next_request limits left ≡ refused why left'
SaysRequest limits (Err fault.ReadFault) taken left left' =
    is_open (next_request limits taken) ≡ true
SaysRequest limits (Err fault.Memory) taken left left' = Unit {0}

-- At every answer what is left are the bytes that were there without those that were taken off their front.
pub record ReadsRequest (limits : Limits) (r : Result Inbound PacketError)
    (left left' : List ℕ) : Type 0 where
  pub taken : List ℕ
  pub front : left ≡ taken ++ left'
  pub says : SaysRequest limits r taken left left'

-- the same of a reply
abbrev pub SaysReply : Limits → Result Reply PacketError → List ℕ → List ℕ → List ℕ → Type 0
SaysReply limits (Ok reply.End) taken left left' = (left ≡ []) × (left' ≡ [])
SaysReply limits (Ok (reply.Reply ok value)) taken left left' =
    next_reply limits.load left ≡ holds (ok, value) left'
SaysReply limits (Ok (reply.Refused why)) taken left left' =
    next_reply limits.load left ≡ refused why left'
SaysReply limits (Err fault.ReadFault) taken left left' =
    is_open (next_reply limits.load taken) ≡ true
SaysReply limits (Err fault.Memory) taken left left' = Unit {0}

pub record ReadsReply (limits : Limits) (r : Result Reply PacketError) (left left' : List ℕ) : Type
    0 where
  pub taken : List ℕ
  pub front : left ≡ taken ++ left'
  pub says : SaysReply limits r taken left left'

-- exactly these bytes were taken, and whatever follows them, this stands first
abbrev pub Takes : {A : Type 0} → Parser A → A → List ℕ → List ℕ → Type 0
Takes p a left left' = (taken : List ℕ) × (left ≡ taken ++ left')
    × ((more : List ℕ) → p (taken ++ more) ≡ holds a more)

-- A step of a reading. Want of memory says only that a front was taken.
abbrev pub Parses : {A : Type 0} → Parser A → Result A Stop → List ℕ → List ℕ → Type 0
Parses p (Ok a) left left' = Takes p a left left'
Parses p (Err stop.End) left left' = (p left ≡ ended) × (left' ≡ [])
Parses p (Err (stop.Refused why)) left left' = p left ≡ refused why left'
Parses p (Err stop.ReadFault) left left' = (taken : List ℕ) × (left ≡ taken ++ left')
    × (is_open (p taken) ≡ true)
Parses p (Err stop.Memory) left left' = (taken : List ℕ) × (left ≡ taken ++ left')

-- what a step answers without a read
abbrev pub Judges : {A : Type 0} → Parser A → Result A Stop → Type 0
Judges p (Ok a) = (rest : List ℕ) → p rest ≡ holds a rest
Judges p (Err stop.End) = ⊥
Judges p (Err (stop.Refused why)) = (rest : List ℕ) → p rest ≡ refused why rest
Judges p (Err stop.ReadFault) = ⊥
Judges p (Err stop.Memory) = Unit {0}

-- these bytes were taken off the front, and added there
pub record Moves (out out' left left' : List ℕ) : Type 0 where
  pub taken : List ℕ
  pub added : out' ≡ out ++ taken
  pub front : left ≡ taken ++ left'

-- one read, added there; it gave nothing only at the end
pub record ReadsMore (r : Result ℕ PacketError) (out out' left left' : List ℕ) : Type 0 where
  pub moves : Moves out out' left left'
  pub ended : IfOk r (λ n. n ≡ 0 → left' ≡ [])

-- filled up to the wanted number; or the bytes ended before it, or a fault came before it
abbrev pub Filled : ℕ → Result Bool PacketError → List ℕ → List ℕ → Type 0
Filled want (Ok true) out' left' = length out' ≡ want
Filled want (Ok false) out' left' = (length out' < want) × (left' ≡ [])
Filled want (Err e) out' left' = length out' < want

pub record Fills (want : ℕ) (r : Result Bool PacketError) (out out' left left' : List ℕ) : Type 0
  where
    pub moves : Moves out out' left left'
    pub filled : Filled want r out' left'
