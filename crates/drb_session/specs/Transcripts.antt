-- What is read and written of an input of requests, and how it ends: docs/SESSIONS.md, Ends. Whatever answers the
-- requests, the tables are these.
use Rattle.std.specs.Prelude.{◌≡◌, ℕ, ◌≤◌, List, [], ◌∷◌, ◌++◌, take, true, false, ⊤}
use Rattle.std.specs.declared.option.Option.{Option}
use Rattle.drb_outside.specs.Told.{Told}
use Rattle.drb_packet.specs.declared.refusal.PacketRefusal.{PacketRefusal}
use Rattle.drb_packet.specs.declared.request.Limits.{Limits}
use Rattle.drb_packet.specs.declared.request.Request.{Request}
use Rattle.drb_packet.specs.Parsers.{holds, refused, is_open}
use Rattle.drb_packet.specs.Requests.{next_request}
use Rattle.drb_session.specs.declared.end.SessionEnd.{SessionEnd}
use Rattle.drb_session.specs.declared.end.SessionEnd.TheVariants.{Ended, Raised, Refused, ReadFault, WriteFault, Full, Memory}
use Rattle.drb_session.specs.Replies.{Replied, text_of, is_told, refusal_text}

-- What answers requests. S is what it leaves, and D what it does. How much of the input it reads; which deeds serve a
-- request, and with which reply; and which deeds it has done for a request where that end cut it off, as it left
-- that.
pub record Answering (S D : Type 0) : Type 1 where
  pub limits : Limits
  pub serves : Request → List D → Replied → Type 0
  pub halts : S → SessionEnd → Request → List D → Type 0

-- a request with what was done for it, and its reply
pub record Served (D : Type 0) : Type 0 where
  pub request : Request
  pub deeds : List D
  pub reply : Replied

-- the request was served by these deeds, and this is its reply
abbrev pub IsServed : {S D : Type 0} → Answering S D → Served D → Type 0
IsServed a s = a.serves s.request s.deeds s.reply

-- each was served, with a reply of success
abbrev pub AllServed : {S D : Type 0} → Answering S D → List (Served D) → Type 0
AllServed a [] = ⊤
AllServed a (s ∷ ss) = IsServed a s × (s.reply.0 ≡ true) × AllServed a ss

-- all that was done for them
abbrev pub deeds_of : {D : Type 0} → List (Served D) → List D
deeds_of [] = []
deeds_of (s ∷ ss) = s.deeds ++ deeds_of ss

-- the bytes of their replies, in their order
abbrev pub texts_of : {D : Type 0} → List (Served D) → List ℕ
texts_of [] = []
texts_of (s ∷ ss) = text_of s.reply ++ texts_of ss

-- their requests stand in the bytes one after the other, and then the rest
abbrev pub Cuts : {D : Type 0} → Limits → List ℕ → List (Served D) → List ℕ → Type 0
Cuts limits bytes [] rest = bytes ≡ rest
Cuts limits bytes (s ∷ ss) rest = (behind : List ℕ)
    × (next_request limits bytes ≡ holds s.request behind) × Cuts limits behind ss rest

-- What comes after the requests that were answered with success: nothing, a request that was served, a refusal of the
-- input, or a request with the first deeds for it.
pub data Last (D : Type 0) : Type 0 where
  nothing : Last D
  whole : Served D → Last D
  refusal : PacketRefusal → Last D
  begun : Request → List D → Last D

abbrev pub last_deeds : {D : Type 0} → Last D → List D
last_deeds nothing = []
last_deeds (whole s) = s.deeds
last_deeds (refusal why) = []
last_deeds (begun request deeds) = deeds

-- the bytes that are due for it
abbrev pub last_text : {D : Type 0} → Last D → List ℕ
last_text nothing = []
last_text (whole s) = text_of s.reply
last_text (refusal why) = refusal_text why
last_text (begun request deeds) = []

-- What comes last at each end: at Raised a request with a reply of failure; at Refused that refusal; at WriteFault a
-- request, or a refusal that is answered; and at Full a request that was cut off by it.
abbrev pub Ends : {S D : Type 0} → Answering S D → S → SessionEnd → Last D → Type 0
Ends a new Ended nothing = ⊤
Ends a new Raised (whole s) = IsServed a s × (s.reply.0 ≡ false)
Ends a new (Refused why) (refusal r) = r ≡ why
Ends a new ReadFault nothing = ⊤
Ends a new WriteFault (whole s) = IsServed a s
Ends a new WriteFault (refusal why) = is_told why ≡ true
Ends a new (Full turns) (begun request deeds) = a.halts new (Full turns) request deeds
Ends a new Memory nothing = ⊤
Ends a new Memory (whole s) = IsServed a s
Ends a new Memory (refusal why) = ⊤
Ends a new Memory (begun request deeds) = a.halts new Memory request deeds
Ends a new end last = ⊥

-- What stands in the input behind the requests that were answered with success, and what of it is left. Ended:
-- nothing. ReadFault: the bytes that were taken don't decide what stands first, so no whole request and no refusal
-- stands there unanswered. A request or a refusal is taken exactly.
abbrev pub LastIn : {D : Type 0} → Limits → SessionEnd → Last D → List ℕ → List ℕ → Type 0
LastIn limits Ended last rest left = (rest ≡ []) × (left ≡ [])
LastIn limits ReadFault last rest left = (taken : List ℕ) × (rest ≡ taken ++ left)
    × (is_open (next_request limits taken) ≡ true)
LastIn limits end nothing rest left = (taken : List ℕ) × (rest ≡ taken ++ left)
LastIn limits end (whole s) rest left = next_request limits rest ≡ holds s.request left
LastIn limits end (refusal why) rest left = next_request limits rest ≡ refused why left
LastIn limits end (begun request deeds) rest left = next_request limits rest ≡ holds request left

-- How much of the last text is written: after a fault of the output a front of it, at Memory nothing, else all.
abbrev pub LastOut : SessionEnd → List ℕ → List ℕ → Type 0
LastOut WriteFault text written = (n : ℕ) × (written ≡ take n text)
LastOut Memory text written = written ≡ []
LastOut end text written = written ≡ text

-- An input and an output: the bytes that are left and that were given, where they are told, and the counts of faults.
pub record Wire : Type 0 where
  pub left : Option (List ℕ)
  pub read_faults : ℕ
  pub given : Option (List ℕ)
  pub write_faults : ℕ

abbrev pub wire : Option (List ℕ) → ℕ → Option (List ℕ) → ℕ → Wire
wire l r g w = record { left = l; read_faults = r; given = g; write_faults = w }

-- no count fell
pub record Later (old new : Wire) : Type 0 where
  pub read : old.read_faults ≤ new.read_faults
  pub write : old.write_faults ≤ new.write_faults

-- So far: requests that were answered with success, by these deeds.
pub record Goes {S D : Type 0} (a : Answering S D) (old new : Wire) (deeds : List D) : Type 0 where
  pub done : List (Served D)
  pub served : AllServed a done
  pub all : deeds ≡ deeds_of done
  pub input : Told old.left new.left new.read_faults (λ bytes left. Cuts a.limits bytes done left)
  pub output : Told old.given new.given new.write_faults
      (λ given given'. given' ≡ given ++ texts_of done)
  pub later : Later old new

-- All of it, with its end: requests that were answered with success, and what came last. These are all the deeds.
pub record Transcript {S D : Type 0} (a : Answering S D) (left_as : S) (end : SessionEnd)
    (old new : Wire) (deeds : List D) : Type 0 where
  pub done : List (Served D)
  pub last : Last D
  pub served : AllServed a done
  pub ends : Ends a left_as end last
  pub all : deeds ≡ deeds_of done ++ last_deeds last
  pub input : Told old.left new.left new.read_faults (λ bytes left.
      (rest : List ℕ) × Cuts a.limits bytes done rest × LastIn a.limits end last rest left)
  pub output : Told old.given new.given new.write_faults (λ given given'.
      (written : List ℕ) × (given' ≡ given ++ (texts_of done ++ written))
      × LastOut end (last_text last) written)
  pub later : Later old new
