-- The laws of what stands first: docs/WIRE.md, What stands first.
use Rattle.std.specs.Prelude.{◌≡◌, ◌↔◌, ℕ, List, [], ◌++◌, true, false}
use Rattle.drb_packet.specs.declared.refusal.PacketRefusal.{PacketRefusal}
use Rattle.drb_packet.specs.declared.request.Limits.{Limits}
use Rattle.drb_packet.specs.Parsers.{Parsed, holds, ended, refused, Parser, is_open}
use Rattle.drb_packet.specs.Requests.{next_request}
use Rattle.drb_packet.specs.Replies.{next_reply}
use Rattle.drb_packet.specs.Cuts.{Cuts}

-- the same stands first, with more bytes behind it
abbrev pub followed : {A : Type 0} → Parsed A → List ℕ → Parsed A
followed (holds a rest) more = holds a (rest ++ more)
followed ended more = ended
followed (refused why rest) more = refused why (rest ++ more)

-- what bytes decide, they decide whatever follows them
abbrev pub AnyMore : {A : Type 0} → Parser A → Type 0
AnyMore p = (bytes more : List ℕ) → is_open (p bytes) ≡ false →
    p (bytes ++ more) ≡ followed (p bytes) more

-- what stands first, whatever is behind it
abbrev pub first : {A : Type 0} → Parsed A → Parsed A
first (holds a rest) = holds a []
first ended = ended
first (refused why rest) = refused why []

-- where bytes don't decide what stands first, something else stands first with some further bytes behind them
abbrev pub Undecided : {A : Type 0} → Parser A → Type 0
Undecided p = (bytes : List ℕ) → is_open (p bytes) ≡ true →
    (more : List ℕ) × (first (p (bytes ++ more)) ≡ first (p bytes) → ⊥)

-- what is behind is the end of the bytes
abbrev pub Behind : {A : Type 0} → Parser A → Type 0
Behind {A = A} p = (bytes rest : List ℕ) →
    (((a : A) → p bytes ≡ holds a rest → (b : List ℕ) × (bytes ≡ b ++ rest))
    × ((why : PacketRefusal) → p bytes ≡ refused why rest → (b : List ℕ) × (bytes ≡ b ++ rest)))

-- nothing stands first exactly in no bytes
abbrev pub EndsAtEnd : {A : Type 0} → Parser A → Type 0
EndsAtEnd p = (bytes : List ℕ) → (p bytes ≡ ended) ↔ (bytes ≡ [])

abbrev pub RequestsAnyMore : Type 0
RequestsAnyMore = (limits : Limits) → AnyMore (next_request limits)

abbrev pub RepliesAnyMore : Type 0
RepliesAnyMore = (load : ℕ) → AnyMore (next_reply load)

abbrev pub RequestsBehind : Type 0
RequestsBehind = (limits : Limits) → Behind (next_request limits)

abbrev pub RepliesBehind : Type 0
RepliesBehind = (load : ℕ) → Behind (next_reply load)

abbrev pub RequestsEnd : Type 0
RequestsEnd = (limits : Limits) → EndsAtEnd (next_request limits)

abbrev pub RepliesEnd : Type 0
RepliesEnd = (load : ℕ) → EndsAtEnd (next_reply load)

abbrev pub RequestsUndecided : Type 0
RequestsUndecided = (limits : Limits) → Undecided (next_request limits)

abbrev pub RepliesUndecided : Type 0
RepliesUndecided = (load : ℕ) → Undecided (next_reply load)

abbrev pub RequestsCut : Type 0
RequestsCut = (limits : Limits) (bytes : List ℕ) → Cuts limits bytes
