-- What stands first in bytes: docs/WIRE.md, What stands first.
use Rattle.std.specs.Prelude.{ℕ, List, [], Bool, true, false}
use Rattle.drb_packet.specs.declared.refusal.PacketRefusal.{PacketRefusal}
use Rattle.drb_packet.specs.declared.refusal.PacketRefusal.TheVariants.{PrematureHeader, TooLarge, PrematureBody, Marshal, NotAName, NotACount, TooManyArguments, NotABlock, CutBetween}

-- This stands first, and these bytes are behind it; or there are no bytes; or this refusal holds, and these bytes are
-- behind those that it rests on.
pub data Parsed (A : Type 0) : Type 0 where
  holds : A → List ℕ → Parsed A
  ended : Parsed A
  refused : PacketRefusal → List ℕ → Parsed A

-- what is looked for at the front of bytes
abbrev pub Parser : Type 0 → Type 0
Parser A = List ℕ → Parsed A

-- this is known, without a byte
abbrev pub gives : {A : Type 0} → A → Parser A
gives a bytes = holds a bytes

-- this refusal holds, without a further byte
abbrev pub refuses : {A : Type 0} → PacketRefusal → Parser A
refuses why bytes = refused why bytes

-- what is looked for in the bytes behind, unless there was a refusal
abbrev pub on : {A B : Type 0} → Parsed A → (A → Parser B) → Parsed B
on (holds a rest) f = f a rest
on ended f = ended
on (refused why rest) f = refused why rest

-- one after the other
infixl 10 ◌>>=◌
abbrev pub ◌>>=◌ : {A B : Type 0} → Parser A → (A → Parser B) → Parser B
(p >>= f) bytes = on (p bytes) f

-- with no bytes, the input was cut between two packets
abbrev pub uncut : {A : Type 0} → Parsed A → Parsed A
uncut (holds a rest) = holds a rest
uncut ended = refused CutBetween []
uncut (refused why rest) = refused why rest

-- the refusals that hold where the bytes end there: with further bytes something else stands first
abbrev pub is_early : PacketRefusal → Bool
is_early PrematureHeader = true
is_early (TooLarge size) = false
is_early PrematureBody = true
is_early (Marshal refusal) = false
is_early NotAName = false
is_early NotACount = false
is_early (TooManyArguments count) = false
is_early NotABlock = false
is_early CutBetween = true

-- the bytes don't decide what stands first: only where they end does it
abbrev pub is_open : {A : Type 0} → Parsed A → Bool
is_open (holds a rest) = false
is_open ended = true
is_open (refused why rest) = is_early why
