-- The last record of a list.
use Rattle.std.proofs.Common.{◌≡◌, List, [], ◌∷◌, ◌++◌, refl, ap}
use Rattle.drb_outside.specs.Records.{Record}
use Rattle.drb_outside.specs.Calls.{hung_up, ended, on_last, last_gives}
use Rattle.drb_back.specs.Outgoing.{last_bytes, peer_bytes}

pub head_is : (a b : Record) (xs ys : List Record) → a ∷ xs ≡ b ∷ ys → a ≡ b
head_is a b xs ys e = cc

pub tail_is : (a b : Record) (xs ys : List Record) → a ∷ xs ≡ b ∷ ys → xs ≡ ys
tail_is a b xs ys e = cc

pub no_end : (a : Record) (xs : List Record) → a ∷ xs ≡ [] → ⊥
no_end a xs e = cc

-- with the last record changed a list has as many
pub no_last : (f : Record → Record) (r : Record) (rs : List Record) → on_last f (r ∷ rs) ≡ [] → ⊥
no_last f r [] e = no_end (f r) [] e
no_last f r (s ∷ rs) e = no_end r (on_last f (s ∷ rs)) e

pub last_on : (f : Record → Record) (hs : List Record) (r : Record) → on_last f (hs ++ r ∷ []) ≡ hs ++ f r ∷ []
last_on f [] r = refl
last_on f (h ∷ []) r = refl
last_on f (h ∷ k ∷ hs) r = ap (λ q. h ∷ q) (last_on f (k ∷ hs) r)

pub gives_last : (hs : List Record) (r : Record) → last_gives (hs ++ r ∷ []) ≡ r.gives
gives_last [] r = refl
gives_last (h ∷ []) r = refl
gives_last (h ∷ k ∷ hs) r = gives_last (k ∷ hs) r

pub bytes_last : (hs : List Record) (r : Record) → last_bytes (hs ++ r ∷ []) ≡ peer_bytes r
bytes_last [] r = refl
bytes_last (h ∷ []) r = refl
bytes_last (h ∷ k ∷ hs) r = bytes_last (k ∷ hs) r

pub hung_on : (hs : List Record) (r : Record) → hung_up (hs ++ r ∷ []) ≡ hung_up hs ++ ended r ∷ []
hung_on [] r = refl
hung_on (h ∷ hs) r = ap (λ q. ended h ∷ q) (hung_on hs r)

pub hung_twice : (hs : List Record) → hung_up (hung_up hs) ≡ hung_up hs
hung_twice [] = refl
hung_twice (h ∷ hs) = ap (λ q. ended h ∷ q) (hung_twice hs)
