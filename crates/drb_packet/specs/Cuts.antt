-- The requests that stand one after the other in bytes: docs/WIRE.md, What stands first.
use Rattle.std.specs.Prelude.{◌≡◌, ℕ, zero, suc, List, [], ◌∷◌, length}
use Rattle.drb_packet.specs.declared.refusal.PacketRefusal.{PacketRefusal}
use Rattle.drb_packet.specs.declared.request.Limits.{Limits}
use Rattle.drb_packet.specs.declared.request.Request.{Request}
use Rattle.drb_packet.specs.Parsers.{Parsed, holds, ended, refused}
use Rattle.drb_packet.specs.Requests.{next_request}

-- how the requests end: there are no more bytes, or what stands behind the last one is refused
pub data Ending : Type 0 where
  at_end : Ending
  at_refusal : PacketRefusal → Ending

-- all requests, in order, and how they end
pub record Cut : Type 0 where
  pub requests : List Request
  pub ending : Ending

-- with this request in front
abbrev pub in_front : Request → Cut → Cut
in_front request c = record { requests = request ∷ c.requests; ending = c.ending }

-- what stands first, and then what is cut of the bytes behind it
abbrev pub cut_by : (List ℕ → Cut) → Parsed Request → Cut
cut_by more (holds request rest) = in_front request (more rest)
cut_by more ended = record { requests = []; ending = at_end }
cut_by more (refused why rest) = record { requests = []; ending = at_refusal why }

-- at most n requests
abbrev pub cut_in : ℕ → Limits → List ℕ → Cut
cut_in zero limits bytes = record { requests = []; ending = at_end }
cut_in (suc n) limits bytes = cut_by (cut_in n limits) (next_request limits bytes)

-- all requests: each takes a byte at least, so there are no more than there are bytes
unfoldable pub cut : Limits → List ℕ → Cut
cut limits bytes = cut_in (length bytes) limits bytes

-- the cut goes on over what is behind a request, and ends where none stands first
pub record Cuts (limits : Limits) (bytes : List ℕ) : Type 0 where
  pub request : (r : Request) (rest : List ℕ) → next_request limits bytes ≡ holds r rest →
      cut limits bytes ≡ in_front r (cut limits rest)
  pub end : next_request limits bytes ≡ ended →
      cut limits bytes ≡ record { requests = []; ending = at_end }
  pub refusal : (why : PacketRefusal) (rest : List ℕ) →
      next_request limits bytes ≡ refused why rest →
      cut limits bytes ≡ record { requests = []; ending = at_refusal why }
