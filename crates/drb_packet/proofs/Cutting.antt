-- Requests one after the other.
use Rattle.std.proofs.Common.{◌≡◌, ℕ, zero, suc, ◌+◌, ◌≤◌, ◌<◌, List, [], ◌∷◌, ◌++◌, length, length-append, refl, sym, ◌∙◌, ap, arith}
use Rattle.drb_packet.specs.declared.request.Limits.{Limits}
use Rattle.drb_packet.specs.declared.request.Request.{Request}
use Rattle.drb_packet.specs.Parsers.{Parsed, holds, ended, refused}
use Rattle.drb_packet.specs.Requests.{next_request}
use Rattle.drb_packet.specs.Cuts.{Cut, Cuts, at_end, in_front, cut_by, cut_in, cut}
use Rattle.drb_packet.proofs.Keeping.{held_whole}
use Rattle.drb_packet.proofs.Ending.{requests_end}

no_bytes : (limits : Limits) (r : Request) (taken : List ℕ) → taken ≡ [] → ((more : List ℕ) → next_request limits (taken ++ more) ≡ holds r more) → ⊥
no_bytes limits r taken e h =
    let k : next_request limits [] ≡ holds r [] = ap (λ t. next_request limits (t ++ [])) (sym e) ∙ h [] in
    let n : next_request limits [] ≡ ended = (requests_end limits []).1 refl in
    let c : ended ≡ holds r [] = sym n ∙ k in
    cc c

some_taken : (taken : List ℕ) → (taken ≡ [] → ⊥) → 0 < length taken
some_taken [] n = absurd (n refl)
some_taken (b ∷ bs) n = omega arith

-- a request takes a byte at least
pub shorter : (limits : Limits) (bytes rest : List ℕ) (r : Request) → next_request limits bytes ≡ holds r rest → length rest < length bytes
shorter limits bytes rest r e =
    let k : (taken : List ℕ) × (bytes ≡ taken ++ rest) × ((more : List ℕ) → next_request limits (taken ++ more) ≡ holds r more) = held_whole limits bytes rest r e in
    let s : 0 < length k.0 = some_taken k.0 (λ n. no_bytes limits r k.0 n k.2) in
    let l : length bytes ≡ length k.0 + length rest = ap length k.1 ∙ length-append k.0 rest in
    omega (arith, s, l)

same_by : (limits : Limits) (f g : List ℕ → Cut) (p : Parsed Request) → ((r : Request) (rest : List ℕ) → p ≡ holds r rest → f rest ≡ g rest) → cut_by f p ≡ cut_by g p
same_by limits f g (holds r rest) h = ap (λ q. in_front r q) (h r rest refl)
same_by limits f g ended h = refl
same_by limits f g (refused why rest) h = refl

none_by : (limits : Limits) (f : List ℕ → Cut) (bytes : List ℕ) → bytes ≡ [] → record { requests = []; ending = at_end } ≡ cut_by f (next_request limits bytes)
none_by limits f bytes e = ap (λ p. cut_by f p) (sym ((requests_end limits bytes).1 e))

no_length : (bytes : List ℕ) → length bytes ≤ 0 → bytes ≡ []
no_length [] h = refl
no_length (b ∷ bs) h = absurd (omega arith)

-- as many as there are bytes are enough
enough : (limits : Limits) (n m : ℕ) (bytes : List ℕ) → length bytes ≤ n → length bytes ≤ m → cut_in n limits bytes ≡ cut_in m limits bytes
enough limits zero zero bytes h k = refl
enough limits zero (suc m) bytes h k = none_by limits (cut_in m limits) bytes (no_length bytes h)
enough limits (suc n) zero bytes h k = sym (none_by limits (cut_in n limits) bytes (no_length bytes k))
enough limits (suc n) (suc m) bytes h k = same_by limits (cut_in n limits) (cut_in m limits) (next_request limits bytes)
    (λ r rest e. let lt : length rest < length bytes = shorter limits bytes rest r e in enough limits n m rest (omega (arith, lt, h)) (omega (arith, lt, k)))

-- what is cut, by what stands first
cut_first : (limits : Limits) (bytes : List ℕ) → cut limits bytes ≡ cut_by (cut limits) (next_request limits bytes)
unfolding cut
cut_first limits bytes =
    let le : length bytes ≤ suc (length bytes) = omega arith in
    enough limits (length bytes) (suc (length bytes)) bytes (omega arith) le
    ∙ same_by limits (cut_in (length bytes) limits) (λ rest. cut_in (length rest) limits rest) (next_request limits bytes)
    (λ r rest e. let lt : length rest < length bytes = shorter limits bytes rest r e in enough limits (length bytes) (length rest) rest (omega (arith, lt)) (omega arith))

pub cuts : (limits : Limits) (bytes : List ℕ) → Cuts limits bytes
cuts limits bytes = record {
  request = λ r rest e. cut_first limits bytes ∙ ap (λ p. cut_by (cut limits) p) e;
  end = λ e. cut_first limits bytes ∙ ap (λ p. cut_by (cut limits) p) e;
  refusal = λ why rest e. cut_first limits bytes ∙ ap (λ p. cut_by (cut limits) p) e;
}
