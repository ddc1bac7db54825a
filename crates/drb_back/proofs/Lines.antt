-- What goes over the line, in the dialer's own words.
use Rattle.std.proofs.Common.{◌≡◌, ℕ, List, [], ◌∷◌, ◌++◌, take, Bool, true, false, refl, sym, ◌∙◌, ap}
use Rattle.std.specs.Prelude.{None, Some}
use Rattle.std.specs.declared.option.Option.{Option}
use Rattle.drb_outside.specs.Told.{Told}
use Rattle.drb_outside.specs.Records.{Record}
use Rattle.drb_outside.specs.Calls.{on_last, send_more, merged, unsent, last_gives, last_sent}
use Rattle.drb_outside.specs.Lines.{line_left, line_stays, line_given, line_keeps}
use Rattle.drb_packet.specs.Writes.{WritesAll}
use Rattle.drb_back.specs.Steps.{SentMore, SentAll}
use Rattle.drb_back.proofs.Ends.{head_is, tail_is, no_last}

sent_as : (bytes : List ℕ) (r s : Record) → unsent s ≡ unsent r → s.sent ≡ r.sent ++ bytes → s ≡ send_more bytes r
sent_as bytes r s e h = ap (λ (q : Record). record q { sent = s.sent }) e ∙ ap (λ (q : List ℕ). record r { sent = q }) h

-- Where nothing changed but the bytes sent over the last call, these were sent over it.
resent : (bytes : List ℕ) (x y : List Record) → last_sent y ≡ last_sent x ++ bytes → on_last unsent y ≡ on_last unsent x → SentMore bytes x y
resent bytes [] [] h e = refl
resent bytes [] (s ∷ y) h e = absurd (no_last unsent s y e)
resent bytes (r ∷ x) [] h e = absurd (no_last unsent r x (sym e))
resent bytes (r ∷ []) (s ∷ []) h e = ap (λ (q : Record). q ∷ []) (sent_as bytes r s (head_is (unsent s) (unsent r) [] [] e) h)
resent bytes (r ∷ []) (s ∷ t ∷ y) h e = absurd (no_last unsent t y (tail_is s (unsent r) (on_last unsent (t ∷ y)) [] e))
resent bytes (r ∷ q ∷ x) (s ∷ []) h e = absurd (no_last unsent q x (sym (tail_is (unsent s) r [] (on_last unsent (q ∷ x)) e)))
resent bytes (r ∷ q ∷ x) (s ∷ t ∷ y) h e =
    ap (λ (z : Record). z ∷ t ∷ y) (head_is s r (on_last unsent (t ∷ y)) (on_last unsent (q ∷ x)) e)
    ∙ ap (λ (z : List Record). r ∷ z) (resent bytes (q ∷ x) (t ∷ y) h (tail_is s r (on_last unsent (t ∷ y)) (on_last unsent (q ∷ x)) e))

pub line_sent : (all : Bool) (bytes : List ℕ) (b c : Option (List Record)) (n : ℕ) → Told (line_given b) (line_given c) n (WritesAll all bytes) → Told (line_given b) (line_given c) n (λ _ _. line_keeps c ≡ line_keeps b) → Told b c n (SentAll all bytes)
line_sent all bytes None None n h k = tt
line_sent all bytes None (Some y) n h k = absurd h
line_sent all bytes (Some x) None n h k = h
line_sent true bytes (Some x) (Some y) n h k = resent bytes x y h k
line_sent false bytes (Some x) (Some y) n h k = (h.0, resent (take h.0 bytes) x y h.1 k)

pub line_heard : (P : List ℕ → List ℕ → Type 0) (b c : Option (List Record)) (n : ℕ) → Told (line_left b) (line_left c) n P → Told (line_left b) (line_left c) n (λ _ _. line_stays c ≡ line_stays b) → Told b c n (λ x y. P (last_gives x) (last_gives y) × (on_last merged y ≡ on_last merged x))
line_heard P None None n h k = tt
line_heard P None (Some y) n h k = absurd h
line_heard P (Some x) None n h k = h
line_heard P (Some x) (Some y) n h k = (h, k)
