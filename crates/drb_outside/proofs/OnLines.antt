-- The call that is up, as a source and as a sink.
use Rattle.std.proofs.Common.{◌≡◌, ℕ, List, [], ◌∷◌, ◌++◌, take, drop, true, true≢false, refl, sym, ◌∙◌, ap, append_assoc, arith}
use Rattle.std.proofs.lemmas.Grind.{common_steps}
use Rattle.std.proofs.lemmas.List.{take-append-drop}
use Rattle.std.specs.Prelude.{None, Some, Ok, Err}
use Rattle.std.specs.declared.option.Option.{Option}
use Rattle.std.specs.declared.result.Result.{Result}
use Rattle.drb_outside.specs.Records.{Record}
use Rattle.drb_outside.specs.Told.{Told, ReadTakes, WriteGives}
use Rattle.drb_outside.specs.Calls.{Receives, Sends, is_up, on_last, receive_more, send_more, last_gives, last_sent, merged, unsent}
use Rattle.drb_outside.specs.Lines.{line_left, line_stays, line_given, line_keeps}

-- Reads.

gives_on : (n : ℕ) (rs : List Record) → last_gives (on_last (receive_more n) rs) ≡ drop n (last_gives rs)
gives_on n [] = grind (arith, common_steps)
gives_on n (r ∷ []) = refl
gives_on n (r ∷ s ∷ []) = refl
gives_on n (r ∷ s ∷ t ∷ rs) = gives_on n (s ∷ t ∷ rs)

one_list : (n : ℕ) (r : Record) → merged (receive_more n r) ≡ merged r
one_list n r = ap (λ q. record (merged r) { received = q }) (append_assoc r.received (take n r.gives) (drop n r.gives) ∙ ap (λ q. r.received ++ q) (take-append-drop n r.gives))

merged_on : (n : ℕ) (rs : List Record) → on_last merged (on_last (receive_more n) rs) ≡ on_last merged rs
merged_on n [] = refl
merged_on n (r ∷ []) = ap (λ q. q ∷ []) (one_list n r)
merged_on n (r ∷ s ∷ []) = ap (λ q. r ∷ q ∷ []) (one_list n s)
merged_on n (r ∷ s ∷ t ∷ rs) = ap (λ q. r ∷ q) (merged_on n (s ∷ t ∷ rs))

reads_at : {E : Type 0} (r : Result ℕ E) (buf : List ℕ) (x y : List Record) → Receives r buf x y → ReadTakes r buf (last_gives x) (last_gives y)
reads_at (Ok n) buf x y h = (h.2 ∙ ap (λ q. take n buf ++ q) (sym (ap last_gives h.1 ∙ gives_on n x)), h.3)
reads_at (Err e) buf x y h = ap last_gives h

stays_at : {E : Type 0} (r : Result ℕ E) (buf : List ℕ) (x y : List Record) → Receives r buf x y → on_last merged y ≡ on_last merged x
stays_at (Ok n) buf x y h = ap (λ q. on_last merged q) h.1 ∙ merged_on n x
stays_at (Err e) buf x y h = ap (λ q. on_last merged q) h

pub line_read : {E : Type 0} (r : Result ℕ E) (buf : List ℕ) (a b : Option (List Record)) (m : ℕ) → Told a b m (Receives r buf) → Told (line_left a) (line_left b) m (ReadTakes r buf)
line_read r buf None None m h = tt
line_read r buf None (Some y) m h = absurd h
line_read r buf (Some x) None m h = h
line_read r buf (Some x) (Some y) m h = reads_at r buf x y h

pub line_read_stays : {E : Type 0} (r : Result ℕ E) (buf : List ℕ) (a b : Option (List Record)) (m : ℕ) → Told a b m (Receives r buf) → Told (line_left a) (line_left b) m (λ _ _. line_stays b ≡ line_stays a)
line_read_stays r buf None None m h = tt
line_read_stays r buf None (Some y) m h = absurd h
line_read_stays r buf (Some x) None m h = h
line_read_stays r buf (Some x) (Some y) m h = stays_at r buf x y h

-- Writes.

sent_on : (bytes : List ℕ) (rs : List Record) → is_up rs ≡ true → last_sent (on_last (send_more bytes) rs) ≡ last_sent rs ++ bytes
sent_on bytes [] up = absurd (true≢false (sym up))
sent_on bytes (r ∷ []) up = refl
sent_on bytes (r ∷ s ∷ []) up = refl
sent_on bytes (r ∷ s ∷ t ∷ rs) up = sent_on bytes (s ∷ t ∷ rs) up

unsent_on : (bytes : List ℕ) (rs : List Record) → on_last unsent (on_last (send_more bytes) rs) ≡ on_last unsent rs
unsent_on bytes [] = refl
unsent_on bytes (r ∷ []) = refl
unsent_on bytes (r ∷ s ∷ []) = refl
unsent_on bytes (r ∷ s ∷ t ∷ rs) = ap (λ q. r ∷ q) (unsent_on bytes (s ∷ t ∷ rs))

writes_at : {E : Type 0} (r : Result ℕ E) (piece : List ℕ) (x y : List Record) → Sends piece r x y → WriteGives r piece (last_sent x) (last_sent y)
writes_at (Ok n) piece x y h = ap last_sent h.1 ∙ sent_on (take n piece) x h.0
writes_at (Err e) piece x y h = ap last_sent h

keeps_at : {E : Type 0} (r : Result ℕ E) (piece : List ℕ) (x y : List Record) → Sends piece r x y → on_last unsent y ≡ on_last unsent x
keeps_at (Ok n) piece x y h = ap (λ q. on_last unsent q) h.1 ∙ unsent_on (take n piece) x
keeps_at (Err e) piece x y h = ap (λ q. on_last unsent q) h

pub line_write : {E : Type 0} (r : Result ℕ E) (piece : List ℕ) (a b : Option (List Record)) (m : ℕ) → Told a b m (Sends piece r) → Told (line_given a) (line_given b) m (WriteGives r piece)
line_write r piece None None m h = tt
line_write r piece None (Some y) m h = absurd h
line_write r piece (Some x) None m h = h
line_write r piece (Some x) (Some y) m h = writes_at r piece x y h

pub line_write_stays : {E : Type 0} (r : Result ℕ E) (piece : List ℕ) (a b : Option (List Record)) (m : ℕ) → Told a b m (Sends piece r) → Told (line_given a) (line_given b) m (λ _ _. line_keeps b ≡ line_keeps a)
line_write_stays r piece None None m h = tt
line_write_stays r piece None (Some y) m h = absurd h
line_write_stays r piece (Some x) None m h = h
line_write_stays r piece (Some x) (Some y) m h = keeps_at r piece x y h
