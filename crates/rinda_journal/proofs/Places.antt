-- A turn at a place of bytes.
use Rattle.std.proofs.Common.{◌≡◌, ℕ, ◌+◌, ◌-◌, ◌≤◌, inl, inr, List, [], ◌++◌, length, take, drop, refl, sym, ◌∙◌, ap, subst, arith, length-drop, Bool, true, false, true≢false, nat_eq}
use Rattle.std.proofs.lemmas.Grind.{common_steps}
use Rattle.std.proofs.lemmas.List.{drop-drop}
use Rattle.std.proofs.lemmas.Slice.Eq.{starts_is}
use Rattle.std.proofs.lemmas.Bool.Decides.{Decides-eqb}
use Rattle.std.specs.List.{starts_with}
use Rattle.std.specs.Prelude.{Option, Some, None, Result, Ok, Err}
use Rattle.std.specs.Borrow.{Bor}
use Rattle.drb_tree.specs.declared.Tree.{Tree}
use Rattle.drb_tree.specs.declared.Tree.TheViews.{out-Tree}
use Rattle.rinda_rules.specs.declared.turn.Turn.{Turn}
use Rattle.rinda_journal.specs.declared.error.ReadTurnError.{ReadTurnError}
use Rattle.rinda_journal.specs.declared.error.ReadTurnError.TheVariants.{NotATurn, Memory}
use Rattle.rinda_journal.specs.declared.field.Field.{Field}
use Rattle.rinda_journal.specs.Parsers.{Left, Finds}
use Rattle.rinda_journal.specs.Streams.{packet_then, stream, PacketIs}
use Rattle.rinda_journal.specs.Reading.{fields_at, turn_left, turn_by, turn_of, turn_in}
use Rattle.rinda_journal.specs.Texts.{turn_text, HasText, TurnKept, TextAt}
use Rattle.rinda_journal.specs.Fronts.{HeadIs, Begins, Confirms, IsOrLacksMemory}
use Rattle.rinda_journal.proofs.Streams.{stream_some, stream_none}
use Rattle.rinda_journal.proofs.Texts.{text_again}

-- no packet, no head
pub head_none : (bytes : List ℕ) (e : ReadTurnError) → PacketIs (packet_then bytes) (Err e) → HeadIs bytes (Err e)
unfolding turn_in
head_none bytes NotATurn h = ap turn_of (stream_none bytes h)
head_none bytes Memory h = tt

-- the first packet is no head
pub head_bad : (bytes rest : List ℕ) (v : Tree) (e : ReadTurnError) → packet_then bytes ≡ Some (v, rest) → Finds (fields_at (out-Tree v)) (Err e) → HeadIs bytes (Err e)
unfolding turn_in
head_bad bytes rest v NotATurn p h = ap turn_of (stream_some bytes rest v p) ∙ ap (λ (o : Option (List Field)). turn_by o (stream rest)) h
head_bad bytes rest v Memory p h = tt

-- what a head and the values behind it tell
pub told_by : (bytes : List ℕ) (fields : List Field) (rest : Bor (List ℕ)) (left : Left) (r : Result Turn ReadTurnError) → HeadIs bytes (Ok (fields, rest)) → left ≡ record { fields = fields; values = stream rest.now } → Finds (turn_left left) r → Finds (turn_in bytes) r
unfolding turn_in
told_by bytes fields rest left r h l f =
    let e : turn_in bytes ≡ turn_left left =
    ap turn_of (stream_some bytes rest.now h.0 h.1) ∙ ap (λ (o : Option (List Field)). turn_by o (stream rest.now)) h.2 ∙ ap turn_left (sym l) in
    subst (λ (o : Option Turn). Finds o r) (sym e) f

drop_none : (bytes : List ℕ) → drop 0 bytes ≡ bytes
drop_none bytes = refl

-- the text of the turn is at the front
pub begins : (bytes : List ℕ) (t : Turn) (n : ℕ) → TextAt bytes 0 t n → Begins t bytes
begins bytes t n p = (drop n bytes, sym (drop_none bytes) ∙ p.here)

pub is_told : (bytes : List ℕ) (t : Turn) (n : ℕ) → TextAt bytes 0 t n → turn_in bytes ≡ Some t
unfolding begins
is_told bytes t n p = ap turn_in (begins bytes t n p).1 ∙ text_again t (drop n bytes) p.has p.kept

-- no turn was told
pub none_first : (bytes : List ℕ) (e : ReadTurnError) (t : Turn) (n : ℕ) → Finds (turn_in bytes) (Err e) → TextAt bytes 0 t n → IsOrLacksMemory (Ok (t, n)) (Err e)
none_first bytes NotATurn t n h p = let q : None ≡ Some t = sym h ∙ is_told bytes t n p in absurd (cc q)
none_first bytes Memory t n h p = inr refl

same_turn : (bytes : List ℕ) (u t : Turn) (n : ℕ) → turn_in bytes ≡ Some u → TextAt bytes 0 t n → u ≡ t
same_turn bytes u t n h p = let e : ◌≡◌ {A = Option Turn} (Some u) (Some t) = sym h ∙ is_told bytes t n p in cc

-- the turn that was told has its text there
pub turn_first : (bytes : List ℕ) (u t : Turn) (m n : ℕ) → turn_in bytes ≡ Some u → Confirms u bytes (Ok m) → TextAt bytes 0 t n → IsOrLacksMemory (Ok (t, n)) (Ok (u, m))
turn_first bytes u t m n h k p =
    let s : u ≡ t = same_turn bytes u t n h p in
    let l : length (turn_text u) ≡ length (turn_text t) = ap (λ (w : Turn). length (turn_text w)) s in
    let a : n ≡ 0 + length (turn_text t) = p.after in
    let b : m ≡ length (turn_text u) = k.2 in
    let q : m ≡ n = omega (arith, l, a, b) in
    inl (ap (λ (w : Turn). Ok (w, m)) s ∙ ap (λ (x : ℕ). Ok (t, x)) q)

-- the turn that was told has not
pub other_first : (bytes : List ℕ) (u t : Turn) (n : ℕ) (e : ReadTurnError) → turn_in bytes ≡ Some u → Confirms u bytes (Err e) → TextAt bytes 0 t n → IsOrLacksMemory (Ok (t, n)) (Err e)
other_first bytes u t n NotATurn h k p =
    let s : t ≡ u = sym (same_turn bytes u t n h p) in
    absurd (k (subst HasText s p.has) (subst (λ (w : Turn). Begins w bytes) s (begins bytes t n p)))
other_first bytes u t n Memory h k p = inr refl

drop_behind : (bytes : List ℕ) (at n : ℕ) → at ≤ n → drop (n - at) (drop at bytes) ≡ drop n bytes
drop_behind bytes at n le = let e : at + (n - at) ≡ n = omega arith in drop-drop (n - at) at bytes ∙ ap (λ (m : ℕ). drop m bytes) e

-- a place of bytes is the front of those behind it
at_front : (bytes rest : List ℕ) (at : ℕ) (t : Turn) (n : ℕ) → at ≤ length bytes → rest ≡ drop at bytes → TextAt bytes at t n → TextAt rest 0 t (n - at)
at_front bytes rest at t n le is p =
    let a : n ≡ at + length (turn_text t) = p.after in
    let w : n ≤ length bytes = p.within in
    let l : length rest ≡ length bytes - at = ap length is ∙ length-drop at bytes in
    record {
      has = p.has;
      kept = p.kept;
      after = omega (arith, a);
      within = omega (arith, w, l);
      here = is ∙ p.here ∙ ap (λ (bs : List ℕ). turn_text t ++ bs) (sym (drop_behind bytes at n (omega (arith, a))) ∙ ap (λ (bs : List ℕ). drop (n - at) bs) (sym is));
    }

rest_is : (bytes : List ℕ) (at : ℕ) → take (length bytes - at) (drop at bytes) ≡ drop at bytes
rest_is bytes at = grind (arith, common_steps)

-- what reading at a place answers, by what reading behind it answers
pub every_at : (bytes : List ℕ) (at : ℕ) (r : Result (Turn × ℕ) ReadTurnError) → at ≤ length bytes → ((t : Turn) (n : ℕ) → TextAt (take (length bytes - at) (drop at bytes)) 0 t n → IsOrLacksMemory (Ok (t, n)) r) → (t : Turn) (n : ℕ) → TextAt bytes at t n → (at ≤ n) × IsOrLacksMemory (Ok (t, n - at)) r
every_at bytes at r le f t n p =
    let a : n ≡ at + length (turn_text t) = p.after in
    (omega (arith, a), f t (n - at) (at_front bytes (take (length bytes - at) (drop at bytes)) at t n le (rest_is bytes at) p))

abbrev turn_or : Turn → Result (Turn × ℕ) ReadTurnError → Turn
turn_or t (Ok r) = r.0
turn_or t (Err e) = t

abbrev place_or : ℕ → Result (Turn × ℕ) ReadTurnError → ℕ
place_or n (Ok r) = r.1
place_or n (Err e) = n

pub ok_at : (u t : Turn) (at m n : ℕ) → at ≤ n → IsOrLacksMemory (Ok (t, n - at)) (Ok (u, m)) → IsOrLacksMemory (Ok (t, n)) (Ok (u, at + m))
ok_at u t at m n le (inl e) =
    let s : u ≡ t = ap (λ (r : Result (Turn × ℕ) ReadTurnError). turn_or u r) e in
    let k : m ≡ n - at = ap (λ (r : Result (Turn × ℕ) ReadTurnError). place_or m r) e in
    let q : at + m ≡ n = omega (arith, le, k) in
    inl (ap (λ (w : Turn). Ok (w, at + m)) s ∙ ap (λ (x : ℕ). Ok (t, x)) q)
ok_at u t at m n le (inr e) = absurd (cc e)

pub err_at : (t : Turn) (n m : ℕ) (e : ReadTurnError) → IsOrLacksMemory (Ok (t, m)) (Err e) → IsOrLacksMemory (Ok (t, n)) (Err e)
err_at t n m e (inl h) = absurd (cc h)
err_at t n m e (inr h) = inr h

pub left_is : (left : Left) (fs gs : List Field) (rest : List ℕ) → left ≡ record { fields = fs; values = stream rest } → fs ≡ gs → left ≡ record { fields = gs; values = stream rest }
left_is left fs gs rest e s = e ∙ ap (λ (hs : List Field). record { fields = hs; values = stream rest }) s

-- The text that was written is looked for at the front.

pub found_text : (t : Turn) (bytes piece text : List ℕ) (r : Bool) (n : ℕ) → r ≡ starts_with nat_eq bytes piece → r ≡ true → piece ≡ text → text ≡ [] ++ turn_text t → n ≡ length text → HasText t → TurnKept t → Confirms t bytes (Ok n)
found_text t bytes piece text r n e is p w l h k =
    let s = (starts_is Decides-eqb bytes piece r e).0 is in
    let q : piece ≡ turn_text t = p ∙ w in
    (h, k, l ∙ ap length w, (drop (length piece) bytes, s ∙ ap (λ (bs : List ℕ). bs ++ drop (length piece) bytes) q))

pub no_text : (t : Turn) (bytes piece text : List ℕ) (r : Bool) → r ≡ starts_with nat_eq bytes piece → r ≡ false → piece ≡ text → text ≡ [] ++ turn_text t → Confirms t bytes (Err NotATurn)
no_text t bytes piece text r e is p w = λ h b.
    let q : piece ≡ turn_text t = p ∙ w in
    let k : r ≡ true = (starts_is Decides-eqb bytes piece r e).1 b.0 (b.1 ∙ ap (λ (bs : List ℕ). bs ++ b.0) (sym q)) in
    true≢false (sym k ∙ is)

pub after_none : (old new : List ℕ) (t : Turn) → old ≡ [] → new ≡ old ++ turn_text t → new ≡ [] ++ turn_text t
after_none old new t e w = w ∙ ap (λ (bs : List ℕ). bs ++ turn_text t) e
