-- What a sink was given, turn after turn.
use Rattle.std.proofs.Common.{◌≡◌, ℕ, ◌+◌, ◌-◌, List, [], ◌∷◌, ◌++◌, take, drop, All, refl, sym, ◌∙◌, ap, subst, append_assoc, arith}
use Rattle.std.specs.Prelude.{Option, Some, Ok, Err, slice_get, option_copied}
use Rattle.std.specs.Borrow.{Bor}
use Rattle.std.proofs.lemmas.List.{take_more, drop_more, take-append-drop, append-nil}
use Rattle.std.proofs.lemmas.List.Elements.{All-more}
use Rattle.std.proofs.lemmas.Option.{slice_get_within, get_or_from_slice_get}
use Rattle.drb_outside.specs.Records.{Record}
use Rattle.drb_outside.specs.Changes.{ChangesBytes}
use Rattle.drb_outside.specs.Telling.{changes_on}
use Rattle.drb_packet.specs.Writes.{GivenMore}
use Rattle.rinda_rules.specs.declared.turn.Turn.{Turn}
use Rattle.rinda_journal.specs.declared.error.HistoryError.{HistoryError}
use Rattle.rinda_journal.specs.declared.error.HistoryError.TheVariants.{DoesNotFit, WriteFault, Memory}
use Rattle.rinda_journal.specs.Texts.{turn_text}
use Rattle.rinda_journal.specs.Histories.{history_text, GivesHistory, GivesTurn, Refuses}

-- the turn that a journal gave is there
pub is_there : (ts : List Turn) (i : ℕ) (o : Option (Bor Turn)) (t : Bor Turn) → option_copied o ≡ slice_get ts i → o ≡ Some t → slice_get ts i ≡ Some t.now
is_there ts i o t e s = sym e ∙ ap (λ (p : Option (Bor Turn)). option_copied p) s

history_both : (ts us : List Turn) → history_text (ts ++ us) ≡ history_text ts ++ history_text us
history_both [] us = refl
history_both (t ∷ ts) us = ap (λ (bs : List ℕ). turn_text t ++ bs) (history_both ts us) ∙ sym (append_assoc (turn_text t) (history_text ts) (history_text us))

taken : (ts : List Turn) (i : ℕ) (t : Turn) → slice_get ts i ≡ Some t → take (i + 1) ts ≡ take i ts ++ t ∷ []
taken ts i t e = take_more ts i t (slice_get_within ts i t e) ∙ ap (λ (u : Turn). take i ts ++ u ∷ []) (get_or_from_slice_get ts i t t e)

left : (ts : List Turn) (i : ℕ) (t : Turn) → slice_get ts i ≡ Some t → drop i ts ≡ t ∷ drop (i + 1) ts
left ts i t e = drop_more ts i t (slice_get_within ts i t e) ∙ ap (λ (u : Turn). u ∷ drop (i + 1) ts) (get_or_from_slice_get ts i t t e)

-- the texts up to a turn, and its own
one_text : (ts : List Turn) (i : ℕ) (t : Turn) → slice_get ts i ≡ Some t → history_text (take (i + 1) ts) ≡ history_text (take i ts) ++ turn_text t
one_text ts i t e = ap history_text (taken ts i t e) ∙ history_both (take i ts) (t ∷ []) ∙ ap (λ (bs : List ℕ). history_text (take i ts) ++ bs) (append-nil (turn_text t))

-- all texts: those before a turn, its own, and those behind it
all_texts : (ts : List Turn) (i : ℕ) (t : Turn) → slice_get ts i ≡ Some t → history_text ts ≡ history_text (take i ts) ++ (turn_text t ++ history_text (drop (i + 1) ts))
all_texts ts i t e =
    ap history_text (sym (take-append-drop i ts)) ∙ history_both (take i ts) (drop i ts)
    ∙ ap (λ (us : List Turn). history_text (take i ts) ++ history_text us) (left ts i t e)

gives_one : (ts : List Turn) (i : ℕ) (t : Turn) (x y z : List ℕ) → slice_get ts i ≡ Some t → GivenMore (history_text (take i ts)) x y → GivesTurn t (Ok tt) y z → GivenMore (history_text (take (i + 1) ts)) x z
gives_one ts i t x y z e h k = k ∙ ap (λ (bs : List ℕ). bs ++ turn_text t) h ∙ append_assoc x (history_text (take i ts)) (turn_text t) ∙ ap (λ (bs : List ℕ). x ++ bs) (sym (one_text ts i t e))

-- a part of a text, up to a fault
cut_text : (a b c : List ℕ) (m : ℕ) → a ++ (b ++ c) ≡ (a ++ take m b) ++ (drop m b ++ c)
cut_text a b c m =
    ap (λ (bs : List ℕ). a ++ (bs ++ c)) (sym (take-append-drop m b))
    ∙ ap (λ (bs : List ℕ). a ++ bs) (append_assoc (take m b) (drop m b) c)
    ∙ sym (append_assoc a (take m b) (drop m b ++ c))

stops : (ts : List Turn) (i : ℕ) (t : Turn) (e : HistoryError) (x y z : List ℕ) → slice_get ts i ≡ Some t → Refuses t (i + 1) (Err e) → GivenMore (history_text (take i ts)) x y → GivesTurn t (Err e) y z → GivesHistory ts (Err e) x z
stops ts i t (DoesNotFit n) x y z s r h k =
    let m : i ≡ n - 1 = omega (arith, r.0) in
    k ∙ h ∙ ap (λ (j : ℕ). x ++ history_text (take j ts)) m
stops ts i t WriteFault x y z s r h k = (
  history_text (take i ts) ++ take k.0 (turn_text t),
  drop k.0 (turn_text t) ++ history_text (drop (i + 1) ts),
  k.1 ∙ ap (λ (bs : List ℕ). bs ++ take k.0 (turn_text t)) h ∙ append_assoc x (history_text (take i ts)) (take k.0 (turn_text t)),
  all_texts ts i t s ∙ cut_text (history_text (take i ts)) (turn_text t) (history_text (drop (i + 1) ts)) k.0,
)
stops ts i t Memory x y z s r h k = (i, k ∙ h)

module _ {X : Type 0} {told : X → Option (List ℕ)} {keeps : X → List Record} {name fails : X → ℕ} {a b c : X} where
  pub changes_one : (ts : List Turn) (i : ℕ) (t : Turn) → slice_get ts i ≡ Some t → ChangesBytes told keeps name fails a b (GivenMore (history_text (take i ts))) → ChangesBytes told keeps name fails b c (GivesTurn t (Ok tt)) → ChangesBytes told keeps name fails a c (GivenMore (history_text (take (i + 1) ts)))
  changes_one ts i t e s u = changes_on (GivenMore (history_text (take i ts))) (GivesTurn t (Ok tt)) (GivenMore (history_text (take (i + 1) ts))) (λ x y z h k. gives_one ts i t x y z e h k) s u

  pub changes_stops : (ts : List Turn) (i : ℕ) (t : Turn) (e : HistoryError) → slice_get ts i ≡ Some t → Refuses t (i + 1) (Err e) → ChangesBytes told keeps name fails a b (GivenMore (history_text (take i ts))) → ChangesBytes told keeps name fails b c (GivesTurn t (Err e)) → ChangesBytes told keeps name fails a c (GivesHistory ts (Err e))
  changes_stops ts i t e q r s u = changes_on (GivenMore (history_text (take i ts))) (GivesTurn t (Err e)) (GivesHistory ts (Err e)) (λ x y z h k. stops ts i t e x y z q r h k) s u

-- what holds of a turn more
pub holds_more : (P : Turn → Type 0) (ts : List Turn) (i : ℕ) (t : Turn) → slice_get ts i ≡ Some t → All P (take i ts) → P t → All P (take (i + 1) ts)
holds_more P ts i t e h k = All-more P ts i t (slice_get_within ts i t e) h (subst P (sym (get_or_from_slice_get ts i t t e)) k)
