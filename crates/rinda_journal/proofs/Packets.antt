-- Packets one after the other.
use Rattle.std.proofs.Common.{◌≡◌, ℕ, suc, ◌+◌, ◌<◌, ◌≤◌, List, [], ◌∷◌, ◌++◌, length, drop, sym, ◌∙◌, ap, subst, append_assoc, arith, get_or, drop-cons, add-one}
use Rattle.std.proofs.lemmas.Grind.{common_steps}
use Rattle.std.proofs.lemmas.List.{append-nil}
use Rattle.std.proofs.lemmas.List.Elements.{All-nil, All-cons, All-head, All-tail}
use Rattle.std.specs.Prelude.{Ok, Err}
use Rattle.std.specs.declared.result.Result.{Result}
use Rattle.drb_tree.specs.declared.Tree.{Tree}
use Rattle.drb_tree.specs.Kept.{WellKept, Ranged, Fits}
use Rattle.marshal_grammar.specs.Spelled.{spelled}
use Rattle.drb_packet.specs.Texts.{packet_text, packets_text}
use Rattle.rinda_journal.specs.declared.error.TurnTextError.{TurnTextError}
use Rattle.rinda_journal.specs.Writes.{Adds}

abbrev Sound : Tree → Type 0
Sound v = WellKept v × Ranged v

one_packet : (v : Tree) (vs : List Tree) → packets_text (v ∷ []) ++ packets_text vs ≡ packets_text (v ∷ vs)
one_packet v vs = ap (λ t. t ++ packets_text vs) (append-nil (packet_text (spelled v)))

-- a packet, and those behind it
adds_then : (v : Tree) (vs : List Tree) (r : Result (Unit {0}) TurnTextError) (a b c : List ℕ) → Adds (v ∷ []) (Ok tt) a b → Adds vs r b c → Adds (v ∷ vs) r a c
adds_then v vs (Ok u) a b c h k =
    (k.0 ∙ ap (λ t. t ++ packets_text vs) h.0 ∙ append_assoc a (packets_text (v ∷ [])) (packets_text vs) ∙ ap (λ t. a ++ t) (one_packet v vs), All-cons Fits v vs (All-head Fits v [] h.1) k.1, All-cons Sound v vs (All-head Sound v [] h.2) k.2)
adds_then v vs (Err e) a b c h k =
    ((packets_text (v ∷ []) ++ k.0.0, k.0.1 ∙ ap (λ t. t ++ k.0.0) h.0 ∙ append_assoc a (packets_text (v ∷ [])) k.0.0), λ is all. k.1 is (All-tail Fits v vs all))

-- a packet that doesn't go
adds_stop : (v : Tree) (vs : List Tree) (e : TurnTextError) (a b : List ℕ) → Adds (v ∷ []) (Err e) a b → Adds (v ∷ vs) (Err e) a b
adds_stop v vs e a b h = (h.0, λ is all. h.1 is (All-cons Fits v [] (All-head Fits v vs all) (All-nil Fits)))

adds_none : (a : List ℕ) → Adds [] (Ok tt) a a
adds_none a = (sym (append-nil a), All-nil Fits, All-nil Sound)

item_first : (vs : List Tree) (i : ℕ) (v : Tree) → i < length vs → v ≡ get_or vs i v → drop i vs ≡ v ∷ drop (i + 1) vs
item_first vs i v lt is = rw (add-one) (drop-cons vs i v lt ∙ ap (λ w. w ∷ drop (suc i) vs) (sym is))

-- one packet more of those that are left
pub adds_next : (vs : List Tree) (i : ℕ) (v : Tree) (r : Result (Unit {0}) TurnTextError) (a b c : List ℕ) → i < length vs → v ≡ get_or vs i v → Adds (v ∷ []) (Ok tt) a b → Adds (drop (i + 1) vs) r b c → Adds (drop i vs) r a c
adds_next vs i v r a b c lt is one more = subst (λ ws. Adds ws r a c) (sym (item_first vs i v lt is)) (adds_then v (drop (i + 1) vs) r a b c one more)

-- the first of those that are left doesn't go
pub adds_ends : (vs : List Tree) (i : ℕ) (v : Tree) (e : TurnTextError) (a b : List ℕ) → i < length vs → v ≡ get_or vs i v → Adds (v ∷ []) (Err e) a b → Adds (drop i vs) (Err e) a b
adds_ends vs i v e a b lt is one = subst (λ ws. Adds ws (Err e) a b) (sym (item_first vs i v lt is)) (adds_stop v (drop (i + 1) vs) e a b one)

none_left : (vs : List Tree) (i : ℕ) → length vs ≤ i → drop i vs ≡ []
none_left vs i le = grind (arith, common_steps)

-- none is left
pub adds_done : (vs : List Tree) (i : ℕ) (a : List ℕ) → length vs ≤ i → Adds (drop i vs) (Ok tt) a a
adds_done vs i a le = subst (λ ws. Adds ws (Ok tt) a a) (sym (none_left vs i le)) (adds_none a)
