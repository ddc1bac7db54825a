-- Packets one after the other.
use Rattle.std.proofs.Common.{◌≡◌, ℕ, suc, ◌+◌, ◌<◌, ◌≤◌, inl, inr, List, [], ◌∷◌, ◌++◌, length, take, drop, refl, sym, ◌∙◌, ap, subst, append_assoc, arith, Bool, true, false, true≢false, get_or, drop-cons, add-one}
use Rattle.std.proofs.lemmas.Grind.{common_steps}
use Rattle.std.proofs.lemmas.List.{append-nil}
use Rattle.std.specs.Prelude.{Ok, Err, pos}
use Rattle.std.specs.declared.result.Result.{Result}
use Rattle.drb_tree.specs.declared.Tree.{Tree}
use Rattle.drb_tree.specs.declared.Tree.TheOpen.{Tree-F}
use Rattle.drb_tree.specs.declared.Tree.TheFolds.{fold-roll-Tree}
use Rattle.drb_tree.specs.declared.Code.TheVariants.{Ascii}
use Rattle.drb_tree.specs.declared.RefId.{RefId}
use Rattle.drb_tree.specs.Kept.{id_tree}
use Rattle.marshal_grammar.specs.Trees.{nil, bool, int, text}
use Rattle.marshal_grammar.specs.Spelled.{spelled, Writing, writing_step}
use Rattle.marshal_write.specs.Limits.{max_dump}
use Rattle.marshal_write.specs.declared.error.WriteError.{WriteError}
use Rattle.marshal_write.specs.declared.error.WriteError.TheVariants.{TooLong, Memory}
use Rattle.drb_packet.specs.Texts.{packet_text, packets_text, reply_text, ask_values, AllShort, SomeLong, Puts}

packets_both : (vs ws : List Tree) → packets_text (vs ++ ws) ≡ packets_text vs ++ packets_text ws
packets_both [] ws = refl
packets_both (v ∷ vs) ws = ap (λ t. packet_text (spelled v) ++ t) (packets_both vs ws) ∙ sym (append_assoc (packet_text (spelled v)) (packets_text vs) (packets_text ws))

short_both : (vs ws : List Tree) → AllShort vs → AllShort ws → AllShort (vs ++ ws)
short_both [] ws h k = k
short_both (v ∷ vs) ws h k = (h.0, short_both vs ws h.1 k)

long_first : (vs ws : List Tree) → SomeLong vs → SomeLong (vs ++ ws)
long_first [] ws h = absurd h
long_first (v ∷ vs) ws (inl h) = inl h
long_first (v ∷ vs) ws (inr h) = inr (long_first vs ws h)

long_second : (vs ws : List Tree) → SomeLong ws → SomeLong (vs ++ ws)
long_second [] ws h = h
long_second (v ∷ vs) ws h = inr (long_second vs ws h)

pub puts_then : (vs ws : List Tree) (r : Result (Unit {0}) WriteError) (a b c : List ℕ) → Puts vs (Ok tt) a b → Puts ws r b c → Puts (vs ++ ws) r a c
puts_then vs ws (Ok u) a b c h k =
    (k.0 ∙ ap (λ t. t ++ packets_text ws) h.0 ∙ append_assoc a (packets_text vs) (packets_text ws) ∙ ap (λ t. a ++ t) (sym (packets_both vs ws)), short_both vs ws h.1 k.1)
puts_then vs ws (Err e) a b c h k =
    ((packets_text vs ++ k.0.0, k.0.1 ∙ ap (λ t. t ++ k.0.0) h.0 ∙ append_assoc a (packets_text vs) k.0.0), λ is. long_second vs ws (k.1 is))

pub puts_stop : (vs ws : List Tree) (e : WriteError) (a b : List ℕ) → Puts vs (Err e) a b → Puts (vs ++ ws) (Err e) a b
puts_stop vs ws e a b h = (h.0, λ is. long_first vs ws (h.1 is))

pub puts_none : (a : List ℕ) → Puts [] (Ok tt) a a
puts_none a = (sym (append-nil a), tt)

abbrev is_memory : WriteError → Bool
is_memory TooLong = false
is_memory Memory = true

memory_only : ◌≡◌ {A = WriteError} Memory TooLong → ⊥
memory_only e = true≢false (ap is_memory e)

-- memory ran out before anything was added
pub puts_no_memory : (vs : List Tree) (e : WriteError) (a : List ℕ) → e ≡ Memory → Puts vs (Err e) a a
puts_no_memory vs e a is = (([], sym (append-nil a)), λ long. absurd (memory_only (sym is ∙ long)))

item_first : (vs : List Tree) (i : ℕ) (v : Tree) → i < length vs → v ≡ get_or vs i v → drop i vs ≡ v ∷ drop (i + 1) vs
item_first vs i v lt is = rw (add-one) (drop-cons vs i v lt ∙ ap (λ w. w ∷ drop (suc i) vs) (sym is))

-- one packet more of those that are left
pub puts_next : (vs : List Tree) (i : ℕ) (v : Tree) (r : Result (Unit {0}) WriteError) (a b c : List ℕ) → i < length vs → v ≡ get_or vs i v → Puts (v ∷ []) (Ok tt) a b → Puts (drop (i + 1) vs) r b c → Puts (drop i vs) r a c
puts_next vs i v r a b c lt is one more = subst (λ ws. Puts ws r a c) (sym (item_first vs i v lt is)) (puts_then (v ∷ []) (drop (i + 1) vs) r a b c one more)

-- the first of those that are left doesn't go
pub puts_ends : (vs : List Tree) (i : ℕ) (v : Tree) (e : WriteError) (a b : List ℕ) → i < length vs → v ≡ get_or vs i v → Puts (v ∷ []) (Err e) a b → Puts (drop i vs) (Err e) a b
puts_ends vs i v e a b lt is one = subst (λ ws. Puts ws (Err e) a b) (sym (item_first vs i v lt is)) (puts_stop (v ∷ []) (drop (i + 1) vs) e a b one)

none_left : (vs : List Tree) (i : ℕ) → length vs ≤ i → drop i vs ≡ []
none_left vs i le = grind (arith, common_steps)

-- none is left
pub puts_done : (vs : List Tree) (i : ℕ) (a : List ℕ) → length vs ≤ i → Puts (drop i vs) (Ok tt) a a
puts_done vs i a le = subst (λ ws. Puts ws (Ok tt) a a) (sym (none_left vs i le)) (puts_none a)

-- A request.

-- the packets that stand before the arguments
abbrev pub call_values : RefId → List ℕ → ℕ → List Tree
call_values to name n = id_tree to ∷ text name Ascii ∷ int (pos n) ∷ []

pub call_then : (to : RefId) (name : List ℕ) (args : List Tree) (v : Tree) (r : Result (Unit {0}) WriteError) (a b c d : List ℕ) → Puts (call_values to name (length args)) (Ok tt) a b → Puts args (Ok tt) b c → v ≡ nil → Puts (v ∷ []) r c d → Puts (ask_values to name args) r a d
call_then to name args v r a b c d h k is l = puts_then (call_values to name (length args)) (args ++ nil ∷ []) r a b d h (puts_then args (nil ∷ []) r b c d k (subst (λ (w : Tree). Puts (w ∷ []) r c d) is l))

pub call_stop : (to : RefId) (name : List ℕ) (args : List Tree) (e : WriteError) (a b c : List ℕ) → Puts (call_values to name (length args)) (Ok tt) a b → Puts args (Err e) b c → Puts (ask_values to name args) (Err e) a c
call_stop to name args e a b c h k = puts_then (call_values to name (length args)) (args ++ nil ∷ []) (Err e) a b c h (puts_stop args (nil ∷ []) e b c k)

-- A reply.

truth_len : (ok : Bool) → length (spelled (bool ok)) ≡ 3
truth_len ok = ap (λ (w : Writing). length (4 ∷ 8 ∷ (w []).0)) (fold-roll-Tree Writing writing_step (Tree-F.Bool ok))

pub reply_is : (ok : Bool) (v : Tree) (a b : List ℕ) → Puts (bool ok ∷ v ∷ []) (Ok tt) a b → b ≡ a ++ reply_text ok v
reply_is ok v a b h = h.0 ∙ ap (λ t. a ++ (packet_text (spelled (bool ok)) ++ t)) (append-nil (packet_text (spelled v)))

pub long_result : (ok : Bool) (v : Tree) → SomeLong (bool ok ∷ v ∷ []) → max_dump < length (spelled v)
long_result ok v (inl h) = absurd (omega (arith, truth_len ok, h))
long_result ok v (inr (inl h)) = h
long_result ok v (inr (inr h)) = absurd h

front_again : (a rest : List ℕ) → take (length a) (a ++ rest) ≡ a
front_again a rest = grind (arith, common_steps)

-- what was added is cut off again
pub cut_back : (a b rest : List ℕ) → b ≡ a ++ rest → take (length a) b ≡ a
cut_back a b rest e = ap (λ t. take (length a) t) e ∙ front_again a rest

abbrev error_in : Result (Unit {0}) WriteError → WriteError
error_in (Ok u) = Memory
error_in (Err e) = e

-- the error that was answered
pub error_is : (e f : WriteError) → ◌≡◌ {A = Result (Unit {0}) WriteError} (Err e) (Err f) → e ≡ f
error_is e f h = ap error_in h
