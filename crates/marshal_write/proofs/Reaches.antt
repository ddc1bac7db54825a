-- Loops of a writer: what is written, and what is left to write.
use Rattle.std.proofs.Common.{◌≡◌, ℕ, suc, zero, ◌+◌, ◌<◌, ◌≤◌, List, [], ◌∷◌, ◌++◌, length, map, drop, get_or, append_assoc, append-nil, length-append, sym, ap, refl, ◌∙◌, arith, Result, Err}
use Rattle.drb_tree.specs.declared.Tree.{Tree}
use Rattle.marshal_grammar.specs.Spelled.{Writing, these, ◌then◌, each_value, each_pair, each_field, symbol_bytes, writing}
use Rattle.marshal_write.specs.declared.error.WriteError.{WriteError}
use Rattle.marshal_write.specs.declared.writer.Writer.{Writer}
use Rattle.marshal_write.specs.Written.{Written, Stopped, Writes}
use Rattle.marshal_write.proofs.Steps.{stopped_first}

-- from a to b some of w has been written, and `rest` is left
pub record Reaches (w rest : Writing) (a b : Writer) : Type 0 where
  pub written : List ℕ
  pub bytes : b.bytes.items ≡ a.bytes.items ++ written
  pub whole : (w a.symbols).0 ≡ written ++ (rest b.symbols).0
  pub symbols : (w a.symbols).1 ≡ (rest b.symbols).1
  pub limit : b.limit ≡ a.limit
  pub within : length a.bytes.items ≤ a.limit → length b.bytes.items ≤ a.limit

-- nothing is written
pub reaches_start : (w : Writing) (a : Writer) → Reaches w w a a
reaches_start w a = record {
  written = [];
  bytes = sym (append-nil a.bytes.items);
  whole = refl;
  symbols = refl;
  limit = refl;
  within = λ i. i;
}

-- one step more
pub reaches_step : (w u v : Writing) (a b c : Writer) → Reaches w (u then v) a b → Written u b c → Reaches w v a c
reaches_step w u v a b c h k = record {
  written = h.written ++ (u b.symbols).0;
  bytes = k.bytes ∙ ap (λ (bs : List ℕ). bs ++ (u b.symbols).0) h.bytes ∙ append_assoc a.bytes.items h.written (u b.symbols).0;
  whole = h.whole ∙ sym (append_assoc h.written (u b.symbols).0 (v (u b.symbols).1).0) ∙ ap (λ (s : List (List ℕ)). (h.written ++ (u b.symbols).0) ++ (v s).0) (sym k.symbols);
  symbols = h.symbols ∙ ap (λ (s : List (List ℕ)). (v s).1) (sym k.symbols);
  limit = k.limit ∙ h.limit;
  within = λ i. omega (arith, h.within i, h.limit, k.limit, k.within (omega (arith, h.within i, h.limit)));
}

-- what is left, in other words
pub reaches_as : (w u v : Writing) (a b : Writer) → u b.symbols ≡ v b.symbols → Reaches w u a b → Reaches w v a b
reaches_as w u v a b e h = record {
  written = h.written;
  bytes = h.bytes;
  whole = h.whole ∙ ap (λ (r : List ℕ × List (List ℕ)). h.written ++ r.0) e;
  symbols = h.symbols ∙ ap (λ (r : List ℕ × List (List ℕ)). r.1) e;
  limit = h.limit;
  within = h.within;
}

-- all that was left is written
pub reaches_last : (w v : Writing) (a b c : Writer) → Reaches w v a b → Written v b c → Written w a c
reaches_last w v a b c h k = record {
  bytes = k.bytes ∙ ap (λ (bs : List ℕ). bs ++ (v b.symbols).0) h.bytes ∙ append_assoc a.bytes.items h.written (v b.symbols).0 ∙ ap (λ (bs : List ℕ). a.bytes.items ++ bs) (sym h.whole);
  symbols = k.symbols ∙ sym h.symbols;
  limit = k.limit ∙ h.limit;
  within = λ i. omega (arith, h.within i, h.limit, k.limit, k.within (omega (arith, h.within i, h.limit)));
}

-- nothing is left
pub reaches_end : (w : Writing) (a b : Writer) → Reaches w (these []) a b → Written w a b
reaches_end w a b h = record {
  bytes = h.bytes ∙ ap (λ (bs : List ℕ). a.bytes.items ++ bs) (sym (append-nil h.written) ∙ sym h.whole);
  symbols = sym h.symbols;
  limit = h.limit;
  within = λ i. omega (arith, h.within i, h.limit);
}

-- what was left gave up
pub reaches_stop : (w v : Writing) (a b c : Writer) (e : WriteError) → Reaches w v a b → Stopped v b c e → Stopped w a c e
reaches_stop w v a b c e h k = record {
  front = (h.written ++ k.front.0, k.front.1 ∙ ap (λ (bs : List ℕ). bs ++ k.front.0) h.bytes ∙ append_assoc a.bytes.items h.written k.front.0);
  too_long = λ i. omega (arith, k.too_long i, h.limit, ap length h.bytes, ap length h.whole, length-append a.bytes.items h.written, length-append h.written (v b.symbols).0);
}

-- the next of several values, pairs and fields
pub each_value-drop : (ts : List Tree) (i : ℕ) (t d : Tree) → i < length ts → t ≡ get_or ts i d → each_value (map writing (drop i ts)) ≡ (writing t then each_value (map writing (drop (i + 1) ts)))
each_value-drop [] i t d h e = absurd (omega arith)
each_value-drop (u ∷ ts) zero t d h e = ap (λ (x : Tree). writing x then each_value (map writing ts)) (sym e)
each_value-drop (u ∷ ts) (suc i) t d h e = each_value-drop ts i t d (omega arith) e ∙ ap (λ (k : ℕ). writing t then each_value (map writing (drop k (u ∷ ts)))) (let f : suc (i + 1) ≡ suc i + 1 = omega arith in f)

pub each_pair-drop : (ts : List (Tree × Tree)) (i : ℕ) (t d : Tree × Tree) → i < length ts → t ≡ get_or ts i d → each_pair (map (λ p. (writing p.0, writing p.1)) (drop i ts)) ≡ (writing t.0 then writing t.1 then each_pair (map (λ p. (writing p.0, writing p.1)) (drop (i + 1) ts)))
each_pair-drop [] i t d h e = absurd (omega arith)
each_pair-drop (u ∷ ts) zero t d h e = ap (λ (x : Tree × Tree). writing x.0 then writing x.1 then each_pair (map (λ p. (writing p.0, writing p.1)) ts)) (sym e)
each_pair-drop (u ∷ ts) (suc i) t d h e = each_pair-drop ts i t d (omega arith) e ∙ ap (λ (k : ℕ). writing t.0 then writing t.1 then each_pair (map (λ p. (writing p.0, writing p.1)) (drop k (u ∷ ts)))) (let f : suc (i + 1) ≡ suc i + 1 = omega arith in f)

pub each_field-drop : (ts : List (List ℕ × Tree)) (i : ℕ) (t d : List ℕ × Tree) → i < length ts → t ≡ get_or ts i d → each_field (map (λ p. (p.0, writing p.1)) (drop i ts)) ≡ (symbol_bytes t.0 then writing t.1 then each_field (map (λ p. (p.0, writing p.1)) (drop (i + 1) ts)))
each_field-drop [] i t d h e = absurd (omega arith)
each_field-drop (u ∷ ts) zero t d h e = ap (λ (x : List ℕ × Tree). symbol_bytes x.0 then writing x.1 then each_field (map (λ p. (p.0, writing p.1)) ts)) (sym e)
each_field-drop (u ∷ ts) (suc i) t d h e = each_field-drop ts i t d (omega arith) e ∙ ap (λ (k : ℕ). symbol_bytes t.0 then writing t.1 then each_field (map (λ p. (p.0, writing p.1)) (drop k (u ∷ ts)))) (let f : suc (i + 1) ≡ suc i + 1 = omega arith in f)

-- a step of what was left gave up
pub reaches_gave_up : (w u v : Writing) (a b c : Writer) (e : WriteError) (r : Result (Unit {0}) WriteError) → r ≡ Err e → Reaches w (u then v) a b → Stopped u b c e → Writes w a c r
reaches_gave_up w u v a b c e r p h k = rw p (reaches_stop w (u then v) a b c e h (stopped_first u v b c e k))
