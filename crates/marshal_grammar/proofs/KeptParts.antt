-- Hashes, fields, and what holds them, as a dump spells them.
use Rattle.std.proofs.Common.{◌≡◌, ℕ, zero, suc, ◌+◌, ◌≤◌, List, [], ◌∷◌, ◌++◌, length, map, All, Bool, true, false, not, IsTrue, IsUtf8, Some, None, refl, arith, length-append}
use Rattle.std.proofs.lemmas.List.Elements.{All-nil, All-push, All-weaker}
use Rattle.drb_tree.specs.declared.Tree.{Tree}
use Rattle.drb_tree.specs.declared.Tree.TheViews.{roll-Tree}
use Rattle.drb_tree.specs.declared.Tree.TheOpen.{Tree-F}
use Rattle.drb_tree.specs.Sizes.{nodes, heavy, total_pairs, total_fields}
use Rattle.drb_tree.specs.Kept.{AreBytes, FieldsKept, keys_distinct, names_distinct, has_key, has_name, max_pairs}
use Rattle.drb_tree.proofs.Everywhere.{BothHave, FieldHas}
use Rattle.drb_tree.proofs.Distinct.{keys_distinct-push, names_distinct-push}
use Rattle.marshal_grammar.specs.Contexts.{Context}
use Rattle.marshal_grammar.specs.Grammar.{Grammar}
use Rattle.marshal_grammar.specs.Values.{pairs, fields, hash_value, default_hash_value, named_value, fields_value, wrapped_value}
use Rattle.marshal_grammar.proofs.Froms.{From, after, gives_from, must_then, here_then, string_from, pair_count_from, nodes_from}
use Rattle.std.proofs.lemmas.Str.{IsUtf8-from_ascii}
use Rattle.marshal_grammar.proofs.WrittenRemotes.{ascii_bytes}
use Rattle.marshal_grammar.proofs.KeptSymbols.{state_same, state_counted, state_fewer, name_from}
use Rattle.marshal_grammar.proofs.KeptValues.{Fine, Part, Reads, reads_of, begins_from, ends_from, whole_from, PartFrom, symbol_utf8}

-- what the keys and values of pairs count
abbrev pair_nodes : List (Tree × Tree) → ℕ
pair_nodes ps = total_pairs (map (λ (p : Tree × Tree). (nodes p.0, nodes p.1)) ps)

-- pairs, of which k are to come, and the context after them
pub record ReadsPairs (room n k : ℕ) (ps : List (Tree × Tree)) (d : Context) : Type 0 where
  pub few : length ps + k ≤ max_pairs
  pub distinct : IsTrue (keys_distinct ps)
  pub parts : All (BothHave (Part room)) ps
  pub fine : Fine (n + pair_nodes ps) d

not_true : (b : Bool) → IsTrue (not b) → b ≡ false
not_true true h = absurd (let k : false ≡ true = h in cc)
not_true false h = refl

pairs_push : (ps : List (Tree × Tree)) (p : Tree × Tree) → pair_nodes (ps ++ (p ∷ [])) ≡ pair_nodes ps + (nodes p.0 + nodes p.1)
pairs_push [] p = omega arith
pairs_push (q ∷ ps) p = omega (arith, pairs_push ps p)

pub pairs_from : {room : ℕ} {part : Grammar Tree} → PartFrom part room → (k n : ℕ) (before : List (Tree × Tree)) (c : Context) → ReadsPairs room n k before c → From (pairs part before k) c (ReadsPairs room n 0)
pairs_from p zero n before c h = gives_from h
pairs_from {room = room} p (suc k) n before c h = here_then (after (p (n + pair_nodes before) c h.fine) (λ key d i. must_then (λ m. after (p (n + pair_nodes before + nodes key) d i.fine) (λ v e j.
    pairs_from p k n (before ++ ((key, v) ∷ [])) e (record {
      few = omega (arith, h.few, length-append before ((key, v) ∷ []));
      distinct = keys_distinct-push before (key, v) h.distinct (not_true (has_key key before) m);
      parts = All-push (BothHave (Part room)) before (key, v) h.parts (i.part, j.part);
      fine = state_fewer (omega (arith, pairs_push before (key, v))) j.fine;
    })))))

no_pairs : {room n k : ℕ} {c : Context} → k ≤ max_pairs → Fine n c → ReadsPairs room n k [] c
no_pairs {room = room} h f = record { few = omega (arith, h); distinct = refl; parts = All-nil (BothHave (Part room)); fine = state_fewer (omega arith) f }

pub hash_from : {room n at : ℕ} {part : Grammar Tree} {c : Context} → PartFrom part room → Fine n c → From (hash_value part at) c (Reads (suc room) n)
hash_from {n = n} p h = after pair_count_from (λ k d i. after nodes_from (λ x e q. after (begins_from (state_counted q (state_same i.1 h))) (λ o f j. after (pairs_from p k (n + 1) [] f (no_pairs i.0 j)) (λ ps g r.
    ends_from (reads_of {k = 1 + pair_nodes ps} (Tree-F.Hash ps None) (omega (arith, r.few)) r.distinct tt (r.parts, tt) (omega arith) (state_fewer (omega arith) r.fine))))))

pub default_from : {room n at : ℕ} {part : Grammar Tree} {c : Context} → PartFrom part room → Fine n c → From (default_hash_value part at) c (Reads (suc room) n)
default_from {n = n} p h = after pair_count_from (λ k d i. after nodes_from (λ x e q. after (begins_from (state_counted q (state_same i.1 h))) (λ o f j. after (pairs_from p k (n + 1) [] f (no_pairs i.0 j)) (λ ps g r. after (p (n + 1 + pair_nodes ps) g r.fine) (λ v y z.
    ends_from (reads_of {k = 1 + pair_nodes ps + nodes v} (Tree-F.Hash ps (Some v)) (omega (arith, r.few)) r.distinct tt (r.parts, z.part) (omega arith) (state_fewer (omega arith) z.fine)))))))

-- what names and values of fields count
abbrev pub field_nodes : List (List ℕ × Tree) → ℕ
field_nodes fs = total_fields (map (λ (f : List ℕ × Tree). (f.0, nodes f.1)) fs)

-- a name and a value
pub record NamedPart (room : ℕ) (f : List ℕ × Tree) : Type 0 where
  pub utf8 : IsUtf8 f.0
  pub bytes : AreBytes f.0
  pub part : Part room f.1

-- fields, of which k are to come, and the context after them
pub record ReadsFields (room n k : ℕ) (fs : List (List ℕ × Tree)) (d : Context) : Type 0 where
  pub few : length fs + k ≤ max_pairs
  pub distinct : IsTrue (names_distinct fs)
  pub parts : All (NamedPart room) fs
  pub fine : Fine (n + field_nodes fs) d

fields_push : (fs : List (List ℕ × Tree)) (f : List ℕ × Tree) → field_nodes (fs ++ (f ∷ [])) ≡ field_nodes fs + (heavy f.0 + nodes f.1)
fields_push [] f = omega arith
fields_push (g ∷ fs) f = omega (arith, fields_push fs f)

pub fields_from : {room : ℕ} {part : Grammar Tree} → PartFrom part room → (k n : ℕ) (before : List (List ℕ × Tree)) (c : Context) → ReadsFields room n k before c → From (fields part before k) c (ReadsFields room n 0)
fields_from p zero n before c h = gives_from h
fields_from {room = room} p (suc k) n before c h = here_then (after (name_from h.fine) (λ s d i. must_then (λ m. after (p (n + field_nodes before + heavy s) d i.1) (λ v e j.
    fields_from p k n (before ++ ((s, v) ∷ [])) e (record {
      few = omega (arith, h.few, length-append before ((s, v) ∷ []));
      distinct = names_distinct-push before (s, v) h.distinct (not_true (has_name s before) m);
      parts = All-push (NamedPart room) before (s, v) h.parts (record { utf8 = symbol_utf8 i.0; bytes = i.0.bytes; part = j.part });
      fine = state_fewer (omega (arith, fields_push before (s, v))) j.fine;
    })))))

pub no_fields : {room n k : ℕ} {c : Context} → k ≤ max_pairs → Fine n c → ReadsFields room n k [] c
no_fields {room = room} h f = record { few = omega (arith, h); distinct = refl; parts = All-nil (NamedPart room); fine = state_fewer (omega arith) f }

pub kept_fields : {room n k : ℕ} {fs : List (List ℕ × Tree)} {d : Context} → ReadsFields room n k fs d → FieldsKept fs
kept_fields {room = room} {fs = fs} h = (All-weaker (NamedPart room) (λ f. IsUtf8 f.0) (λ f e. e.utf8) fs h.parts, h.distinct)

pub field_bytes : {room n k : ℕ} {fs : List (List ℕ × Tree)} {d : Context} → ReadsFields room n k fs d → All (λ f. AreBytes f.0) fs
field_bytes {room = room} {fs = fs} h = All-weaker (NamedPart room) (λ f. AreBytes f.0) (λ f e. e.bytes) fs h.parts

pub field_parts : {room n k : ℕ} {fs : List (List ℕ × Tree)} {d : Context} → ReadsFields room n k fs d → All (FieldHas (Part room)) fs
field_parts {room = room} {fs = fs} h = All-weaker (NamedPart room) (FieldHas (Part room)) (λ f e. e.part) fs h.parts

pub object_from : {room n at : ℕ} {part : Grammar Tree} {c : Context} → PartFrom part room → Fine n c → From (fields_value (λ s fs. roll-Tree (Tree-F.Object s fs)) part at) c (Reads (suc room) n)
object_from {n = n} p h = after (name_from h) (λ s d i. after pair_count_from (λ k e j. after nodes_from (λ x f q. after (begins_from (state_counted q (state_same j.1 i.1))) (λ o g y. after (fields_from p k (n + heavy s + 1) [] g (no_fields j.0 y)) (λ fs z r.
    ends_from (reads_of {k = 1 + heavy s + field_nodes fs} (Tree-F.Object s fs) (omega (arith, r.few)) (symbol_utf8 i.0, kept_fields r) (i.0.bytes, field_bytes r) (field_parts r) (omega arith) (state_fewer (omega arith) r.fine)))))))

pub struct_from : {room n at : ℕ} {part : Grammar Tree} {c : Context} → PartFrom part room → Fine n c → From (fields_value (λ s fs. roll-Tree (Tree-F.Struct s fs)) part at) c (Reads (suc room) n)
struct_from {n = n} p h = after (name_from h) (λ s d i. after pair_count_from (λ k e j. after nodes_from (λ x f q. after (begins_from (state_counted q (state_same j.1 i.1))) (λ o g y. after (fields_from p k (n + heavy s + 1) [] g (no_fields j.0 y)) (λ fs z r.
    ends_from (reads_of {k = 1 + heavy s + field_nodes fs} (Tree-F.Struct s fs) (omega (arith, r.few)) (symbol_utf8 i.0, kept_fields r) (i.0.bytes, field_bytes r) (field_parts r) (omega arith) (state_fewer (omega arith) r.fine)))))))

pub class_from : {room n at : ℕ} {c : Context} → Fine n c → From (named_value (λ s. roll-Tree (Tree-F.Class s)) at) c (Reads (suc room) n)
class_from h = after string_from (λ s d k. must_then (λ m. after nodes_from (λ x e q. whole_from (reads_of (Tree-F.Class s) m (IsUtf8-from_ascii s (ascii_bytes s m)) k.0 tt (omega arith) (state_counted q (state_same k.1 h))))))

pub module_from : {room n at : ℕ} {c : Context} → Fine n c → From (named_value (λ s. roll-Tree (Tree-F.Module s)) at) c (Reads (suc room) n)
module_from h = after string_from (λ s d k. must_then (λ m. after nodes_from (λ x e q. whole_from (reads_of (Tree-F.Module s) m (IsUtf8-from_ascii s (ascii_bytes s m)) k.0 tt (omega arith) (state_counted q (state_same k.1 h))))))

pub wrapped_from : {room n at : ℕ} {part : Grammar Tree} {c : Context} → PartFrom part room → Fine n c → From (wrapped_value part at) c (Reads (suc room) n)
wrapped_from {n = n} p h = after (name_from h) (λ s d i. after nodes_from (λ x e q. after (begins_from (state_counted q i.1)) (λ k f j. after (p (n + heavy s + 1) f j) (λ v g r.
    ends_from (reads_of {k = 1 + heavy s + nodes v} (Tree-F.Wrapped s v) tt (symbol_utf8 i.0) i.0.bytes r.part (omega arith) (state_fewer (omega arith) r.fine))))))
