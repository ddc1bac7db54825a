-- A dump in hexadecimal digits.
use Rattle.std.proofs.Common.{ℕ, ◌≡◌, ◌<◌, ◌≤◌, List, [], ◌∷◌, length, take, drop, Option, Some, None, refl, sym, ap, ◌∙◌, arith}
use Rattle.std.proofs.lemmas.List.{take-append-drop, length-drop}
use Rattle.std.specs.Prelude.{Ok, Err}
use Rattle.std.specs.List.{prefix_len}
use Rattle.hex.specs.Hex.{decode_of}
use Rattle.drb_tree.specs.declared.Tree.{Tree}
use Rattle.marshal_grammar.specs.declared.refusal.Refusal.{Refusal}
use Rattle.marshal_grammar.specs.Contexts.{Context}
use Rattle.marshal_grammar.specs.Dumps.{dump_of, Refuses}
use Rattle.marshal_grammar.proofs.Answering.{any_rest, reads_refusals}
use Rattle.marshal_read.specs.Dumps.{DumpOf}
use Rattle.drb_text.specs.Bytes.{is_hex}
use Rattle.drb_text.specs.Texts.{dump, dump_in, dump_or, whole_dump}

dump_read : (bs : List ℕ) (v : Tree) (n : ℕ) → DumpOf bs v n → (d : Context) × (dump_of bs ≡ Ok (v, d, drop n bs))
dump_read bs v n h = let k = any_rest (take n bs) (drop n bs) v h.1 in (k.0, ap (λ q. dump_of q) (sym (take-append-drop n bs)) ∙ k.1)

some_at : (v : Tree) (d : Context) (rest : List ℕ) → length rest ≡ 0 → whole_dump (Ok (v, d, rest)) ≡ Some v
some_at v d [] e = refl
some_at v d (b ∷ bs) e = absurd (omega arith)

none_at : (v : Tree) (d : Context) (rest : List ℕ) → 0 < length rest → whole_dump (Ok (v, d, rest)) ≡ None
none_at v d [] e = absurd (omega arith)
none_at v d (b ∷ bs) e = refl

pub whole_some : (bs : List ℕ) (v : Tree) (n : ℕ) → DumpOf bs v n → length bs ≤ n → whole_dump (dump_of bs) ≡ Some v
whole_some bs v n h l = let k = dump_read bs v n h in ap whole_dump k.1 ∙ some_at v k.0 (drop n bs) (omega (arith, length-drop n bs))

pub whole_none : (bs : List ℕ) (v : Tree) (n : ℕ) → DumpOf bs v n → n < length bs → whole_dump (dump_of bs) ≡ None
whole_none bs v n h l = let k = dump_read bs v n h in ap whole_dump k.1 ∙ none_at v k.0 (drop n bs) (omega (arith, length-drop n bs))

pub whole_refused : (bs : List ℕ) (f : Refusal) → Refuses bs f.why f.at → whole_dump (dump_of bs) ≡ None
whole_refused bs f h = ap whole_dump ((reads_refusals bs f).1 h)

dump_is : (bs : List ℕ) (v : Option Tree) → dump_in (decode_of (take (prefix_len is_hex (drop 1 bs)) (drop 1 bs))) ≡ v → dump bs ≡ dump_or v (length bs) (drop (prefix_len is_hex (drop 1 bs)) (drop 1 bs))
unfolding dump
dump_is bs v h = ap (λ (o : Option Tree). dump_or o (length bs) (drop (prefix_len is_hex (drop 1 bs)) (drop 1 bs))) h

decoded_is : (rest digits : List ℕ) (n : ℕ) (v : Option Tree) → n ≡ prefix_len is_hex rest → digits ≡ take n rest → dump_in (decode_of digits) ≡ v → dump_in (decode_of (take (prefix_len is_hex rest) rest)) ≡ v
decoded_is rest digits n v e f h = ap (λ (k : ℕ). dump_in (decode_of (take k rest))) (sym e) ∙ ap (λ (x : List ℕ). dump_in (decode_of x)) (sym f) ∙ h

pub dump_some : (bs rest digits more : List ℕ) (n : ℕ) (v : Tree) → rest ≡ drop 1 bs → n ≡ prefix_len is_hex rest → digits ≡ take n rest → more ≡ drop n rest → dump_in (decode_of digits) ≡ Some v → dump bs ≡ Ok (v, more)
dump_some bs rest digits more n v r e f g h =
    dump_is bs (Some v) (ap (λ (x : List ℕ). dump_in (decode_of (take (prefix_len is_hex x) x))) (sym r) ∙ decoded_is rest digits n (Some v) e f h)
    ∙ ap (λ (x : List ℕ). Ok (v, x)) (ap (λ (x : List ℕ). drop (prefix_len is_hex x) x) (sym r) ∙ ap (λ (k : ℕ). drop k rest) (sym e) ∙ sym g)

pub dump_none : (bs rest digits : List ℕ) (n : ℕ) → rest ≡ drop 1 bs → n ≡ prefix_len is_hex rest → digits ≡ take n rest → dump_in (decode_of digits) ≡ None → dump bs ≡ Err (length bs)
dump_none bs rest digits n r e f h =
    dump_is bs None (ap (λ (x : List ℕ). dump_in (decode_of (take (prefix_len is_hex x) x))) (sym r) ∙ decoded_is rest digits n None e f h)
