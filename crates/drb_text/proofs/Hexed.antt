-- A dump in hexadecimal digits is read as it is shown.
use Rattle.std.proofs.Common.{ℕ, zero, suc, ◌≡◌, ◌<◌, ◌≤◌, ◌+◌, ◌/◌, ◌%◌, Bool, true, false, List, [], ◌∷◌, ◌++◌, All, length, take, drop, slice_index, Some, refl, sym, ap, ◌∙◌, arith}
use Rattle.std.proofs.Math.Seq.{take-append_seam, drop-append_seam}
use Rattle.std.specs.Prelude.{Ok}
use Rattle.std.specs.List.{prefix_len}
use Rattle.std.proofs.lemmas.Bool.{agree_below_at}
use Rattle.std.proofs.lemmas.List.{append-nil}
use Rattle.std.proofs.lemmas.List.Elements.{All-head, All-tail}
use Rattle.hex.specs.Hex.{encode_with, encode_lower, lower_digits, decode_of, IsBytes}
use Rattle.hex.proofs.HexLemmas.{decode_of-encode_lower}
use Rattle.drb_tree.specs.declared.Tree.{Tree}
use Rattle.drb_tree.specs.Kept.{AreBytes, WellKept, Ranged, Fits}
use Rattle.marshal_grammar.specs.Dumps.{dump_of}
use Rattle.marshal_grammar.specs.Spelled.{spelled}
use Rattle.marshal_grammar.proofs.RoundTrip.{spelled_dumps}
use Rattle.marshal_grammar.proofs.Answering.{any_rest}
use Rattle.drb_text.specs.Bytes.{is_hex}
use Rattle.drb_text.specs.Texts.{dump, dump_in, whole_dump, plain}
use Rattle.drb_text.proofs.Ends.{Ends, by_end}
use Rattle.drb_text.proofs.Hexes.{dump_some}
use Rattle.drb_text.proofs.SpelledBytes.{spelled_are}

-- each of the sixteen digits is one
digit_at : (w : ℕ) → w < 16 → is_hex (slice_index lower_digits w) ≡ true
digit_at w l = agree_below_at (λ v. is_hex (slice_index lower_digits v)) (λ v. true) 16 w refl l

no_hex : (rest : List ℕ) → Ends rest → prefix_len is_hex rest ≡ 0
no_hex = by_end (λ rest. prefix_len is_hex rest ≡ 0) refl (λ bs. refl) (λ bs. refl)

hex_run : (xs rest : List ℕ) → AreBytes xs → Ends rest → prefix_len is_hex (encode_lower xs ++ rest) ≡ length (encode_lower xs)
unfolding encode_with
hex_run [] rest h e = no_hex rest e
hex_run (b ∷ bs) rest h e =
    let l = All-head (λ b. b < 256) b bs h in
    let u = digit_at (b / 16) (omega (arith, l)) in
    let v = digit_at (b % 16) (omega arith) in
    rw (u, v) (omega (arith, hex_run bs rest (All-tail (λ b. b < 256) b bs h) e))

are_bytes : (xs : List ℕ) → AreBytes xs → IsBytes xs
are_bytes [] h i = omega arith
are_bytes (b ∷ bs) h zero = All-head (λ b. b < 256) b bs h
are_bytes (b ∷ bs) h (suc i) = are_bytes bs (All-tail (λ b. b < 256) b bs h) i

spelled_whole : (v : Tree) → WellKept v → Ranged v → Fits v → whole_dump (dump_of (spelled v)) ≡ Some v
spelled_whole v k r f =
    let a = any_rest (spelled v) [] v (spelled_dumps v k r f) in
    ap whole_dump (ap dump_of (sym (append-nil (spelled v))) ∙ a.1)

spelled_in : (v : Tree) → WellKept v → Ranged v → Fits v → dump_in (decode_of (encode_lower (spelled v))) ≡ Some v
spelled_in v k r f = ap dump_in (decode_of-encode_lower (spelled v) (are_bytes (spelled v) (spelled_are v r))) ∙ spelled_whole v k r f

dump_reads : (v : Tree) (rest : List ℕ) → WellKept v → Ranged v → Fits v → Ends rest → dump (35 ∷ (encode_lower (spelled v) ++ rest)) ≡ Ok (v, rest)
dump_reads v rest k r f e =
    let d = encode_lower (spelled v) in
    dump_some (35 ∷ (d ++ rest)) (d ++ rest) d rest (length d) v refl (sym (hex_run (spelled v) rest (spelled_are v r) e)) (sym (take-append_seam d rest)) (sym (drop-append_seam d rest)) (spelled_in v k r f)

pub plain_dump : (v : Tree) (rest : List ℕ) → WellKept v → Ranged v → Fits v → Ends rest → plain ((35 ∷ encode_lower (spelled v)) ++ rest) ≡ Ok (v, rest)
unfolding plain
plain_dump v rest k r f e = dump_reads v rest k r f e
