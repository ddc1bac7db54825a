-- The values of packets that stand one after the other.
use Rattle.std.proofs.Common.{◌≡◌, ℕ, zero, suc, ◌+◌, ◌≤◌, ◌<◌, List, [], ◌∷◌, ◌++◌, length, length-append, All, refl, sym, ◌∙◌, ap, append_assoc, arith, take, drop, ◌-◌}
use Rattle.std.specs.Prelude.{Option, Some, None, Ok, Err}
use Rattle.std.proofs.lemmas.List.Elements.{All-head, All-tail}
use Rattle.drb_tree.specs.declared.Tree.{Tree}
use Rattle.drb_tree.specs.Kept.{WellKept, Ranged, Fits}
use Rattle.marshal_grammar.specs.Reading.{Read}
use Rattle.marshal_grammar.specs.Dumps.{dump_of}
use Rattle.marshal_grammar.specs.Spelled.{spelled}
use Rattle.marshal_grammar.specs.Dumps.{Dump, Refuses}
use Rattle.marshal_grammar.specs.declared.refusal.Refusal.{Refusal}
use Rattle.marshal_grammar.proofs.Answering.{any_rest, reads_dumps, reads_refusals}
use Rattle.std.proofs.lemmas.Grind.{common_steps}
use Rattle.std.proofs.lemmas.List.{take-append-drop}
use Rattle.marshal_grammar.proofs.RoundTrip.{reads_spelled}
use Rattle.drb_packet.specs.Texts.{packet_text, packets_text}
use Rattle.rinda_journal.specs.Streams.{dump_then, packet_then, more_by, stream_in, stream}

abbrev behind : Option (Tree × List ℕ) → List ℕ
behind None = []
behind (Some r) = r.1

-- a dump leaves no more bytes than there were
dump_shorter : (r : Read Tree) (bytes rest : List ℕ) (v : Tree) → dump_of bytes ≡ r → dump_then r ≡ Some (v, rest) → length rest ≤ length bytes
dump_shorter (Ok p) bytes rest v e h =
    let b = (reads_dumps bytes p.2 p.0 p.1).0 e in
    let s : p.2 ≡ rest = ap behind h in
    let l : length bytes ≡ length b.0 + length p.2 = ap length b.2 ∙ length-append b.0 p.2 in
    let k : length p.2 ≡ length rest = ap length s in
    omega (arith, l, k)
dump_shorter (Err f) bytes rest v e h = absurd (cc h)

-- a packet leaves fewer
packet_shorter : (bytes rest : List ℕ) (v : Tree) → packet_then bytes ≡ Some (v, rest) → length rest < length bytes
packet_shorter [] rest v h = absurd (cc h)
packet_shorter (a ∷ []) rest v h = absurd (cc h)
packet_shorter (a ∷ b ∷ []) rest v h = absurd (cc h)
packet_shorter (a ∷ b ∷ c ∷ []) rest v h = absurd (cc h)
packet_shorter (a ∷ b ∷ c ∷ d ∷ bytes) rest v h =
    let k : length rest ≤ length bytes = dump_shorter (dump_of bytes) bytes rest v refl h in
    omega (arith, k)

same_by : (f g : List ℕ → List Tree) (o : Option (Tree × List ℕ)) → ((v : Tree) (rest : List ℕ) → o ≡ Some (v, rest) → f rest ≡ g rest) → more_by f o ≡ more_by g o
same_by f g None h = refl
same_by f g (Some r) h = ap (λ (ts : List Tree). r.0 ∷ ts) (h r.0 r.1 refl)

-- as many as there are bytes are enough
enough : (n m : ℕ) (bytes : List ℕ) → length bytes ≤ n → length bytes ≤ m → stream_in n bytes ≡ stream_in m bytes
enough zero zero bytes h k = refl
enough zero (suc m) [] h k = refl
enough zero (suc m) (b ∷ bytes) h k = absurd (omega arith)
enough (suc n) zero [] h k = refl
enough (suc n) zero (b ∷ bytes) h k = absurd (omega arith)
enough (suc n) (suc m) bytes h k = same_by (stream_in n) (stream_in m) (packet_then bytes)
    (λ v rest e. let lt : length rest < length bytes = packet_shorter bytes rest v e in enough n m rest (omega (arith, lt, h)) (omega (arith, lt, k)))

-- the values of bytes, by the packet at their front
stream_first : (bytes : List ℕ) → stream bytes ≡ more_by stream (packet_then bytes)
unfolding stream
stream_first bytes =
    let le : length bytes ≤ suc (length bytes) = omega arith in
    enough (length bytes) (suc (length bytes)) bytes (omega arith) le
    ∙ same_by (stream_in (length bytes)) (λ rest. stream_in (length rest) rest) (packet_then bytes)
    (λ v rest e. let lt : length rest < length bytes = packet_shorter bytes rest v e in enough (length bytes) (length rest) rest (omega (arith, lt)) (omega arith))

pub stream_some : (bytes rest : List ℕ) (v : Tree) → packet_then bytes ≡ Some (v, rest) → stream bytes ≡ v ∷ stream rest
stream_some bytes rest v e = stream_first bytes ∙ ap (λ (o : Option (Tree × List ℕ)). more_by stream o) e

pub stream_none : (bytes : List ℕ) → packet_then bytes ≡ None → stream bytes ≡ []
stream_none bytes e = stream_first bytes ∙ ap (λ (o : Option (Tree × List ℕ)). more_by stream o) e

-- a packet that was written is read again
packet_again : (v : Tree) (rest : List ℕ) → Fits v → WellKept v × Ranged v → packet_then (packet_text (spelled v) ++ rest) ≡ Some (v, rest)
packet_again v rest p k =
    let d = any_rest (spelled v) rest v (reads_spelled v k.0 k.1 p).0 in
    ap (λ (r : Read Tree). dump_then r) d.1

pub stream_again : (vs : List Tree) (rest : List ℕ) → All Fits vs → All (λ v. WellKept v × Ranged v) vs → stream (packets_text vs ++ rest) ≡ vs ++ stream rest
stream_again [] rest p k = refl
stream_again (v ∷ vs) rest p k =
    let Sound : Tree → Type 0 = λ w. WellKept w × Ranged w in
    ap stream (append_assoc (packet_text (spelled v)) (packets_text vs) rest)
    ∙ stream_some (packet_text (spelled v) ++ (packets_text vs ++ rest)) (packets_text vs ++ rest) v (packet_again v (packets_text vs ++ rest) (All-head Fits v vs p) (All-head Sound v vs k))
    ∙ ap (λ (ts : List Tree). v ∷ ts) (stream_again vs rest (All-tail Fits v vs p) (All-tail Sound v vs k))

rest_is : (bytes : List ℕ) (n : ℕ) → take (length bytes - n) (drop n bytes) ≡ drop n bytes
rest_is bytes n = grind (arith, common_steps)

-- what the reader of dumps found at the front
pub dump_found : (bytes : List ℕ) (n : ℕ) (v : Tree) → Dump (take n bytes) v → dump_then (dump_of bytes) ≡ Some (v, take (length bytes - n) (drop n bytes))
dump_found bytes n v d =
    let a = any_rest (take n bytes) (drop n bytes) v d in
    ap (λ (bs : List ℕ). dump_then (dump_of bs)) (sym (take-append-drop n bytes))
    ∙ ap (λ (r : Read Tree). dump_then r) a.1
    ∙ ap (λ (bs : List ℕ). Some (v, bs)) (sym (rest_is bytes n))

pub dump_refused : (bytes : List ℕ) (f : Refusal) → Refuses bytes f.why f.at → dump_then (dump_of bytes) ≡ None
dump_refused bytes f h = ap (λ (r : Read Tree). dump_then r) ((reads_refusals bytes f).1 h)
