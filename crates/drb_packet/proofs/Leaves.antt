-- A size and a body, from what was filled.
use Rattle.std.proofs.Common.{◌≡◌, ℕ, ◌<◌, ◌≤◌, List, [], ◌∷◌, ◌++◌, length, take, drop, nat_lt, Bool, true, false, refl, sym, ◌∙◌, ap, subst, arith}
use Rattle.std.proofs.lemmas.Grind.{common_steps}
use Rattle.std.proofs.lemmas.Bool.Decides.{nat_tests}
use Rattle.std.proofs.lemmas.List.{append-nil, take-append-drop}
use Rattle.std.specs.Prelude.{Ok, Err}
use Rattle.std.specs.declared.option.Option.{Option}
use Rattle.std.specs.declared.result.Result.{Result}
use Rattle.byteorder.specs.Endian.{big_number}
use Rattle.drb_tree.specs.declared.Tree.{Tree}
use Rattle.drb_outside.specs.Records.{Record}
use Rattle.drb_outside.specs.Changes.{ChangesBytes}
use Rattle.drb_outside.specs.Telling.{changes_as}
use Rattle.marshal_grammar.specs.declared.refusal.Refusal.{Refusal}
use Rattle.marshal_grammar.specs.Dumps.{dump_of, Refuses}
use Rattle.marshal_grammar.proofs.Answering.{any_rest, reads_refusals}
use Rattle.marshal_read.specs.Dumps.{DumpOf}
use Rattle.drb_packet.specs.declared.refusal.PacketRefusal.TheVariants.{PrematureHeader, TooLarge, PrematureBody, Marshal}
use Rattle.drb_packet.specs.declared.refusal.PacketError.{PacketError}
use Rattle.drb_packet.specs.declared.refusal.PacketError.TheVariants as fault
use Rattle.drb_packet.specs.declared.stop.Stop.{Stop}
use Rattle.drb_packet.specs.declared.stop.Stop.TheVariants as stop
use Rattle.drb_packet.specs.Stops.{stop_of}
use Rattle.drb_packet.specs.Parsers.{holds, ended, refused, is_open}
use Rattle.drb_packet.specs.Packets.{small, size, packet_body, dumped, loaded, packet}
use Rattle.drb_packet.specs.Reads.{Takes, Parses, Judges, Moves, Fills}
use Rattle.drb_packet.proofs.Steps.{changes_then, changes_stop, changes_judged}

-- what was filled, from nothing, stands in front of what is left
front_of : (o out x y : List ℕ) → o ≡ [] → Moves o out x y → x ≡ out ++ y
front_of o out x y e m = m.front ∙ ap (λ t. t ++ y) (sym (m.added ∙ ap (λ q. q ++ m.taken) e))

-- all that was there was filled, where nothing is left
all_of : (out x y : List ℕ) → x ≡ out ++ y → y ≡ [] → x ≡ out
all_of out x y e n = e ∙ ap (λ t. out ++ t) n ∙ append-nil out

-- A size.

size_whole : (load : ℕ) (h more : List ℕ) → length h ≡ 4 → size load (h ++ more) ≡ small load (big_number 4 h) more
size_whole load [] more e = absurd (omega arith)
size_whole load (a ∷ []) more e = absurd (omega arith)
size_whole load (a ∷ b ∷ []) more e = absurd (omega arith)
size_whole load (a ∷ b ∷ c ∷ []) more e = absurd (omega arith)
size_whole load (a ∷ b ∷ c ∷ d ∷ []) more e = refl
size_whole load (a ∷ b ∷ c ∷ d ∷ x ∷ xs) more e = absurd (omega arith)

size_short : (load : ℕ) (h : List ℕ) → (h ≡ [] → ⊥) → length h < 4 → size load h ≡ refused PrematureHeader []
size_short load [] some e = absurd (some refl)
size_short load (a ∷ []) some e = refl
size_short load (a ∷ b ∷ []) some e = refl
size_short load (a ∷ b ∷ c ∷ []) some e = refl
size_short load (a ∷ b ∷ c ∷ d ∷ xs) some e = absurd (omega arith)

size_open : (load : ℕ) (h : List ℕ) → length h < 4 → is_open (size load h) ≡ true
size_open load [] e = refl
size_open load (a ∷ []) e = refl
size_open load (a ∷ b ∷ []) e = refl
size_open load (a ∷ b ∷ c ∷ []) e = refl
size_open load (a ∷ b ∷ c ∷ d ∷ xs) e = absurd (omega arith)

small_here : (load n : ℕ) (rest : List ℕ) → n < load → small load n rest ≡ holds n rest
small_here load n rest e =
    let t : nat_lt n load ≡ true = grind (arith, nat_tests) in
    rw t refl

small_not : (load n : ℕ) (rest : List ℕ) → load ≤ n → small load n rest ≡ refused (TooLarge n) rest
small_not load n rest e =
    let t : nat_lt n load ≡ false = grind (arith, nat_tests) in
    rw t refl

takes_size : (load n : ℕ) (o out x y : List ℕ) → o ≡ [] → n ≡ big_number 4 out → n < load → Fills 4 (Ok true) o out x y → Takes (size load) n x y
takes_size load n o out x y e is lt f = (out, front_of o out x y e f.moves, λ more. size_whole load out more f.filled ∙ ap (λ k. small load k more) (sym is) ∙ small_here load n more lt)

pub changes_size : {X : Type 0} {t : X → Option (List ℕ)} {k : X → List Record} {h f : X → ℕ} {a b : X} (load n : ℕ) (o out : List ℕ) (r : Result Bool PacketError) → o ≡ [] → r ≡ Ok true → n ≡ big_number 4 out → n < load → ChangesBytes t k h f a b (Fills 4 r o out) → ChangesBytes t k h f a b (Parses (size load) (Ok n))
changes_size load n o out r e is sized lt s = changes_as (Fills 4 r o out) (Parses (size load) (Ok n)) (λ x y w. takes_size load n o out x y e sized lt (subst (λ (r : Result Bool PacketError). Fills 4 r o out x y) is w)) s

large_size : (load n : ℕ) (o out x y : List ℕ) → o ≡ [] → n ≡ big_number 4 out → load ≤ n → Fills 4 (Ok true) o out x y → size load x ≡ refused (TooLarge n) y
large_size load n o out x y e is le f = ap (λ q. size load q) (front_of o out x y e f.moves) ∙ size_whole load out y f.filled ∙ ap (λ k. small load k y) (sym is) ∙ small_not load n y le

pub changes_large : {X : Type 0} {t : X → Option (List ℕ)} {k : X → List Record} {h f : X → ℕ} {a b : X} (load n : ℕ) (o out : List ℕ) (r : Result Bool PacketError) → o ≡ [] → r ≡ Ok true → n ≡ big_number 4 out → load ≤ n → ChangesBytes t k h f a b (Fills 4 r o out) → ChangesBytes t k h f a b (Parses (size load) (Err (stop.Refused (TooLarge n))))
changes_large load n o out r e is sized le s = changes_as (Fills 4 r o out) (Parses (size load) (Err (stop.Refused (TooLarge n)))) (λ x y w. large_size load n o out x y e sized le (subst (λ (r : Result Bool PacketError). Fills 4 r o out x y) is w)) s

no_size : (load : ℕ) (o out x y : List ℕ) → o ≡ [] → out ≡ [] → Fills 4 (Ok false) o out x y → (size load x ≡ ended) × (y ≡ [])
no_size load o out x y e none f = (ap (λ q. size load q) (all_of out x y (front_of o out x y e f.moves) f.filled.1 ∙ none), f.filled.1)

pub changes_no_size : {X : Type 0} {t : X → Option (List ℕ)} {k : X → List Record} {h f : X → ℕ} {a b : X} (load : ℕ) (o out : List ℕ) (r : Result Bool PacketError) → o ≡ [] → r ≡ Ok false → out ≡ [] → ChangesBytes t k h f a b (Fills 4 r o out) → ChangesBytes t k h f a b (Parses (size load) (Err stop.End))
changes_no_size load o out r e is none s = changes_as (Fills 4 r o out) (Parses (size load) (Err stop.End)) (λ x y w. no_size load o out x y e none (subst (λ (r : Result Bool PacketError). Fills 4 r o out x y) is w)) s

short_size : (load : ℕ) (o out x y : List ℕ) → o ≡ [] → (out ≡ [] → ⊥) → Fills 4 (Ok false) o out x y → size load x ≡ refused PrematureHeader y
short_size load o out x y e some f = ap (λ q. size load q) (all_of out x y (front_of o out x y e f.moves) f.filled.1) ∙ size_short load out some f.filled.0 ∙ ap (λ q. refused PrematureHeader q) (sym f.filled.1)

pub changes_short_size : {X : Type 0} {t : X → Option (List ℕ)} {k : X → List Record} {h f : X → ℕ} {a b : X} (load : ℕ) (o out : List ℕ) (r : Result Bool PacketError) → o ≡ [] → r ≡ Ok false → (out ≡ [] → ⊥) → ChangesBytes t k h f a b (Fills 4 r o out) → ChangesBytes t k h f a b (Parses (size load) (Err (stop.Refused PrematureHeader)))
changes_short_size load o out r e is some s = changes_as (Fills 4 r o out) (Parses (size load) (Err (stop.Refused PrematureHeader))) (λ x y w. short_size load o out x y e some (subst (λ (r : Result Bool PacketError). Fills 4 r o out x y) is w)) s

fault_size : (load : ℕ) (o out x y : List ℕ) (e : PacketError) → o ≡ [] → Fills 4 (Err e) o out x y → Parses (size load) (Err (stop_of e)) x y
fault_size load o out x y fault.ReadFault n f = (out, front_of o out x y n f.moves, size_open load out f.filled)
fault_size load o out x y fault.Memory n f = (out, front_of o out x y n f.moves)

pub changes_fault_size : {X : Type 0} {t : X → Option (List ℕ)} {k : X → List Record} {h f : X → ℕ} {a b : X} (load : ℕ) (o out : List ℕ) (r : Result Bool PacketError) (e : PacketError) → o ≡ [] → r ≡ Err e → ChangesBytes t k h f a b (Fills 4 r o out) → ChangesBytes t k h f a b (Parses (size load) (Err (stop_of e)))
changes_fault_size load o out r e n is s = changes_as (Fills 4 r o out) (Parses (size load) (Err (stop_of e))) (λ x y w. fault_size load o out x y e n (subst (λ (r : Result Bool PacketError). Fills 4 r o out x y) is w)) s

-- A body.

taken_front : (n : ℕ) (b more : List ℕ) → length b ≡ n → (take n (b ++ more) ≡ b) × (drop n (b ++ more) ≡ more)
taken_front n b more e = (grind (arith, common_steps), grind (arith, common_steps))

pub body_whole : (n : ℕ) (b more : List ℕ) → length b ≡ n → packet_body n (b ++ more) ≡ holds b more
body_whole n b more e =
    let t : nat_lt (length (b ++ more)) n ≡ false = grind (arith, common_steps, nat_tests) in
    let f = taken_front n b more e in
    rw (t, f.0, f.1) refl

body_short : (n : ℕ) (b : List ℕ) → length b < n → packet_body n b ≡ refused PrematureBody []
body_short n b e =
    let t : nat_lt (length b) n ≡ true = grind (arith, nat_tests) in
    rw t refl

takes_body : (n : ℕ) (o out x y : List ℕ) → o ≡ [] → Fills n (Ok true) o out x y → Takes (packet_body n) out x y
takes_body n o out x y e f = (out, front_of o out x y e f.moves, λ more. body_whole n out more f.filled)

pub changes_body : {X : Type 0} {t : X → Option (List ℕ)} {k : X → List Record} {h f : X → ℕ} {a b : X} (n : ℕ) (q : Result Tree Stop) (o out : List ℕ) (r : Result Bool PacketError) → o ≡ [] → r ≡ Ok true → Judges (dumped (dump_of out)) q → ChangesBytes t k h f a b (Fills n r o out) → ChangesBytes t k h f a b (Parses (loaded n) q)
changes_body n q o out r e is j s =
    changes_judged (packet_body n) (λ b. dumped (dump_of b)) out q
    (changes_as (Fills n r o out) (Parses (packet_body n) (Ok out)) (λ x y w. takes_body n o out x y e (subst (λ (r : Result Bool PacketError). Fills n r o out x y) is w)) s) j

short_body : (n : ℕ) (o out x y : List ℕ) → o ≡ [] → Fills n (Ok false) o out x y → packet_body n x ≡ refused PrematureBody y
short_body n o out x y e f = ap (λ q. packet_body n q) (all_of out x y (front_of o out x y e f.moves) f.filled.1) ∙ body_short n out f.filled.0 ∙ ap (λ q. refused PrematureBody q) (sym f.filled.1)

pub changes_short_body : {X : Type 0} {t : X → Option (List ℕ)} {k : X → List Record} {h f : X → ℕ} {a b : X} (n : ℕ) (o out : List ℕ) (r : Result Bool PacketError) → o ≡ [] → r ≡ Ok false → ChangesBytes t k h f a b (Fills n r o out) → ChangesBytes t k h f a b (Parses (loaded n) (Err (stop.Refused PrematureBody)))
changes_short_body n o out r e is s =
    changes_stop (packet_body n) (λ b. dumped (dump_of b)) (stop.Refused PrematureBody)
    (changes_as (Fills n r o out) (Parses (packet_body n) (Err (stop.Refused PrematureBody))) (λ x y w. short_body n o out x y e (subst (λ (r : Result Bool PacketError). Fills n r o out x y) is w)) s)

fault_body : (n : ℕ) (o out x y : List ℕ) (e : PacketError) → o ≡ [] → Fills n (Err e) o out x y → Parses (packet_body n) (Err (stop_of e)) x y
fault_body n o out x y fault.ReadFault z f = (out, front_of o out x y z f.moves, ap is_open (body_short n out f.filled))
fault_body n o out x y fault.Memory z f = (out, front_of o out x y z f.moves)

pub changes_fault_body : {X : Type 0} {t : X → Option (List ℕ)} {k : X → List Record} {h f : X → ℕ} {a b : X} (n : ℕ) (o out : List ℕ) (r : Result Bool PacketError) (e : PacketError) → o ≡ [] → r ≡ Err e → ChangesBytes t k h f a b (Fills n r o out) → ChangesBytes t k h f a b (Parses (loaded n) (Err (stop_of e)))
changes_fault_body n o out r e z is s =
    changes_stop (packet_body n) (λ b. dumped (dump_of b)) (stop_of e)
    (changes_as (Fills n r o out) (Parses (packet_body n) (Err (stop_of e))) (λ x y w. fault_body n o out x y e z (subst (λ (r : Result Bool PacketError). Fills n r o out x y) is w)) s)

-- A dump in a body.

pub dumped_value : (bytes : List ℕ) (v : Tree) (n : ℕ) → DumpOf bytes v n → (rest : List ℕ) → dumped (dump_of bytes) rest ≡ holds v rest
dumped_value bytes v n h rest =
    let k = any_rest (take n bytes) (drop n bytes) v h.1 in
    ap (λ r. dumped r rest) (ap (λ q. dump_of q) (sym (take-append-drop n bytes)) ∙ k.1)

pub dumped_refusal : (bytes : List ℕ) (f : Refusal) → Refuses bytes f.why f.at → (rest : List ℕ) → dumped (dump_of bytes) rest ≡ refused (Marshal f) rest
dumped_refusal bytes f h rest = ap (λ r. dumped r rest) ((reads_refusals bytes f).1 h)

-- A packet.

pub packet_then : {X : Type 0} {t : X → Option (List ℕ)} {k : X → List Record} {h f : X → ℕ} {a b c : X} (load n : ℕ) (r : Result Tree Stop) → ChangesBytes t k h f a b (Parses (size load) (Ok n)) → ChangesBytes t k h f b c (Parses (loaded n) r) → ChangesBytes t k h f a c (Parses (packet load) r)
unfolding packet
packet_then load n r s u = changes_then (size load) loaded n r s u

pub packet_stop : {X : Type 0} {t : X → Option (List ℕ)} {k : X → List Record} {h f : X → ℕ} {a b : X} (load : ℕ) (e : Stop) → ChangesBytes t k h f a b (Parses (size load) (Err e)) → ChangesBytes t k h f a b (Parses (packet load) (Err e))
unfolding packet
packet_stop load e s = changes_stop (size load) loaded e s
