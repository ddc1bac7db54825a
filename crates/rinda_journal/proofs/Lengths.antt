-- What is written of a value that fits is no longer than a dump may be.
use Rattle.std.proofs.Common.{ℕ, zero, suc, ◌≡◌, ◌≤◌, ◌+◌, ◌-◌, ◌*◌, ◌/◌, ◌^◌, ◌==◌, Bool, true, false, List, [], ◌∷◌, ◌++◌, length, length-append, map, Option, Some, None, refl, sym, ap, subst, arith}
use Rattle.std.specs.Prelude.{ℤ, pos, negsuc, position, bytes_eq, nat_lt, if◌then◌else◌}
use Rattle.drb_tree.specs.declared.Code.{Code}
use Rattle.drb_tree.specs.declared.Code.TheVariants.{Binary, Ascii, Utf8}
use Rattle.drb_tree.specs.declared.RefId.{RefId}
use Rattle.drb_tree.specs.declared.RefId.TheVariants as R
use Rattle.drb_tree.specs.declared.Remote.{Remote}
use Rattle.drb_tree.specs.declared.Tree.{Tree}
use Rattle.drb_tree.specs.declared.Tree.TheViews.{roll-Tree}
use Rattle.drb_tree.specs.declared.Tree.TheOpen.{Tree-F}
use Rattle.drb_tree.specs.declared.Tree.TheFolds.{map-Tree, ind-Tree}
use Rattle.drb_tree.specs.Same.{all_ascii}
use Rattle.drb_tree.specs.Kept.{Fits, remote_class}
use Rattle.drb_tree.specs.Sizes.{heavy, total, total_pairs, total_fields, id_bytes, nodes, nodes_step}
use Rattle.drb_tree.proofs.Sizes.{nodes_roll}
use Rattle.marshal_grammar.specs.Spelled.{bytes_of, fewest, long_from, long_below, string_bytes_of, Writing, these, ◌then◌, new_symbol, linked_or, known_or, ascii_symbol, encoding_bytes, utf8_symbol, symbol_bytes, text_bytes, units, big_bytes, int_bytes, id_bytes_of, remote_bytes, each_value, each_pair, each_field, fields_bytes, dumped_bytes, writing_step, writing, spelled}
use Rattle.marshal_grammar.proofs.WrittenForms.{writing_roll}
use Rattle.marshal_write.specs.Limits.{max_dump}

-- Numbers.

lows_len : (k n : ℕ) → length (bytes_of k n) ≡ k
lows_len zero n = refl
lows_len (suc k) n = ap suc (lows_len k (n / 256))

few_by : (p q r : Bool) → (if p then 1 else if q then 2 else if r then 3 else 4) ≤ 4
few_by true q r = omega arith
few_by false true r = omega arith
few_by false false true = omega arith
few_by false false false = omega arith

few : (n : ℕ) → fewest n ≤ 4
few n = few_by (nat_lt n (256 ^ 1)) (nat_lt n (256 ^ 2)) (nat_lt n (256 ^ 3))

few_len : (k b n : ℕ) → k ≤ 4 → length (b ∷ bytes_of k n) ≤ 5
few_len k b n h = omega (arith, lows_len k n)

long_by : (p q : Bool) (n : ℕ) → length (if p then 0 ∷ [] else if q then (n + 5) ∷ [] else fewest n ∷ bytes_of (fewest n) n) ≤ 5
long_by true q n = omega arith
long_by false true n = omega arith
long_by false false n = few_len (fewest n) (fewest n) n (few n)

long_len : (n : ℕ) → length (long_from n) ≤ 5
long_len n = long_by (n == 0) (nat_lt n 123) n

below_by : (q : Bool) (m : ℕ) → length (if q then (250 - m) ∷ [] else (256 - fewest m) ∷ bytes_of (fewest m) (256 ^ fewest m - 1 - m)) ≤ 5
below_by true m = omega arith
below_by false m = few_len (fewest m) (256 - fewest m) (256 ^ fewest m - 1 - m) (few m)

below_len : (m : ℕ) → length (long_below m) ≤ 5
below_len m = below_by (nat_lt m 123) m

units_by : (b : Bool) (n k : ℕ) → n ≤ k → (if b then 0 else suc n) ≤ suc k
units_by true n k h = omega arith
units_by false n k h = omega arith

units_most : (k m : ℕ) → units k m ≤ k
units_most zero m = omega arith
units_most (suc k) m = units_by (m == 0) (units k (m / 65536)) k (units_most k (m / 65536))

big_len : (sign m : ℕ) → length (big_bytes sign m) ≤ 23
big_len sign m =
    let n : ℕ = units 8 m in
    let u : units 8 m ≤ 8 = units_most 8 m in
    let a : length (long_from n ++ bytes_of (2 * n) m) ≡ length (long_from n) + length (bytes_of (2 * n) m) = length-append (long_from n) (bytes_of (2 * n) m) in
    omega (arith, u, a, long_len n, lows_len (2 * n) m)

positive_by : (c : Bool) (n : ℕ) → length (if c then 105 ∷ long_from n else big_bytes 43 n) ≤ 23
positive_by true n = omega (arith, long_len n)
positive_by false n = big_len 43 n

negative_by : (c : Bool) (m : ℕ) → length (if c then 105 ∷ long_below m else big_bytes 45 (suc m)) ≤ 23
negative_by true m = omega (arith, below_len m)
negative_by false m = big_len 45 (suc m)

int_len : (i : ℤ) → length (int_bytes i) ≤ 23
int_len (pos n) = positive_by (nat_lt n (2 ^ 30)) n
int_len (negsuc m) = negative_by (nat_lt m (2 ^ 30)) m

string_len : (s : List ℕ) → length (string_bytes_of s) ≤ 5 + length s
string_len s = omega (arith, long_len (length s), length-append (long_from (length s)) s)

-- Writings.

-- at most so many bytes, whatever symbols were written before
record Writes (w : Writing) (n : ℕ) : Type 0 where
  pub each : (symbols : List (List ℕ)) → length (w symbols).0 ≤ n

these_len : (bs : List ℕ) (n : ℕ) → length bs ≤ n → Writes (these bs) n
these_len bs n h = record { each = λ symbols. h }

within : (w : Writing) (m n : ℕ) → m ≤ n → Writes w m → Writes w n
within w m n le h = record { each = λ symbols. omega (arith, le, h.each symbols) }

after : (u w : Writing) (m n : ℕ) → Writes u m → Writes w n → Writes (u then w) (m + n)
after u w m n h k = record {
  each = λ symbols. omega (arith, length-append (u symbols).0 (w (u symbols).1).0, h.each symbols, k.each (u symbols).1);
}

new_len : (s : List ℕ) → Writes (new_symbol s) 0
new_len s = record { each = λ symbols. omega arith }

linked : (w : Writing) (o : Option ℕ) (n : ℕ) → 6 ≤ n → Writes w n → Writes (linked_or w o) n
linked w None n le h = h
linked w (Some k) n le h = these_len (59 ∷ long_from k) n (omega (arith, long_len k))

known : (s : List ℕ) (w : Writing) (n : ℕ) → 6 ≤ n → Writes w n → Writes (known_or s w) n
known s w n le h = record { each = λ symbols. (linked w (position (λ t. bytes_eq t s) symbols) n le h).each symbols }

ascii_len : (s : List ℕ) → Writes (ascii_symbol s) (6 + length s)
ascii_len s =
    let w : Writing = these (58 ∷ string_bytes_of s) in
    known s (w then new_symbol s) (6 + length s) (omega arith)
    (within (w then new_symbol s) ((6 + length s) + 0) (6 + length s) (omega arith)
    (after w (new_symbol s) (6 + length s) 0 (these_len (58 ∷ string_bytes_of s) (6 + length s) (omega (arith, string_len s))) (new_len s)))

encoding_len : (b : ℕ) → Writes (encoding_bytes b) 9
encoding_len b =
    within (encoding_bytes b) (1 + (7 + 1)) 9 (omega arith)
    (after (these (6 ∷ [])) (ascii_symbol (69 ∷ []) then these (b ∷ [])) 1 (7 + 1) (these_len (6 ∷ []) 1 (omega arith))
    (after (ascii_symbol (69 ∷ [])) (these (b ∷ [])) 7 1 (ascii_len (69 ∷ [])) (these_len (b ∷ []) 1 (omega arith))))

utf8_len : (s : List ℕ) → Writes (utf8_symbol s) (16 + length s)
utf8_len s =
    let t : List ℕ = 73 ∷ 58 ∷ string_bytes_of s in
    let w : Writing = these t then new_symbol s then encoding_bytes 84 in
    known s w (16 + length s) (omega arith)
    (within w ((7 + length s) + (0 + 9)) (16 + length s) (omega arith)
    (after (these t) (new_symbol s then encoding_bytes 84) (7 + length s) (0 + 9) (these_len t (7 + length s) (omega (arith, string_len s)))
    (after (new_symbol s) (encoding_bytes 84) 0 9 (new_len s) (encoding_len 84))))

symbol_by : (c : Bool) (s : List ℕ) → Writes (if c then ascii_symbol s else utf8_symbol s) (16 + length s)
symbol_by true s = within (ascii_symbol s) (6 + length s) (16 + length s) (omega arith) (ascii_len s)
symbol_by false s = utf8_len s

symbol_len : (s : List ℕ) → Writes (symbol_bytes s) (16 + length s)
symbol_len s = symbol_by (all_ascii s) s

encoded_len : (s : List ℕ) (b : ℕ) → Writes (these (73 ∷ 34 ∷ string_bytes_of s) then encoding_bytes b) (16 + length s)
encoded_len s b =
    let t : List ℕ = 73 ∷ 34 ∷ string_bytes_of s in
    within (these t then encoding_bytes b) ((7 + length s) + 9) (16 + length s) (omega arith)
    (after (these t) (encoding_bytes b) (7 + length s) 9 (these_len t (7 + length s) (omega (arith, string_len s))) (encoding_len b))

text_len : (s : List ℕ) (c : Code) → Writes (text_bytes s c) (16 + length s)
text_len s Binary = these_len (34 ∷ string_bytes_of s) (16 + length s) (omega (arith, string_len s))
text_len s Ascii = encoded_len s 70
text_len s Utf8 = encoded_len s 84

id_len : (i : RefId) → Writes (id_bytes_of i) (23 + length (id_bytes i))
id_len R.Front = these_len (48 ∷ []) 23 (omega arith)
id_len (R.Number i) = these_len (int_bytes i) 23 (int_len i)
id_len (R.Text t) = within (text_bytes t.bytes t.code) (16 + length t.bytes) (23 + length t.bytes) (omega arith) (text_len t.bytes t.code)

remote_writes : (r : Remote) → Writes (these (4 ∷ 8 ∷ 91 ∷ 7 ∷ []) then text_bytes r.uri.bytes r.uri.code then id_bytes_of r.id) (4 + ((16 + length r.uri.bytes) + (23 + length (id_bytes r.id))))
remote_writes r =
    after (these (4 ∷ 8 ∷ 91 ∷ 7 ∷ [])) (text_bytes r.uri.bytes r.uri.code then id_bytes_of r.id) 4 ((16 + length r.uri.bytes) + (23 + length (id_bytes r.id)))
    (these_len (4 ∷ 8 ∷ 91 ∷ 7 ∷ []) 4 (omega arith))
    (after (text_bytes r.uri.bytes r.uri.code) (id_bytes_of r.id) (16 + length r.uri.bytes) (23 + length (id_bytes r.id)) (text_len r.uri.bytes r.uri.code) (id_len r.id))

remote_len : (r : Remote) → length (remote_bytes r) ≤ 43 + (length r.uri.bytes + length (id_bytes r.id))
remote_len r = omega (arith, (remote_writes r).each [])

-- Values.

-- a value that writes at most 400 bytes for each of its nodes
abbrev Good : Tree → Type 0
Good t = Writes (writing t) (400 * nodes t)

abbrev Such : Type 0
Such = (t : Tree) × Good t

abbrev tree_of : Such → Tree
tree_of y = y.0

abbrev pair_of : Such × Such → Tree × Tree
pair_of p = (p.0.0, p.1.0)

abbrev field_of : List ℕ × Such → List ℕ × Tree
field_of f = (f.0, f.1.0)

abbrev pair_writing : Tree × Tree → Writing × Writing
pair_writing p = (writing p.0, writing p.1)

abbrev field_writing : List ℕ × Tree → List ℕ × Writing
field_writing f = (f.0, writing f.1)

abbrev pair_nodes : Tree × Tree → ℕ × ℕ
pair_nodes p = (nodes p.0, nodes p.1)

abbrev field_nodes : List ℕ × Tree → List ℕ × ℕ
field_nodes f = (f.0, nodes f.1)

values_len : (ys : List Such) → Writes (each_value (map writing (map tree_of ys))) (400 * total (map nodes (map tree_of ys)))
values_len [] = these_len [] 0 (omega arith)
values_len (y ∷ ys) =
    let w : Writing = each_value (map writing (map tree_of ys)) in
    let n : ℕ = total (map nodes (map tree_of ys)) in
    within (writing y.0 then w) (400 * nodes y.0 + 400 * n) (400 * (nodes y.0 + n)) (omega arith) (after (writing y.0) w (400 * nodes y.0) (400 * n) y.1 (values_len ys))

pairs_len : (ys : List (Such × Such)) → Writes (each_pair (map pair_writing (map pair_of ys))) (400 * total_pairs (map pair_nodes (map pair_of ys)))
pairs_len [] = these_len [] 0 (omega arith)
pairs_len (y ∷ ys) =
    let w : Writing = each_pair (map pair_writing (map pair_of ys)) in
    let n : ℕ = total_pairs (map pair_nodes (map pair_of ys)) in
    within (writing y.0.0 then writing y.1.0 then w) (400 * nodes y.0.0 + (400 * nodes y.1.0 + 400 * n)) (400 * (nodes y.0.0 + nodes y.1.0 + n)) (omega arith)
    (after (writing y.0.0) (writing y.1.0 then w) (400 * nodes y.0.0) (400 * nodes y.1.0 + 400 * n) y.0.1 (after (writing y.1.0) w (400 * nodes y.1.0) (400 * n) y.1.1 (pairs_len ys)))

each_field_len : (ys : List (List ℕ × Such)) → Writes (each_field (map field_writing (map field_of ys))) (400 * total_fields (map field_nodes (map field_of ys)))
each_field_len [] = these_len [] 0 (omega arith)
each_field_len (y ∷ ys) =
    let w : Writing = each_field (map field_writing (map field_of ys)) in
    let n : ℕ = total_fields (map field_nodes (map field_of ys)) in
    within (symbol_bytes y.0 then writing y.1.0 then w) ((16 + length y.0) + (400 * nodes y.1.0 + 400 * n)) (400 * (heavy y.0 + nodes y.1.0 + n)) (omega arith)
    (after (symbol_bytes y.0) (writing y.1.0 then w) (16 + length y.0) (400 * nodes y.1.0 + 400 * n) (symbol_len y.0) (after (writing y.1.0) w (400 * nodes y.1.0) (400 * n) y.1.1 (each_field_len ys)))

fields_len : (ys : List (List ℕ × Such)) → Writes (fields_bytes (map field_writing (map field_of ys))) (5 + 400 * total_fields (map field_nodes (map field_of ys)))
fields_len ys =
    let ws = map field_writing (map field_of ys) in
    after (these (long_from (length ws))) (each_field ws) 5 (400 * total_fields (map field_nodes (map field_of ys))) (these_len (long_from (length ws)) 5 (long_len (length ws))) (each_field_len ys)

object_len : (mark : ℕ) (c : List ℕ) (ys : List (List ℕ × Such)) → Writes (these (mark ∷ []) then symbol_bytes c then fields_bytes (map field_writing (map field_of ys))) (400 * (1 + heavy c + total_fields (map field_nodes (map field_of ys))))
object_len mark c ys =
    let w : Writing = fields_bytes (map field_writing (map field_of ys)) in
    let n : ℕ = total_fields (map field_nodes (map field_of ys)) in
    within (these (mark ∷ []) then symbol_bytes c then w) (1 + ((16 + length c) + (5 + 400 * n))) (400 * (1 + heavy c + n)) (omega arith)
    (after (these (mark ∷ [])) (symbol_bytes c then w) 1 ((16 + length c) + (5 + 400 * n)) (these_len (mark ∷ []) 1 (omega arith)) (after (symbol_bytes c) w (16 + length c) (5 + 400 * n) (symbol_len c) (fields_len ys)))

dumped_len : (c bs : List ℕ) (ys : List (List ℕ × Such)) → Writes (dumped_bytes c bs (map field_writing (map field_of ys))) (400 * (heavy c + heavy bs + total_fields (map field_nodes (map field_of ys))))
dumped_len c bs [] =
    let t : Writing = these (string_bytes_of bs) in
    within (these (117 ∷ []) then symbol_bytes c then t) (1 + ((16 + length c) + (5 + length bs))) (400 * (heavy c + heavy bs + 0)) (omega arith)
    (after (these (117 ∷ [])) (symbol_bytes c then t) 1 ((16 + length c) + (5 + length bs)) (these_len (117 ∷ []) 1 (omega arith))
    (after (symbol_bytes c) t (16 + length c) (5 + length bs) (symbol_len c) (these_len (string_bytes_of bs) (5 + length bs) (string_len bs))))
dumped_len c bs (z ∷ zs) =
    let t : Writing = these (string_bytes_of bs) in
    let w : Writing = fields_bytes (map field_writing (map field_of (z ∷ zs))) in
    let n : ℕ = total_fields (map field_nodes (map field_of (z ∷ zs))) in
    within (these (73 ∷ 117 ∷ []) then symbol_bytes c then t then w) (2 + ((16 + length c) + ((5 + length bs) + (5 + 400 * n)))) (400 * (heavy c + heavy bs + n)) (omega arith)
    (after (these (73 ∷ 117 ∷ [])) (symbol_bytes c then t then w) 2 ((16 + length c) + ((5 + length bs) + (5 + 400 * n))) (these_len (73 ∷ 117 ∷ []) 2 (omega arith))
    (after (symbol_bytes c) (t then w) (16 + length c) ((5 + length bs) + (5 + 400 * n)) (symbol_len c)
    (after t w (5 + length bs) (5 + 400 * n) (these_len (string_bytes_of bs) (5 + length bs) (string_len bs)) (fields_len (z ∷ zs)))))

counted_len : (mark n : ℕ) (w : Writing) (m : ℕ) → Writes w m → Writes (these (mark ∷ long_from n) then w) (6 + m)
counted_len mark n w m h = after (these (mark ∷ long_from n)) w 6 m (these_len (mark ∷ long_from n) 6 (omega (arith, long_len n))) h

abbrev levels : Tree-F Such → Tree-F Tree
levels y = map-Tree Such Tree tree_of y

step_len : (y : Tree-F Such) → Writes (writing_step (map-Tree Tree Writing writing (levels y))) (400 * nodes_step (map-Tree Tree ℕ nodes (levels y)))
step_len Tree-F.Nil = these_len (48 ∷ []) 400 (omega arith)
step_len (Tree-F.Bool true) = these_len (84 ∷ []) 400 (omega arith)
step_len (Tree-F.Bool false) = these_len (70 ∷ []) 400 (omega arith)
step_len (Tree-F.Int i) = these_len (int_bytes i) 400 (omega (arith, int_len i))
step_len (Tree-F.Sym s) = within (symbol_bytes s) (16 + length s) (400 * heavy s) (omega arith) (symbol_len s)
step_len (Tree-F.Text t) = within (text_bytes t.bytes t.code) (16 + length t.bytes) (400 * heavy t.bytes) (omega arith) (text_len t.bytes t.code)
step_len (Tree-F.List ys) =
    let ws = map writing (map tree_of ys) in
    let n : ℕ = total (map nodes (map tree_of ys)) in
    within (these (91 ∷ long_from (length ws)) then each_value ws) (6 + 400 * n) (400 * (1 + n)) (omega arith) (counted_len 91 (length ws) (each_value ws) (400 * n) (values_len ys))
step_len (Tree-F.Hash qs None) =
    let ps = map pair_writing (map pair_of qs) in
    let n : ℕ = total_pairs (map pair_nodes (map pair_of qs)) in
    within (these (123 ∷ long_from (length ps)) then each_pair ps) (6 + 400 * n) (400 * (1 + n + 0)) (omega arith) (counted_len 123 (length ps) (each_pair ps) (400 * n) (pairs_len qs))
step_len (Tree-F.Hash qs (Some d)) =
    let ps = map pair_writing (map pair_of qs) in
    let n : ℕ = total_pairs (map pair_nodes (map pair_of qs)) in
    within (these (125 ∷ long_from (length ps)) then each_pair ps then writing d.0) (6 + (400 * n + 400 * nodes d.0)) (400 * (1 + n + nodes d.0)) (omega arith)
    (counted_len 125 (length ps) (each_pair ps then writing d.0) (400 * n + 400 * nodes d.0) (after (each_pair ps) (writing d.0) (400 * n) (400 * nodes d.0) (pairs_len qs) d.1))
step_len (Tree-F.Class n) = these_len (99 ∷ string_bytes_of n) (400 * heavy n) (omega (arith, string_len n))
step_len (Tree-F.Module n) = these_len (109 ∷ string_bytes_of n) (400 * heavy n) (omega (arith, string_len n))
step_len (Tree-F.Object c ys) = object_len 111 c ys
step_len (Tree-F.Struct c ys) = object_len 83 c ys
step_len (Tree-F.Dumped c bs ys) = dumped_len c bs ys
step_len (Tree-F.Wrapped c y) =
    within (these (85 ∷ []) then symbol_bytes c then writing y.0) (1 + ((16 + length c) + 400 * nodes y.0)) (400 * (1 + heavy c + nodes y.0)) (omega arith)
    (after (these (85 ∷ [])) (symbol_bytes c then writing y.0) 1 ((16 + length c) + 400 * nodes y.0) (these_len (85 ∷ []) 1 (omega arith))
    (after (symbol_bytes c) (writing y.0) (16 + length c) (400 * nodes y.0) (symbol_len c) y.1))
step_len (Tree-F.Remote r) =
    let n : ℕ = length r.uri.bytes + length (id_bytes r.id) in
    let t : Writing = these (string_bytes_of (remote_bytes r)) in
    within (these (117 ∷ []) then symbol_bytes remote_class then t) (1 + (30 + (48 + n))) (400 * (1 + (1 + n / 256))) (omega arith)
    (after (these (117 ∷ [])) (symbol_bytes remote_class then t) 1 (30 + (48 + n)) (these_len (117 ∷ []) 1 (omega arith))
    (after (symbol_bytes remote_class) t 30 (48 + n) (symbol_len remote_class) (these_len (string_bytes_of (remote_bytes r)) (48 + n) (omega (arith, string_len (remote_bytes r), remote_len r)))))

writing_len : (t : Tree) → Good t
writing_len = ind-Tree Good
    (λ x y is. subst (λ (z : Tree-F Tree). Good (roll-Tree z)) is
    (subst (λ (w : Writing). Writes w (400 * nodes (roll-Tree (levels y)))) (sym (writing_roll (levels y)))
    (subst (λ (n : ℕ). Writes (writing_step (map-Tree Tree Writing writing (levels y))) (400 * n)) (sym (nodes_roll (levels y))) (step_len y))))

-- of a value that fits
pub short_enough : (t : Tree) → Fits t → length (spelled t) ≤ max_dump
short_enough t h =
    let a : length (writing t []).0 ≤ 400 * nodes t = (writing_len t).each [] in
    let b : nodes t ≤ 262144 = h.0.1 in
    omega (arith, a, b)
