-- What is written of a value are bytes.
use Rattle.std.proofs.Common.{ℕ, zero, suc, ◌≡◌, ◌<◌, ◌≤◌, ◌+◌, ◌-◌, ◌*◌, ◌/◌, ◌%◌, ◌^◌, ◌==◌, Bool, true, false, List, [], ◌∷◌, ◌++◌, All, length, map, Option, Some, None, refl, sym, ap, ◌∙◌, subst, arith}
use Rattle.std.specs.Prelude.{ℤ, pos, negsuc, position, bytes_eq, nat_lt, codes, if◌then◌else◌}
use Rattle.std.specs.List.{list_all}
use Rattle.std.proofs.lemmas.Bool.{and_parts, ltb-true}
use Rattle.std.proofs.lemmas.List.Elements.{All-nil, All-cons, All-head, All-tail, All-append}
use Rattle.drb_tree.specs.declared.Code.{Code}
use Rattle.drb_tree.specs.declared.Code.TheVariants.{Binary, Ascii, Utf8}
use Rattle.drb_tree.specs.declared.RefId.{RefId}
use Rattle.drb_tree.specs.declared.RefId.TheVariants as R
use Rattle.drb_tree.specs.declared.Remote.{Remote}
use Rattle.drb_tree.specs.declared.Tree.{Tree}
use Rattle.drb_tree.specs.declared.Tree.TheViews.{roll-Tree}
use Rattle.drb_tree.specs.declared.Tree.TheOpen.{Tree-F}
use Rattle.drb_tree.specs.declared.Tree.TheFolds.{map-Tree, ind-Tree}
use Rattle.drb_tree.specs.Same.{all_ascii}
use Rattle.drb_tree.specs.Kept.{AreBytes, InRange, IdInRange, Ranged, remote_class}
use Rattle.drb_tree.proofs.Everywhere.{BothHave, FieldHas, every_parts, every_level}
use Rattle.marshal_grammar.specs.Spelled.{bytes_of, fewest, long_from, long_below, string_bytes_of, Writing, these, ◌then◌, new_symbol, linked_or, known_or, ascii_symbol, encoding_bytes, utf8_symbol, symbol_bytes, text_bytes, units, big_bytes, int_bytes, id_bytes_of, remote_bytes, each_value, each_pair, each_field, hash_bytes, fields_bytes, dumped_bytes, writing_step, writing, spelled}
use Rattle.marshal_grammar.proofs.WrittenForms.{writing_roll}

abbrev Byte : ℕ → Type 0
Byte b = b < 256

record Are (bs : List ℕ) : Type 0 where
  pub are : AreBytes bs

none : Are []
none = record { are = All-nil Byte }

more : (b : ℕ) (bs : List ℕ) → b < 256 → Are bs → Are (b ∷ bs)
more b bs l h = record { are = All-cons Byte b bs l h.are }

one : (b : ℕ) → b < 256 → Are (b ∷ [])
one b l = more b [] l none

both : (xs ys : List ℕ) → Are xs → Are ys → Are (xs ++ ys)
both xs ys h k = record { are = All-append Byte xs ys h.are k.are }

lows : (k n : ℕ) → Are (bytes_of k n)
lows zero n = none
lows (suc k) n = more (n % 256) (bytes_of k (n / 256)) (omega arith) (lows k (n / 256))

record Few (k : ℕ) : Type 0 where
  pub some : 1 ≤ k
  pub most : k ≤ 4

few_by : (p q r : Bool) → Few (if p then 1 else if q then 2 else if r then 3 else 4)
few_by true q r = record { some = omega arith; most = omega arith }
few_by false true r = record { some = omega arith; most = omega arith }
few_by false false true = record { some = omega arith; most = omega arith }
few_by false false false = record { some = omega arith; most = omega arith }

few : (n : ℕ) → Few (fewest n)
few n = few_by (nat_lt n (256 ^ 1)) (nat_lt n (256 ^ 2)) (nat_lt n (256 ^ 3))

fewest_are : (k n : ℕ) → Few k → Are (k ∷ bytes_of k n)
fewest_are k n f = more k (bytes_of k n) (omega (arith, f.most)) (lows k n)

long_by : (p q : Bool) (n : ℕ) → nat_lt n 123 ≡ q → Are (if p then 0 ∷ [] else if q then (n + 5) ∷ [] else fewest n ∷ bytes_of (fewest n) n)
long_by true q n e = one 0 (omega arith)
long_by false true n e = one (n + 5) (omega (arith, ltb-true n 123 e))
long_by false false n e = fewest_are (fewest n) n (few n)

long_are : (n : ℕ) → Are (long_from n)
long_are n = long_by (n == 0) (nat_lt n 123) n refl

below_by : (q : Bool) (m : ℕ) → Are (if q then (250 - m) ∷ [] else (256 - fewest m) ∷ bytes_of (fewest m) (256 ^ fewest m - 1 - m))
below_by true m = one (250 - m) (omega arith)
below_by false m = more (256 - fewest m) (bytes_of (fewest m) (256 ^ fewest m - 1 - m)) (omega (arith, (few m).some)) (lows (fewest m) (256 ^ fewest m - 1 - m))

below_are : (m : ℕ) → Are (long_below m)
below_are m = below_by (nat_lt m 123) m

string_are : (s : List ℕ) → Are s → Are (string_bytes_of s)
string_are s h = both (long_from (length s)) s (long_are (length s)) h

marked : (b : ℕ) (s : List ℕ) → b < 256 → Are s → Are (b ∷ string_bytes_of s)
marked b s l h = more b (string_bytes_of s) l (string_are s h)

marked_twice : (a b : ℕ) (s : List ℕ) → a < 256 → b < 256 → Are s → Are (a ∷ b ∷ string_bytes_of s)
marked_twice a b s k l h = more a (b ∷ string_bytes_of s) k (marked b s l h)

-- whatever symbols were written before
record Writes (w : Writing) : Type 0 where
  pub each : (symbols : List (List ℕ)) → Are (w symbols).0

these_are : (bs : List ℕ) → Are bs → Writes (these bs)
these_are bs h = record { each = λ symbols. h }

after : (u w : Writing) → Writes u → Writes w → Writes (u then w)
after u w h k = record { each = λ symbols. both (u symbols).0 (w (u symbols).1).0 (h.each symbols) (k.each (u symbols).1) }

new_are : (s : List ℕ) → Writes (new_symbol s)
new_are s = record { each = λ symbols. none }

linked : (w : Writing) (o : Option ℕ) → Writes w → Writes (linked_or w o)
linked w None h = h
linked w (Some k) h = these_are (59 ∷ long_from k) (more 59 (long_from k) (omega arith) (long_are k))

known : (s : List ℕ) (w : Writing) → Writes w → Writes (known_or s w)
known s w h = record { each = λ symbols. (linked w (position (λ t. bytes_eq t s) symbols) h).each symbols }

ascii_are : (s : List ℕ) → Are s → Writes (ascii_symbol s)
ascii_are s h = known s (these (58 ∷ string_bytes_of s) then new_symbol s) (after (these (58 ∷ string_bytes_of s)) (new_symbol s) (these_are (58 ∷ string_bytes_of s) (marked 58 s (omega arith) h)) (new_are s))

encoding_are : (b : ℕ) → b < 256 → Writes (encoding_bytes b)
encoding_are b l =
    after (these (6 ∷ [])) (ascii_symbol (69 ∷ []) then these (b ∷ [])) (these_are (6 ∷ []) (one 6 (omega arith)))
    (after (ascii_symbol (69 ∷ [])) (these (b ∷ [])) (ascii_are (69 ∷ []) (one 69 (omega arith))) (these_are (b ∷ []) (one b l)))

utf8_are : (s : List ℕ) → Are s → Writes (utf8_symbol s)
utf8_are s h =
    known s (these (73 ∷ 58 ∷ string_bytes_of s) then new_symbol s then encoding_bytes 84)
    (after (these (73 ∷ 58 ∷ string_bytes_of s)) (new_symbol s then encoding_bytes 84) (these_are (73 ∷ 58 ∷ string_bytes_of s) (marked_twice 73 58 s (omega arith) (omega arith) h))
    (after (new_symbol s) (encoding_bytes 84) (new_are s) (encoding_are 84 (omega arith))))

symbol_by : (c : Bool) (s : List ℕ) → Are s → Writes (if c then ascii_symbol s else utf8_symbol s)
symbol_by true s h = ascii_are s h
symbol_by false s h = utf8_are s h

symbol_are : (s : List ℕ) → Are s → Writes (symbol_bytes s)
symbol_are s h = symbol_by (all_ascii s) s h

encoded_are : (s : List ℕ) (b : ℕ) → Are s → b < 256 → Writes (these (73 ∷ 34 ∷ string_bytes_of s) then encoding_bytes b)
encoded_are s b h l = after (these (73 ∷ 34 ∷ string_bytes_of s)) (encoding_bytes b) (these_are (73 ∷ 34 ∷ string_bytes_of s) (marked_twice 73 34 s (omega arith) (omega arith) h)) (encoding_are b l)

text_are : (s : List ℕ) (c : Code) → Are s → Writes (text_bytes s c)
text_are s Binary h = these_are (34 ∷ string_bytes_of s) (marked 34 s (omega arith) h)
text_are s Ascii h = encoded_are s 70 h (omega arith)
text_are s Utf8 h = encoded_are s 84 h (omega arith)

big_are : (sign m : ℕ) → sign < 256 → Are (big_bytes sign m)
big_are sign m l =
    let n = units 8 m in
    let xs = long_from n ++ bytes_of (2 * n) m in
    more 108 (sign ∷ xs) (omega arith) (more sign xs l (both (long_from n) (bytes_of (2 * n) m) (long_are n) (lows (2 * n) m)))

positive_by : (c : Bool) (n : ℕ) → Are (if c then 105 ∷ long_from n else big_bytes 43 n)
positive_by true n = more 105 (long_from n) (omega arith) (long_are n)
positive_by false n = big_are 43 n (omega arith)

negative_by : (c : Bool) (m : ℕ) → Are (if c then 105 ∷ long_below m else big_bytes 45 (suc m))
negative_by true m = more 105 (long_below m) (omega arith) (below_are m)
negative_by false m = big_are 45 (suc m) (omega arith)

int_are : (i : ℤ) → Are (int_bytes i)
int_are (pos n) = positive_by (nat_lt n (2 ^ 30)) n
int_are (negsuc m) = negative_by (nat_lt m (2 ^ 30)) m

id_are : (i : RefId) → IdInRange i → Writes (id_bytes_of i)
id_are R.Front h = these_are (48 ∷ []) (one 48 (omega arith))
id_are (R.Number i) h = these_are (int_bytes i) (int_are i)
id_are (R.Text t) h = text_are t.bytes t.code (record { are = h })

remote_writes : (r : Remote) → InRange (Tree-F.Remote r) → Writes (these (4 ∷ 8 ∷ 91 ∷ 7 ∷ []) then text_bytes r.uri.bytes r.uri.code then id_bytes_of r.id)
remote_writes r h =
    after (these (4 ∷ 8 ∷ 91 ∷ 7 ∷ [])) (text_bytes r.uri.bytes r.uri.code then id_bytes_of r.id)
    (these_are (4 ∷ 8 ∷ 91 ∷ 7 ∷ []) (more 4 (8 ∷ 91 ∷ 7 ∷ []) (omega arith) (more 8 (91 ∷ 7 ∷ []) (omega arith) (more 91 (7 ∷ []) (omega arith) (one 7 (omega arith))))))
    (after (text_bytes r.uri.bytes r.uri.code) (id_bytes_of r.id) (text_are r.uri.bytes r.uri.code (record { are = h.0 })) (id_are r.id h.1))

remote_are : (r : Remote) → InRange (Tree-F.Remote r) → Are (remote_bytes r)
remote_are r h = (remote_writes r h).each []

-- bytes that a test finds to be bytes
small_all : (bs : List ℕ) → list_all (λ b. nat_lt b 256) bs ≡ true → Are bs
small_all [] h = none
small_all (b ∷ bs) h = let p = and_parts (nat_lt b 256) (list_all (λ b. nat_lt b 256) bs) h in more b bs (ltb-true b 256 p.0) (small_all bs p.1)

-- a value that writes bytes where it is in range
abbrev Good : Tree → Type 0
Good t = Ranged t → Writes (writing t)

abbrev Such : Type 0
Such = (t : Tree) × Good t

abbrev tree_of : Such → Tree
tree_of y = y.0

abbrev pair_of : Such × Such → Tree × Tree
pair_of p = (p.0.0, p.1.0)

abbrev field_of : List ℕ × Such → List ℕ × Tree
field_of f = (f.0, f.1.0)

abbrev pair_writing : Tree × Tree → Writing × Writing
pair_writing p = (writing p.0, writing p.1)

abbrev field_writing : List ℕ × Tree → List ℕ × Writing
field_writing f = (f.0, writing f.1)

values_are : (ys : List Such) → All Ranged (map tree_of ys) → Writes (each_value (map writing (map tree_of ys)))
values_are [] h = these_are [] none
values_are (y ∷ ys) h = after (writing y.0) (each_value (map writing (map tree_of ys))) (y.1 (All-head Ranged y.0 (map tree_of ys) h)) (values_are ys (All-tail Ranged y.0 (map tree_of ys) h))

pairs_are : (ys : List (Such × Such)) → All (BothHave Ranged) (map pair_of ys) → Writes (each_pair (map pair_writing (map pair_of ys)))
pairs_are [] h = these_are [] none
pairs_are (y ∷ ys) h =
    let k = All-head (BothHave Ranged) (pair_of y) (map pair_of ys) h in
    let w = each_pair (map pair_writing (map pair_of ys)) in
    after (writing y.0.0) (writing y.1.0 then w) (y.0.1 k.0) (after (writing y.1.0) w (y.1.1 k.1) (pairs_are ys (All-tail (BothHave Ranged) (pair_of y) (map pair_of ys) h)))

abbrev NameBytes : List ℕ × Tree → Type 0
NameBytes f = AreBytes f.0

each_field_are : (ys : List (List ℕ × Such)) → All NameBytes (map field_of ys) → All (FieldHas Ranged) (map field_of ys) → Writes (each_field (map field_writing (map field_of ys)))
each_field_are [] n h = these_are [] none
each_field_are (y ∷ ys) n h =
    let fs = map field_of ys in
    let w = each_field (map field_writing fs) in
    after (symbol_bytes y.0) (writing y.1.0 then w) (symbol_are y.0 (record { are = All-head NameBytes (field_of y) fs n }))
    (after (writing y.1.0) w (y.1.1 (All-head (FieldHas Ranged) (field_of y) fs h))
    (each_field_are ys (All-tail NameBytes (field_of y) fs n) (All-tail (FieldHas Ranged) (field_of y) fs h)))

fields_are : (ys : List (List ℕ × Such)) → All NameBytes (map field_of ys) → All (FieldHas Ranged) (map field_of ys) → Writes (fields_bytes (map field_writing (map field_of ys)))
fields_are ys n h =
    let ws = map field_writing (map field_of ys) in
    after (these (long_from (length ws))) (each_field ws) (these_are (long_from (length ws)) (long_are (length ws))) (each_field_are ys n h)

object_are : (mark : ℕ) (c : List ℕ) (ys : List (List ℕ × Such)) → mark < 256 → AreBytes c → All NameBytes (map field_of ys) → All (FieldHas Ranged) (map field_of ys) → Writes (these (mark ∷ []) then symbol_bytes c then fields_bytes (map field_writing (map field_of ys)))
object_are mark c ys l k n h =
    let w = fields_bytes (map field_writing (map field_of ys)) in
    after (these (mark ∷ [])) (symbol_bytes c then w) (these_are (mark ∷ []) (one mark l)) (after (symbol_bytes c) w (symbol_are c (record { are = k })) (fields_are ys n h))

dumped_are : (c bs : List ℕ) (ys : List (List ℕ × Such)) → AreBytes c → AreBytes bs → All NameBytes (map field_of ys) → All (FieldHas Ranged) (map field_of ys) → Writes (dumped_bytes c bs (map field_writing (map field_of ys)))
dumped_are c bs [] k l n h =
    let t = these (string_bytes_of bs) in
    after (these (117 ∷ [])) (symbol_bytes c then t) (these_are (117 ∷ []) (one 117 (omega arith)))
    (after (symbol_bytes c) t (symbol_are c (record { are = k })) (these_are (string_bytes_of bs) (string_are bs (record { are = l }))))
dumped_are c bs (z ∷ zs) k l n h =
    let t = these (string_bytes_of bs) in
    let w = fields_bytes (map field_writing (map field_of (z ∷ zs))) in
    after (these (73 ∷ 117 ∷ [])) (symbol_bytes c then t then w) (these_are (73 ∷ 117 ∷ []) (more 73 (117 ∷ []) (omega arith) (one 117 (omega arith))))
    (after (symbol_bytes c) (t then w) (symbol_are c (record { are = k })) (after t w (these_are (string_bytes_of bs) (string_are bs (record { are = l }))) (fields_are (z ∷ zs) n h)))

counted_are : (mark n : ℕ) (w : Writing) → mark < 256 → Writes w → Writes (these (mark ∷ long_from n) then w)
counted_are mark n w l h = after (these (mark ∷ long_from n)) w (these_are (mark ∷ long_from n) (more mark (long_from n) l (long_are n))) h

abbrev levels : Tree-F Such → Tree-F Tree
levels y = map-Tree Such Tree tree_of y

step_are : (y : Tree-F Such) → Ranged (roll-Tree (levels y)) → Writes (writing_step (map-Tree Tree Writing writing (levels y)))
step_are Tree-F.Nil h = these_are (48 ∷ []) (one 48 (omega arith))
step_are (Tree-F.Bool true) h = these_are (84 ∷ []) (one 84 (omega arith))
step_are (Tree-F.Bool false) h = these_are (70 ∷ []) (one 70 (omega arith))
step_are (Tree-F.Int i) h = these_are (int_bytes i) (int_are i)
step_are (Tree-F.Sym s) h = symbol_are s (record { are = every_level InRange (Tree-F.Sym s) h })
step_are (Tree-F.Text t) h = text_are t.bytes t.code (record { are = every_level InRange (Tree-F.Text t) h })
step_are (Tree-F.List ys) h =
    let ws = map writing (map tree_of ys) in
    counted_are 91 (length ws) (each_value ws) (omega arith) (values_are ys (every_parts InRange (Tree-F.List (map tree_of ys)) h))
step_are (Tree-F.Hash qs None) h =
    let ps = map pair_of qs in
    let p = every_parts InRange (Tree-F.Hash ps None) h in
    counted_are 123 (length (map pair_writing ps)) (each_pair (map pair_writing ps)) (omega arith) (pairs_are qs p.0)
step_are (Tree-F.Hash qs (Some d)) h =
    let ps = map pair_of qs in
    let p = every_parts InRange (Tree-F.Hash ps (Some d.0)) h in
    let w = each_pair (map pair_writing ps) in
    counted_are 125 (length (map pair_writing ps)) (w then writing d.0) (omega arith) (after w (writing d.0) (pairs_are qs p.0) (d.1 p.1))
step_are (Tree-F.Class n) h = these_are (99 ∷ string_bytes_of n) (marked 99 n (omega arith) (record { are = every_level InRange (Tree-F.Class n) h }))
step_are (Tree-F.Module n) h = these_are (109 ∷ string_bytes_of n) (marked 109 n (omega arith) (record { are = every_level InRange (Tree-F.Module n) h }))
step_are (Tree-F.Object c ys) h =
    let l = Tree-F.Object c (map field_of ys) in
    let k = every_level InRange l h in
    object_are 111 c ys (omega arith) k.0 k.1 (every_parts InRange l h)
step_are (Tree-F.Struct c ys) h =
    let l = Tree-F.Struct c (map field_of ys) in
    let k = every_level InRange l h in
    object_are 83 c ys (omega arith) k.0 k.1 (every_parts InRange l h)
step_are (Tree-F.Dumped c bs ys) h =
    let l = Tree-F.Dumped c bs (map field_of ys) in
    let k = every_level InRange l h in
    dumped_are c bs ys k.0 k.1 k.2 (every_parts InRange l h)
step_are (Tree-F.Wrapped c y) h =
    let l = Tree-F.Wrapped c y.0 in
    after (these (85 ∷ [])) (symbol_bytes c then writing y.0) (these_are (85 ∷ []) (one 85 (omega arith)))
    (after (symbol_bytes c) (writing y.0) (symbol_are c (record { are = every_level InRange l h })) (y.1 (every_parts InRange l h)))
step_are (Tree-F.Remote r) h =
    let t = string_bytes_of (remote_bytes r) in
    after (these (117 ∷ [])) (symbol_bytes remote_class then these t) (these_are (117 ∷ []) (one 117 (omega arith)))
    (after (symbol_bytes remote_class) (these t) (symbol_are remote_class (small_all remote_class refl)) (these_are t (string_are (remote_bytes r) (remote_are r (every_level InRange (Tree-F.Remote r) h)))))

writing_are : (t : Tree) → Good t
writing_are = ind-Tree Good (λ x y is. subst (λ (z : Tree-F Tree). Good (roll-Tree z)) is (λ h. subst Writes (sym (writing_roll (levels y))) (step_are y h)))

pub spelled_are : (t : Tree) → Ranged t → AreBytes (spelled t)
spelled_are t h =
    let bs = (writing t []).0 in
    (more 4 (8 ∷ bs) (omega arith) (more 8 bs (omega arith) ((writing_are t h).each []))).are
