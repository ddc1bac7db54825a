-- Values, by the byte that they begin with: docs/MARSHAL.md, Values.
use Rattle.std.specs.Prelude.{ℕ, zero, suc, ◌+◌, ◌*◌, ◌/◌, ◌^◌, ◌⊎◌, List, [], ◌∷◌, ◌++◌, length, Bool, true, false, not, ◌||◌, ℤ, pos, negsuc, neg_ℤ, Option, Some, None, slice_get, bytes_eq, nat_le, nat_lt, ◌==◌, if◌then◌else◌}
use Rattle.std.proofs.Common.{inl, inr}
use Rattle.drb_tree.specs.declared.Code.TheVariants.{Binary}
use Rattle.drb_tree.specs.declared.Remote.{Remote}
use Rattle.drb_tree.specs.declared.Tree.{Tree}
use Rattle.drb_tree.specs.Same.{all_ascii}
use Rattle.drb_tree.specs.Sizes.{heavy, nodes, depth, id_bytes}
use Rattle.drb_tree.specs.Kept.{has_key, has_name, remote_class}
use Rattle.marshal_grammar.specs.declared.kind.Kind.{Kind}
use Rattle.marshal_grammar.specs.declared.kind.Kind.TheVariants as kind
use Rattle.marshal_grammar.specs.declared.refusal.Why.TheVariants as why
use Rattle.marshal_grammar.specs.Kinds.{kind_of}
use Rattle.marshal_grammar.specs.Longs.{little}
use Rattle.marshal_grammar.specs.Contexts.{Context, begin_object, finish_object, add_object}
use Rattle.marshal_grammar.specs.Grammar.{Grammar, gives, refuses, must, byte, bytes, long, context, becomes, within, ◌>>=◌, ◌>>◌, here}
use Rattle.marshal_grammar.specs.Counts.{count, string, pair_count, count_nodes}
use Rattle.marshal_grammar.specs.Symbols.{plain_symbol, linked_symbol, marked_symbol, name, encoding}
use Rattle.marshal_grammar.specs.Trees.{nil, bool, int, sym, text, list, hash, class, module_named, object, structure, dumped, wrapped, remote}

-- an object begins: it gets the next number
abbrev pub begins : Grammar ℕ
begins = do
  c ← context
  becomes begin_object
  gives (length c.objects)

-- object k ends, with this value
abbrev pub ends : ℕ → Tree → Grammar Tree
ends k v = do
  becomes (finish_object k v)
  gives v

-- an object without parts, or one that gets its number at its end
abbrev pub whole : Tree → Grammar Tree
whole v = do
  becomes (add_object v)
  gives v

-- n values
abbrev pub values : Grammar Tree → ℕ → Grammar (List Tree)
values part zero = gives []
values part (suc n) = do
  v ← part
  vs ← values part n
  gives (v ∷ vs)

-- n pairs after those before; no key is the same as an earlier one
abbrev pub pairs : Grammar Tree → List (Tree × Tree) → ℕ → Grammar (List (Tree × Tree))
pairs part before zero = gives before
pairs part before (suc n) = do
  at ← here
  k ← part
  must (not (has_key k before)) why.DuplicateKey at
  v ← part
  pairs part (before ++ ((k, v) ∷ [])) n

-- n fields or variables after those before, each a name and a value; no name stands twice
abbrev pub fields : Grammar Tree → List (List ℕ × Tree) → ℕ → Grammar (List (List ℕ × Tree))
fields part before zero = gives before
fields part before (suc n) = do
  at ← here
  s ← name
  must (not (has_name s before)) why.DuplicateKey at
  v ← part
  fields part (before ++ ((s, v) ∷ [])) n

-- a value that counts one node
abbrev pub simple : ℕ → Tree → Grammar Tree
simple at v = do
  count_nodes at 1
  gives v

-- after `i`: a long
abbrev pub small_int : ℕ → Grammar Tree
small_int at = do
  n ← long
  simple at (int n)

-- the number has 128 bits
abbrev pub is_i128 : ℤ → Bool
is_i128 (pos n) = nat_lt n (2 ^ 127)
is_i128 (negsuc n) = nat_lt n (2 ^ 127)

-- the number of a sign, `+` (43) or `-` (45), and bytes, the first the least
abbrev pub signed : ℕ → List ℕ → ℤ
signed sign bs = if sign == 43 then pos (little bs) else neg_ℤ (pos (little bs))

-- after `l`: a sign, a long n and 2n bytes
abbrev pub big_int : ℕ → Grammar Tree
big_int at = do
  q ← here
  sign ← byte
  must ((sign == 43) || (sign == 45)) (why.BadType sign) q  -- `+`, `-`
  n ← count
  bs ← bytes (2 * n)
  must (is_i128 (signed sign bs)) why.BigInteger at
  count_nodes at 1
  whole (int (signed sign bs))

-- a symbol as a value: it counts by its bytes
abbrev pub symbol_value : ℕ → Grammar (List ℕ) → Grammar Tree
symbol_value at symbol = do
  s ← symbol
  count_nodes at (heavy s)
  gives (sym s)

-- after `"`: a length and bytes; binary
abbrev pub plain_text : ℕ → Grammar Tree
plain_text at = do
  s ← string
  count_nodes at (heavy s)
  whole (text s Binary)

-- after `I"`: a length and bytes, and encoding variables
abbrev pub marked_text : ℕ → Grammar Tree
marked_text at = do
  s ← string
  code ← encoding at
  count_nodes at (heavy s)
  whole (text s code)

-- after `[`: a long, and so many values
abbrev pub list_value : Grammar Tree → ℕ → Grammar Tree
list_value part at = do
  n ← count
  count_nodes at 1
  k ← begins
  vs ← values part n
  ends k (list vs)

-- after `{`: a long, and so many pairs
abbrev pub hash_value : Grammar Tree → ℕ → Grammar Tree
hash_value part at = do
  n ← pair_count
  count_nodes at 1
  k ← begins
  ps ← pairs part [] n
  ends k (hash ps None)

-- after `}`: a long, so many pairs, and the default
abbrev pub default_hash_value : Grammar Tree → ℕ → Grammar Tree
default_hash_value part at = do
  n ← pair_count
  count_nodes at 1
  k ← begins
  ps ← pairs part [] n
  d ← part
  ends k (hash ps (Some d))

-- after `c` or `m`: a length and bytes, which are ASCII
abbrev pub named_value : (List ℕ → Tree) → ℕ → Grammar Tree
named_value form at = do
  s ← string
  must (all_ascii s) why.Name at
  count_nodes at (heavy s)
  whole (form s)

-- after `o` or `S`: a class symbol, a long, and so many fields
abbrev pub fields_value : (List ℕ → List (List ℕ × Tree) → Tree) → Grammar Tree → ℕ → Grammar Tree
fields_value form part at = do
  c ← name
  n ← pair_count
  count_nodes at 1
  k ← begins
  fs ← fields part [] n
  ends k (form c fs)

-- What a `u` holds: a remote object, or the class and the bytes of anything else.
abbrev pub Held : Type 0
Held = Remote ⊎ (List ℕ × List ℕ)

-- what it counts at its place: by its bytes, and a remote object by its uri and text id together
abbrev pub held_nodes : Held → ℕ
held_nodes (inl r) = 1 + (length r.uri.bytes + length (id_bytes r.id)) / 256
held_nodes (inr d) = heavy d.1

-- the value with these variables, which a remote object drops
abbrev pub held_value : Held → List (List ℕ × Tree) → Tree
held_value (inl r) fs = remote r
held_value (inr d) fs = dumped d.0 d.1 fs

-- the bytes of a `DRb::DRbObject` begin with the dump of its uri and id;
-- those of another class are kept
abbrev pub held_by : Grammar Remote → ℕ → List ℕ → List ℕ → Bool → Grammar Held
held_by reference at c s true = do
  r ← within reference s why.BadReference at
  gives (inl r)
held_by reference at c s false = gives (inr (c, s))

-- a class symbol, a length and bytes
abbrev pub held : Grammar Remote → ℕ → Grammar Held
held reference at = do
  c ← name
  s ← string
  held_by reference at c s (bytes_eq c remote_class)

-- after `u`: a class symbol, a length and bytes; it gets its number at its end
abbrev pub dumped_value : Grammar Remote → ℕ → Grammar Tree
dumped_value reference at = do
  h ← held reference at
  count_nodes at (held_nodes h)
  whole (held_value h [])

-- after `Iu`: the same, then a long and so many variables; it gets its number after them
abbrev pub marked_dumped : Grammar Remote → Grammar Tree → ℕ → Grammar Tree
marked_dumped reference part at = do
  h ← held reference at
  n ← pair_count
  count_nodes at (held_nodes h)
  fs ← fields part [] n
  whole (held_value h fs)

-- after `U`: a class symbol and a value; it gets its number before this value
abbrev pub wrapped_value : Grammar Tree → ℕ → Grammar Tree
wrapped_value part at = do
  c ← name
  count_nodes at 1
  k ← begins
  v ← part
  ends k (wrapped c v)

-- the object of that number
abbrev pub object_at : Context → ℤ → Option (Option Tree)
object_at c (pos n) = slice_get c.objects n
object_at c (negsuc n) = None

-- the object that was found: there must be one, and it must be finished
abbrev pub finished : ℕ → Option (Option Tree) → Grammar Tree
finished at None = refuses why.ObjectLink at
finished at (Some None) = refuses why.Cyclic at
finished at (Some (Some v)) = gives v

-- after `@`: a long, the number of a finished object, of which a copy stands here;
-- it fits into the levels that are left, and counts its nodes
abbrev pub link : ℕ → ℕ → Grammar Tree
link room at = do
  n ← long
  c ← context
  v ← finished at (object_at c n)
  must (nat_le (depth v) room) why.TooDeep at
  count_nodes at (nodes v)
  gives v

-- after `I`: a text, a symbol or a `u`
abbrev pub marked_by : Grammar Remote → Grammar Tree → ℕ → ℕ → ℕ → Option Kind → Grammar Tree
marked_by reference part at q b (Some kind.Text) = marked_text at
marked_by reference part at q b (Some kind.Symbol) = symbol_value at (marked_symbol at)
marked_by reference part at q b (Some kind.Dumped) = marked_dumped reference part at
marked_by reference part at q b _ = refuses (why.BadType b) q

-- after `I`: the byte that says what has variables
abbrev pub marked_value : Grammar Remote → Grammar Tree → ℕ → Grammar Tree
marked_value reference part at = do
  q ← here
  b ← byte
  marked_by reference part at q b (kind_of b)

-- What stands after the type byte at this place. So many levels are left,
-- of which this value takes one; its parts are read by part.
unfoldable pub body : Grammar Remote → Grammar Tree → ℕ → Kind → ℕ → Grammar Tree
body reference part room kind.Nil at = simple at nil
body reference part room kind.True at = simple at (bool true)
body reference part room kind.False at = simple at (bool false)
body reference part room kind.Int at = small_int at
body reference part room kind.Big at = big_int at
body reference part room kind.Symbol at = symbol_value at (plain_symbol at)
body reference part room kind.SymbolLink at = symbol_value at (linked_symbol at)
body reference part room kind.Marked at = marked_value reference part at
body reference part room kind.Text at = plain_text at
body reference part room kind.List at = list_value part at
body reference part room kind.Hash at = hash_value part at
body reference part room kind.HashWithDefault at = default_hash_value part at
body reference part room kind.Class at = named_value class at
body reference part room kind.Module at = named_value module_named at
body reference part room kind.Object at = fields_value object part at
body reference part room kind.Struct at = fields_value structure part at
body reference part room kind.Dumped at = dumped_value reference at
body reference part room kind.Wrapped at = wrapped_value part at
body reference part room kind.Link at = link room at

-- no level is left: every value is too deep, and a link once its object is known
abbrev pub too_deep : Kind → ℕ → Grammar Tree
too_deep kind.Link at = link 0 at
too_deep _ at = refuses why.TooDeep at

-- what a type byte asks for; another byte is refused
abbrev pub typed : (Kind → ℕ → Grammar Tree) → ℕ → ℕ → Option Kind → Grammar Tree
typed rest at b None = refuses (why.BadType b) at
typed rest at b (Some k) = rest k at

-- a type byte, and what it asks for
abbrev pub by_type : (Kind → ℕ → Grammar Tree) → Grammar Tree
by_type rest = do
  at ← here
  b ← byte
  typed rest at b (kind_of b)

-- a value, where so many levels are left, itself among them
unfoldable pub value : Grammar Remote → ℕ → Grammar Tree
value reference zero = by_type too_deep
value reference (suc room) = by_type (body reference (value reference room) (suc room))
