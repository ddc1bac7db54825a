-- What is written of a remote object is read again.
use Rattle.std.proofs.Common.{◌≡◌, ℕ, zero, suc, ◌+◌, ◌*◌, ◌-◌, ◌/◌, ◌≤◌, ◌^◌, ℤ, pos, negsuc, inl, List, [], ◌∷◌, ◌++◌, length, Option, Some, None, Ok, Bool, true, false, refl, ap, sym, ◌∙◌, arith, length-append, append-nil, nat_lt, ◌==◌, cond}
use Rattle.std.specs.Prelude.{bytes_eq, IsAscii, position, ◌&&◌}
use Rattle.drb_tree.specs.Same.{all_ascii}
use Rattle.marshal_grammar.proofs.LongLists.{less_true}
use Rattle.std.specs.Str.{is_utf8}
use Rattle.std.proofs.lemmas.Str.{is_utf8-from_IsUtf8, IsUtf8-from_ascii}
use Rattle.std.proofs.lemmas.Grind.{common_steps}
use Rattle.drb_tree.specs.declared.Code.{Code}
use Rattle.drb_tree.specs.declared.Code.TheVariants.{Binary, Ascii, Utf8}
use Rattle.drb_tree.specs.declared.Text.{Text}
use Rattle.drb_tree.specs.declared.RefId.{RefId}
use Rattle.drb_tree.specs.declared.RefId.TheVariants as R
use Rattle.drb_tree.specs.declared.Remote.{Remote}
use Rattle.drb_tree.specs.declared.Tree.{Tree}
use Rattle.drb_tree.specs.declared.Tree.TheViews.{roll-Tree, out-Tree, out-roll-Tree}
use Rattle.drb_tree.specs.declared.Tree.TheOpen.{Tree-F}
use Rattle.drb_tree.specs.declared.Tree.TheFolds.{every_made-Tree}
use Rattle.drb_tree.specs.Sizes.{nodes, remote_nodes, id_bytes}
use Rattle.drb_tree.specs.Kept.{Keeps, InRange, Small, IdInRange, AreBytes, remote_class, remote_list, id_tree, Within}
use Rattle.marshal_grammar.specs.declared.refusal.Why.TheVariants as why
use Rattle.marshal_grammar.specs.Contexts.{Context, opening, past, add_nodes, add_object}
use Rattle.marshal_grammar.specs.Grammar.{Grammar, refuses}
use Rattle.marshal_grammar.specs.Reading.{read}
use Rattle.marshal_grammar.specs.Trees as tree
use Rattle.marshal_grammar.specs.Values.{body, value, held_by}
use Rattle.marshal_grammar.specs.Dumps.{dump_with, reference, some_remote}
use Rattle.marshal_grammar.specs.Spelled.{bytes_of, fewest, linked_or, new_symbol, big_bytes, long_from, long_below, string_bytes_of, these, ◌then◌, symbol_bytes, ascii_symbol, encoding_bytes, text_bytes, id_bytes_of, int_bytes, remote_bytes, units, writing}
use Rattle.marshal_grammar.proofs.Pieces.{after_string, string_gives, nodes_give, name_gives}
use Rattle.marshal_grammar.proofs.WrittenLongs.{length_bytes_of}
use Rattle.marshal_grammar.proofs.WrittenLeaves.{units_few}
use Rattle.marshal_grammar.proofs.WrittenParts.{bytes_then, Kept, Written, Such}
use Rattle.marshal_grammar.proofs.WrittenForms.{by_layer, nodes_roll, depth_roll, writing_roll, list_written}
use Rattle.marshal_grammar.proofs.WrittenBare.{nil_written, int_written, text_written}
use Rattle.marshal_grammar.proofs.Parts.{here_every}

-- no remote object stands in the dump of another
abbrev none : Grammar Remote
none = refuses why.BadReference 0

-- the id as a value that is written
id_written : (r : RefId) → Written none (id_tree r)
id_written R.Front = nil_written none
id_written (R.Number i) = int_written none i
id_written (R.Text t) = text_written none t

id_kept : (r : RefId) → IdInRange r → Kept (id_tree r)
id_kept R.Front h = (every_made-Tree Keeps Tree-F.Nil Tree-F.Nil refl tt, every_made-Tree InRange Tree-F.Nil Tree-F.Nil refl tt, every_made-Tree Small Tree-F.Nil Tree-F.Nil refl tt)
id_kept (R.Number i) h = (every_made-Tree Keeps (Tree-F.Int i) (Tree-F.Int i) refl tt, every_made-Tree InRange (Tree-F.Int i) (Tree-F.Int i) refl h, every_made-Tree Small (Tree-F.Int i) (Tree-F.Int i) refl tt)
id_kept (R.Text t) h = (every_made-Tree Keeps (Tree-F.Text t) (Tree-F.Text t) refl tt, every_made-Tree InRange (Tree-F.Text t) (Tree-F.Text t) refl h, every_made-Tree Small (Tree-F.Text t) (Tree-F.Text t) refl tt)

text_kept : (t : Text) → AreBytes t.bytes → Kept (roll-Tree (Tree-F.Text t))
text_kept t h = (every_made-Tree Keeps (Tree-F.Text t) (Tree-F.Text t) refl tt, every_made-Tree InRange (Tree-F.Text t) (Tree-F.Text t) refl h, every_made-Tree Small (Tree-F.Text t) (Tree-F.Text t) refl tt)

-- the list of uri and id keeps what it has to
list_kept : (r : Remote) → AreBytes r.uri.bytes → IdInRange r.id → Kept (remote_list r)
list_kept r a b =
    let u = text_kept r.uri a in
    let i = id_kept r.id b in
    let x = roll-Tree (Tree-F.Text r.uri) in
    let y = id_tree r.id in
    let l : Tree-F Tree = Tree-F.List (x ∷ y ∷ []) in
    (every_made-Tree Keeps l (Tree-F.List ((x, u.0) ∷ (y, i.0) ∷ [])) refl tt, every_made-Tree InRange l (Tree-F.List ((x, u.1) ∷ (y, i.1) ∷ [])) refl tt, every_made-Tree Small l (Tree-F.List ((x, u.2) ∷ (y, i.2) ∷ [])) refl tt)

-- what is written of the id as a value
id_writing : (r : RefId) → writing (id_tree r) ≡ id_bytes_of r
id_writing R.Front = writing_roll Tree-F.Nil
id_writing (R.Number i) = writing_roll (Tree-F.Int i)
id_writing (R.Text t) = writing_roll (Tree-F.Text t)

-- the inner dump is the version bytes and what the list writes
inner_bytes : (r : Remote) → remote_bytes r ≡ 4 ∷ 8 ∷ (writing (remote_list r) []).0
inner_bytes r =
    let x = text_bytes r.uri.bytes r.uri.code in
    let w : writing (remote_list r) ≡ these (91 ∷ 7 ∷ []) then (writing (roll-Tree (Tree-F.Text r.uri)) then (writing (id_tree r.id) then these [])) = writing_roll (Tree-F.List (roll-Tree (Tree-F.Text r.uri) ∷ id_tree r.id ∷ [])) in
    rw (w, writing_roll (Tree-F.Text r.uri), id_writing r.id, append-nil) refl

id_again : (r : RefId) → tree.id_of (out-Tree (id_tree r)) ≡ Some r
id_again R.Front = ap tree.id_of (out-roll-Tree Tree-F.Nil)
id_again (R.Number i) = ap tree.id_of (out-roll-Tree (Tree-F.Int i))
id_again (R.Text t) = ap tree.id_of (out-roll-Tree (Tree-F.Text t))

-- the list stands for the remote object again
remote_again : (r : Remote) → tree.remote_of (out-Tree (remote_list r)) ≡ Some r
remote_again r =
    let x = roll-Tree (Tree-F.Text r.uri) in
    let y = id_tree r.id in
    ap tree.remote_of (out-roll-Tree (Tree-F.List (x ∷ y ∷ []))) ∙ ap (λ z. tree.remote_from z (out-Tree y)) (out-roll-Tree (Tree-F.Text r.uri)) ∙ ap (tree.with_id r.uri) (id_again r.id)

-- the inner dump is read again, whatever follows
inner_reads : (r : Remote) → AreBytes r.uri.bytes → IdInRange r.id → Within (remote_list r) → (d : Context) × ((rest : List ℕ) → read reference opening (remote_bytes r ++ rest) ≡ Ok (r, d, rest))
unfolding reference dump_with
inner_reads r a b h =
    let c = past 1 (past 1 opening) in
    let ys : List (Such none) = (roll-Tree (Tree-F.Text r.uri), text_written none r.uri) ∷ (id_tree r.id, id_written r.id) ∷ [] in
    let f = list_written none ys (list_kept r a b) 128 c h.0 (omega arith) (omega (arith, h.1)) in
    (f.0, λ rest. ap (λ (ys : List ℕ). read reference opening (ys ++ rest)) (inner_bytes r) ∙ rw (f.1 rest) (ap (λ o. read (some_remote o) f.0 rest) (remote_again r)))

few_bytes : (n : ℕ) → fewest n ≤ 4
few_bytes n = grind (arith, common_steps)

long_len_case : (n : ℕ) (a b : Bool) → length (cond a (0 ∷ []) (cond b ((n + 5) ∷ []) (fewest n ∷ bytes_of (fewest n) n))) ≤ 5
long_len_case n true b = omega arith
long_len_case n false true = omega arith
long_len_case n false false = omega (arith, length_bytes_of (fewest n) n, few_bytes n)

long_len : (n : ℕ) → length (long_from n) ≤ 5
long_len n = long_len_case n (n == 0) (nat_lt n 123)

below_len_case : (n : ℕ) (b : Bool) → length (cond b ((250 - n) ∷ []) ((256 - fewest n) ∷ bytes_of (fewest n) (256 ^ fewest n - 1 - n))) ≤ 5
below_len_case n true = omega arith
below_len_case n false = omega (arith, length_bytes_of (fewest n) (256 ^ fewest n - 1 - n), few_bytes n)

below_len : (n : ℕ) → length (long_below n) ≤ 5
below_len n = below_len_case n (nat_lt n 123)

string_len : (s : List ℕ) → length (string_bytes_of s) ≤ length s + 5
string_len s = omega (arith, length-append (long_from (length s)) s, long_len (length s))

e_len_case : (o : Option ℕ) (s : List (List ℕ)) → length (linked_or (these (58 ∷ string_bytes_of (69 ∷ [])) then new_symbol (69 ∷ [])) o s).0 ≤ 8
e_len_case None s = omega arith
e_len_case (Some k) s = omega (arith, long_len k)

encoding_len : (b : ℕ) (s : List (List ℕ)) → length (encoding_bytes b s).0 ≤ 10
encoding_len b s =
    let x = (ascii_symbol (69 ∷ []) s).0 in
    omega (arith, e_len_case (position (λ t. bytes_eq t (69 ∷ [])) s) s, length-append x (b ∷ []))

coded_len : (b : ℕ) (t : List ℕ) (s : List (List ℕ)) → length ((these (73 ∷ 34 ∷ string_bytes_of t) then encoding_bytes b) s).0 ≤ length t + 20
coded_len b t s = omega (arith, string_len t, encoding_len b s, length-append (73 ∷ 34 ∷ string_bytes_of t) (encoding_bytes b s).0)

text_len : (t : List ℕ) (code : Code) (s : List (List ℕ)) → length (text_bytes t code s).0 ≤ length t + 20
text_len t Binary s = omega (arith, string_len t)
text_len t Ascii s = coded_len 70 t s
text_len t Utf8 s = coded_len 84 t s

big_len : (sign m : ℕ) → length (big_bytes sign m) ≤ 25
big_len sign m = omega (arith, length-append (long_from (units 8 m)) (bytes_of (2 * units 8 m) m), long_len (units 8 m), length_bytes_of (2 * units 8 m) m, units_few 8 m)

pos_len : (m : ℕ) (b : Bool) → length (cond b (105 ∷ long_from m) (big_bytes 43 m)) ≤ 25
pos_len m true = omega (arith, long_len m)
pos_len m false = big_len 43 m

neg_len : (m : ℕ) (b : Bool) → length (cond b (105 ∷ long_below m) (big_bytes 45 (suc m))) ≤ 25
neg_len m true = omega (arith, below_len m)
neg_len m false = big_len 45 (suc m)

int_len : (i : ℤ) → length (int_bytes i) ≤ 25
int_len (pos m) = pos_len m (nat_lt m (2 ^ 30))
int_len (negsuc m) = neg_len m (nat_lt m (2 ^ 30))

id_len : (r : RefId) (s : List (List ℕ)) → length (id_bytes_of r s).0 ≤ length (id_bytes r) + 30
id_len R.Front s = omega arith
id_len (R.Number i) s = omega (arith, int_len i)
id_len (R.Text t) s = omega (arith, text_len t.bytes t.code s)

remote_len : (r : Remote) → length (remote_bytes r) ≤ length r.uri.bytes + length (id_bytes r.id) + 60
remote_len r =
    let u = text_bytes r.uri.bytes r.uri.code [] in
    omega (arith, text_len r.uri.bytes r.uri.code [], id_len r.id u.1, length-append u.0 (id_bytes_of r.id u.1).0)

held_reads : (r : Remote) (at : ℕ) (c : Context) (rest : List ℕ) → AreBytes r.uri.bytes → IdInRange r.id → Within (remote_list r)
    → read (held_by reference at remote_class (remote_bytes r) (bytes_eq remote_class remote_class)) c rest ≡ Ok (inl r, c, rest)
held_reads r at c rest a b h =
    let f = inner_reads r a b h in
    let e : read reference opening (remote_bytes r) ≡ Ok (r, f.0, []) = ap (read reference opening) (sym (append-nil (remote_bytes r))) ∙ f.1 [] in
    rw e refl

and_both : (a b : Bool) → a && b ≡ true → (a ≡ true) × (b ≡ true)
and_both true b e = (refl, e)
and_both false b e = absurd (cc)

pub ascii_bytes : (bs : List ℕ) → all_ascii bs ≡ true → IsAscii bs
ascii_bytes [] e i = omega arith
ascii_bytes (b ∷ bs) e zero = less_true b 128 (and_both (nat_lt b 128) (all_ascii bs) e).0
ascii_bytes (b ∷ bs) e (suc i) = ascii_bytes bs (and_both (nat_lt b 128) (all_ascii bs) e).1 i

class_is_utf8 : is_utf8 remote_class ≡ true
class_is_utf8 = is_utf8-from_IsUtf8 remote_class (IsUtf8-from_ascii remote_class (ascii_bytes remote_class refl))

pub remote_written : (r : Remote) → Written reference (roll-Tree (Tree-F.Remote r))
unfolding value body
remote_written r k zero c h l m = absurd (omega (arith, h, depth_roll (Tree-F.Remote r)))
remote_written r k (suc room) c h l m =
    let t : Tree-F Tree = Tree-F.Remote r in
    let a = here_every InRange t k.1 in
    let s = here_every Small t k.2 in
    let bs = remote_bytes r in
    let n : nodes (roll-Tree t) ≡ remote_nodes r = nodes_roll t in
    let f = name_gives remote_class (past 1 c) class_is_utf8 l (omega (arith, m, n)) in
    let e = after_string bs f.0 in
    let j = 1 + (length r.uri.bytes + length (id_bytes r.id)) / 256 in
    let d = add_object (tree.remote r) (add_nodes j e) in
    by_layer reference (suc room) t c (
      d,
      (λ rest. ap (read (value reference (suc room)) c) (ap (λ (ys : List ℕ). 117 ∷ ys) (bytes_then (symbol_bytes remote_class) (these (string_bytes_of bs)) c.symbols f.0.symbols rest f.2.symbols))
          ∙ rw (f.1 (string_bytes_of bs ++ rest), string_gives bs f.0 (omega (arith, m, n, remote_len r)) rest, held_reads r c.at e rest a.0 a.1 s, nodes_give c.at j e rest (omega (arith, f.2.nodes, m, n))) refl),
      record { symbols = f.2.symbols; few = omega (arith, f.2.few); nodes = omega (arith, f.2.nodes) },
    )
