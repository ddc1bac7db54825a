-- Dumps read and written, byte by byte.
use Rattle.std.specs.Prelude.{ℕ, zero, suc, ◌≡◌, List, [], ◌∷◌, Ok, refl, pos, negsuc, None}
use Rattle.drb_tree.specs.declared.Code.TheVariants.{Utf8}
use Rattle.drb_tree.specs.declared.Tree.{Tree}
use Rattle.drb_tree.specs.declared.Tree.TheFolds.{fold-roll-Tree, map-Tree}
use Rattle.drb_tree.specs.declared.Tree.TheOpen.{Tree-F}
use Rattle.drb_tree.specs.declared.Tree.TheViews.{roll-Tree}
use Rattle.marshal_grammar.specs.declared.refusal.Why.{Why}
use Rattle.marshal_grammar.specs.declared.refusal.Why.TheVariants as why
use Rattle.marshal_grammar.specs.Contexts.{Context}
use Rattle.marshal_grammar.specs.Symbols.{symbol}
use Rattle.marshal_grammar.specs.Trees.{int, sym, text, list, hash}
use Rattle.marshal_grammar.specs.Values.{body, value}
use Rattle.marshal_grammar.specs.Dumps.{dump, dump_with, reference, dump_of}
use Rattle.marshal_grammar.specs.Reading.{refuse}
use Rattle.marshal_grammar.specs.Spelled.{these, Writing, writing, writing_step}

-- one layer of what a value writes
pub writing_roll : (l : Tree-F Tree) → writing (roll-Tree l) ≡ writing_step (map-Tree Tree Writing writing l)
writing_roll l = fold-roll-Tree Writing writing_step l

abbrev ReadAs : List ℕ → Tree → Type 0
ReadAs bs v = (d : Context) × (dump_of bs ≡ Ok (v, d, []))

abbrev RefusedAs : List ℕ → Why → ℕ → Type 0
RefusedAs bs w at = dump_of bs ≡ refuse {A = Tree} w at

zero_read : ReadAs (4 ∷ 8 ∷ 105 ∷ 0 ∷ []) (int (pos 0))
unfolding dump dump_with value body symbol reference
zero_read = (_, refl)

n122_read : ReadAs (4 ∷ 8 ∷ 105 ∷ 127 ∷ []) (int (pos 122))
unfolding dump dump_with value body symbol reference
n122_read = (_, refl)

n123_read : ReadAs (4 ∷ 8 ∷ 105 ∷ 1 ∷ 123 ∷ []) (int (pos 123))
unfolding dump dump_with value body symbol reference
n123_read = (_, refl)

n300_read : ReadAs (4 ∷ 8 ∷ 105 ∷ 2 ∷ 44 ∷ 1 ∷ []) (int (pos 300))
unfolding dump dump_with value body symbol reference
n300_read = (_, refl)

m123_read : ReadAs (4 ∷ 8 ∷ 105 ∷ 128 ∷ []) (int (negsuc 122))
unfolding dump dump_with value body symbol reference
m123_read = (_, refl)

m124_read : ReadAs (4 ∷ 8 ∷ 105 ∷ 255 ∷ 132 ∷ []) (int (negsuc 123))
unfolding dump dump_with value body symbol reference
m124_read = (_, refl)

m129_read : ReadAs (4 ∷ 8 ∷ 105 ∷ 255 ∷ 127 ∷ []) (int (negsuc 128))
unfolding dump dump_with value body symbol reference
m129_read = (_, refl)

most_read : ReadAs (4 ∷ 8 ∷ 105 ∷ 4 ∷ 255 ∷ 255 ∷ 255 ∷ 63 ∷ []) (int (pos 1073741823))
unfolding dump dump_with value body symbol reference
most_read = (_, refl)

least_read : ReadAs (4 ∷ 8 ∷ 105 ∷ 252 ∷ 0 ∷ 0 ∷ 0 ∷ 192 ∷ []) (int (negsuc 1073741823))
unfolding dump dump_with value body symbol reference
least_read = (_, refl)

big_read : ReadAs (4 ∷ 8 ∷ 108 ∷ 43 ∷ 7 ∷ 0 ∷ 0 ∷ 0 ∷ 64 ∷ []) (int (pos 1073741824))
unfolding dump dump_with value body symbol reference
big_read = (_, refl)

far_read : ReadAs (4 ∷ 8 ∷ 108 ∷ 45 ∷ 13 ∷ 0 ∷ 0 ∷ 0 ∷ 0 ∷ 0 ∷ 0 ∷ 0 ∷ 0 ∷ 0 ∷ 0 ∷ 0 ∷ 0 ∷ 0 ∷ 0 ∷ 0 ∷ 128 ∷ []) (int (negsuc 170141183460469231731687303715884105727))
unfolding dump dump_with value body symbol reference
far_read = (_, refl)

too_big : RefusedAs (4 ∷ 8 ∷ 108 ∷ 43 ∷ 13 ∷ 0 ∷ 0 ∷ 0 ∷ 0 ∷ 0 ∷ 0 ∷ 0 ∷ 0 ∷ 0 ∷ 0 ∷ 0 ∷ 0 ∷ 0 ∷ 0 ∷ 0 ∷ 128 ∷ []) why.BigInteger 2
unfolding dump dump_with value body symbol reference
too_big = refl

long_five_read : ReadAs (4 ∷ 8 ∷ 105 ∷ 1 ∷ 5 ∷ []) (int (pos 5))
unfolding dump dump_with value body symbol reference
long_five_read = (_, refl)

abs_again_read : ReadAs (4 ∷ 8 ∷ 91 ∷ 7 ∷ 73 ∷ 34 ∷ 7 ∷ 97 ∷ 98 ∷ 6 ∷ 58 ∷ 6 ∷ 69 ∷ 84 ∷ 73 ∷ 34 ∷ 7 ∷ 97 ∷ 98 ∷ 6 ∷ 59 ∷ 0 ∷ 84 ∷ []) (list (text (97 ∷ 98 ∷ []) Utf8 ∷ text (97 ∷ 98 ∷ []) Utf8 ∷ []))
unfolding dump dump_with value body symbol reference
abs_again_read = (_, refl)

cyclic : RefusedAs (4 ∷ 8 ∷ 91 ∷ 6 ∷ 64 ∷ 0 ∷ []) why.Cyclic 4
unfolding dump dump_with value body symbol reference
cyclic = refl

no_object : RefusedAs (4 ∷ 8 ∷ 91 ∷ 6 ∷ 64 ∷ 6 ∷ []) why.ObjectLink 4
unfolding dump dump_with value body symbol reference
no_object = refl

hash_read : ReadAs (4 ∷ 8 ∷ 123 ∷ 6 ∷ 58 ∷ 6 ∷ 97 ∷ 105 ∷ 6 ∷ []) (hash ((sym (97 ∷ []), int (pos 1)) ∷ []) None)
unfolding dump dump_with value body symbol reference
hash_read = (_, refl)

short : RefusedAs (4 ∷ 8 ∷ 123 ∷ 7 ∷ 58 ∷ 6 ∷ 97 ∷ 105 ∷ 6 ∷ []) why.Short 9
unfolding dump dump_with value body symbol reference
short = refl

version : RefusedAs (4 ∷ 9 ∷ 48 ∷ []) why.Version 1
unfolding dump dump_with value body symbol reference
version = refl

empty : RefusedAs ([]) why.Short 0
unfolding dump dump_with value body symbol reference
empty = refl

float : RefusedAs (4 ∷ 8 ∷ 91 ∷ 6 ∷ 91 ∷ 6 ∷ 102 ∷ 8 ∷ 49 ∷ 46 ∷ 53 ∷ []) (why.BadType 102) 6
unfolding dump dump_with value body symbol reference
float = refl

e_under_i_read : ReadAs (4 ∷ 8 ∷ 73 ∷ 58 ∷ 6 ∷ 97 ∷ 6 ∷ 73 ∷ 58 ∷ 6 ∷ 69 ∷ 6 ∷ 59 ∷ 6 ∷ 70 ∷ 84 ∷ []) (sym (97 ∷ []))
unfolding dump dump_with value body symbol reference
e_under_i_read = (_, refl)

bad_mark : RefusedAs (4 ∷ 8 ∷ 73 ∷ 73 ∷ 0 ∷ []) (why.BadType 73) 3
unfolding dump dump_with value body symbol reference
bad_mark = refl

written_zero : writing (int (pos 0)) ≡ these (105 ∷ 0 ∷ [])
written_zero = fold-roll-Tree Writing writing_step (Tree-F.Int (pos 0))

too_deep : RefusedAs (4 ∷ 8 ∷ 91 ∷ 6 ∷ 91 ∷ 6 ∷ 91 ∷ 6 ∷ 91 ∷ 6 ∷ 91 ∷ 6 ∷ 91 ∷ 6 ∷ 91 ∷ 6 ∷ 91 ∷ 6 ∷ 91 ∷ 6 ∷ 91 ∷ 6 ∷ 91 ∷ 6 ∷ 91 ∷ 6 ∷ 91 ∷ 6 ∷ 91 ∷ 6 ∷ 91 ∷ 6 ∷ 91 ∷ 6 ∷ 91 ∷ 6 ∷ 91 ∷ 6 ∷ 91 ∷ 6 ∷ 91 ∷ 6 ∷ 91 ∷ 6 ∷ 91 ∷ 6 ∷ 91 ∷ 6 ∷ 91 ∷ 6 ∷ 91 ∷ 6 ∷ 91 ∷ 6 ∷ 91 ∷ 6 ∷ 91 ∷ 6 ∷ 91 ∷ 6 ∷ 91 ∷ 6 ∷ 91 ∷ 6 ∷ 91 ∷ 6 ∷ 91 ∷ 6 ∷ 91 ∷ 6 ∷ 91 ∷ 6 ∷ 91 ∷ 6 ∷ 91 ∷ 6 ∷ 91 ∷ 6 ∷ 91 ∷ 6 ∷ 91 ∷ 6 ∷ 91 ∷ 6 ∷ 91 ∷ 6 ∷ 91 ∷ 6 ∷ 91 ∷ 6 ∷ 91 ∷ 6 ∷ 91 ∷ 6 ∷ 91 ∷ 6 ∷ 91 ∷ 6 ∷ 91 ∷ 6 ∷ 91 ∷ 6 ∷ 91 ∷ 6 ∷ 91 ∷ 6 ∷ 91 ∷ 6 ∷ 91 ∷ 6 ∷ 91 ∷ 6 ∷ 91 ∷ 6 ∷ 91 ∷ 6 ∷ 91 ∷ 6 ∷ 91 ∷ 6 ∷ 91 ∷ 6 ∷ 91 ∷ 6 ∷ 91 ∷ 6 ∷ 91 ∷ 6 ∷ 91 ∷ 6 ∷ 91 ∷ 6 ∷ 91 ∷ 6 ∷ 91 ∷ 6 ∷ 91 ∷ 6 ∷ 91 ∷ 6 ∷ 91 ∷ 6 ∷ 91 ∷ 6 ∷ 91 ∷ 6 ∷ 91 ∷ 6 ∷ 91 ∷ 6 ∷ 91 ∷ 6 ∷ 91 ∷ 6 ∷ 91 ∷ 6 ∷ 91 ∷ 6 ∷ 91 ∷ 6 ∷ 91 ∷ 6 ∷ 91 ∷ 6 ∷ 91 ∷ 6 ∷ 91 ∷ 6 ∷ 91 ∷ 6 ∷ 91 ∷ 6 ∷ 91 ∷ 6 ∷ 91 ∷ 6 ∷ 91 ∷ 6 ∷ 91 ∷ 6 ∷ 91 ∷ 6 ∷ 91 ∷ 6 ∷ 91 ∷ 6 ∷ 91 ∷ 6 ∷ 91 ∷ 6 ∷ 91 ∷ 6 ∷ 91 ∷ 6 ∷ 91 ∷ 6 ∷ 91 ∷ 6 ∷ 91 ∷ 6 ∷ 91 ∷ 6 ∷ 91 ∷ 6 ∷ 91 ∷ 6 ∷ 91 ∷ 6 ∷ 91 ∷ 6 ∷ 91 ∷ 6 ∷ 91 ∷ 6 ∷ 91 ∷ 6 ∷ 91 ∷ 6 ∷ 91 ∷ 6 ∷ 91 ∷ 6 ∷ 91 ∷ 6 ∷ 91 ∷ 6 ∷ 91 ∷ 6 ∷ 91 ∷ 6 ∷ 91 ∷ 6 ∷ 91 ∷ 6 ∷ 91 ∷ 6 ∷ 91 ∷ 6 ∷ 91 ∷ 6 ∷ 91 ∷ 6 ∷ 91 ∷ 6 ∷ 91 ∷ 6 ∷ 91 ∷ 6 ∷ 91 ∷ 6 ∷ 91 ∷ 6 ∷ 91 ∷ 6 ∷ 91 ∷ 6 ∷ 91 ∷ 6 ∷ 91 ∷ 0 ∷ []) why.TooDeep 258
unfolding dump dump_with value body symbol reference
too_deep = refl

too_deep_link : RefusedAs (4 ∷ 8 ∷ 91 ∷ 6 ∷ 91 ∷ 6 ∷ 91 ∷ 6 ∷ 91 ∷ 6 ∷ 91 ∷ 6 ∷ 91 ∷ 6 ∷ 91 ∷ 6 ∷ 91 ∷ 6 ∷ 91 ∷ 6 ∷ 91 ∷ 6 ∷ 91 ∷ 6 ∷ 91 ∷ 6 ∷ 91 ∷ 6 ∷ 91 ∷ 6 ∷ 91 ∷ 6 ∷ 91 ∷ 6 ∷ 91 ∷ 6 ∷ 91 ∷ 6 ∷ 91 ∷ 6 ∷ 91 ∷ 6 ∷ 91 ∷ 6 ∷ 91 ∷ 6 ∷ 91 ∷ 6 ∷ 91 ∷ 6 ∷ 91 ∷ 6 ∷ 91 ∷ 6 ∷ 91 ∷ 6 ∷ 91 ∷ 6 ∷ 91 ∷ 6 ∷ 91 ∷ 6 ∷ 91 ∷ 6 ∷ 91 ∷ 6 ∷ 91 ∷ 6 ∷ 91 ∷ 6 ∷ 91 ∷ 6 ∷ 91 ∷ 6 ∷ 91 ∷ 6 ∷ 91 ∷ 6 ∷ 91 ∷ 6 ∷ 91 ∷ 6 ∷ 91 ∷ 6 ∷ 91 ∷ 6 ∷ 91 ∷ 6 ∷ 91 ∷ 6 ∷ 91 ∷ 6 ∷ 91 ∷ 6 ∷ 91 ∷ 6 ∷ 91 ∷ 6 ∷ 91 ∷ 6 ∷ 91 ∷ 6 ∷ 91 ∷ 6 ∷ 91 ∷ 6 ∷ 91 ∷ 6 ∷ 91 ∷ 6 ∷ 91 ∷ 6 ∷ 91 ∷ 6 ∷ 91 ∷ 6 ∷ 91 ∷ 6 ∷ 91 ∷ 6 ∷ 91 ∷ 6 ∷ 91 ∷ 6 ∷ 91 ∷ 6 ∷ 91 ∷ 6 ∷ 91 ∷ 6 ∷ 91 ∷ 6 ∷ 91 ∷ 6 ∷ 91 ∷ 6 ∷ 91 ∷ 6 ∷ 91 ∷ 6 ∷ 91 ∷ 6 ∷ 91 ∷ 6 ∷ 91 ∷ 6 ∷ 91 ∷ 6 ∷ 91 ∷ 6 ∷ 91 ∷ 6 ∷ 91 ∷ 6 ∷ 91 ∷ 6 ∷ 91 ∷ 6 ∷ 91 ∷ 6 ∷ 91 ∷ 6 ∷ 91 ∷ 6 ∷ 91 ∷ 6 ∷ 91 ∷ 6 ∷ 91 ∷ 6 ∷ 91 ∷ 6 ∷ 91 ∷ 6 ∷ 91 ∷ 6 ∷ 91 ∷ 6 ∷ 91 ∷ 6 ∷ 91 ∷ 6 ∷ 91 ∷ 6 ∷ 91 ∷ 6 ∷ 91 ∷ 6 ∷ 91 ∷ 6 ∷ 91 ∷ 6 ∷ 91 ∷ 6 ∷ 91 ∷ 6 ∷ 91 ∷ 6 ∷ 91 ∷ 6 ∷ 91 ∷ 6 ∷ 91 ∷ 6 ∷ 91 ∷ 6 ∷ 91 ∷ 6 ∷ 91 ∷ 6 ∷ 91 ∷ 6 ∷ 91 ∷ 6 ∷ 91 ∷ 6 ∷ 91 ∷ 6 ∷ 91 ∷ 6 ∷ 91 ∷ 6 ∷ 91 ∷ 6 ∷ 91 ∷ 6 ∷ 91 ∷ 6 ∷ 91 ∷ 6 ∷ 91 ∷ 6 ∷ 91 ∷ 6 ∷ 91 ∷ 6 ∷ 91 ∷ 6 ∷ 91 ∷ 6 ∷ 91 ∷ 6 ∷ 91 ∷ 6 ∷ 91 ∷ 6 ∷ 91 ∷ 6 ∷ 91 ∷ 6 ∷ 91 ∷ 6 ∷ 91 ∷ 6 ∷ 91 ∷ 6 ∷ 91 ∷ 6 ∷ 64 ∷ 0 ∷ []) why.Cyclic 258
unfolding dump dump_with value body symbol reference
too_deep_link = refl

negative_count : RefusedAs (4 ∷ 8 ∷ 91 ∷ 250 ∷ []) why.Length 3
unfolding dump dump_with value body symbol reference
negative_count = refl

no_symbol : RefusedAs (4 ∷ 8 ∷ 59 ∷ 0 ∷ []) why.SymbolLink 2
unfolding dump dump_with value body symbol reference
no_symbol = refl

two_variables : RefusedAs (4 ∷ 8 ∷ 73 ∷ 34 ∷ 6 ∷ 97 ∷ 7 ∷ []) why.Encoding 2
unfolding dump dump_with value body symbol reference
two_variables = refl

other_variable : RefusedAs (4 ∷ 8 ∷ 73 ∷ 34 ∷ 6 ∷ 97 ∷ 6 ∷ 58 ∷ 6 ∷ 69 ∷ 48 ∷ []) why.Encoding 2
unfolding dump dump_with value body symbol reference
other_variable = refl

no_sign : RefusedAs (4 ∷ 8 ∷ 108 ∷ 48 ∷ []) (why.BadType 48) 3
unfolding dump dump_with value body symbol reference
no_sign = refl

bare_name : RefusedAs (4 ∷ 8 ∷ 58 ∷ 6 ∷ 255 ∷ []) why.Name 2
unfolding dump dump_with value body symbol reference
bare_name = refl

class_name : RefusedAs (4 ∷ 8 ∷ 99 ∷ 6 ∷ 255 ∷ []) why.Name 2
unfolding dump dump_with value body symbol reference
class_name = refl

many_pairs : RefusedAs (4 ∷ 8 ∷ 123 ∷ 2 ∷ 1 ∷ 16 ∷ []) why.TooManyPairs 3
unfolding dump dump_with value body symbol reference
many_pairs = refl

twice_named : RefusedAs (4 ∷ 8 ∷ 111 ∷ 58 ∷ 6 ∷ 65 ∷ 7 ∷ 58 ∷ 6 ∷ 97 ∷ 48 ∷ 59 ∷ 6 ∷ 48 ∷ []) why.DuplicateKey 11
unfolding dump dump_with value body symbol reference
twice_named = refl

-- lists in lists, n of them round an empty one
abbrev nested : ℕ → Tree
nested zero = list []
nested (suc n) = list (nested n ∷ [])

deepest : ReadAs (4 ∷ 8 ∷ 91 ∷ 6 ∷ 91 ∷ 6 ∷ 91 ∷ 6 ∷ 91 ∷ 6 ∷ 91 ∷ 6 ∷ 91 ∷ 6 ∷ 91 ∷ 6 ∷ 91 ∷ 6 ∷ 91 ∷ 6 ∷ 91 ∷ 6 ∷ 91 ∷ 6 ∷ 91 ∷ 6 ∷ 91 ∷ 6 ∷ 91 ∷ 6 ∷ 91 ∷ 6 ∷ 91 ∷ 6 ∷ 91 ∷ 6 ∷ 91 ∷ 6 ∷ 91 ∷ 6 ∷ 91 ∷ 6 ∷ 91 ∷ 6 ∷ 91 ∷ 6 ∷ 91 ∷ 6 ∷ 91 ∷ 6 ∷ 91 ∷ 6 ∷ 91 ∷ 6 ∷ 91 ∷ 6 ∷ 91 ∷ 6 ∷ 91 ∷ 6 ∷ 91 ∷ 6 ∷ 91 ∷ 6 ∷ 91 ∷ 6 ∷ 91 ∷ 6 ∷ 91 ∷ 6 ∷ 91 ∷ 6 ∷ 91 ∷ 6 ∷ 91 ∷ 6 ∷ 91 ∷ 6 ∷ 91 ∷ 6 ∷ 91 ∷ 6 ∷ 91 ∷ 6 ∷ 91 ∷ 6 ∷ 91 ∷ 6 ∷ 91 ∷ 6 ∷ 91 ∷ 6 ∷ 91 ∷ 6 ∷ 91 ∷ 6 ∷ 91 ∷ 6 ∷ 91 ∷ 6 ∷ 91 ∷ 6 ∷ 91 ∷ 6 ∷ 91 ∷ 6 ∷ 91 ∷ 6 ∷ 91 ∷ 6 ∷ 91 ∷ 6 ∷ 91 ∷ 6 ∷ 91 ∷ 6 ∷ 91 ∷ 6 ∷ 91 ∷ 6 ∷ 91 ∷ 6 ∷ 91 ∷ 6 ∷ 91 ∷ 6 ∷ 91 ∷ 6 ∷ 91 ∷ 6 ∷ 91 ∷ 6 ∷ 91 ∷ 6 ∷ 91 ∷ 6 ∷ 91 ∷ 6 ∷ 91 ∷ 6 ∷ 91 ∷ 6 ∷ 91 ∷ 6 ∷ 91 ∷ 6 ∷ 91 ∷ 6 ∷ 91 ∷ 6 ∷ 91 ∷ 6 ∷ 91 ∷ 6 ∷ 91 ∷ 6 ∷ 91 ∷ 6 ∷ 91 ∷ 6 ∷ 91 ∷ 6 ∷ 91 ∷ 6 ∷ 91 ∷ 6 ∷ 91 ∷ 6 ∷ 91 ∷ 6 ∷ 91 ∷ 6 ∷ 91 ∷ 6 ∷ 91 ∷ 6 ∷ 91 ∷ 6 ∷ 91 ∷ 6 ∷ 91 ∷ 6 ∷ 91 ∷ 6 ∷ 91 ∷ 6 ∷ 91 ∷ 6 ∷ 91 ∷ 6 ∷ 91 ∷ 6 ∷ 91 ∷ 6 ∷ 91 ∷ 6 ∷ 91 ∷ 6 ∷ 91 ∷ 6 ∷ 91 ∷ 6 ∷ 91 ∷ 6 ∷ 91 ∷ 6 ∷ 91 ∷ 6 ∷ 91 ∷ 6 ∷ 91 ∷ 6 ∷ 91 ∷ 6 ∷ 91 ∷ 6 ∷ 91 ∷ 6 ∷ 91 ∷ 6 ∷ 91 ∷ 6 ∷ 91 ∷ 6 ∷ 91 ∷ 6 ∷ 91 ∷ 6 ∷ 91 ∷ 6 ∷ 91 ∷ 6 ∷ 91 ∷ 6 ∷ 91 ∷ 6 ∷ 91 ∷ 6 ∷ 91 ∷ 6 ∷ 91 ∷ 6 ∷ 91 ∷ 6 ∷ 91 ∷ 6 ∷ 91 ∷ 6 ∷ 91 ∷ 6 ∷ 91 ∷ 6 ∷ 91 ∷ 6 ∷ 91 ∷ 6 ∷ 91 ∷ 0 ∷ []) (nested 127)
unfolding dump dump_with value body symbol reference
deepest = (_, refl)
