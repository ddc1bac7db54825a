-- Values and their written bytes, one by one.
use Rattle.std.specs.Prelude.{◌≡◌, [], ◌∷◌, refl, pos, negsuc, Some}
use Rattle.std.proofs.Common.{ap, ◌∙◌, Ok}
use Rattle.drb_tree.specs.declared.Code.TheVariants.{Binary, Utf8}
use Rattle.drb_tree.specs.declared.Text.{Text}
use Rattle.drb_tree.specs.declared.Tree.{Tree}
use Rattle.drb_tree.specs.declared.Tree.TheOpen.{Tree-F}
use Rattle.drb_tree.specs.declared.Tree.TheViews.{roll-Tree}
use Rattle.marshal_grammar.specs.Contexts.{Context}
use Rattle.marshal_grammar.specs.Symbols.{symbol}
use Rattle.marshal_grammar.specs.Trees as tree
use Rattle.marshal_grammar.specs.Values.{body, value}
use Rattle.marshal_grammar.specs.Dumps.{dump, dump_with, reference, dump_of}
use Rattle.marshal_grammar.specs.Spelled.{Writing, writing, spelled}
use Rattle.marshal_grammar.proofs.WrittenForms.{writing_roll, nodes_roll, depth_roll}

-- a value whose writing is known
spelled_as : (l : Tree-F Tree) (w : Writing) → writing (roll-Tree l) ≡ w → spelled (roll-Tree l) ≡ 4 ∷ 8 ∷ (w []).0
spelled_as l w e = ap (λ (u : Writing). 4 ∷ 8 ∷ (u []).0) e

zero : spelled (tree.int (pos 0)) ≡ 4 ∷ 8 ∷ 105 ∷ 0 ∷ []
zero = spelled_as (Tree-F.Int (pos 0)) _ (writing_roll (Tree-F.Int (pos 0)))

n122 : spelled (tree.int (pos 122)) ≡ 4 ∷ 8 ∷ 105 ∷ 127 ∷ []
n122 = spelled_as (Tree-F.Int (pos 122)) _ (writing_roll (Tree-F.Int (pos 122)))

n123 : spelled (tree.int (pos 123)) ≡ 4 ∷ 8 ∷ 105 ∷ 1 ∷ 123 ∷ []
n123 = spelled_as (Tree-F.Int (pos 123)) _ (writing_roll (Tree-F.Int (pos 123)))

n300 : spelled (tree.int (pos 300)) ≡ 4 ∷ 8 ∷ 105 ∷ 2 ∷ 44 ∷ 1 ∷ []
n300 = spelled_as (Tree-F.Int (pos 300)) _ (writing_roll (Tree-F.Int (pos 300)))

m123 : spelled (tree.int (negsuc 122)) ≡ 4 ∷ 8 ∷ 105 ∷ 128 ∷ []
m123 = spelled_as (Tree-F.Int (negsuc 122)) _ (writing_roll (Tree-F.Int (negsuc 122)))

m124 : spelled (tree.int (negsuc 123)) ≡ 4 ∷ 8 ∷ 105 ∷ 255 ∷ 132 ∷ []
m124 = spelled_as (Tree-F.Int (negsuc 123)) _ (writing_roll (Tree-F.Int (negsuc 123)))

m129 : spelled (tree.int (negsuc 128)) ≡ 4 ∷ 8 ∷ 105 ∷ 255 ∷ 127 ∷ []
m129 = spelled_as (Tree-F.Int (negsuc 128)) _ (writing_roll (Tree-F.Int (negsuc 128)))

most : spelled (tree.int (pos 1073741823)) ≡ 4 ∷ 8 ∷ 105 ∷ 4 ∷ 255 ∷ 255 ∷ 255 ∷ 63 ∷ []
most = spelled_as (Tree-F.Int (pos 1073741823)) _ (writing_roll (Tree-F.Int (pos 1073741823)))

least : spelled (tree.int (negsuc 1073741823)) ≡ 4 ∷ 8 ∷ 105 ∷ 252 ∷ 0 ∷ 0 ∷ 0 ∷ 192 ∷ []
least = spelled_as (Tree-F.Int (negsuc 1073741823)) _ (writing_roll (Tree-F.Int (negsuc 1073741823)))

big : spelled (tree.int (pos 1073741824)) ≡ 4 ∷ 8 ∷ 108 ∷ 43 ∷ 7 ∷ 0 ∷ 0 ∷ 0 ∷ 64 ∷ []
big = spelled_as (Tree-F.Int (pos 1073741824)) _ (writing_roll (Tree-F.Int (pos 1073741824)))

far : spelled (tree.int (negsuc 170141183460469231731687303715884105727)) ≡ 4 ∷ 8 ∷ 108 ∷ 45 ∷ 13 ∷ 0 ∷ 0 ∷ 0 ∷ 0 ∷ 0 ∷ 0 ∷ 0 ∷ 0 ∷ 0 ∷ 0 ∷ 0 ∷ 0 ∷ 0 ∷ 0 ∷ 0 ∷ 128 ∷ []
far = spelled_as (Tree-F.Int (negsuc 170141183460469231731687303715884105727)) _ (writing_roll (Tree-F.Int (negsuc 170141183460469231731687303715884105727)))

five : spelled (tree.int (pos 5)) ≡ 4 ∷ 8 ∷ 105 ∷ 10 ∷ []
five = spelled_as (Tree-F.Int (pos 5)) _ (writing_roll (Tree-F.Int (pos 5)))

abbrev ab : Text
ab = record { bytes = 97 ∷ 98 ∷ []; code = Utf8 }

abbrev abs : Tree-F Tree
abs = Tree-F.List (roll-Tree (Tree-F.Text ab) ∷ roll-Tree (Tree-F.Text ab) ∷ [])

two_texts : spelled (roll-Tree abs) ≡ 4 ∷ 8 ∷ 91 ∷ 7 ∷ 73 ∷ 34 ∷ 7 ∷ 97 ∷ 98 ∷ 6 ∷ 58 ∷ 6 ∷ 69 ∷ 84 ∷ 73 ∷ 34 ∷ 7 ∷ 97 ∷ 98 ∷ 6 ∷ 59 ∷ 0 ∷ 84 ∷ []
two_texts = spelled_as abs _ (writing_roll abs) ∙ rw (writing_roll (Tree-F.Text ab)) refl

two_texts_read : (d : Context) × (dump_of (4 ∷ 8 ∷ 91 ∷ 7 ∷ 73 ∷ 34 ∷ 7 ∷ 97 ∷ 98 ∷ 6 ∷ 58 ∷ 6 ∷ 69 ∷ 84 ∷ 64 ∷ 6 ∷ []) ≡ Ok (roll-Tree abs, d, []))
unfolding dump dump_with value body symbol reference
two_texts_read = (record { at = 16; symbols = (69 ∷ []) ∷ []; objects = Some (roll-Tree abs) ∷ Some (roll-Tree (Tree-F.Text ab)) ∷ []; nodes = 3 }, rw (depth_roll (Tree-F.Text ab), nodes_roll (Tree-F.Text ab)) refl)

abbrev y : Text
y = record { bytes = 121 ∷ []; code = Binary }

abbrev dumped : Tree-F Tree
dumped = Tree-F.Dumped (84 ∷ []) (120 ∷ []) ((107 ∷ [], roll-Tree (Tree-F.Text y)) ∷ [])

abbrev dumps : Tree-F Tree
dumps = Tree-F.List (roll-Tree dumped ∷ roll-Tree dumped ∷ [])

two_dumped : spelled (roll-Tree dumps) ≡ 4 ∷ 8 ∷ 91 ∷ 7 ∷ 73 ∷ 117 ∷ 58 ∷ 6 ∷ 84 ∷ 6 ∷ 120 ∷ 6 ∷ 58 ∷ 6 ∷ 107 ∷ 34 ∷ 6 ∷ 121 ∷ 73 ∷ 117 ∷ 59 ∷ 0 ∷ 6 ∷ 120 ∷ 6 ∷ 59 ∷ 6 ∷ 34 ∷ 6 ∷ 121 ∷ []
two_dumped = spelled_as dumps _ (writing_roll dumps) ∙ rw (writing_roll dumped, writing_roll (Tree-F.Text y)) refl

two_dumped_read : (d : Context) × (dump_of (4 ∷ 8 ∷ 91 ∷ 7 ∷ 73 ∷ 117 ∷ 58 ∷ 6 ∷ 84 ∷ 6 ∷ 120 ∷ 6 ∷ 58 ∷ 6 ∷ 107 ∷ 34 ∷ 6 ∷ 121 ∷ 64 ∷ 7 ∷ []) ≡ Ok (roll-Tree dumps, d, []))
unfolding dump dump_with value body symbol reference
two_dumped_read = (record { at = 20; symbols = (84 ∷ []) ∷ (107 ∷ []) ∷ []; objects = Some (roll-Tree dumps) ∷ Some (roll-Tree (Tree-F.Text y)) ∷ Some (roll-Tree dumped) ∷ []; nodes = 9 }, rw (depth_roll dumped, depth_roll (Tree-F.Text y), nodes_roll dumped, nodes_roll (Tree-F.Text y)) refl)
