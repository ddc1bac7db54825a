-- What the front of a dump leaves for the rest of it: docs/MARSHAL.md, Numbering.
use Rattle.std.specs.Prelude.{ℕ, ◌+◌, List, [], ◌∷◌, ◌++◌, Option, Some, None, slice_set}
use Rattle.drb_tree.specs.declared.Tree.{Tree}

-- The place reached; the symbols so far; the objects so far, None where one has begun and is not finished; the nodes counted so far.
pub record Context : Type 0 where
  pub at : ℕ
  pub symbols : List (List ℕ)
  pub objects : List (Option Tree)
  pub nodes : ℕ

-- a dump begins at its first byte, with empty tables and nothing counted
abbrev pub opening : Context
opening = record { at = 0; symbols = []; objects = []; nodes = 0 }

-- n bytes further
abbrev pub past : ℕ → Context → Context
past n c = record c { at = c.at + n }

-- with a further symbol, which gets the next number
abbrev pub add_symbol : List ℕ → Context → Context
add_symbol s c = record c { symbols = c.symbols ++ (s ∷ []) }

-- with a further object that begins and gets the next number
abbrev pub begin_object : Context → Context
begin_object c = record c { objects = c.objects ++ (None ∷ []) }

-- object k is finished
abbrev pub finish_object : ℕ → Tree → Context → Context
finish_object k v c = record c { objects = slice_set c.objects k (Some v) }

-- with a further object that is finished at once
abbrev pub add_object : Tree → Context → Context
add_object v c = record c { objects = c.objects ++ (Some v ∷ []) }

-- with k nodes more
abbrev pub add_nodes : ℕ → Context → Context
add_nodes k c = record c { nodes = c.nodes + k }
