-- An exception of Ruby as a value: docs/WIRE.md, Exceptions.
use Rattle.std.specs.Prelude.{ℕ, List, [], ◌∷◌, codes}
use Rattle.drb_tree.specs.declared.Code.TheVariants.{Utf8}
use Rattle.drb_tree.specs.declared.Tree.{Tree}
use Rattle.drb_tree.specs.Trees.{object_tree, text_tree, list_tree}

-- an object of that class: `mesg`, the message as a text of UTF-8, and `bt`, the calls that led there, of which none is told
abbrev pub exception_tree : List ℕ → List ℕ → Tree
exception_tree class message = object_tree class
    ((codes "mesg", text_tree (record { bytes = message; code = Utf8 }))
    ∷ (codes "bt", list_tree [])
    ∷ [])
