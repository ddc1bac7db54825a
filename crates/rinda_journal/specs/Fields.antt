-- The plain fields of a turn, of which the head of its text is made: docs/JOURNAL.md, The head.
use Rattle.std.specs.Prelude.{ℕ, pos, true, false, List, map, Option, Some, None}
use Rattle.drb_tree.specs.declared.Remote.{Remote}
use Rattle.drb_tree.specs.declared.Tree.{Tree}
use Rattle.drb_tree.specs.Trees.{nil_tree, bool_tree, int_tree, sym_tree, list_tree}
use Rattle.rinda_tuple.specs.declared.lease.Life.{Life}
use Rattle.rinda_tuple.specs.declared.lease.Life.TheVariants.{Never, Gone, Seconds}
use Rattle.rinda_rules.specs.declared.event.Kind.{Kind}
use Rattle.rinda_rules.specs.declared.event.Kind.TheVariants as kind
use Rattle.rinda_journal.specs.declared.field.Field.{Field}
use Rattle.rinda_journal.specs.declared.field.Field.TheVariants as field
use Rattle.rinda_journal.specs.declared.word.Word.{Word}
use Rattle.rinda_journal.specs.declared.word.Word.TheVariants as word
use Rattle.rinda_journal.specs.Words.{name_of}

-- an id, a time or a count
abbrev pub number : ℕ → Field
number n = field.Number (pos n)

-- a life: nil for ever, true where it is over at once, or its seconds
abbrev pub life_field : Life → Field
life_field Never = field.Nil
life_field Gone = field.Truth true
life_field (Seconds s) = field.Number s

-- whether somebody is there who renews
abbrev pub told : Option Remote → Field
told None = field.Truth false
told (Some renewer) = field.Truth true

-- the name of a kind of request
abbrev pub kind_word : Kind → Word
kind_word kind.Read = word.Read
kind_word kind.Take = word.Take
kind_word kind.Move = word.Move

-- a field as a value: nil, a truth value, an integer, or a symbol
abbrev pub field_value : Field → Tree
field_value field.Nil = nil_tree
field_value (field.Truth b) = bool_tree b
field_value (field.Number i) = int_tree i
field_value (field.Word w) = sym_tree (name_of w)

-- the head of a text, the list of its fields
abbrev pub head_value : List Field → Tree
head_value fields = list_tree (map field_value fields)
