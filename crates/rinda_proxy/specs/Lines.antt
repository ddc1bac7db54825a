-- What a command prints: docs/CLIENT.md, Lines.
use Rattle.std.specs.Prelude.{ℕ, List, [], ◌∷◌, ◌++◌, Option, None, Some, bytes_eq, codes, if◌then◌else◌}
use Rattle.drb_tree.specs.declared.Tree.{Tree}
use Rattle.drb_tree.specs.declared.Tree.TheViews.{out-Tree}
use Rattle.drb_tree.specs.declared.Tree.TheOpen.{Tree-F}
use Rattle.drb_back.specs.declared.back.Back.{Back}
use Rattle.drb_back.specs.declared.back.Back.TheVariants as back
use Rattle.drb_text.specs.Shown.{shown}
use Rattle.rinda_proxy.specs.declared.asking.Asking.{Asking}
use Rattle.rinda_proxy.specs.declared.asking.Asking.TheVariants.{Write, Read, ReadAll, Watch}

-- a value: its text, and the end of the line
abbrev pub line : Tree → List ℕ
line v = shown v ++ 10 ∷ []

abbrev pub lines : List Tree → List ℕ
lines [] = []
lines (v ∷ vs) = line v ++ lines vs

-- each item of a list on a line of its own; every other value on one
abbrev pub lines_in : Tree → Tree-F Tree → List ℕ
lines_in v (Tree-F.List items) = lines items
lines_in v _ = line v

abbrev pub each_line : Tree → List ℕ
each_line v = lines_in v (out-Tree v)

-- the message of an exception: the bytes of the text in its field `mesg`
abbrev pub bytes_in : Tree-F Tree → Option (List ℕ)
bytes_in (Tree-F.Text t) = Some t.bytes
bytes_in _ = None

abbrev pub message_in : List (List ℕ × Tree) → Option (List ℕ)
message_in [] = None
message_in (f ∷ fs) = if bytes_eq f.0 (codes "mesg") then bytes_in (out-Tree f.1)
    else message_in fs

-- an exception: `CLASS: MESSAGE` where it is an object with a message, and else as a value
abbrev pub message_line : Tree → List ℕ → Option (List ℕ) → List ℕ
message_line e class (Some message) = class ++ (codes ": " ++ (message ++ 10 ∷ []))
message_line e class None = line e

abbrev pub raised_in : Tree → Tree-F Tree → List ℕ
raised_in e (Tree-F.Object class fields) = message_line e class (message_in fields)
raised_in e _ = line e

abbrev pub raised_line : Tree → List ℕ
raised_line e = raised_in e (out-Tree e)

-- the value that a command's first request was answered with: a watcher prints nothing of the reference to its notifier
abbrev pub value_text : Asking → Tree → List ℕ
value_text (Write tuple life) v = line v
value_text (Read tuple life) v = line v
value_text (ReadAll tuple) v = each_line v
value_text (Watch event tuple count) v = []

-- the answer to that request: a value, or an exception; for the others there is a status alone
abbrev pub first_text : Asking → Back → List ℕ
first_text a (back.Value v) = value_text a v
first_text a (back.Raised e) = raised_line e
first_text a b = []

-- the answer to a request for an event
abbrev pub pop_text : Back → List ℕ
pop_text (back.Value v) = line v
pop_text (back.Raised e) = raised_line e
pop_text b = []

abbrev pub pop_texts : List Back → List ℕ
pop_texts [] = []
pop_texts (b ∷ bs) = pop_text b ++ pop_texts bs
