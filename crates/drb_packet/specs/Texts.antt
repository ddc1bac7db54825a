-- What is written: docs/WIRE.md, Requests and Replies.
use Rattle.std.specs.Prelude.{ℕ, ◌≤◌, ◌<◌, ◌⊎◌, ◌≡◌, List, [], ◌∷◌, ◌++◌, length, Bool, pos, Result, Ok, Err}
use Rattle.byteorder.specs.Endian.{big_bytes}
use Rattle.drb_tree.specs.declared.Code.TheVariants.{Ascii}
use Rattle.drb_tree.specs.declared.RefId.{RefId}
use Rattle.drb_tree.specs.declared.Tree.{Tree}
use Rattle.drb_tree.specs.Kept.{id_tree}
use Rattle.marshal_grammar.specs.Trees.{nil, bool, int, text}
use Rattle.marshal_grammar.specs.Spelled.{spelled}
use Rattle.marshal_write.specs.Limits.{max_dump}
use Rattle.marshal_write.specs.declared.error.WriteError.{WriteError}
use Rattle.marshal_write.specs.declared.error.WriteError.TheVariants.{TooLong}

-- a packet: its size in four big-endian bytes, and its body
abbrev pub packet_text : List ℕ → List ℕ
packet_text body = big_bytes 4 (length body) ++ body

-- packets of these values, in their written spelling
abbrev pub packets_text : List Tree → List ℕ
packets_text [] = []
packets_text (v ∷ vs) = packet_text (spelled v) ++ packets_text vs

-- the text of a reply: success or failure, and the result
abbrev pub reply_text : Bool → Tree → List ℕ
reply_text ok value = packet_text (spelled (bool ok)) ++ packet_text (spelled value)

-- what a request says: whom it calls, the method's name in US-ASCII, the count of arguments, the arguments, and no block
abbrev pub ask_values : RefId → List ℕ → List Tree → List Tree
ask_values to name args =
    id_tree to ∷ text name Ascii ∷ int (pos (length args)) ∷ (args ++ nil ∷ [])

-- the text of a request
abbrev pub ask_text : RefId → List ℕ → List Tree → List ℕ
ask_text to name args = packets_text (ask_values to name args)

-- no dump of these values is too long
abbrev pub AllShort : List Tree → Type 0
AllShort [] = Unit {0}
AllShort (v ∷ vs) = (length (spelled v) ≤ max_dump) × AllShort vs

-- some dump of these values is too long
abbrev pub SomeLong : List Tree → Type 0
SomeLong [] = ⊥
SomeLong (v ∷ vs) = (max_dump < length (spelled v)) ⊎ SomeLong vs

-- The packets of these values were added, and none of their dumps is too long. Or some were: what was there stands in
-- front, and only where some dump is too long is that the reason.
abbrev pub Puts : List Tree → Result (Unit {0}) WriteError → List ℕ → List ℕ → Type 0
Puts vs (Ok u) out out' = (out' ≡ out ++ packets_text vs) × AllShort vs
Puts vs (Err e) out out' = ((rest : List ℕ) × (out' ≡ out ++ rest)) × (e ≡ TooLong → SomeLong vs)
