-- Packets: docs/WIRE.md, Packets.
use Rattle.std.specs.Prelude.{ℕ, List, [], ◌∷◌, length, take, drop, Ok, Err, nat_lt, if◌then◌else◌}
use Rattle.byteorder.specs.Endian.{big_number}
use Rattle.drb_tree.specs.declared.Tree.{Tree}
use Rattle.marshal_grammar.specs.Reading.{Read}
use Rattle.marshal_grammar.specs.Dumps.{dump_of}
use Rattle.drb_packet.specs.declared.refusal.PacketRefusal.TheVariants.{PrematureHeader, TooLarge, PrematureBody, Marshal}
use Rattle.drb_packet.specs.Parsers.{holds, ended, refused, Parser, ◌>>=◌, uncut}

-- a size has to be below the load limit
abbrev pub small : ℕ → ℕ → Parser ℕ
small load n rest = if nat_lt n load then holds n rest else refused (TooLarge n) rest

-- a size: four big-endian bytes
abbrev pub size : ℕ → Parser ℕ
size load [] = ended
size load (a ∷ []) = refused PrematureHeader []
size load (a ∷ b ∷ []) = refused PrematureHeader []
size load (a ∷ b ∷ c ∷ []) = refused PrematureHeader []
size load (a ∷ b ∷ c ∷ d ∷ rest) = small load (big_number 4 (a ∷ b ∷ c ∷ d ∷ [])) rest

-- a body: so many bytes
abbrev pub packet_body : ℕ → Parser (List ℕ)
packet_body n bytes = if nat_lt (length bytes) n then refused PrematureBody []
    else holds (take n bytes) (drop n bytes)

-- what a body is read as: the value that it begins with a dump of, or the refusal of that dump
abbrev pub dumped : Read Tree → Parser Tree
dumped (Ok r) rest = holds r.0 rest
dumped (Err refusal) rest = refused (Marshal refusal) rest

-- a body of this size, which begins with a dump
abbrev pub loaded : ℕ → Parser Tree
loaded n = do
  b ← packet_body n
  dumped (dump_of b)

-- a packet: a size, and a body of that size
unfoldable pub packet : ℕ → Parser Tree
packet load = do
  n ← size load
  loaded n

-- a packet that isn't the first
abbrev pub further : ℕ → Parser Tree
further load bytes = uncut (packet load bytes)
