-- The values of the packets that stand one after the other in bytes, whatever their sizes say.
use Rattle.std.specs.Prelude.{ℕ, ◌≡◌, Result, zero, suc, List, [], ◌∷◌, length, Option, Some, None, Ok, Err}
use Rattle.drb_tree.specs.declared.Tree.{Tree}
use Rattle.marshal_grammar.specs.Reading.{Read}
use Rattle.marshal_grammar.specs.Dumps.{dump_of}
use Rattle.std.specs.Borrow.{Bor}
use Rattle.rinda_journal.specs.declared.error.ReadTurnError.{ReadTurnError}
use Rattle.rinda_journal.specs.declared.error.ReadTurnError.TheVariants.{NotATurn, Memory}

-- what a dump gives, and the bytes behind it
abbrev pub dump_then : Read Tree → Option (Tree × List ℕ)
dump_then (Ok r) = Some (r.0, r.2)
dump_then (Err refusal) = None

-- four bytes of a size, and the dump behind them
abbrev pub packet_then : List ℕ → Option (Tree × List ℕ)
packet_then (a ∷ b ∷ c ∷ d ∷ rest) = dump_then (dump_of rest)
packet_then _ = None

-- what was read of a packet is that: its value, and the bytes behind it
abbrev pub PacketIs : Option (Tree × List ℕ) → Result (Tree × Bor (List ℕ)) ReadTurnError → Type 0
PacketIs o (Ok r) = o ≡ Some (r.0, r.1.now)
PacketIs o (Err NotATurn) = o ≡ None
PacketIs o (Err Memory) = Unit {0}

-- that value, and those of the bytes behind it
abbrev pub more_by : (List ℕ → List Tree) → Option (Tree × List ℕ) → List Tree
more_by more None = []
more_by more (Some r) = r.0 ∷ more r.1

-- at most n values
abbrev pub stream_in : ℕ → List ℕ → List Tree
stream_in zero bytes = []
stream_in (suc n) bytes = more_by (stream_in n) (packet_then bytes)

-- all values: each packet takes a byte at least, so there are no more than there are bytes
unfoldable pub stream : List ℕ → List Tree
stream bytes = stream_in (length bytes) bytes
