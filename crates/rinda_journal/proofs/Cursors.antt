-- The next value of a turn that is being read.
use Rattle.std.proofs.Common.{◌≡◌, ℕ, List, ap}
use Rattle.std.specs.Prelude.{Some, Err}
use Rattle.drb_tree.specs.declared.Tree.{Tree}
use Rattle.rinda_journal.specs.declared.error.ReadTurnError.{ReadTurnError}
use Rattle.rinda_journal.specs.declared.error.ReadTurnError.TheVariants.{NotATurn, Memory}
use Rattle.rinda_journal.specs.declared.field.Field.{Field}
use Rattle.rinda_journal.specs.Parsers.{Left, Parses}
use Rattle.rinda_journal.specs.Streams.{packet_then, stream, PacketIs}
use Rattle.rinda_journal.specs.Reading.{value_first, next_value}
use Rattle.rinda_journal.proofs.Streams.{stream_some, stream_none}

pub value_failed : (fields : List Field) (bytes : List ℕ) (new : Left) (e : ReadTurnError) → PacketIs (packet_then bytes) (Err e) → Parses next_value (record { fields = fields; values = stream bytes }) new (Err e)
value_failed fields bytes new NotATurn h = ap (λ (vs : List Tree). value_first fields vs) (stream_none bytes h)
value_failed fields bytes new Memory h = tt

pub value_read : (fields : List Field) (bytes rest : List ℕ) (v : Tree) → packet_then bytes ≡ Some (v, rest) → next_value (record { fields = fields; values = stream bytes }) ≡ Some (v, record { fields = fields; values = stream rest })
value_read fields bytes rest v h = ap (λ (vs : List Tree). value_first fields vs) (stream_some bytes rest v h)
