use Rattle.std.proofs.Common.{◌≡◌, length}
use Rattle.rinda_journal.specs.Reading.{picks_in as picks_in_spec}
use Rattle.rinda_journal.proofs.Joined.{joined}
use Rattle.rinda_journal.proofs.cursor.picks_in.Given as goal

abbrev pub invariant-loop-rest : goal.invariant-loop-rest
invariant-loop-rest l = picks_in_spec l.fields ≡ joined l.list.items (picks_in_spec l.rest)

abbrev pub decreases-loop-rest : goal.decreases-loop-rest
decreases-loop-rest l = length l.rest
