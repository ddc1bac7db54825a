use Rattle.std.proofs.Common.{◌≡◌, drop}
use Rattle.rinda_journal.specs.Reading.{fields_in as fields_in_spec}
use Rattle.rinda_journal.proofs.Joined.{joined}
use Rattle.rinda_journal.proofs.fields_at.fields_in.Given as goal

abbrev pub invariant-loop-value : goal.invariant-loop-value
invariant-loop-value l = fields_in_spec l.values ≡ joined l.fields (fields_in_spec (drop l.value-index l.values))
