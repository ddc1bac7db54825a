use Rattle.std.proofs.Common.{◌≡◌, ◌++◌, take}
use Rattle.rinda_journal.specs.Heads.{picks_fields as picks_fields_spec}
use Rattle.rinda_journal.proofs.heads.picks_fields.Given as goal

abbrev pub invariant-loop-pick : goal.invariant-loop-pick
invariant-loop-pick l = l.fields.items ≡ l.fn.fields.items ++ picks_fields_spec (take l.pick-index l.picks)
