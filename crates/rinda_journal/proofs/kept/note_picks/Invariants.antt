use Rattle.std.proofs.Common.{All, take}
use Rattle.rinda_journal.specs.Kept.{PickKept}
use Rattle.rinda_journal.proofs.kept.note_picks.Given as goal

abbrev pub invariant-loop-pick : goal.invariant-loop-pick
invariant-loop-pick l = All PickKept (take l.pick-index l.picks)
