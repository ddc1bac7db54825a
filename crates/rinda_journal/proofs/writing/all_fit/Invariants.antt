use Rattle.std.proofs.Common.{All, take}
use Rattle.drb_tree.specs.Kept.{Fits}
use Rattle.rinda_journal.proofs.writing.all_fit.Given as goal

abbrev pub invariant-loop-value : goal.invariant-loop-value
invariant-loop-value l = All Fits (take l.value-index l.values)
