use Rattle.std.proofs.Common.{◌≡◌}
use Rattle.std.specs.Prelude.{drop}
use Rattle.drb_ids.specs.Standings.{with_all_ended}
use Rattle.drb_ids.proofs.table.ended_standings.Given as goal

-- with those that are left it is what all make
abbrev pub invariant-loop-row : goal.invariant-loop-row
invariant-loop-row l = with_all_ended (drop l.row-index l.ended) l.objects.entries ≡ with_all_ended l.ended l.fn.objects.entries
