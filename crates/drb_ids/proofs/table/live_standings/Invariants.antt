use Rattle.std.proofs.Common.{◌≡◌, []}
use Rattle.std.specs.Prelude.{drop}
use Rattle.drb_ids.specs.Standings.{with_all_live}
use Rattle.drb_ids.proofs.table.live_standings.Given as goal

-- with those that are left it is what all make
abbrev pub invariant-loop-row : goal.invariant-loop-row
invariant-loop-row l = with_all_live (drop l.row-index l.live) l.objects.entries ≡ with_all_live l.live []
