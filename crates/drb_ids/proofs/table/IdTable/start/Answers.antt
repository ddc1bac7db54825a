use Rattle.std.proofs.Common.{arith}
use Rattle.drb_ids.proofs.Starting.{started-tied, started-minted, started-live}
use Rattle.drb_ids.proofs.Reviving.{drop-all, take-all}
use Rattle.drb_ids.proofs.table.IdTable.start.Goals as goal

pub invariant_of-result : goal.invariant_of-result
invariant_of-result c = (
  rw (c.in_ok-objects-2.ensures, c.in_ok-objects.ensures, c.in_ok-kept.ensures.items) (record {
    standings = started-tied c.args.next c.args.live.now c.args.ended.now c.requires;
    minted = started-minted c.args.next c.args.live.now c.args.ended.now c.requires;
    since = omega arith;
    few = c.requires.few;
    last = λ e. absurd cc;
  }),
  omega (arith, c.in_ok-kept.ensures.room, c.len.ensures.len),
)

pub returns-clause-starts : goal.returns-clause-starts
returns-clause-starts c = rw (c.in_ok-objects-2.ensures, c.in_ok-objects.ensures, c.in_ok-kept.ensures.items) (record {
  next_is = omega (arith, c.requires.first);
  live_are = λ id. rw (drop-all c.args.ended.now) (started-live id c.args.next c.args.live.now c.args.ended.now c.requires);
  ended_are = take-all c.args.ended.now;
})
