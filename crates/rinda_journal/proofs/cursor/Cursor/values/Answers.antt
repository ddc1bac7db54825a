use Rattle.std.proofs.Common.{◌<◌, length, length-append, ap, [], ◌∷◌, arith}
use Rattle.rinda_journal.specs.Reading.{values_of}
use Rattle.rinda_journal.proofs.Joined.{values_more}
use Rattle.rinda_journal.proofs.cursor.Cursor.values.Goals as goal

pub loop-alloc-preserved : goal.loop-alloc-preserved
loop-alloc-preserved c =
    let lt : length c.loop-alloc.values < c.args.count = omega (arith, c.len.ensures, c.loop-alloc-test.true) in
    record {
      reads = values_more (values_of c.args.count c.args.self.now) c.args.count c.loop-alloc.values c.push.new.self c.in_ok-value.value c.loop-alloc.self c.value.new.self lt c.in_ok-value.ensures c.in_ok-push.ensures.ok c.loop-alloc.invariant.reads;
      within = omega (arith, lt, ap length c.in_ok-push.ensures.ok, length-append c.loop-alloc.values (c.in_ok-value.value ∷ []));
    }
