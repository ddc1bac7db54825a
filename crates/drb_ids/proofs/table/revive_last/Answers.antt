use Rattle.std.proofs.Common.{arith}
use Rattle.std.proofs.lemmas.Map.{length-set_value}
use Rattle.std.specs.BTreeMap.{is_at}
use Rattle.std.specs.Ordering.{nat_cmp}
use Rattle.drb_ids.specs.declared.object.Standing.TheVariants.{Live}
use Rattle.drb_ids.proofs.Reviving.{revived-tied}
use Rattle.drb_ids.proofs.table.revive_last.Goals as goal

pub returns-in-Some-clause-tied : goal.returns-in-Some-clause-tied
returns-in-Some-clause-tied c = rw c.set.ensures (revived-tied c.args.objects.now.entries c.pop_back.new.self.items c.in-Some.last (rw c.in-Some.ensures.items at c.requires.tied))

pub returns-in-Some-clause-room : goal.returns-in-Some-clause-room
returns-in-Some-clause-room c = rw c.set.ensures (omega (arith, c.requires.room, c.in-Some.ensures.capacity, length-set_value (is_at (nat_cmp c.in-Some.last.id)) c.args.objects.now.entries (Live c.in-Some.last.kind)))
