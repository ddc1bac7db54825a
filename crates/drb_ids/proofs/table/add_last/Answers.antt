use Rattle.std.proofs.Common.{arith}
use Rattle.drb_ids.proofs.TableLemmas.{pushed}
use Rattle.drb_ids.proofs.table.add_last.Goals as goal

pub returns-clause-ended : goal.returns-clause-ended
returns-clause-ended c = pushed c.push_back-pushed.result _ c.args.ended.now.items c.push_back-pushed.new.self.items c.push_back-pushed.ensures.items (c.push_back-pushed.ensures.succeeds (omega (arith, c.requires.room)))
