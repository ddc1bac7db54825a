use Rattle.std.proofs.Common.{◌∙◌, sym, ap, length}
use Rattle.rinda_counted.proofs.Counting.{length-turns_of}
use Rattle.rinda_counted.proofs.counted.CountedJournal.len.Goals as goal

pub returns : goal.returns
returns c = rw (← c.self.view_is) (sym (length-turns_of _ _ _ _ _ _ _ c.self.invariant))
