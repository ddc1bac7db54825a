use Rattle.drb_outside.proofs.OnLines.{line_write, line_write_stays}
use Rattle.drb_outside.proofs.on_line.OnLineSink.write.Goals as goal

pub returns-clause-bytes : goal.returns-clause-bytes
returns-clause-bytes g c = line_write _ _ _ _ _ c.send.ensures.calls

pub returns-clause-stays : goal.returns-clause-stays
returns-clause-stays g c = line_write_stays _ _ _ _ _ c.send.ensures.calls
