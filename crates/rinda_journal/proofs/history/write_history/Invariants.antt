use Rattle.std.proofs.Common.{All, take, ◌≤◌, ◌-◌}
use Rattle.drb_outside.specs.Changes.{ChangesBytes}
use Rattle.drb_packet.specs.Writes.{GivenMore}
use Rattle.rinda_journal.specs.Texts.{HasText, TurnKept}
use Rattle.rinda_journal.specs.Histories.{history_text}
use Rattle.rinda_journal.proofs.history.write_history.Given as goal

abbrev pub invariant-loop-count : goal.invariant-loop-count
invariant-loop-count g l = record {
  given : ChangesBytes g.K.Sink.given g.K.Sink.stays g.K.Sink.holds g.K.Sink.faults l.fn.out l.out (GivenMore (history_text (take l.count l.journal.turns)));
  has : All HasText (take l.count l.journal.turns);
  kept : All TurnKept (take l.count l.journal.turns);
  within : l.count ≤ l.len;
}

abbrev pub decreases-loop-count : goal.decreases-loop-count
decreases-loop-count g l = l.len - l.count
