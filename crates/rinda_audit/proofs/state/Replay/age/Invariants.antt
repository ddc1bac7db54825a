use Rattle.std.proofs.Common.{◌≡◌, ◌≤◌, ◌-◌}
use Rattle.rinda_rules.specs.Phases.{aged_below}
use Rattle.rinda_audit.proofs.state.Replay.age.Given as goal

-- each row of a lower id has aged
abbrev pub invariant-loop-id : goal.invariant-loop-id
invariant-loop-id l = record {
  aged : l.self ≡ aged_below l.from l.fn.self;
  next : l.self.next ≡ l.fn.self.next;
  within : l.from ≤ l.fn.self.next;
}

abbrev pub decreases-loop-id : goal.decreases-loop-id
decreases-loop-id l = l.fn.self.next - l.from
