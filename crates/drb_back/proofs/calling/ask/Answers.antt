use Rattle.std.proofs.Common.{sym, ◌∙◌}
use Rattle.drb_back.proofs.calling.ask.Goals as goal

pub returns-clause-calls : goal.returns-clause-calls
returns-clause-calls g c =
    let last = c.dialer-1.given.1 (sym c.new-line.ensures.same_reference ∙ sym c.ask_on-back.ensures.same_reference) ∙ c.release.ensures in
    rw last (rw c.new-line.ensures.value at c.ask_on-back.ensures.calls)

pub returns-clause-later : goal.returns-clause-later
returns-clause-later g c =
    let last = c.dialer-1.given.1 (sym c.new-line.ensures.same_reference ∙ sym c.ask_on-back.ensures.same_reference) ∙ c.release.ensures in
    rw last (rw c.new-line.ensures.value at c.ask_on-back.ensures.later)

pub returns-clause-fault : goal.returns-clause-fault
returns-clause-fault g c =
    let last = c.dialer-1.given.1 (sym c.new-line.ensures.same_reference ∙ sym c.ask_on-back.ensures.same_reference) ∙ c.release.ensures in
    rw last (rw c.new-line.ensures.value at c.ask_on-back.ensures.fault)
