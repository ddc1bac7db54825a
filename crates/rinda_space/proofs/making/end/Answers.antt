use Rattle.std.proofs.Common.{◌∙◌}
use Rattle.rinda_rules.specs.Phases.{aged}
use Rattle.rinda_space.proofs.making.end.Goals as goal

pub returns-clause-ends : goal.returns-clause-ends
returns-clause-ends c = λ s few h.
    let done = c.in_ok-served.ensures.served (aged s) few (c.in_ok-age.ensures.becomes s h) in
    (done.0, c.in_ok-served.served.items, c.of.ensures ∙ c.in_ok-picks.ensures, done.1, done.2)
