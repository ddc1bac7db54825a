use Rattle.std.proofs.Common.{sym, ap, ◌∙◌}
use Rattle.marshal_read.specs.Making.{Made, last}
use Rattle.marshal_read.proofs.Making.{popped, emptied}
use Rattle.marshal_read.proofs.build.Parts.last.Goals as goal
use Rattle.marshal_read.proofs.build.Parts.last.Goals.{in-Some, in-None}

pub returns-clause-value : goal.returns-clause-value
returns-clause-value c =
    elim c.match-pop.branch [
      | in-Some w ↦ w.result-is ∙ popped c.self.inside.values.items c.pop.new.self.items w.in-Some.value w.in-Some.ensures.items ∙ ap (λ (m : Made). last m.values) c.self.view_is
      | in-None w ↦ w.result-is ∙ w.nil.ensures
          ∙ sym (ap last (emptied c.self.inside.values.items c.pop.new.self.items _ w.in-None.ensures.items w.in-None.ensures.rest w.in-None.ensures.cases.0))
          ∙ ap (λ (m : Made). last m.values) c.self.view_is
    ]
