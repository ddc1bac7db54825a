use Rattle.std.proofs.Common.{ap, ◌∙◌}
use Rattle.marshal_read.specs.Making.{Made, last}
use Rattle.marshal_read.proofs.Making.{popped}
use Rattle.marshal_read.proofs.build.Parts.value.Goals as goal

pub returns-in-Some : goal.returns-in-Some
returns-in-Some c =
    popped c.self.inside.values.items c.pop-found.new.self.items c.in-Some.value c.in-Some.ensures.items
    ∙ ap (λ (m : Made). last m.values) c.self.view_is
