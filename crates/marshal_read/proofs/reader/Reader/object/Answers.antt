use Rattle.std.proofs.Common.{sym, ◌∙◌}
use Rattle.marshal_read.proofs.Changes.{object_stands}
use Rattle.marshal_read.proofs.reader.Reader.object.Goals as goal

pub returns-in-Some-clause-stands : goal.returns-in-Some-clause-stands
returns-in-Some-clause-stands c r e = object_stands c.self.inside c.args.self.now _ r c.self.view_is c.self.invariant (sym c.in-Some.ensures.value ∙ e)
