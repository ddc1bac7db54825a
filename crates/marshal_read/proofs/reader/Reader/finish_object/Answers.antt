use Rattle.marshal_read.proofs.Changes.{finished_is, finished_sound}
use Rattle.marshal_read.proofs.reader.Reader.finish_object.Goals as goal

pub invariant_of-self : goal.invariant_of-self
invariant_of-self c =
    rw c.set.ensures (finished_sound c.self.inside c.args.self.now c.args.begun.number c.args.begun.start c.len-end.result c.self.view_is c.len-end.ensures c.requires.start c.requires.makes c.self.invariant)

pub returns-then-begun-len : goal.returns-then-begun-len
returns-then-begun-len c = rw c.set.ensures (finished_is c.self.inside c.args.self.now c.args.begun.number c.args.begun.start c.len-end.result c.self.view_is c.len-end.ensures)
