use Rattle.marshal_read.proofs.Changes.{begun_sound}
use Rattle.marshal_read.proofs.reader.Reader.begin_object.Goals as goal

pub invariant_of-self-2 : goal.invariant_of-self-2
invariant_of-self-2 c = rw c.in_ok-add_range.ensures.ok (begun_sound c.self.inside c.self.invariant)
