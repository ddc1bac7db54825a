use Rattle.marshal_read.proofs.Changes.{pushed, pushed_sound}
use Rattle.marshal_read.proofs.reader.Reader.push.Goals as goal

pub invariant_of-self-2 : goal.invariant_of-self-2
invariant_of-self-2 c = rw c.in_ok-add.ensures.ok (pushed_sound c.self.inside c.args.step c.self.invariant)

pub returns : goal.returns
returns c = rw c.in_ok-add.ensures.ok (pushed c.self.inside c.args.self.now c.args.step c.self.view_is c.self.invariant)
