use Rattle.marshal_read.proofs.Changes.{added_is, added_sound}
use Rattle.marshal_read.proofs.reader.Reader.add_object.Goals as goal

pub invariant_of-self-2 : goal.invariant_of-self-2
invariant_of-self-2 c =
    rw c.in_ok-add_range.ensures.ok (added_sound c.self.inside c.args.self.now c.args.start c.len-end.result c.self.view_is c.len-end.ensures c.requires.start c.requires.makes c.self.invariant)

pub returns : goal.returns
returns c = rw c.in_ok-add_range.ensures.ok (added_is c.self.inside c.args.self.now c.args.start c.len-end.result c.self.view_is c.len-end.ensures)
