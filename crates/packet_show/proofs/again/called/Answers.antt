use Rattle.packet_show.proofs.Called.{called_is}
use Rattle.packet_show.proofs.again.called.Goals as goal

pub returns : goal.returns
returns c = called_is c.called_in.result c.reference.inside.node c.args.reference.now c.reference.view_is c.called_in.ensures
