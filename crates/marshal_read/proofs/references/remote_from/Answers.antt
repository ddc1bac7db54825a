use Rattle.marshal_read.proofs.Remotes.{layers_are}
use Rattle.marshal_read.proofs.references.remote_from.Goals as goal

pub returns : goal.returns
returns c = layers_are c.remote_from_nodes.result c.uri.inside.node c.id.inside.node c.args.uri.now c.args.id.now c.uri.view_is c.id.view_is c.remote_from_nodes.ensures
