use Rattle.drb_packet.specs.Packets.{further}
use Rattle.drb_packet.specs.Requests.{as_name}
use Rattle.drb_packet.proofs.Nodes.{changes_node}
use Rattle.drb_packet.proofs.request.read_name.Goals as goal

pub returns-clause-source : goal.returns-clause-source
returns-clause-source g c = changes_node (further c.args.load) as_name c.node.inside.node c.in_ok-node.field-0 c.name_in.result c.node.view_is c.in_ok-node.ensures.source c.name_in.ensures
