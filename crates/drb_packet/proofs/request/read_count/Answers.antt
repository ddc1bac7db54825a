use Rattle.drb_packet.specs.Packets.{further}
use Rattle.drb_packet.specs.Requests.{as_count}
use Rattle.drb_packet.proofs.Nodes.{changes_node}
use Rattle.drb_packet.proofs.request.read_count.Goals as goal

pub returns-clause-source : goal.returns-clause-source
returns-clause-source g c = changes_node (further c.args.limits.now.load) (as_count c.args.limits.now.args) c.node.inside.node c.in_ok-node.field-0 c.count_in.result c.node.view_is c.in_ok-node.ensures.source c.count_in.ensures
