use Rattle.std.proofs.Common.{rules}
use Rattle.drb_ref.proofs.Held.{holding_is}
use Rattle.drb_ref.proofs.blocks.holding.Goals as goal

pub returns : goal.returns
returns c = holding_is c.dumped.result c.of.result c.in_ok-class.class c.in_ok-bytes.bytes c.args.bytes.now c.new-vars.result c.dumped.ensures c.of.ensures (search rules) (search rules) c.new-vars.ensures
