use Rattle.std.proofs.Common.{rules, arith}
use Rattle.drb_text.proofs.Symbols.{class_some}
use Rattle.drb_text.proofs.names.read_class.Goals as goal

pub returns : goal.returns
returns c = record {
  reads = class_some c.args.bytes.now c.in_ok-n.n c.split_at.result.0.now c.split_at.result.1.now c.in_ok-n.ensures.0 (search rules) (search rules);
  within = omega (arith, c.in_ok-n.ensures.1);
}
