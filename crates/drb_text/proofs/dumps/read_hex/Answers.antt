use Rattle.std.proofs.Common.{rules, arith, ◌-◌, length, take, drop}
use Rattle.drb_text.proofs.Lists.{whole_slice}
use Rattle.drb_text.proofs.Hexes.{dump_some, dump_none}
use Rattle.drb_text.proofs.dumps.read_hex.Goals as goal

pub returns-in-Some : goal.returns-in-Some
returns-in-Some c = record {
  reads = dump_some c.args.bytes.now (take (length c.args.bytes.now - 1) (drop 1 c.args.bytes.now)) c.split_at.result.0.now c.split_at.result.1.now c.hex_len.result c.in-Some.value (whole_slice c.args.bytes.now) (search rules) (search rules) (search rules) (search rules);
  within = omega arith;
}

pub returns-in-None : goal.returns-in-None
returns-in-None c = record {
  stuck = dump_none c.args.bytes.now (take (length c.args.bytes.now - 1) (drop 1 c.args.bytes.now)) c.split_at.result.0.now c.hex_len.result (whole_slice c.args.bytes.now) (search rules) (search rules) (search rules);
  within = omega arith;
}
