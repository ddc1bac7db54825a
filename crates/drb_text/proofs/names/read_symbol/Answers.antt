use Rattle.std.proofs.Common.{rules, arith}
use Rattle.drb_text.proofs.Symbols.{symbol_none, symbol_some}
use Rattle.drb_text.proofs.names.read_symbol.Goals as goal

pub returns-then-n-eq0 : goal.returns-then-n-eq0
returns-then-n-eq0 c = record {
  stuck = symbol_none c.args.bytes.now c.word_len-n.result c.word_len-n.ensures.exact (search rules);
  within = omega arith;
}

pub returns : goal.returns
returns c = record {
  reads = symbol_some c.args.bytes.now c.word_len-n.result c.mark_len.result c.split_at.result.0.now c.split_at.result.1.now c.word_len-n.ensures.exact (search rules) (search rules) (search rules) (search rules);
  within = omega arith;
}
