use Rattle.std.proofs.Common.{rules}
use Rattle.drb_ref.proofs.Cuts.{named_is_within}
use Rattle.drb_ref.proofs.uris.host_len.Goals as goal

pub returns-else-opens_bracket : goal.returns-else-opens_bracket
returns-else-opens_bracket c = named_is_within c.args.after.now c.opens_bracket.result c.named_len.result c.opens_bracket.ensures c.if-opens_bracket.false c.named_len.ensures
