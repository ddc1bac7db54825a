use Rattle.std.proofs.Common.{string_bytes}
use Rattle.drb_server.proofs.Options.{named_first, both_on}
use Rattle.drb_server.proofs.words.read_words.Goals as goal

pub returns : goal.returns
returns c o = both_on (named_first (λ w. string_bytes w) c.args.words.now c.in_ok-first.rest.now c.in_ok-first.first.now c.as_str.result.now c.in_ok-first.ensures.cases.0 c.as_str.ensures.value (c.is_word.ensures.0 c.if-not-is_word.false) o) (c.read_options.ensures o)
