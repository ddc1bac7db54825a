use Rattle.std.proofs.Common.{◌↔◌, map, length, string_bytes, None, option_copied}
use Rattle.drb_server.specs.Words.{Options}
use Rattle.drb_server.specs.Named.{named, Sets}
use Rattle.drb_server.proofs.words.read_options.Given as goal

abbrev pub invariant-loop-name : goal.invariant-loop-name
invariant-loop-name l = (o : Options) → Sets (map (λ w. string_bytes w) l.fn.words) (named None None None) o
    ↔ Sets (map (λ w. string_bytes w) l.rest) (named (option_copied l.named.uri) l.named.turns l.named.load) o

abbrev pub decreases-loop-name : goal.decreases-loop-name
decreases-loop-name l = length l.rest
