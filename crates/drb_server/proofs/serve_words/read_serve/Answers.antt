use Rattle.std.proofs.Common.{rules, map, string_bytes, inr}
use Rattle.clap.specs.Words.{app_of}
use Rattle.drb_server.proofs.Serving.{handed, refused, taken, unset}
use Rattle.drb_server.proofs.serve_words.read_serve.Goals as goal

pub returns-in_err-matches-clause-wrong : goal.returns-in_err-matches-clause-wrong
returns-in_err-matches-clause-wrong c =
    let why = refused (app_of c.in_ok-command.command) (map (λ w. string_bytes w) c.args.words.now) c.in_err-matches.field-0.0 c.in_ok-command.ensures c.in_err-matches.ensures.kinds in
    handed c.from_residual-in_err-matches.result c.in_err-matches.field-0.0 _ c.from_residual-in_err-matches.ensures.1 why

pub returns-in-Ok-clause-means : goal.returns-in-Ok-clause-means
returns-in-Ok-clause-means c = taken (app_of c.in_ok-command.command) (map (λ w. string_bytes w) c.args.words.now) c.in_ok-matches.matches _ c.in_ok-command.ensures c.in_ok-matches.ensures.kinds (c.in_ok-matches.ensures.ok.2) (search rules)

pub returns-clause-wrong : goal.returns-clause-wrong
returns-clause-wrong c = inr (unset (app_of c.in_ok-command.command) (map (λ w. string_bytes w) c.args.words.now) c.in_ok-matches.matches c.in_ok-command.ensures (c.in_ok-matches.ensures.ok.2) (search rules))
