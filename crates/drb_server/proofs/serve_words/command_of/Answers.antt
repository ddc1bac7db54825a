use Rattle.std.proofs.Common.{◌≡◌, ◌∙◌, ap}
use Rattle.std.specs.Prelude.{codes}
use Rattle.std.proofs.lemmas.Result.{IfOk-weaker}
use Rattle.clap.specs.Words.{App, app_of, new_app, with_rule}
use Rattle.clap.specs.Simple.{app_of_fields}
use Rattle.drb_server.specs.ServeWords.{option}
use Rattle.drb_server.proofs.serve_words.command_of.Goals as goal

pub returns : goal.returns
returns c =
    let none : app_of c.in_ok-command.command ≡ new_app (codes "serve") = ap app_of_fields c.in_ok-command.ensures.0 ∙ ap app_of_fields c.about.ensures ∙ c.new.ensures.app in
    let uri = c.in_ok-command-2.ensures ∙ ap (λ (a : App). with_rule a (option (codes "uri"))) none in
    let workers = c.in_ok-command-3.ensures ∙ ap (λ (a : App). with_rule a (option (codes "workers"))) uri in
    let turns = c.in_ok-command-4.ensures ∙ ap (λ (a : App). with_rule a (option (codes "max-turns"))) workers in
    let load = c.in_ok-command-5.ensures ∙ ap (λ (a : App). with_rule a (option (codes "load-limit"))) turns in
    let sessions = c.in_ok-command-6.ensures ∙ ap (λ (a : App). with_rule a (option (codes "sessions"))) load in
    let shut = c.in_ok-command-7.ensures ∙ ap (λ (a : App). with_rule a (option (codes "shut-after"))) sessions in
    let acl = c.in_ok-command-8.ensures ∙ ap (λ (a : App). with_rule a (option (codes "acl"))) shut in
    IfOk-weaker c.with_option-8.result _ _ (λ m h. h ∙ ap (λ (a : App). with_rule a (option (codes "journal"))) acl) c.with_option-8.ensures
