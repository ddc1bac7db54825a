use Rattle.std.proofs.Common.{◌∙◌, ◌++◌, ◌∷◌, [], List, sym, ap, subst}
use Rattle.rinda_rules.specs.declared.turn.Pick.{Pick}
use Rattle.std.proofs.lemmas.Result.{IfOk-weaker}
use Rattle.rinda_effects.specs.Touches.{ARequest}
use Rattle.rinda_serve.specs.Serving.{Serves, PicksFor}
use Rattle.rinda_serve.proofs.Gives.{if-ok-two}
use Rattle.rinda_serve.proofs.Served.{lone-request, one-served, picks-lone, picks-one}
use Rattle.rinda_serve.proofs.serving.serve_request.Goals as goal

pub returns-in-None-clause-served : goal.returns-in-None-clause-served
returns-in-None-clause-served c = subst (λ (ps : List Pick). Serves (ARequest c.args.id) c.args.tables.now c.args.tables.now ps) (sym c.new.ensures.items) (lone-request c.args.id c.args.tables.now (sym c.match_for.ensures ∙ c.in-None.is))

pub returns-in-Some-clause-served : goal.returns-in-Some-clause-served
returns-in-Some-clause-served c = if-ok-two c.give_last.result _ _ _ (λ all are given. one-served c.args.id c.in-Some.tuple c.args.tables.now c.give_last.new.tables _ (sym c.match_for.ensures ∙ c.in-Some.is) given (are ∙ ap (λ (ps : List Pick). ps ++ record { request = c.args.id; tuple = c.in-Some.tuple } ∷ []) c.new-in-Some.ensures.items)) c.give_last.ensures.picks c.give_last.ensures.given

pub returns-in-None-clause-picked : goal.returns-in-None-clause-picked
returns-in-None-clause-picked c = subst (λ (ps : List Pick). PicksFor (ARequest c.args.id) c.args.tables.now ps) (sym c.new.ensures.items) (picks-lone c.args.id c.args.tables.now (sym c.match_for.ensures ∙ c.in-None.is))

pub returns-in-Some-clause-picked : goal.returns-in-Some-clause-picked
returns-in-Some-clause-picked c = IfOk-weaker c.give_last.result _ _ (λ all are. picks-one c.args.id c.in-Some.tuple c.args.tables.now _ (sym c.match_for.ensures ∙ c.in-Some.is) (are ∙ ap (λ (ps : List Pick). ps ++ record { request = c.args.id; tuple = c.in-Some.tuple } ∷ []) c.new-in-Some.ensures.items)) c.give_last.ensures.picks
