use Rattle.std.proofs.Common.{◌≡◌, ◌∙◌, List, true, false, sym, ap, subst, arith}
use Rattle.std.specs.Prelude.{option_copied}
use Rattle.rinda_rules.specs.declared.turn.Pick.{Pick}
use Rattle.rinda_rules.specs.Space.{is_live}
use Rattle.std.proofs.lemmas.Result.{IfOk-weaker}
use Rattle.rinda_effects.specs.Touches.{ATuple}
use Rattle.rinda_tables.proofs.AgingOn.{stays-on}
use Rattle.rinda_serve.specs.Serving.{Serves, PicksFor}
use Rattle.rinda_serve.proofs.Gives.{if-ok-two}
use Rattle.rinda_serve.proofs.Served.{no-tuple, dead-tuple, live-read, live-taken, picks-no-tuple, picks-dead, picks-read, picks-taken}
use Rattle.rinda_serve.proofs.serving.serve_tuple.Goals as goal

pub returns-in_default-clause-served : goal.returns-in_default-clause-served
returns-in_default-clause-served c = subst (λ (ps : List Pick). Serves (ATuple c.args.id) c.args.tables.now c.args.tables.now ps) (sym c.new.ensures.items) (no-tuple c.args.id c.args.tables.now (sym c.row.ensures ∙ ap option_copied c.in_default.is))

pub returns-then-not-is_live-clause-served : goal.returns-then-not-is_live-clause-served
returns-then-not-is_live-clause-served c =
    let dead : is_live c.args.tables.now.clock c.in-Some.row.now ≡ false = grind (arith, c.is_live.ensures, c.if-not-is_live.true) in
    subst (λ (ps : List Pick). Serves (ATuple c.args.id) c.args.tables.now c.args.tables.now ps) (sym c.new-then-not-is_live.ensures.items) (dead-tuple c.args.id c.args.tables.now c.in-Some.row.now (sym c.in-Some.ensures) dead)

pub returns-in-None-clause-served : goal.returns-in-None-clause-served
returns-in-None-clause-served c =
    let live : is_live c.args.tables.now.clock c.in-Some.row.now ≡ true = grind (arith, c.is_live.ensures, c.if-not-is_live.false) in
    live-read c.args.id c.args.tables.now c.in-Some.row.now (sym c.in-Some.ensures) live c.read_all.new.tables _ (sym c.taker_for-taker.ensures ∙ c.in-None.is) c.in_ok-picks.ensures.read

pub returns-in-Some-taker-clause-served : goal.returns-in-Some-taker-clause-served
returns-in-Some-taker-clause-served c =
    let live : is_live c.args.tables.now.clock c.in-Some.row.now ≡ true = grind (arith, c.is_live.ensures, c.if-not-is_live.false) in
    if-ok-two c.give_last.result _ _ _ (λ all are given. live-taken c.args.id c.args.tables.now c.in-Some.row.now (sym c.in-Some.ensures) live c.read_all.new.tables c.give_last.new.tables _ _ _ (sym c.taker_for-taker.ensures ∙ c.in-Some-taker.is) c.in_ok-picks.ensures.read given are) c.give_last.ensures.picks c.give_last.ensures.given

pub returns-in-Some-taker-clause-stays : goal.returns-in-Some-taker-clause-stays
returns-in-Some-taker-clause-stays c = stays-on c.args.tables.now c.read_all.new.tables c.give_last.new.tables c.read_all.ensures.stays c.give_last.ensures.stays

pub returns-in_default-clause-picked : goal.returns-in_default-clause-picked
returns-in_default-clause-picked c = subst (λ (ps : List Pick). PicksFor (ATuple c.args.id) c.args.tables.now ps) (sym c.new.ensures.items) (picks-no-tuple c.args.id c.args.tables.now (sym c.row.ensures ∙ ap option_copied c.in_default.is))

pub returns-then-not-is_live-clause-picked : goal.returns-then-not-is_live-clause-picked
returns-then-not-is_live-clause-picked c =
    let dead : is_live c.args.tables.now.clock c.in-Some.row.now ≡ false = grind (arith, c.is_live.ensures, c.if-not-is_live.true) in
    subst (λ (ps : List Pick). PicksFor (ATuple c.args.id) c.args.tables.now ps) (sym c.new-then-not-is_live.ensures.items) (picks-dead c.args.id c.args.tables.now c.in-Some.row.now (sym c.in-Some.ensures) dead)

pub returns-in-None-clause-picked : goal.returns-in-None-clause-picked
returns-in-None-clause-picked c =
    let live : is_live c.args.tables.now.clock c.in-Some.row.now ≡ true = grind (arith, c.is_live.ensures, c.if-not-is_live.false) in
    picks-read c.args.id c.args.tables.now c.read_all.new.tables c.in-Some.row.now _ (sym c.in-Some.ensures) live (sym c.taker_for-taker.ensures ∙ c.in-None.is) c.in_ok-picks.ensures.read

pub returns-in-Some-taker-clause-picked : goal.returns-in-Some-taker-clause-picked
returns-in-Some-taker-clause-picked c =
    let live : is_live c.args.tables.now.clock c.in-Some.row.now ≡ true = grind (arith, c.is_live.ensures, c.if-not-is_live.false) in
    IfOk-weaker c.give_last.result _ _ (λ all are. picks-taken c.args.id _ c.args.tables.now c.read_all.new.tables c.in-Some.row.now _ _ (sym c.in-Some.ensures) live (sym c.taker_for-taker.ensures ∙ c.in-Some-taker.is) c.in_ok-picks.ensures.read are) c.give_last.ensures.picks
