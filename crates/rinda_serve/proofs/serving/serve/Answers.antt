use Rattle.std.proofs.Common.{[], List, sym, ap, subst}
use Rattle.rinda_rules.specs.declared.turn.Pick.{Pick}
use Rattle.rinda_effects.specs.Touches.{Touched}
use Rattle.rinda_serve.specs.Serving.{seen, Serves, PicksFor}
use Rattle.rinda_serve.proofs.Served.{no-row, picks-no-row}
use Rattle.rinda_serve.proofs.serving.serve.Goals as goal

pub returns-in-NoRow-clause-served : goal.returns-in-NoRow-clause-served
returns-in-NoRow-clause-served c =
    subst (λ (ps : List Pick). Serves (seen c.args.touched) c.args.tables.now c.args.tables.now ps) (sym c.new.ensures.items)
    (subst (λ (t : Touched). Serves t c.args.tables.now c.args.tables.now []) (sym (ap seen c.in-NoRow.is)) (no-row c.args.tables.now))

pub returns-in-NoRow-clause-picked : goal.returns-in-NoRow-clause-picked
returns-in-NoRow-clause-picked c =
    subst (λ (ps : List Pick). PicksFor (seen c.args.touched) c.args.tables.now ps) (sym c.new.ensures.items)
    (subst (λ (t : Touched). PicksFor t c.args.tables.now []) (sym (ap seen c.in-NoRow.is)) (picks-no-row c.args.tables.now))
