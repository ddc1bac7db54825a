use Rattle.drb_script.proofs.Steps.{leaves_round}
use Rattle.drb_script.proofs.each.round.Goals as goal

pub returns-clause-leaves : goal.returns-clause-leaves
returns-clause-leaves c =
    leaves_round c.args.patience c.args.first c.args.id c.args.block _ c.event_of.ensures
