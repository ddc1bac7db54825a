use Rattle.drb_shared.proofs.Entering.{lawful}
use Rattle.drb_shared.proofs.shared.SharedTurns.turn.Goals as goal

pub returns-clause-lawful : goal.returns-clause-lawful
returns-clause-lawful g c = lawful _ _ _ _ _ _ c.args.self.now.empty c.enter.ensures.entered
