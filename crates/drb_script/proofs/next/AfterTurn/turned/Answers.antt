use Rattle.drb_script.proofs.Standing.{stands_turned}
use Rattle.drb_script.proofs.next.AfterTurn.turned.Goals as goal

pub returns-clause-stands : goal.returns-clause-stands
returns-clause-stands c =
    stands_turned c.args.patience c.args.self c.args.out _ c.turned_to.ensures.leaves
