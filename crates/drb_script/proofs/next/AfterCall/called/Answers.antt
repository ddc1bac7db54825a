use Rattle.drb_script.proofs.Standing.{stands_called}
use Rattle.drb_script.proofs.next.AfterCall.called.Goals as goal

pub returns-clause-stands : goal.returns-clause-stands
returns-clause-stands c =
    stands_called c.args.patience c.args.self c.args.to c.args.back _ c.called_to.ensures.leaves
