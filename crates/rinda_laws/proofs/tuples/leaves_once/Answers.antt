use Rattle.rinda_rules.specs.Legal.{plain_from}
use Rattle.rinda_laws.specs.Balance.{Balanced}
use Rattle.rinda_laws.proofs.Balancing.{books_legal, balanced, leaves_few}
use Rattle.rinda_laws.proofs.tuples.leaves_once.Goals as goal

pub returns : goal.returns
returns c start h id from legal =
    let b : Balanced start id (plain_from start h) = balanced start (plain_from start h) id (books_legal start h from legal) in
    (b, leaves_few start (plain_from start h) id b)
