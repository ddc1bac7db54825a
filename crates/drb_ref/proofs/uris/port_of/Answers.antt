use Rattle.std.proofs.Common.{rules}
use Rattle.drb_ref.proofs.Digits.{named_is, named_every}
use Rattle.drb_ref.proofs.uris.port_of.Goals as goal

pub returns-in-Some-clause-named : goal.returns-in-Some-clause-named
returns-in-Some-clause-named c = named_is c.args.tail.now c.in-Some.rest.now c.before_query.result.now c.number_of.result (search rules) c.before_query.ensures c.number_of.ensures.number

pub returns-in-Some-clause-every : goal.returns-in-Some-clause-every
returns-in-Some-clause-every c = named_every c.args.tail.now c.in-Some.rest.now c.before_query.result.now c.number_of.result (search rules) c.before_query.ensures c.number_of.ensures.every
