use Rattle.std.proofs.Common.{◌≡◌, List, Option, sym, subst}
use Rattle.rinda_rules.specs.declared.turn.Turn.{Turn}
use Rattle.rinda_rules.specs.declared.start.Start.{Start}
use Rattle.rinda_space.specs.Spaces.{spaced, start_of, IsSpace}
use Rattle.rinda_space.proofs.Turning.{opens, opens-so}
use Rattle.rinda_space.proofs.space.Space.new.Goals as goal

pub invariant_of-result : goal.invariant_of-result
invariant_of-result g c = opens-so c.new-2.result.items (g.J.Journal.turns c.args.journal) c.new-3.result.items (g.J.Journal.cap c.args.journal) c.new.result c.new-2.ensures c.requires c.new-3.ensures.items c.new.ensures.list c.new.ensures.ahead c.new.ensures.unadded
