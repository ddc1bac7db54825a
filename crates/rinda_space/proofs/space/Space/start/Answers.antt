use Rattle.std.proofs.Common.{◌-◌, arith}
use Rattle.rinda_space.proofs.Turning.{next-above, kept-one, starts-so, may-begin-so}
use Rattle.rinda_space.proofs.space.Space.start.Goals as goal

pub start-tables-requires : goal.start-tables-requires
start-tables-requires g c = may-begin-so c.args.start (g.J.Journal.cap c.args.journal) c.requires.starts

pub invariant_of-result : goal.invariant_of-result
invariant_of-result g c =
    let cap = g.J.Journal.cap c.args.journal in
    starts-so c.args.start c.and-kept.result.items (g.J.Journal.turns c.args.journal) c.new-2.result.items cap (18446744073709551615 - (c.args.start.next - 1)) c.in_ok-tables.field-0
    (kept-one c.args.start c.and-kept.result.items c.new.result.items c.and-kept.ensures c.new.ensures) c.requires.empty c.new-2.ensures.items c.requires.starts c.in_ok-tables.ensures.holds c.in_ok-tables.ensures.unadded
    (omega (arith, next-above c.args.start cap c.requires.starts, c.requires.starts.room))
