use Rattle.std.proofs.Common.{Err}
use Rattle.rinda_ring.proofs.Ringing.{writes_datagram, writes_failed, not_read, ignored_failed, unread_tuple}
use Rattle.rinda_ring.proofs.writing.ring_write.Goals as goal

pub returns-in-Ok-clause-writes : goal.returns-in-Ok-clause-writes
returns-in-Ok-clause-writes g c = writes_datagram c.args.place.now c.args.datagram.now c.in-Ok.lookup _ _ _ c.in-Ok.ensures.lookup c.write_lookup_of.ensures.writes

pub returns-in-Err-clause-writes : goal.returns-in-Err-clause-writes
returns-in-Err-clause-writes g c = writes_failed c.args.place.now c.args.datagram.now c.in-Err.error _ _ c.end_unread.ensures c.in-Err.ensures.refusal

pub returns-in-Ok-clause-ignored : goal.returns-in-Ok-clause-ignored
returns-in-Ok-clause-ignored g c why f = absurd (not_read c.in-Ok.lookup why (c.in-Ok.ensures.every (Err why) f))

pub returns-in-Err-clause-ignored : goal.returns-in-Err-clause-ignored
returns-in-Err-clause-ignored g c why f = ignored_failed c.in-Err.error why _ c.end_unread.ensures (c.in-Err.ensures.every (Err why) f)

pub returns-in-Err-clause-never : goal.returns-in-Err-clause-never
returns-in-Err-clause-never g c l e = unread_tuple c.in-Err.error _ c.end_unread.ensures e
