use Rattle.std.proofs.Common.{false}
use Rattle.rinda_wait.specs.Waiting.{takes}
use Rattle.rinda_wait.specs.Probes.{place_in, probes}
use Rattle.rinda_wait.proofs.Searching.{first-of-three}
use Rattle.rinda_wait.proofs.Covering.{covers-takes}
use Rattle.rinda_wait.proofs.waits.Waits.taker.Goals as goal

pub returns : goal.returns
returns c =
    rw (← c.self.view_is, c.lesser-2.ensures, c.lesser.ensures, c.first_taker-both.ensures, c.first_taker-first.ensures, c.first_taker-any.ensures, c.probes_of-probes.ensures)
    (first-of-three (takes c.args.tuple.now) (place_in c.self.inside.secret) (probes c.self.inside.secret c.args.tuple.now false).both (probes c.self.inside.secret c.args.tuple.now false).first (probes c.self.inside.secret c.args.tuple.now false).any c.self.inside.table c.self.inside.keys.keys c.self.invariant (covers-takes c.self.inside.secret c.args.tuple.now))
