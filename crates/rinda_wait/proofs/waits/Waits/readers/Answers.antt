use Rattle.std.proofs.Common.{◌≡◌, true, ℕ, List, subst}
use Rattle.std.specs.Prelude.{IfOk}
use Rattle.rinda_wait.specs.Waiting.{reads, readers_of}
use Rattle.rinda_wait.specs.Probes.{place_in, probes}
use Rattle.rinda_wait.proofs.Searching.{all-of-three}
use Rattle.rinda_wait.proofs.Covering.{covers-reads}
use Rattle.rinda_wait.proofs.waits.Waits.readers.Goals as goal

pub returns : goal.returns
returns c =
    let are : c.add_readers-3.new.found.keys ≡ readers_of c.args.tuple.now c.args.self.now =
    rw (← c.self.view_is, c.in_ok-add_readers-3.ensures, c.in_ok-add_readers-2.ensures, c.in_ok-add_readers.ensures, c.new-found.ensures.empty, c.probes_of-probes.ensures)
    (all-of-three (reads c.args.tuple.now) (place_in c.self.inside.secret) (probes c.self.inside.secret c.args.tuple.now true).both (probes c.self.inside.secret c.args.tuple.now true).first (probes c.self.inside.secret c.args.tuple.now true).any c.self.inside.table c.self.inside.keys.keys c.self.invariant (covers-reads c.self.inside.secret c.args.tuple.now)) in
    subst (λ (ks : List ℕ). IfOk c.listed.result (λ ids. ids.items ≡ ks)) are c.listed.ensures
