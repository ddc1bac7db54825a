use Rattle.std.proofs.Common.{◌-◌}
use Rattle.std.specs.Prelude.{Ok, Err}
use Rattle.rinda_journal.proofs.Places.{every_at, ok_at, err_at}
use Rattle.rinda_journal.proofs.turn_at.read_turn.Goals as goal

pub returns-in-Ok-clause-every_turn : goal.returns-in-Ok-clause-every_turn
returns-in-Ok-clause-every_turn c = λ t n h.
    let e = every_at c.args.bytes.now c.args.at (Ok (c.in-Ok.turn, c.in-Ok.size)) c.requires c.in-Ok.ensures.every_turn t n h in
    ok_at c.in-Ok.turn t c.args.at c.in-Ok.size n e.0 e.1

pub returns-in-Err-clause-every_turn : goal.returns-in-Err-clause-every_turn
returns-in-Err-clause-every_turn c = λ t n h.
    let e = every_at c.args.bytes.now c.args.at (Err c.in-Err.error) c.requires c.in-Err.ensures.every_turn t n h in
    err_at t n (n - c.args.at) c.in-Err.error e.1
