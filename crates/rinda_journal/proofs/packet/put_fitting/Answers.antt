use Rattle.std.proofs.Common.{◌≤◌, ◌<◌, length, ap, arith, Err}
use Rattle.marshal_grammar.specs.Spelled.{spelled}
use Rattle.marshal_write.specs.Limits.{max_dump}
use Rattle.marshal_write.specs.declared.error.WriteError.{WriteError}
use Rattle.rinda_journal.proofs.Lengths.{short_enough}
use Rattle.rinda_journal.proofs.packet.put_fitting.Goals as goal

-- a value that fits is never too long
pub returns-in-Err-TooLong : goal.returns-in-Err-TooLong
returns-in-Err-TooLong c =
    let s : length (spelled c.args.value.now) ≤ max_dump = short_enough c.args.value.now c.requires.fits in
    let l : max_dump < length (spelled c.args.value.now) = c.in-Err-TooLong.ensures.too_long (ap (λ (e : WriteError). Err e) c.in-Err-TooLong.field-0-is) in
    absurd (omega (arith, s, l))
