use Rattle.std.proofs.Common.{arith}
use Rattle.std.proofs.lemmas.Grind.{common_steps}
use Rattle.marshal_read.proofs.Magnitudes.{room_left}
use Rattle.marshal_read.proofs.numbers.+little_of.Goals as goal

pub overflow_mul-result : goal.overflow_mul-result
overflow_mul-result t c = omega (arith, room_left _ _ c.little_of.ensures.high (grind (arith, common_steps)))

pub overflow_add-result : goal.overflow_add-result
overflow_add-result t c = omega (arith, room_left _ _ c.little_of.ensures.high (grind (arith, common_steps)), c.type_inv.bytes 0)
