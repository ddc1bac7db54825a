use Rattle.std.proofs.Common.{◌∙◌, ap, ℤ}
use Rattle.std.specs.Int.{w128}
use Rattle.std.proofs.lemmas.Int.{to_z-of_z}
use Rattle.rinda_marks.specs.Hashes.{hash_of}
use Rattle.rinda_marks.specs.Marks.{int_bytes}
use Rattle.rinda_marks.proofs.marks.hash_of_int.Goals as goal

pub returns : goal.returns
returns c = c.hash_of.ensures ∙ ap (hash_of c.args.secret.now 0) c.to_le_bytes.ensures ∙ ap (λ (i : ℤ). hash_of c.args.secret.now 0 (int_bytes i)) (to_z-of_z w128 c.args.i c.ranges.i)
