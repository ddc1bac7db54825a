use Rattle.std.proofs.Common.{rules, arith, sym, length}
use Rattle.std.proofs.lemmas.List.Sums.{position_or_len_is}
use Rattle.drb_ref.specs.Uris.{ends_name}
use Rattle.drb_ref.proofs.uris.named_len.Goals as goal

pub returns-in-Some : goal.returns-in-Some
returns-in-Some c = sym (position_or_len_is ends_name c.args.after.now c.in-Some.end 0 (search rules) (search rules) (search rules))

pub returns-in-None : goal.returns-in-None
returns-in-None c = sym (position_or_len_is ends_name c.args.after.now (length c.args.after.now) 0 (omega arith) (search rules) (λ h. absurd (omega arith)))
