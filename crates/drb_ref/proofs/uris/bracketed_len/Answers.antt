use Rattle.std.proofs.Common.{rules, arith, ◌≡◌, ◌==◌, ◌<◌, length}
use Rattle.std.specs.List.{position_or_len}
use Rattle.drb_ref.proofs.Cuts.{first_at, none_at}
use Rattle.drb_ref.proofs.uris.bracketed_len.Goals as goal

pub returns-in-Some : goal.returns-in-Some
returns-in-Some c =
    let after = c.args.after.now in
    let at : position_or_len (λ b. b == 93) after ≡ c.in-Some.last = first_at 93 after c.in-Some.last (search rules) (search rules) (search rules) in
    let l : c.in-Some.last < length after = search rules in
    omega arith

pub returns-in-None : goal.returns-in-None
returns-in-None c =
    let after = c.args.after.now in
    let none : position_or_len (λ b. b == 93) after ≡ length after = none_at 93 after (search rules) in
    omega arith
