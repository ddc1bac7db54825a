use Rattle.std.proofs.Common.{rules, ◌≡◌, ℕ, List, take, length, ap, sym, ◌∙◌, arith}
use Rattle.std.proofs.lemmas.List.{take_all}
use Rattle.drb_ref.proofs.Cuts.{first_at, none_at}
use Rattle.drb_ref.proofs.uris.before_query.Goals as goal

pub returns-in-Some : goal.returns-in-Some
returns-in-Some c =
    let rest = c.args.rest.now in
    ap (λ (n : ℕ). take n rest) (sym (first_at 63 rest c.in-Some.end (search rules) (search rules) (search rules)))

pub returns-in-None : goal.returns-in-None
returns-in-None c =
    let rest = c.args.rest.now in
    sym (ap (λ (n : ℕ). take n rest) (none_at 63 rest (search rules)) ∙ take_all (length rest) rest (omega arith))
