use Rattle.std.proofs.Common.{rules, ◌≡◌, true, arith}
use Rattle.drb_ref.proofs.Digits.{digits_from_pass, pass_from_digits}
use Rattle.drb_server.proofs.Options.{number_is}
use Rattle.drb_server.proofs.words.number_in.Goals as goal

pub returns-then-not-are_digits-clause-every : goal.returns-then-not-are_digits-clause-every
returns-then-not-are_digits-clause-every c n p =
    let t : c.are_digits.result ≡ true = c.are_digits.ensures.1 (pass_from_digits c.args.word.now p.0.1) in
    cc

pub value_of-requires : goal.value_of-requires
value_of-requires c = digits_from_pass c.args.word.now (c.are_digits.ensures.0 (search rules))

pub returns-clause-number : goal.returns-clause-number
returns-clause-number c = number_is c.args.word.now c.value_of.result c.within.result c.args.least c.args.greatest (omega arith) (digits_from_pass c.args.word.now (c.are_digits.ensures.0 (search rules))) c.value_of.ensures.value c.within.ensures.within
