use Rattle.drb_ref.proofs.Digits.{digits-IsUtf8}
use Rattle.drb_ref.proofs.uris.value_of.Goals as goal

pub returns-in_default-clause-every : goal.returns-in_default-clause-every
returns-in_default-clause-every c l s = absurd (c.in_default.ensures.cases.0 (digits-IsUtf8 c.args.digits.now c.requires))
