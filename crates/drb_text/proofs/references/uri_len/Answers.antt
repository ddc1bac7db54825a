use Rattle.std.proofs.Common.{rules, arith, length}
use Rattle.drb_text.specs.Bytes.{is_uri}
use Rattle.drb_text.proofs.Runs.{run_is}
use Rattle.drb_text.proofs.references.uri_len.Goals as goal

pub returns-in-Some-clause-exact : goal.returns-in-Some-clause-exact
returns-in-Some-clause-exact c = run_is is_uri c.args.bytes.now c.in-Some.end (search rules) (search rules) (search rules)

pub returns-in-None-clause-exact : goal.returns-in-None-clause-exact
returns-in-None-clause-exact c = run_is is_uri c.args.bytes.now (length c.args.bytes.now) (omega arith) (search rules) (λ h. absurd (omega arith))
