use Rattle.std.proofs.Common.{◌≡◌, ◌∙◌, true, Some, None, sym, ap, arith}
use Rattle.rinda_rules.specs.declared.plain.Request.{Request}
use Rattle.rinda_rules.specs.Space.{is_reserved}
use Rattle.rinda_tables.specs.Tabled.{ahead_of}
use Rattle.rinda_cases.proofs.RequestsOwn.{its-row, its-id}
use Rattle.rinda_cases.proofs.RequestsFound.{least-some, least-none}
use Rattle.rinda_cases.proofs.RequestsServed.{least-held, submitted-some, submitted-none}
use Rattle.rinda_cases.proofs.requests.submit_own.Goals as goal

pub returns-in_ok-out-in-Some-least_match-clause-submits : goal.returns-in_ok-out-in-Some-least_match-clause-submits
returns-in_ok-out-in-Some-least_match-clause-submits c = λ s r h there.
    let old = ahead_of c.args.tables.now in
    let row = c.in-Some.row.now in
    let tuple = c.in-Some-least_match.tuple in
    let same = its-row s old c.args.id row r h c.in-Some.ensures there in
    let is : is_reserved row.state ≡ true = grind (arith, c.is_reserved.ensures, c.if-not-is_reserved.false) in
    let least = least-held s old row r (Some tuple) h same c.in-Some-least_match.ensures in
    let found = least-some s r tuple h.numbered.tuples least in
    submitted-some s r c.args.id tuple found.0 c.submit_matched.new.tables c.in_ok-out-in-Some-least_match.out (its-id s c.args.id r there) (ap (λ (x : Request). is_reserved x.state) (sym same) ∙ is) found.1 least (c.in_ok-out-in-Some-least_match.ensures.serves s r found.0 h there found.1.there)

pub returns-in_ok-out-in-None-clause-submits : goal.returns-in_ok-out-in-None-clause-submits
returns-in_ok-out-in-None-clause-submits c = λ s r h there.
    let old = ahead_of c.args.tables.now in
    let row = c.in-Some.row.now in
    let same = its-row s old c.args.id row r h c.in-Some.ensures there in
    let is : is_reserved row.state ≡ true = grind (arith, c.is_reserved.ensures, c.if-not-is_reserved.false) in
    let least = least-held s old row r None h same c.in-None.ensures in
    submitted-none s r c.submit_unmatched.new.tables c.in_ok-out-in-None.out (ap (λ (x : Request). is_reserved x.state) (sym same) ∙ is) (least-none s r least) (c.in_ok-out-in-None.ensures.made s r h there)
