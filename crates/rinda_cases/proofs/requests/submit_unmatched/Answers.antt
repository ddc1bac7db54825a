use Rattle.std.proofs.Common.{◌∙◌, true, false, refl, sym}
use Rattle.rinda_tables.specs.Tabled.{ahead_of}
use Rattle.rinda_cases.proofs.RequestsOwn.{is-case, its-id}
use Rattle.rinda_cases.proofs.RequestsServed.{its-mark, its-time, unmatched-canceled, unmatched-expired, unmatched-parked}
use Rattle.rinda_cases.proofs.requests.submit_unmatched.Goals as goal

pub returns-in_ok-end_request-clause-made : goal.returns-in_ok-end_request-clause-made
returns-in_ok-end_request-clause-made c = λ s r h there.
    let old = ahead_of c.args.tables.now in
    let marked = its-mark s old c.args.id c.in-Some.row.now r true h c.in-Some.ensures c.if-row.true there in
    is-case _ _ c.end_request.new.self _ (unmatched-canceled s r c.args.id (its-id s c.args.id r there) marked) (refl, c.in_ok-end_request.ensures.becomes s r h there)

pub returns-in_ok-end_request-2-clause-made : goal.returns-in_ok-end_request-2-clause-made
returns-in_ok-end_request-2-clause-made c = λ s r h there.
    let old = ahead_of c.args.tables.now in
    let marked = its-mark s old c.args.id c.in-Some.row.now r false h c.in-Some.ensures c.if-row.false there in
    let over = its-time s old c.args.id c.in-Some.row.now r true h c.in-Some.ensures (sym c.expires.ensures ∙ c.if-expires.true) there in
    is-case _ _ c.end_request-then-expires.new.self _ (unmatched-expired s r c.args.id (its-id s c.args.id r there) marked over) (refl, c.in_ok-end_request-2.ensures.becomes s r h there)

pub returns-in_ok-set_request-clause-made : goal.returns-in_ok-set_request-clause-made
returns-in_ok-set_request-clause-made c = λ s r h there.
    let old = ahead_of c.args.tables.now in
    let marked = its-mark s old c.args.id c.in-Some.row.now r false h c.in-Some.ensures c.if-row.false there in
    let over = its-time s old c.args.id c.in-Some.row.now r false h c.in-Some.ensures (sym c.expires.ensures ∙ c.if-expires.false) there in
    is-case _ _ c.set_request.new.self _ (unmatched-parked s r c.args.id (its-id s c.args.id r there) marked over) (refl, c.in_ok-set_request.ensures.becomes s r h there)
