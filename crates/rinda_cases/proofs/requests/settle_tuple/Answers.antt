use Rattle.std.proofs.Common.{Some}
use Rattle.std.proofs.lemmas.Result.{on_ok_weaker}
use Rattle.rinda_tables.specs.Tabled.{ahead_of}
use Rattle.rinda_cases.proofs.RequestsOwn.{the-tuple, settled-free}
use Rattle.rinda_cases.proofs.requests.settle_tuple.Goals as goal

pub returns-else-row-clause-becomes : goal.returns-else-row-clause-becomes
returns-else-row-clause-becomes c = on_ok_weaker c.release.result
    (λ k s h.
    let there = the-tuple s (ahead_of c.args.tables.now) c.args.id (Some c.in-Some.row.now) h c.in-Some.ensures in
    settled-free s _ c.args.ok c.args.id c.in-Some.row.now c.if-ok.false c.if-row.false there (k s c.in-Some.row.now h there))
    c.release.ensures.becomes
