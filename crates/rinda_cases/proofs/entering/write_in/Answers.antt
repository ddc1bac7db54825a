use Rattle.std.proofs.Common.{refl, subst}
use Rattle.rinda_tables.specs.Holds.{Holds}
use Rattle.rinda_tables.specs.Tabled.{ahead_of, new_entry, with_new_tuple}
use Rattle.rinda_cases.proofs.entering.write_in.Goals as goal

pub returns-clause-written : goal.returns-clause-written
returns-clause-written c = λ s h.
    let added = c.in_ok-id.ensures.added s h in
    let v = c.args.value.now in
    let d = c.args.deadline in
    let r = c.args.lease.now.renewer in
    let one = subst (λ x. Holds (with_new_tuple x d c.in_ok-renewer.renewer s) (ahead_of c.add_tuple.new.self)) c.in-Ok.ensures added.1 in
    let two = subst (λ x. Holds (with_new_tuple v d x s) (ahead_of c.add_tuple.new.self)) c.in_ok-renewer.ensures one in
    (added.0, c.in_ok-raise.ensures.becomes (new_entry s.next v d r) refl (with_new_tuple v d r s) two)
