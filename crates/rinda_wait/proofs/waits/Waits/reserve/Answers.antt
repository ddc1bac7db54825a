use Rattle.std.proofs.Common.{◌≡◌, ◌∙◌, ◌<◌, true, ℕ, ltb, subst}
use Rattle.std.specs.List.{list_all}
use Rattle.rinda_wait.specs.Probes.{place_in}
use Rattle.rinda_wait.proofs.Indexed.{indexed-put, without-last}
use Rattle.rinda_wait.proofs.waits.Waits.reserve.Goals as goal

pub invariant_of-self-in-Ok : goal.invariant_of-self-in-Ok
invariant_of-self-in-Ok c =
    let low : list_all (λ x. ltb x.id c.args.row.id) c.self.inside.table ≡ true = rw c.self.view_is c.requires in
    let small : c.args.row.id < 18446744073709551616 = subst (λ (i : ℕ). i < 18446744073709551616) c.bounded-id.ensures.same c.bounded-id.ensures.small in
    rw (c.in_ok-put.ensures.put, c.in-Ok.ensures.added, c.place_of-place.ensures, c.bounded-id.ensures.same) (indexed-put (place_in c.self.inside.secret) c.self.inside.table c.self.inside.keys.keys c.args.row c.self.invariant low small)

pub invariant_of-self-in-Err : goal.invariant_of-self-in-Err
invariant_of-self-in-Err c =
    let low : list_all (λ x. ltb x.id c.args.row.id) c.self.inside.table ≡ true = rw c.self.view_is c.requires in
    rw (c.take_out.ensures.rest, c.in_ok-put.ensures.put, c.in-Err.ensures.kept, c.bounded-id.ensures.same, without-last c.self.inside.table c.args.row low) c.self.invariant

pub returns-in-Err-clause-kept : goal.returns-in-Err-clause-kept
returns-in-Err-clause-kept c =
    let low : list_all (λ x. ltb x.id c.args.row.id) c.self.inside.table ≡ true = rw c.self.view_is c.requires in
    c.take_out.ensures.rest ∙ rw (c.in_ok-put.ensures.put, c.bounded-id.ensures.same) (without-last c.self.inside.table c.args.row low) ∙ c.self.view_is
