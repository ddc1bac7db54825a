use Rattle.std.proofs.Common.{◌-◌, ◌∙◌, ℕ, List, ap, arith, get_or}
use Rattle.std.specs.Map.{lookup}
use Rattle.std.specs.BTreeMap.{is_at}
use Rattle.std.specs.Ordering.{nat_cmp}
use Rattle.rinda_rules.specs.declared.start.StartLease.{StartLease}
use Rattle.rinda_tables.specs.Starting.{lease_in}
use Rattle.rinda_tables.proofs.Started.{place-more}
use Rattle.rinda_tables.proofs.starting.places_of.Goals as goal

pub loop-place-preserved : goal.loop-place-preserved
loop-place-preserved c = λ id.
    let leases = c.args.leases.now in
    let i = c.loop-place.place - 1 in
    ap (λ (es : List (ℕ × ℕ)). lease_in leases (lookup (is_at (nat_cmp id)) es)) c.in-Ok.ensures.entries
    ∙ place-more leases i c.loop-place.place (get_or leases i c.index-leases-place.result) c.loop-place.places.entries
    (omega (arith, c.loop-place-test.true, c.loop-place.auto.place))
    (omega (arith, c.loop-place-test.true))
    (ap (λ (l : StartLease). get_or leases i l) c.index-leases-place.is)
    c.loop-place.invariant id
