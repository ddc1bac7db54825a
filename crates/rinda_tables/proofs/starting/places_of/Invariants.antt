use Rattle.std.proofs.Common.{◌≡◌, ℕ, drop}
use Rattle.std.specs.Map.{lookup}
use Rattle.std.specs.BTreeMap.{is_at}
use Rattle.std.specs.Ordering.{nat_cmp}
use Rattle.rinda_rules.specs.Starts.{lease_of}
use Rattle.rinda_tables.specs.Starting.{lease_in}
use Rattle.rinda_tables.proofs.starting.places_of.Given as goal

-- the first lease of each id among those so far
abbrev pub invariant-loop-place : goal.invariant-loop-place
invariant-loop-place l = (id : ℕ) → lease_in l.leases (lookup (is_at (nat_cmp id)) l.places.entries) ≡ lease_of id (drop l.place l.leases)
