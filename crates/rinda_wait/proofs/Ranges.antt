-- The keys of a place are those between its least and its greatest.
use Rattle.std.proofs.Common.{◌≡◌, ℕ, List, [], ◌∷◌, refl, arith}
use Rattle.std.specs.Prelude.{filter}
use Rattle.std.specs.Ordering.{nat_cmp}
use Rattle.std.specs.BTreeMap.Range.{range_contains}
use Rattle.std.specs.declared.ops.Bound.TheVariants.{Included}
use Rattle.std.proofs.lemmas.Bool.Decides.{nat_tests}
use Rattle.rinda_wait.specs.Places.{key_of, is_of}

pub same-range : (place lo hi : ℕ) (ks : List ℕ) → lo ≡ key_of place 0 → hi ≡ key_of place 18446744073709551615 → filter (λ q. range_contains nat_cmp (Included lo) (Included hi) q) ks ≡ filter (is_of place) ks
same-range place lo hi [] e f = refl
same-range place lo hi (q ∷ ks) e f = grind (arith, nat_tests, same-range place lo hi ks)
