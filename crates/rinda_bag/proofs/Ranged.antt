-- The keys of a mark are those in a range.
use Rattle.std.proofs.Common.{◌≡◌, ℕ, List, [], ◌∷◌, refl, arith}
use Rattle.std.specs.Prelude.{filter}
use Rattle.std.specs.Ordering.{nat_cmp}
use Rattle.std.specs.BTreeMap.Range.{range_contains}
use Rattle.std.specs.declared.ops.Bound.TheVariants.{Included}
use Rattle.std.proofs.lemmas.Bool.Decides.{nat_tests}
use Rattle.rinda_bag.specs.Indexes.{key_of, is_of}

pub same-range : (mark lo hi : ℕ) (ks : List ℕ) → lo ≡ key_of mark 0 → hi ≡ key_of mark 18446744073709551615 → filter (λ q. range_contains nat_cmp (Included lo) (Included hi) q) ks ≡ filter (is_of mark) ks
same-range mark lo hi [] e f = refl
same-range mark lo hi (q ∷ ks) e f = grind (arith, nat_tests, same-range mark lo hi ks)
