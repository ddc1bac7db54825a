-- ASCII is UTF-8.
use Rattle.std.proofs.Common.{◌≡◌, ℕ, zero, suc, ◌<◌, ◌&&◌, Bool, true, false, List, [], ◌∷◌, get_or, nat_lt, IsTrue, IsUtf8, refl, arith}
use Rattle.std.specs.Str.{IsAscii}
use Rattle.std.proofs.lemmas.Str.{IsUtf8-from_ascii}
use Rattle.std.proofs.lemmas.Bool.Decides.{nat_tests}
use Rattle.drb_tree.specs.Same.{all_ascii}

both : (a b : Bool) → (a && b) ≡ true → (a ≡ true) × (b ≡ true)
both true b h = (refl, h)
both false b h = absurd (cc)

below : (b : ℕ) → nat_lt b 128 ≡ true → b < 128
below b h = grind (arith, nat_tests)

is_ascii : (bs : List ℕ) → IsTrue (all_ascii bs) → IsAscii bs
is_ascii [] h i = omega arith
is_ascii (b ∷ bs) h zero = below b (both (nat_lt b 128) (all_ascii bs) h).0
is_ascii (b ∷ bs) h (suc i) = is_ascii bs (both (nat_lt b 128) (all_ascii bs) h).1 i

pub ascii-IsUtf8 : (bs : List ℕ) → IsTrue (all_ascii bs) → IsUtf8 bs
ascii-IsUtf8 bs h = IsUtf8-from_ascii bs (is_ascii bs h)
