-- Parts of a text that is cut at the first byte.
use Rattle.std.proofs.lemmas.List.{length-drop}
use Rattle.std.proofs.Math.Seq.{take-length}
use Rattle.std.proofs.lemmas.List.Splits.{slice_split_first}
use Rattle.std.proofs.lemmas.Bool.Decides.{nat_tests}
use Rattle.std.proofs.Common.{◌≡◌, ◌∙◌, ℕ, ◌+◌, ◌-◌, ◌<◌, Bool, true, false, List, [], ◌∷◌, length, take, drop, Option, Some, None, refl, sym, ap, arith}
use Rattle.std.specs.Prelude.{position, ◌==◌, map, nat_lt, cond}
use Rattle.std.specs.List.{slice_split, onto_first, position_or_len, before_first, after_first}
use Rattle.drb_acl.specs.Patterns.{parts, joined, address_of, number_of, net_of}
use Rattle.drb_acl.specs.Cuts.{parts_of}

-- Cutting.

found : (b : Bool) (m n : ℕ) → cond b (Some m) None ≡ Some n → (b ≡ true) × (m ≡ n)
found true m n e = (refl, grind arith)
found false m n e = cc

cut_at : (p : ℕ → Bool) (xs : List ℕ) (n : ℕ) → position p xs ≡ Some n → slice_split p xs ≡ take n xs ∷ slice_split p (drop (n + 1) xs)
cut_at p xs n e =
    let here = found (nat_lt (position_or_len p xs) (length xs)) (position_or_len p xs) n e in
    slice_split_first p xs 0 (let l : position_or_len p xs < length xs = grind (arith, nat_tests, here.0) in l)
    ∙ ap (λ (m : ℕ). take m xs ∷ slice_split p (drop (m + 1) xs)) here.1

not_cut : (p : ℕ → Bool) (xs : List ℕ) → position p xs ≡ None → slice_split p xs ≡ xs ∷ []
not_cut p [] e = refl
not_cut p (x ∷ xs) e = grind (arith, not_cut p xs)

pub split_none : (byte : ℕ) (xs : List ℕ) → position (λ b. b == byte) xs ≡ None → parts byte xs ≡ xs ∷ []
split_none byte xs e = not_cut (λ b. b == byte) xs e

pub split_at : (byte : ℕ) (xs : List ℕ) (n : ℕ) → position (λ b. b == byte) xs ≡ Some n → parts byte xs ≡ take n xs ∷ parts byte (take (length xs - (n + 1)) (drop (n + 1) xs))
split_at byte xs n e =
    cut_at (λ b. b == byte) xs n e
    ∙ ap (λ (ys : List ℕ). take n xs ∷ parts byte ys) (sym (ap (λ (m : ℕ). take m (drop (n + 1) xs)) (sym (length-drop (n + 1) xs)) ∙ take-length (drop (n + 1) xs)))

-- there is a part
parts_empty : (p : ℕ → Bool) (xs : List ℕ) → slice_split p xs ≡ [] → ⊥
parts_empty p [] e = cc
parts_empty p (x ∷ xs) e = by_test (p x) (slice_split p xs) e
  where
    by_test : (b : Bool) (ps : List (List ℕ)) → cond b ([] ∷ ps) (onto_first x ps) ≡ [] → ⊥
    by_test true ps e = cc
    by_test false [] e = cc
    by_test false (y ∷ ys) e = cc

-- Addresses.

joined_three : (a b c : Option ℕ) → joined (a ∷ b ∷ c ∷ []) ≡ None
joined_three None b c = refl
joined_three (Some a) None c = refl
joined_three (Some a) (Some b) None = refl
joined_three (Some a) (Some b) (Some c) = refl

joined_more : (a b c d : Option ℕ) (xs : List (Option ℕ)) → (xs ≡ [] → ⊥) → joined (a ∷ b ∷ c ∷ d ∷ xs) ≡ None
joined_more a b c d [] h = absurd (h refl)
joined_more None b c d (x ∷ xs) h = refl
joined_more (Some a) None c d (x ∷ xs) h = refl
joined_more (Some a) (Some b) None d (x ∷ xs) h = refl
joined_more (Some a) (Some b) (Some c) None (x ∷ xs) h = refl
joined_more (Some a) (Some b) (Some c) (Some d) (x ∷ xs) h = refl

-- one part more
pub next : (byte : ℕ) (text a t : List ℕ) (r : Option (List ℕ)) → parts byte text ≡ a ∷ parts_of byte r → r ≡ Some t → parts byte text ≡ a ∷ parts byte t
next byte text a t r e s = e ∙ ap (λ (r : Option (List ℕ)). a ∷ parts_of byte r) s

pub last : (byte : ℕ) (text a : List ℕ) (r : Option (List ℕ)) → parts byte text ≡ a ∷ parts_of byte r → r ≡ None → parts byte text ≡ a ∷ []
last byte text a r e s = e ∙ ap (λ (r : Option (List ℕ)). a ∷ parts_of byte r) s

pub of_three : (text t u a b c : List ℕ) → parts 46 text ≡ a ∷ parts 46 t → parts 46 t ≡ b ∷ parts 46 u → parts 46 u ≡ c ∷ [] → address_of text ≡ None
of_three text t u a b c e f g =
    ap (λ (ps : List (List ℕ)). joined (map (number_of 255) ps)) (e ∙ ap (λ (ps : List (List ℕ)). a ∷ ps) (f ∙ ap (λ (ps : List (List ℕ)). b ∷ ps) g))
    ∙ joined_three (number_of 255 a) (number_of 255 b) (number_of 255 c)

mapped_empty : (ps : List (List ℕ)) → (ps ≡ [] → ⊥) → map (number_of 255) ps ≡ [] → ⊥
mapped_empty [] h e = h refl
mapped_empty (p ∷ ps) h e = cc

pub of_more : (text t u v w a b c d : List ℕ) → parts 46 text ≡ a ∷ parts 46 t → parts 46 t ≡ b ∷ parts 46 u → parts 46 u ≡ c ∷ parts 46 v → parts 46 v ≡ d ∷ parts 46 w → address_of text ≡ None
of_more text t u v w a b c d e f g h =
    ap (λ (ps : List (List ℕ)). joined (map (number_of 255) ps)) (e ∙ ap (λ (ps : List (List ℕ)). a ∷ ps) (f ∙ ap (λ (ps : List (List ℕ)). b ∷ ps) (g ∙ ap (λ (ps : List (List ℕ)). c ∷ ps) h)))
    ∙ joined_more (number_of 255 a) (number_of 255 b) (number_of 255 c) (number_of 255 d) (map (number_of 255) (parts 46 w)) (mapped_empty (parts 46 w) (parts_empty (λ x. x == 46) w))

pub of_parts : (text t u a b : List ℕ) → parts 47 text ≡ a ∷ parts 47 t → parts 47 t ≡ b ∷ parts 47 u → net_of (parts 47 text) ≡ None
of_parts text t u a b e f = ap net_of (e ∙ ap (λ (ps : List (List ℕ)). a ∷ ps) f) ∙ by_parts (parts 47 u) (parts_empty (λ x. x == 47) u)
  where
    by_parts : (ps : List (List ℕ)) → (ps ≡ [] → ⊥) → net_of (a ∷ b ∷ ps) ≡ None
    by_parts [] h = absurd (h refl)
    by_parts (p ∷ ps) h = refl

pub is_there : {A : Type 0} (o : Option A) → true ≡ Rattle.std.specs.Prelude.is_some o → (x : A) × (o ≡ Some x)
is_there None e = cc
is_there (Some x) e = (x, refl)
