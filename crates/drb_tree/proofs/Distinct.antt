-- A new key keeps the keys distinct, and a new name the names.
use Rattle.std.proofs.Common.{◌≡◌, ℕ, Bool, true, false, not, ◌&&◌, ◌||◌, List, [], ◌∷◌, ◌++◌, IsTrue, refl, sym, ◌∙◌, append-nil, append_assoc, bytes_eq}
use Rattle.std.proofs.lemmas.Bool.Decides.{same_from_decides}
use Rattle.std.proofs.lemmas.Slice.Eq.{bytes_eq-Decides}
use Rattle.drb_tree.specs.declared.Tree.{Tree}
use Rattle.drb_tree.specs.Kept.{has_key, keys_distinct, keys_distinct_after, has_name, names_distinct}

both_true : (a b c : Bool) → a && b ≡ true → (b ≡ true → c ≡ true) → a && c ≡ true
both_true true b c e f = f e
both_true false b c e f = e

after_push : (before ps : List (Tree × Tree)) (x : Tree × Tree) → IsTrue (keys_distinct_after before ps) → has_key x.0 (before ++ ps) ≡ false → IsTrue (keys_distinct_after before (ps ++ (x ∷ [])))
after_push before [] x d h = let k : has_key x.0 before ≡ false = rw append-nil at h in rw k refl
after_push before (p ∷ ps) x d h =
    both_true (not (has_key p.0 before)) (keys_distinct_after (before ++ (p ∷ [])) ps) (keys_distinct_after (before ++ (p ∷ [])) (ps ++ (x ∷ []))) d
    (λ e. after_push (before ++ (p ∷ [])) ps x e (rw append_assoc h))

-- a key that none is the same as
pub keys_distinct-push : (ps : List (Tree × Tree)) (x : Tree × Tree) → IsTrue (keys_distinct ps) → has_key x.0 ps ≡ false → IsTrue (keys_distinct (ps ++ (x ∷ [])))
keys_distinct-push ps x d h = after_push [] ps x d h

-- bytes that differ differ the other way round
differ : (xs ys : List ℕ) → bytes_eq xs ys ≡ false → bytes_eq ys xs ≡ false
differ xs ys e = let d = bytes_eq-Decides ys xs in same_from_decides (bytes_eq ys xs) (bytes_eq xs ys) (λ h. sym (d.0 h), λ h. d.1 (sym h)) (bytes_eq-Decides xs ys) ∙ e

none_of : (a b c : Bool) → a || b ≡ false → (b ≡ false → c ≡ false) → a || c ≡ false
none_of false b c h k = k h
none_of true b c h k = h

first_none : (a b : Bool) → a || b ≡ false → a ≡ false
first_none false b h = refl
first_none true b h = h

rest_none : (a b : Bool) → a || b ≡ false → b ≡ false
rest_none false b h = h
rest_none true b h = absurd (let e : true ≡ false = h in cc)

still : (a a' b b' : Bool) → IsTrue (not a && b) → (a ≡ false → a' ≡ false) → (b ≡ true → b' ≡ true) → IsTrue (not a' && b')
still true a' b b' d p q = absurd (let e : false ≡ true = d in cc)
still false a' b b' d p q = rw (p refl) (q d)

-- a name that is not there yet
has_name-push : (n : List ℕ) (fs : List (List ℕ × Tree)) (x : List ℕ × Tree) → bytes_eq x.0 n ≡ false → has_name n fs ≡ false → has_name n (fs ++ (x ∷ [])) ≡ false
has_name-push n [] x e h = rw e refl
has_name-push n (f ∷ fs) x e h = none_of (bytes_eq f.0 n) (has_name n fs) (has_name n (fs ++ (x ∷ []))) h (has_name-push n fs x e)

-- a field whose name no other has
pub names_distinct-push : (fs : List (List ℕ × Tree)) (x : List ℕ × Tree) → IsTrue (names_distinct fs) → has_name x.0 fs ≡ false → IsTrue (names_distinct (fs ++ (x ∷ [])))
names_distinct-push [] x d h = refl
names_distinct-push (f ∷ fs) x d h =
    still (has_name f.0 fs) (has_name f.0 (fs ++ (x ∷ []))) (names_distinct fs) (names_distinct (fs ++ (x ∷ []))) d
    (has_name-push f.0 fs x (differ f.0 x.0 (first_none (bytes_eq f.0 x.0) (has_name x.0 fs) h)))
    (λ k. names_distinct-push fs x k (rest_none (bytes_eq f.0 x.0) (has_name x.0 fs) h))
