-- Longs at the front of a list.
use Rattle.std.proofs.Common.{◌≡◌, ℕ, ◌+◌, ◌<◌, ◌≤◌, ℤ, suc, zero, List, [], ◌∷◌, ◌++◌, length, take, drop, Option, Some, None, Bool, true, false, refl, ap, sym, ◌∙◌, arith, cond, nat_lt, length-append, length-take, length-drop}
use Rattle.std.proofs.lemmas.List.{take-append-drop}
use Rattle.std.proofs.lemmas.Grind.{common_steps}
use Rattle.marshal_grammar.specs.Longs.{Long, NoLong, LongAt, long_of, long_value, more_after}

pub drop_more : (i n : ℕ) (s : List ℕ) (c : ℕ) (more : List ℕ) → drop i s ≡ c ∷ more → drop (i + 1 + n) s ≡ drop n more
drop_more zero n [] c more e = absurd (cc)
drop_more zero n (d ∷ s) c more e = let k : 0 + 1 + n ≡ suc n = omega arith in rw k (ap (drop n) (let f : s ≡ more = cc in f))
drop_more (suc i) n [] c more e = absurd (cc)
drop_more (suc i) n (d ∷ s) c more e = let k : suc i + 1 + n ≡ suc (i + 1 + n) = omega arith in rw k (drop_more i n s c more e)

pub long_of_ok : (s : List ℕ) (c : ℕ) (more : List ℕ) → s ≡ c ∷ more → more_after c ≤ length more → long_of s ≡ Some (long_value c (take (more_after c) more), drop (more_after c) more)
long_of_ok s c more e h = rw e (grind (arith, common_steps))

-- the first n of n and more
pub take_seam : (xs ys : List ℕ) (n : ℕ) → length xs ≡ n → take n (xs ++ ys) ≡ xs
take_seam xs ys n e = rw (← e) (grind (arith, common_steps))

pub drop_seam : (xs ys : List ℕ) (n : ℕ) → length xs ≡ n → drop n (xs ++ ys) ≡ ys
drop_seam xs ys n e = rw (← e) (grind (arith, common_steps))

pub not_less : (m n : ℕ) → n ≤ m → nat_lt m n ≡ false
not_less m n h = grind (arith, common_steps)

pub less : (m n : ℕ) → m < n → nat_lt m n ≡ true
less m n h = grind (arith, common_steps)

pub less_false : (m n : ℕ) → nat_lt m n ≡ false → n ≤ m
less_false m n h = grind (arith, common_steps)

pub less_true : (m n : ℕ) → nat_lt m n ≡ true → m < n
less_true m n h = grind (arith, common_steps)

-- a long is read again, whatever follows it
pub long_again : (bs rest : List ℕ) (n : ℤ) → Long bs n → long_of (bs ++ rest) ≡ Some (n, rest)
long_again [] rest n h = absurd h
long_again (c ∷ bs) rest n h =
    rw (not_less (length (bs ++ rest)) (more_after c) (omega (arith, length-append bs rest, h.0)), take_seam bs rest (more_after c) h.0, drop_seam bs rest (more_after c) h.0, h.1) refl

chosen : {A : Type 0} (b : Bool) (x y : A) → cond b None (Some x) ≡ Some y → (b ≡ false) × (x ≡ y)
chosen true x y e = absurd (cc)
chosen false x y e = (refl, cc)

-- what is read as a long is a long
pub long_front : (bs rest : List ℕ) (n : ℤ) → long_of bs ≡ Some (n, rest) → (ms : List ℕ) × Long ms n × (bs ≡ ms ++ rest)
long_front [] rest n e = absurd (cc)
long_front (c ∷ bs) rest n e =
    let k = more_after c in
    let h = chosen (nat_lt (length bs) k) (long_value c (take k bs), drop k bs) (n, rest) e in
    let l : k ≤ length bs = less_false (length bs) k h.0 in
    (c ∷ take k bs, (omega (arith, length-take k bs), sym (ap (λ (r : ℤ × List ℕ). r.0) h.1)), ap (λ (xs : List ℕ). c ∷ xs) (sym (take-append-drop k bs) ∙ ap (λ (r : ℤ × List ℕ). take k bs ++ r.1) h.1))

-- where no long is read, none stands there
pub no_long : (bs : List ℕ) → long_of bs ≡ None → NoLong bs
no_long bs e n b rest l s = let k = long_again b rest n l in let j = ap long_of s in absurd (cc)

-- where no long stands, none is read
pub no_long_is : (bs : List ℕ) (o : Option (ℤ × List ℕ)) → long_of bs ≡ o → NoLong bs → o ≡ None
no_long_is bs None e h = refl
no_long_is bs (Some r) e h = let f = long_front bs r.1 r.0 e in absurd (h r.0 f.0 r.1 f.1 f.2)

-- what is read between two places is a long there
pub long_at_is : (bs : List ℕ) (at end : ℕ) (n : ℤ) → long_of (drop at bs) ≡ Some (n, drop end bs) → at < end → end ≤ length bs → LongAt bs at n end
long_at_is bs at end n e h k =
    let f = long_front (drop at bs) (drop end bs) n e in
    (f.0, f.1, f.2, omega (arith, ap length f.2, length-append f.0 (drop end bs), length-drop at bs, length-drop end bs))
