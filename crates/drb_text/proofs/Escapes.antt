-- A text in quotes is read as it is shown.
use Rattle.std.proofs.Common.{ℕ, ◌≡◌, ◌<◌, ◌≤◌, ◌+◌, ◌*◌, ◌/◌, ◌%◌, ◌==◌, ◌||◌, ◌&&◌, ◌⊎◌, inl, inr, Bool, true, false, not, List, [], ◌∷◌, ◌++◌, All, refl, sym, ap, ◌∙◌, arith, append_assoc}
use Rattle.std.specs.Prelude.{Ok, nat_lt, if◌then◌else◌}
use Rattle.std.specs.Char.{digit_char}
use Rattle.std.proofs.lemmas.Bool.{and_from, or_parts, agree_below_at, eqb-true, lt-ltb, cases_Bool}
use Rattle.std.proofs.lemmas.List.Elements.{All-head, All-tail}
use Rattle.drb_tree.specs.Kept.{AreBytes}
use Rattle.drb_text.specs.Bytes.{is_plain, is_hex, hex_value}
use Rattle.drb_text.specs.declared.strings.Escape.{Escape}
use Rattle.drb_text.specs.declared.strings.Escape.TheVariants as escape
use Rattle.drb_text.specs.declared.strings.Step.{Step}
use Rattle.drb_text.specs.declared.strings.Step.TheVariants as step
use Rattle.drb_text.specs.Reading.{Read, read_as}
use Rattle.drb_text.specs.Strings.{led_by, outside, behind_backslash, step_at, taken, quoted}
use Rattle.drb_text.specs.Shown.{escaped, each_escaped}
use Rattle.drb_text.specs.Texts.{string_tree, plain}
use Rattle.drb_text.proofs.Spoken.{if_true, if_false}

-- a digit below 16 is one, and is worth what it stands for
abbrev stands : ℕ → Bool
stands w = is_hex (digit_char w) && hex_value (digit_char w) == w

stands_at : (w : ℕ) → w < 16 → stands w ≡ true
stands_at w l = agree_below_at stands (λ v. true) 16 w refl l

two_parts : (a b : Bool) → (a && b) ≡ true → (a ≡ true) × (b ≡ true)
two_parts true b h = (refl, h)
two_parts false b h = absurd (cc)

two_digits : (c d h l : ℕ) (xs : List ℕ) → is_hex c ≡ true → is_hex d ≡ true → hex_value c ≡ h → hex_value d ≡ l → h < 16 → quoted escape.Hex (c ∷ d ∷ xs) ≡ led_by (h * 16 + l) (quoted escape.Outside xs)
two_digits c d h l xs p q e f s =
    ap (λ (s : Step). taken s (λ g. quoted g (d ∷ xs)) (d ∷ xs)) (if_true (is_hex c) (step.Leads (escape.Half (hex_value c))) step.Stuck p)
    ∙ ap (λ (s : Step). taken s (λ g. quoted g xs) xs) (if_true (is_hex d && nat_lt (hex_value c) 16) (step.Gives (hex_value c * 16 + hex_value d)) step.Stuck (and_from _ _ q (lt-ltb (hex_value c) 16 (omega (arith, e, s)))))
    ∙ ap (λ (k : ℕ). led_by k (quoted escape.Outside xs)) (omega (arith, e, f))

byte_marked : (b : ℕ) (xs : List ℕ) → (b == 34 || b == 92) ≡ true → quoted escape.Outside (escaped b ++ xs) ≡ led_by b (quoted escape.Outside xs)
byte_marked b xs h =
    ap (λ (e : List ℕ). quoted escape.Outside (e ++ xs)) (if_true (b == 34 || b == 92) (92 ∷ b ∷ []) _ h)
    ∙ ap (λ (s : Step). taken s (λ g. quoted g xs) xs) (if_true (b == 34 || b == 92) (step.Gives b) _ h)

byte_plain : (b : ℕ) (xs : List ℕ) → (b == 34 || b == 92) ≡ false → is_plain b ≡ true → quoted escape.Outside (escaped b ++ xs) ≡ led_by b (quoted escape.Outside xs)
byte_plain b xs h p =
    let o = or_parts (b == 34) (b == 92) h in
    ap (λ (e : List ℕ). quoted escape.Outside (e ++ xs)) (if_false (b == 34 || b == 92) (92 ∷ b ∷ []) _ h ∙ if_true (is_plain b) (b ∷ []) _ p)
    ∙ ap (λ (s : Step). taken s (λ g. quoted g xs) xs) (if_false (b == 34) step.Closes _ o.0 ∙ if_false (b == 92) (step.Leads escape.Backslash) _ o.1 ∙ if_true (is_plain b) (step.Gives b) _ p)

byte_other : (b : ℕ) (xs : List ℕ) → b < 256 → (b == 34 || b == 92) ≡ false → is_plain b ≡ false → quoted escape.Outside (escaped b ++ xs) ≡ led_by b (quoted escape.Outside xs)
byte_other b xs l h p =
    let c = digit_char (b / 16) in
    let d = digit_char (b % 16) in
    let u = two_parts _ _ (stands_at (b / 16) (omega arith)) in
    let v = two_parts _ _ (stands_at (b % 16) (omega arith)) in
    ap (λ (e : List ℕ). quoted escape.Outside (e ++ xs)) (if_false (b == 34 || b == 92) (92 ∷ b ∷ []) _ h ∙ if_false (is_plain b) (b ∷ []) (92 ∷ 120 ∷ c ∷ d ∷ []) p)
    ∙ two_digits c d (b / 16) (b % 16) xs u.0 v.0 (eqb-true _ _ u.1) (eqb-true _ _ v.1) (omega arith)
    ∙ ap (λ (k : ℕ). led_by k (quoted escape.Outside xs)) (omega arith)

byte_by : (p q : Bool) (b : ℕ) (xs : List ℕ) → b < 256 → (b == 34 || b == 92) ≡ p → is_plain b ≡ q → quoted escape.Outside (escaped b ++ xs) ≡ led_by b (quoted escape.Outside xs)
byte_by true q b xs l h p = byte_marked b xs h
byte_by false true b xs l h p = byte_plain b xs h p
byte_by false false b xs l h p = byte_other b xs l h p

quoted_reads : (s rest : List ℕ) → AreBytes s → quoted escape.Outside (each_escaped s ++ (34 ∷ rest)) ≡ Ok (s, rest)
quoted_reads [] rest k = refl
quoted_reads (b ∷ bs) rest k =
    ap (quoted escape.Outside) (append_assoc (escaped b) (each_escaped bs) (34 ∷ rest))
    ∙ byte_by (b == 34 || b == 92) (is_plain b) b (each_escaped bs ++ (34 ∷ rest)) (All-head (λ b. b < 256) b bs k) refl refl
    ∙ ap (led_by b) (quoted_reads bs rest (All-tail (λ b. b < 256) b bs k))

pub plain_quoted : (s rest : List ℕ) → AreBytes s → plain ((34 ∷ (each_escaped s ++ (34 ∷ []))) ++ rest) ≡ Ok (string_tree s, rest)
unfolding plain
plain_quoted s rest k =
    ap (λ (x : List ℕ). read_as string_tree (quoted escape.Outside x)) (append_assoc (each_escaped s) (34 ∷ []) rest)
    ∙ ap (read_as string_tree) (quoted_reads s rest k)
