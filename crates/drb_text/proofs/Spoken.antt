-- Names of symbols and classes are read as they are shown, whatever text follows.
use Rattle.std.proofs.Common.{ℕ, zero, suc, ◌≡◌, ◌+◌, ◌≤◌, ◌==◌, ◌||◌, Bool, true, false, List, [], ◌∷◌, ◌++◌, length, take, drop, Option, Some, None, cond, refl, sym, ap, ◌∙◌, subst, arith}
use Rattle.std.specs.Prelude.{Result, Ok, Err, if◌then◌else◌}
use Rattle.std.specs.List.{prefix_len}
use Rattle.std.specs.Char.{is_ascii_digit, is_ascii_uppercase}
use Rattle.std.proofs.lemmas.Bool.{and_parts, and_right, or_from, le-leb, lt-leb, leb-true, ne_eqb}
use Rattle.drb_tree.specs.Trees.{sym_tree, class_tree}
use Rattle.drb_text.specs.Bytes.{is_word, is_mark}
use Rattle.drb_text.specs.declared.names.Place.{Place}
use Rattle.drb_text.specs.declared.names.Place.TheVariants as place
use Rattle.drb_text.specs.declared.names.Going.{Going}
use Rattle.drb_text.specs.declared.names.Going.TheVariants as going
use Rattle.drb_text.specs.Names.{mark_len, cut_at, symbol_from, symbol_name, going_at, gone_on, one_more, class_len, class_cut, class_name, is_whole}
use Rattle.drb_text.specs.Reading.{Read, stuck, read_as}
use Rattle.drb_text.specs.Texts.{plain}
use Rattle.drb_text.proofs.Ends.{Ends, by_end}
use Rattle.drb_text.proofs.Symbols.{symbol_some, class_some}

pub if_true : {A : Type 0} (c : Bool) (x y : A) → c ≡ true → (if c then x else y) ≡ x
if_true c x y h = rw h refl

pub if_false : {A : Type 0} (c : Bool) (x y : A) → c ≡ false → (if c then x else y) ≡ y
if_false c x y h = rw h refl

nothing_left : (x y : List ℕ) → is_whole {A = List ℕ} (Ok (x, y)) ≡ true → y ≡ []
nothing_left x [] h = refl
nothing_left x (b ∷ bs) h = absurd (cc)

-- symbols

-- The name, n letters and a mark or none, is read with anything behind it.
record Named (n m : ℕ) (s rest : List ℕ) : Type 0 where
  pub len : prefix_len is_word (s ++ rest) ≡ n
  pub mark : mark_len (drop n (s ++ rest)) ≡ m
  pub front : take (n + m) (s ++ rest) ≡ s
  pub back : drop (n + m) (s ++ rest) ≡ rest

no_word : (rest : List ℕ) → Ends rest → prefix_len is_word rest ≡ 0
no_word = by_end (λ rest. prefix_len is_word rest ≡ 0) refl (λ bs. refl) (λ bs. refl)

no_mark : (rest : List ℕ) → Ends rest → mark_len rest ≡ 0
no_mark = by_end (λ rest. mark_len rest ≡ 0) refl (λ bs. refl) (λ bs. refl)

run_ends : (c : Bool) (k : ℕ) → cond c (1 + k) 0 ≡ 0 → c ≡ false
run_ends true k e = absurd (omega (arith, e))
run_ends false k e = refl

run_goes : (c : Bool) (k n : ℕ) → cond c (1 + k) 0 ≡ suc n → (c ≡ true) × (k ≡ n)
run_goes true k n e = (refl, omega (arith, e))
run_goes false k n e = absurd (omega (arith, e))

mark_is : (c : Bool) (m : ℕ) → (if c then 1 else 0) ≡ suc m → (c ≡ true) × (m ≡ 0)
mark_is true m e = (refl, omega (arith, e))
mark_is false m e = absurd (omega (arith, e))

named : (s rest : List ℕ) (n m : ℕ) → Ends rest → prefix_len is_word s ≡ n → mark_len (drop n s) ≡ m → drop (n + m) s ≡ [] → Named n m s rest
named [] rest zero zero e p q w = record { len = no_word rest e; mark = no_mark rest e; front = refl; back = refl }
named [] rest zero (suc m) e p q w = absurd (omega (arith, q))
named [] rest (suc n) m e p q w = absurd (omega (arith, p))
named (b ∷ bs) rest zero zero e p q w = absurd (cc)
named (b ∷ bs) rest zero (suc m) e p q w =
    let f = run_ends (is_word b) (prefix_len is_word bs) p in
    let k = mark_is (is_mark b) m q in
    let z : bs ≡ [] = subst (λ (i : ℕ). drop (0 + suc i) (b ∷ bs) ≡ []) k.1 w in
    subst (λ (i : ℕ). Named 0 (suc i) (b ∷ bs) rest) (sym k.1) (subst (λ (x : List ℕ). Named 0 1 (b ∷ x) rest) (sym z) (record {
      len = rw f refl;
      mark = rw k.0 refl;
      front = refl;
      back = refl;
    }))
named (b ∷ bs) rest (suc n) m e p q w =
    let g = run_goes (is_word b) (prefix_len is_word bs) n p in
    let s : suc n + m ≡ suc (n + m) = omega arith in
    let a = named bs rest n m e g.1 q (subst (λ (i : ℕ). drop i (b ∷ bs) ≡ []) s w) in
    record {
      len = rw g.0 (omega (arith, a.len));
      mark = a.mark;
      front = ap (λ (i : ℕ). take i (b ∷ (bs ++ rest))) s ∙ ap (λ (x : List ℕ). b ∷ x) a.front;
      back = ap (λ (i : ℕ). drop i (b ∷ (bs ++ rest))) s ∙ a.back;
    }

symbol_goes : (s rest : List ℕ) (n : ℕ) → Ends rest → prefix_len is_word s ≡ n → is_whole (symbol_from n s) ≡ true → symbol_name (s ++ rest) ≡ Ok (s, rest)
symbol_goes s rest zero e p w = absurd (cc)
symbol_goes s rest (suc n) e p w =
    let z : (suc n == 0) ≡ false = ne_eqb (suc n) 0 (λ f. omega (arith, f)) in
    let m = mark_len (drop (suc n) s) in
    let v : is_whole {A = List ℕ} (Ok (take (suc n + m) s, drop (suc n + m) s)) ≡ true = ap is_whole (sym (if_false (suc n == 0) (stuck s) (cut_at (suc n + m) s) z)) ∙ w in
    let a = named s rest (suc n) m e p refl (nothing_left (take (suc n + m) s) (drop (suc n + m) s) v) in
    symbol_some (s ++ rest) (suc n) m s rest (sym a.len) z (sym a.mark) (sym a.front) (sym a.back)

pub symbol_reads : (s rest : List ℕ) → Ends rest → is_whole (symbol_name s) ≡ true → symbol_name (s ++ rest) ≡ Ok (s, rest)
unfolding symbol_name
symbol_reads s rest e w = symbol_goes s rest (prefix_len is_word s) e refl w

pub plain_symbol : (s rest : List ℕ) → Ends rest → is_whole (symbol_name s) ≡ true → plain (58 ∷ (s ++ rest)) ≡ Ok (sym_tree s, rest)
unfolding plain
plain_symbol s rest e w = ap (read_as sym_tree) (symbol_reads s rest e w)

-- classes

abbrev Classed : Place → ℕ → List ℕ → List ℕ → Type 0
Classed p n s rest = (class_len p (s ++ rest) ≡ Ok n) × (take n (s ++ rest) ≡ s) × (drop n (s ++ rest) ≡ rest)

abbrev or_zero : Result ℕ ℕ → ℕ
or_zero (Ok n) = n
or_zero (Err left) = 0

abbrev so_many : ℕ → Result ℕ ℕ
so_many n = Ok n

same_len : (m n : ℕ) → so_many m ≡ so_many n → m ≡ n
same_len m n e = ap or_zero e

no_class : (rest : List ℕ) → Ends rest → class_len place.Word rest ≡ Ok 0
no_class = by_end (λ rest. class_len place.Word rest ≡ Ok 0) refl (λ bs. refl) (λ bs. refl)

less_one : (r : Result ℕ ℕ) (n : ℕ) → one_more r ≡ Ok n → (m : ℕ) × (r ≡ Ok m) × (suc m ≡ n)
less_one (Ok m) n e = (m, refl, same_len (suc m) n e)
less_one (Err left) n e = absurd (cc)

class_goes : (g : Going) (p : Place) (b n : ℕ) (bs rest : List ℕ) → ((q : Place) (m : ℕ) → class_len q bs ≡ Ok m → drop m bs ≡ [] → Classed q m bs rest) → going_at p b ≡ g → gone_on g (λ q. class_len q bs) bs ≡ Ok n → drop n (b ∷ bs) ≡ [] → Classed p n (b ∷ bs) rest
class_goes (going.On q) p b n bs rest ih h e w =
    let m = less_one (class_len q bs) n e in
    let a = ih q m.0 m.1 (subst (λ (i : ℕ). drop i (b ∷ bs) ≡ []) (sym m.2) w) in
    subst (λ (i : ℕ). Classed p i (b ∷ bs) rest) m.2 (
      ap (λ (g : Going). gone_on g (λ f. class_len f (bs ++ rest)) (bs ++ rest)) h ∙ ap one_more a.0,
      ap (λ (x : List ℕ). b ∷ x) a.1,
      a.2,
    )
class_goes going.Ended p b n bs rest ih h e w =
    let z : drop 0 (b ∷ bs) ≡ [] = subst (λ (i : ℕ). drop i (b ∷ bs) ≡ []) (sym (same_len 0 n e)) w in
    absurd (cc)
class_goes going.Stuck p b n bs rest ih h e w = absurd (cc)

classed : (p : Place) (n : ℕ) (s rest : List ℕ) → Ends rest → class_len p s ≡ Ok n → drop n s ≡ [] → Classed p n s rest
classed place.Word n [] rest e h w = subst (λ (i : ℕ). Classed place.Word i [] rest) (same_len 0 n h) (no_class rest e, refl, refl)
classed place.Head n [] rest e h w = absurd (cc)
classed place.Colon n [] rest e h w = absurd (cc)
classed p n (b ∷ bs) rest e h w = class_goes (going_at p b) p b n bs rest (λ q m f v. classed q m bs rest e f v) refl h w

class_from : (r : Result ℕ ℕ) (s rest : List ℕ) → Ends rest → class_len place.Head s ≡ r → is_whole (class_cut s r) ≡ true → class_name (s ++ rest) ≡ Ok (s, rest)
class_from (Ok n) s rest e h w =
    let a = classed place.Head n s rest e h (nothing_left (take n s) (drop n s) w) in
    class_some (s ++ rest) n s rest a.0 (sym a.1) (sym a.2)
class_from (Err left) s rest e h w = absurd (cc)

pub class_reads : (s rest : List ℕ) → Ends rest → is_whole (class_name s) ≡ true → class_name (s ++ rest) ≡ Ok (s, rest)
unfolding class_name
class_reads s rest e w = class_from (class_len place.Head s) s rest e refl w

-- a capital comes first
capital_at : (c : Bool) (b : ℕ) (bs : List ℕ) → is_ascii_uppercase b ≡ c → is_whole (class_cut (b ∷ bs) (gone_on (if c then going.On place.Word else going.Stuck) (λ q. class_len q bs) bs)) ≡ true → is_ascii_uppercase b ≡ true
capital_at true b bs h w = h
capital_at false b bs h w = absurd (cc)

pub capital : (s : List ℕ) → is_whole (class_name s) ≡ true → (b : ℕ) × (bs : List ℕ) × (s ≡ b ∷ bs) × (is_ascii_uppercase b ≡ true)
unfolding class_name
capital [] w = absurd (cc)
capital (b ∷ bs) w = (b, bs, refl, capital_at (is_ascii_uppercase b) b bs refl w)

plain_capital : (b : ℕ) (bs : List ℕ) → 65 ≤ b → b ≤ 90 → is_ascii_uppercase b ≡ true → plain (b ∷ bs) ≡ read_as class_tree (class_name (b ∷ bs))
unfolding plain
plain_capital b bs l h u =
    let n : (b == 110) ≡ false = ne_eqb b 110 (λ f. omega (arith, f, h)) in
    let t : (b == 116) ≡ false = ne_eqb b 116 (λ f. omega (arith, f, h)) in
    let f : (b == 102) ≡ false = ne_eqb b 102 (λ f. omega (arith, f, h)) in
    let d : (b == 45 || is_ascii_digit b) ≡ false = or_from _ _ (ne_eqb b 45 (λ f. omega (arith, f, l))) (and_right _ _ (lt-leb b 57 (omega (arith, l)))) in
    let s : (b == 58) ≡ false = ne_eqb b 58 (λ f. omega (arith, f, l)) in
    let q : (b == 34) ≡ false = ne_eqb b 34 (λ f. omega (arith, f, l)) in
    if_false (b == 110) _ _ n ∙ if_false (b == 116) _ _ t ∙ if_false (b == 102) _ _ f ∙ if_false (b == 45 || is_ascii_digit b) _ _ d
    ∙ if_false (b == 58) _ _ s ∙ if_false (b == 34) _ _ q ∙ if_true (is_ascii_uppercase b) _ _ u

pub plain_class : (s rest : List ℕ) → Ends rest → is_whole (class_name s) ≡ true → plain (s ++ rest) ≡ Ok (class_tree s, rest)
plain_class s rest e w =
    let c = capital s w in
    let k = and_parts _ _ c.3 in
    ap (λ (x : List ℕ). plain (x ++ rest)) c.2
    ∙ plain_capital c.0 (c.1 ++ rest) (leb-true 65 c.0 k.0) (leb-true c.0 90 k.1) c.3
    ∙ ap (λ (x : List ℕ). read_as class_tree (class_name (x ++ rest))) (sym c.2)
    ∙ ap (read_as class_tree) (class_reads s rest e w)
