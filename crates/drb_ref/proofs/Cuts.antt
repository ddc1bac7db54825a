-- Where a text is cut, and that a uri's parts are what it is cut into.
use Rattle.std.proofs.Common.{◌≡◌, ℕ, suc, ◌+◌, ◌<◌, ◌≤◌, ◌==◌, ◌||◌, ◌⊎◌, ◌↔◌, Bool, true, false, List, [], ◌∷◌, ◌++◌, length, take, drop, get_or, min, cond, not, IsTrue, refl, sym, ap, ◌∙◌, subst, inl, inr, arith, append_assoc, ne_eqb, eq-eqb}
use Rattle.std.specs.List.{All, AllPass, position_or_len, before_first}
use Rattle.std.proofs.lemmas.List.{take_at, drop_at, take_all, take_min, drop_min, append_cancel_left, same_from_push, length-append, take-append-drop}
use Rattle.std.proofs.lemmas.List.Elements.{All-head, All-tail}
use Rattle.std.proofs.lemmas.List.Sums.{position_or_len_is, prefix_len-le-length}
use Rattle.drb_ref.specs.Uris.{scheme, ends_name, is_name_byte, is_number_byte, IsName, IsNumber, IsBracketed, IsHost, NamesPort, IsUri, LacksHost, LacksPort, host_len, host_of, tail_of}

-- the first byte c is at i
pub first_at : (c : ℕ) (xs : List ℕ) (i : ℕ) → i < length xs → ((k : ℕ) → k < i → get_or xs k 0 ≡ c → ⊥) → get_or xs i 0 ≡ c → position_or_len (λ b. b == c) xs ≡ i
first_at c xs i l before at = position_or_len_is (λ b. b == c) xs i 0 (omega arith) (λ k h. ne_eqb (get_or xs k 0) c (before k h)) (λ _. eq-eqb (get_or xs i 0) c at)

-- there is no byte c
pub none_at : (c : ℕ) (xs : List ℕ) → ((k : ℕ) → k < length xs → get_or xs k 0 ≡ c → ⊥) → position_or_len (λ b. b == c) xs ≡ length xs
none_at c xs before = position_or_len_is (λ b. b == c) xs (length xs) 0 (omega arith) (λ k h. ne_eqb (get_or xs k 0) c (before k h)) (λ h. absurd (omega arith))

-- the first element that passes comes behind those that don't
pub first_behind : (p : ℕ → Bool) (xs : List ℕ) (y : ℕ) (ys : List ℕ) → All (λ x. p x ≡ false) xs → p y ≡ true → position_or_len p (xs ++ y ∷ ys) ≡ length xs
first_behind p [] y ys a h = rw h
first_behind p (x ∷ xs) y ys a h = rw (All-head (λ x. p x ≡ false) x xs a, first_behind p xs y ys (All-tail (λ x. p x ≡ false) x xs a) h) (omega arith)

-- a byte of which p is true isn't one of which it is false
pub apart : (p : ℕ → Bool) (b c : ℕ) → p b ≡ true → p c ≡ false → (b == c) ≡ false
apart p b c h n = ne_eqb b c (λ e. let q : p c ≡ true = subst (λ (x : ℕ). p x ≡ true) e h in cc)

or_false : (a b : Bool) → a ≡ false → b ≡ false → (a || b) ≡ false
or_false a b p q = rw p q

-- no byte of a name ends it
within_name : (b : ℕ) → is_name_byte b ≡ true → ends_name b ≡ false
within_name b h = or_false (b == 58) (b == 63) (apart is_name_byte b 58 h refl) (apart is_name_byte b 63 h refl)

-- a name is the host where `:` follows
name_len : (host rest : List ℕ) → IsName host → host_len (host ++ 58 ∷ rest) ≡ length host
name_len [] rest n = absurd (omega (arith, n.0))
name_len (b ∷ bs) rest n =
    let first : (b == 91) ≡ false = apart is_name_byte b 91 (All-head (λ x. is_name_byte x ≡ true) b bs n.1) refl in
    rw first (first_behind ends_name (b ∷ bs) 58 rest (λ k d h. within_name (get_or (b ∷ bs) k d) (n.1 k d h)) refl)

-- so is a number in brackets
bracketed_len : (host rest : List ℕ) → IsBracketed host → host_len (host ++ rest) ≡ length host
bracketed_len host rest (number, e, n) =
    let inner : All (λ x. (x == 93) ≡ false) number = λ k d h. apart is_number_byte (get_or number k d) 93 (n.1 k d h) refl in
    let at : position_or_len (λ b. b == 93) (number ++ 93 ∷ rest) ≡ length number = first_behind (λ b. b == 93) number 93 rest inner refl in
    rw (e, append_assoc number (93 ∷ []) rest, at, length-append number (93 ∷ [])) (omega arith)

-- a host is the host where `:` follows
pub host_len_is : (host rest : List ℕ) → IsHost host → host_len (host ++ 58 ∷ rest) ≡ length host
host_len_is host rest h = elim h [ inl n ↦ name_len host rest n | inr b ↦ bracketed_len host (58 ∷ rest) b ]

-- a name, or what stands for one, ends within the text
pub named_is_within : (after : List ℕ) (b : Bool) (n : ℕ) → b ≡ (get_or after 0 0 == 91) → b ≡ false → n ≡ position_or_len ends_name after → n ≡ min (host_len after) (length after)
named_is_within after b n e f g =
    let other : (get_or after 0 0 == 91) ≡ false = sym e ∙ f in
    let within : position_or_len ends_name after ≤ length after = prefix_len-le-length (λ x. not (ends_name x)) after in
    rw other (omega arith)

-- what is cut at so many bytes, or at the end
pub cut_host : (after : List ℕ) (n : ℕ) → n ≡ min (host_len after) (length after) → take n after ≡ host_of after
cut_host after n e = ap (λ m. take m after) e ∙ take_min (host_len after) after

pub cut_tail : (after : List ℕ) (n : ℕ) → n ≡ min (host_len after) (length after) → drop n after ≡ tail_of after
cut_tail after n e = ap (λ m. drop m after) e ∙ drop_min (host_len after) after

-- a uri's parts are those that its text is cut into
pub parts_are : (text after host : List ℕ) (port : ℕ) → text ≡ scheme ++ after → IsUri text host port → (host_of after ≡ host) × IsHost host × NamesPort (tail_of after) port
parts_are text after host port e (tail, t, h, n) =
    let digits = n.0 in
    let rest = n.1 in
    let same : after ≡ host ++ tail = append_cancel_left scheme after (host ++ tail) (sym e ∙ t) in
    let whole : after ≡ host ++ 58 ∷ (digits ++ rest) = same ∙ ap (λ (x : List ℕ). host ++ x) n.2 in
    let len : host_len after ≡ length host = ap host_len whole ∙ host_len_is host (digits ++ rest) h in
    let front : host_of after ≡ host = ap (λ (x : List ℕ). take (host_len after) x) whole ∙ take_at host (58 ∷ (digits ++ rest)) (host_len after) (sym len) in
    let back : tail_of after ≡ tail = ap (λ (x : List ℕ). drop (host_len after) x) same ∙ drop_at host tail (host_len after) (sym len) in
    (front, h, subst (λ (x : List ℕ). NamesPort x port) (sym back) n)

-- the parts that a text is cut into make a uri
pub uri_is : (text after host tail : List ℕ) (port : ℕ) → text ≡ scheme ++ after → host ≡ host_of after → tail ≡ tail_of after → IsHost host → NamesPort tail port → IsUri text host port
uri_is text after host tail port e f g h n =
    let joined : host ++ tail ≡ after = ap (λ (x : List ℕ). x ++ tail) f ∙ ap (λ (x : List ℕ). host_of after ++ x) g ∙ take-append-drop (host_len after) after in
    (tail, e ∙ ap (λ (x : List ℕ). scheme ++ x) (sym joined), h, n)

-- what lacks a host has none where it is looked for
pub no_host : (text after : List ℕ) → text ≡ scheme ++ after → LacksHost text → IsHost (host_of after) → ⊥
no_host text after e (other, t, n) h = n (subst (λ (x : List ℕ). IsHost (host_of x)) (append_cancel_left scheme after other (sym e ∙ t)) h)

-- what lacks a port has a host, and names no port behind it
pub no_port : (text after : List ℕ) → text ≡ scheme ++ after → LacksPort text → IsHost (host_of after) × ((port : ℕ) → NamesPort (tail_of after) port → ⊥)
no_port text after e (other, t, h, n) =
    let same : other ≡ after = append_cancel_left scheme other after (sym t ∙ e) in
    (subst (λ (x : List ℕ). IsHost (host_of x)) same h, λ port p. n port (subst (λ (x : List ℕ). NamesPort (tail_of x) port) (sym same) p))

-- a number in brackets, taken out of them
pub bracketed_is : (host after number : List ℕ) (b : Bool) → host ≡ (91 ∷ []) ++ after → after ≡ number ++ (93 ∷ []) → (IsTrue b ↔ IsNumber number) → (IsTrue b ↔ IsBracketed host)
bracketed_is host after number b e f h = (
  λ t. (number, e ∙ ap (λ (x : List ℕ). 91 ∷ x) f, h.0 t),
  λ o.
      let inner : number ++ (93 ∷ []) ≡ o.0 ++ (93 ∷ []) = sym f ∙ append_cancel_left (91 ∷ []) after (o.0 ++ (93 ∷ [])) (sym e ∙ o.1) in
      h.1 (subst IsNumber (sym (same_from_push number o.0 93 93 inner).0) o.2),
)

pub not_opened : (host : List ℕ) → ((rest : List ℕ) → host ≡ (91 ∷ []) ++ rest → ⊥) → (IsTrue false ↔ IsBracketed host)
not_opened host n = (λ t. cc, λ b. absurd (n _ b.1))

pub not_closed : (host after : List ℕ) → host ≡ (91 ∷ []) ++ after → ((front : List ℕ) → after ≡ front ++ (93 ∷ []) → ⊥) → (IsTrue false ↔ IsBracketed host)
not_closed host after e n = (λ t. cc, λ b. absurd (n b.0 (append_cancel_left (91 ∷ []) after (b.0 ++ (93 ∷ [])) (sym e ∙ b.1))))
