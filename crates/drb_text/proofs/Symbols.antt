-- Names of symbols and classes, from how long they are.
use Rattle.std.proofs.Common.{ℕ, ◌≡◌, ◌+◌, ◌==◌, false, List, length, take, drop, Ok, Err, sym, ap, ◌∙◌}
use Rattle.std.specs.List.{prefix_len}
use Rattle.drb_text.specs.Bytes.{is_word}
use Rattle.drb_text.specs.Names.{mark_len, cut_at, symbol_from, symbol_name, class_cut, class_len, class_name}
use Rattle.drb_text.specs.declared.names.Place.TheVariants as place

pub symbol_none : (bs : List ℕ) (n : ℕ) → n ≡ prefix_len is_word bs → n ≡ 0 → symbol_name bs ≡ Err (length bs)
unfolding symbol_name
symbol_none bs n e z = let f : prefix_len is_word bs ≡ 0 = sym e ∙ z in ap (λ (k : ℕ). symbol_from k bs) f

pub symbol_some : (bs : List ℕ) (n m : ℕ) (a r : List ℕ) → n ≡ prefix_len is_word bs → (n == 0) ≡ false → m ≡ mark_len (drop n bs) → a ≡ take (n + m) bs → r ≡ drop (n + m) bs → symbol_name bs ≡ Ok (a, r)
unfolding symbol_name
symbol_some bs n m a r e z f g h =
    ap (λ (k : ℕ). symbol_from k bs) (sym e)
    ∙ rw z (ap (λ (k : ℕ). cut_at (n + k) bs) (sym f) ∙ cc)

pub class_some : (bs : List ℕ) (n : ℕ) (a r : List ℕ) → class_len place.Head bs ≡ Ok n → a ≡ take n bs → r ≡ drop n bs → class_name bs ≡ Ok (a, r)
unfolding class_name
class_some bs n a r e g h = ap (class_cut bs) e ∙ cc

pub class_none : (bs : List ℕ) (left : ℕ) → class_len place.Head bs ≡ Err left → class_name bs ≡ Err left
unfolding class_name
class_none bs left e = ap (class_cut bs) e
