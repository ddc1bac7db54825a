-- The name of a class, read byte by byte.
use Rattle.std.proofs.Common.{ℕ, zero, suc, ◌≡◌, ◌+◌, ◌-◌, ◌<◌, ◌≤◌, List, [], ◌∷◌, length, drop, get_or, Result, Ok, Err, refl, sym, ap, ◌∙◌, arith}
use Rattle.std.proofs.lemmas.List.{length-drop}
use Rattle.drb_text.specs.declared.names.Place.{Place}
use Rattle.drb_text.specs.declared.names.Place.TheVariants as place
use Rattle.drb_text.specs.declared.names.Going.{Going}
use Rattle.drb_text.specs.declared.names.Going.TheVariants as going
use Rattle.drb_text.specs.Names.{going_at, gone_on, one_more, class_len, ended_at}

-- so many more
abbrev pub added : ℕ → Result ℕ ℕ → Result ℕ ℕ
added n (Ok m) = Ok (n + m)
added n (Err left) = Err left

pub added_none : (r : Result ℕ ℕ) → r ≡ added 0 r
added_none (Ok m) = ap Ok (omega arith)
added_none (Err left) = refl

added_one : (n : ℕ) (r : Result ℕ ℕ) → added n (one_more r) ≡ added (n + 1) r
added_one n (Ok m) = ap Ok (omega arith)
added_one n (Err left) = refl

-- what is read from the i-th byte on
from_next : (p : Place) (bs : List ℕ) (i b : ℕ) → i < length bs → b ≡ get_or bs i b → class_len p (drop i bs) ≡ gone_on (going_at p b) (λ q. class_len q (drop (suc i) bs)) (drop (suc i) bs)
from_next p [] i b l e = absurd (omega arith)
from_next p (x ∷ bs) zero b l e = rw e refl
from_next p (x ∷ bs) (suc i) b l e = from_next p bs i b (omega arith) e

from : (p : Place) (bs : List ℕ) (i b : ℕ) → i < length bs → b ≡ get_or bs i b → class_len p (drop i bs) ≡ gone_on (going_at p b) (λ q. class_len q (drop (i + 1) bs)) (drop (i + 1) bs)
from p bs i b l e = let j : suc i ≡ i + 1 = omega arith in from_next p bs i b l e ∙ ap (λ (k : ℕ). gone_on (going_at p b) (λ q. class_len q (drop k bs)) (drop k bs)) j

pub goes_to : (p q : Place) (bs : List ℕ) (i b : ℕ) → i < length bs → b ≡ get_or bs i b → going_at p b ≡ going.On q → added i (class_len p (drop i bs)) ≡ added (i + 1) (class_len q (drop (i + 1) bs))
goes_to p q bs i b l e h =
    ap (added i) (from p bs i b l e ∙ ap (λ (g : Going). gone_on g (λ q. class_len q (drop (i + 1) bs)) (drop (i + 1) bs)) h)
    ∙ added_one i (class_len q (drop (i + 1) bs))

pub ends_before : (p : Place) (bs : List ℕ) (i b : ℕ) → i < length bs → b ≡ get_or bs i b → going_at p b ≡ going.Ended → added i (class_len p (drop i bs)) ≡ Ok i
ends_before p bs i b l e h =
    ap (added i) (from p bs i b l e ∙ ap (λ (g : Going). gone_on g (λ q. class_len q (drop (i + 1) bs)) (drop (i + 1) bs)) h)
    ∙ ap Ok (omega arith)

pub stuck_at : (p : Place) (bs : List ℕ) (i b : ℕ) → i < length bs → b ≡ get_or bs i b → going_at p b ≡ going.Stuck → added i (class_len p (drop i bs)) ≡ Err (length bs - i)
stuck_at p bs i b l e h =
    ap (added i) (from p bs i b l e ∙ ap (λ (g : Going). gone_on g (λ q. class_len q (drop (i + 1) bs)) (drop (i + 1) bs)) h)
    ∙ ap Err (omega (arith, length-drop (i + 1) bs, l))

drop_all : (bs : List ℕ) (i : ℕ) → length bs ≤ i → drop i bs ≡ []
drop_all [] zero h = refl
drop_all [] (suc i) h = refl
drop_all (b ∷ bs) zero h = absurd (omega arith)
drop_all (b ∷ bs) (suc i) h = drop_all bs i (omega arith)

pub at_end : (p : Place) (bs : List ℕ) (i : ℕ) → length bs ≤ i → added i (class_len p (drop i bs)) ≡ added i (ended_at p)
at_end p bs i h = ap (λ (x : List ℕ). added i (class_len p x)) (drop_all bs i h)
