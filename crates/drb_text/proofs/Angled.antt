-- A reference is read as it is shown.
use Rattle.std.proofs.Common.{ℕ, suc, ◌≡◌, ◌+◌, ◌≤◌, ◌==◌, ◌&&◌, ◌⊎◌, inl, inr, Bool, true, false, List, [], ◌∷◌, ◌++◌, length, take, drop, Option, Some, None, refl, sym, ap, ◌∙◌, subst, arith, append_assoc}
use Rattle.std.specs.Prelude.{ℤ, Ok, codes}
use Rattle.std.specs.List.{prefix_len, list_all}
use Rattle.std.specs.Fmt.{signed_decimal}
use Rattle.std.proofs.lemmas.Bool.{ne_eqb}
use Rattle.drb_tree.specs.declared.RefId.{RefId}
use Rattle.drb_tree.specs.declared.RefId.TheVariants as R
use Rattle.drb_tree.specs.declared.Remote.{Remote}
use Rattle.drb_tree.specs.Kept.{IdInRange}
use Rattle.drb_tree.specs.Trees.{remote_tree}
use Rattle.drb_text.specs.Bytes.{is_uri}
use Rattle.drb_text.specs.Reading.{Read, next, read_as, expect, begins}
use Rattle.drb_text.specs.References.{id, id_behind, remote_of, reference}
use Rattle.drb_text.specs.Shown.{number_text, id_text}
use Rattle.drb_text.specs.Texts.{plain}
use Rattle.drb_text.proofs.Spoken.{if_true, if_false}
use Rattle.drb_text.proofs.Numerals.{Numeral, numeral, int_reads}

abbrev id_goes : RefId → List ℕ → List ℕ → Type 0
id_goes i t rest = id_behind (32 ∷ (t ++ (62 ∷ rest))) ≡ Ok (i, rest)

no_nil : (d : ℕ) (more : List ℕ) → (d ≡ 45) ⊎ ((48 ≤ d) × (d ≤ 57)) → begins 110 (d ∷ more) ≡ false
no_nil d more (inl e) = ne_eqb d 110 (λ f. omega arith)
no_nil d more (inr e) = ne_eqb d 110 (λ f. omega (arith, e.1))

id_number : (i : ℤ) → IdInRange (R.Number i) → (rest : List ℕ) → id_goes (R.Number i) (signed_decimal i) rest
id_number i k rest =
    let m = numeral i k in
    let b : begins 110 (signed_decimal i ++ (62 ∷ rest)) ≡ false = ap (λ (x : List ℕ). begins 110 (x ++ (62 ∷ rest))) m.is ∙ no_nil m.first (m.more ++ (62 ∷ rest)) m.start in
    let r : id (signed_decimal i ++ (62 ∷ rest)) ≡ Ok (R.Number i, 62 ∷ rest) = if_false (begins 110 (signed_decimal i ++ (62 ∷ rest))) _ _ b ∙ ap (read_as R.Number) (int_reads i k (62 ∷ rest) refl) in
    ap (λ (x : Read RefId). next x (λ j more. read_as (λ _. j) (expect (codes ">") more))) r

-- a uri ends at the space behind it
abbrev Run : List ℕ → List ℕ → Type 0
Run uri more = (prefix_len is_uri (uri ++ (32 ∷ more)) ≡ length uri) × (take (length uri) (uri ++ (32 ∷ more)) ≡ uri) × (drop (length uri) (uri ++ (32 ∷ more)) ≡ 32 ∷ more)

uri_step : (c : Bool) (b : ℕ) (bs more : List ℕ) → is_uri b ≡ c → (list_all is_uri bs ≡ true → Run bs more) → (c && list_all is_uri bs) ≡ true → Run (b ∷ bs) more
uri_step true b bs more e f h = let a = f h in (rw e (omega (arith, a.0)), ap (λ (x : List ℕ). b ∷ x) a.1, a.2)
uri_step false b bs more e f h = absurd (cc)

uri_run : (uri more : List ℕ) → list_all is_uri uri ≡ true → Run uri more
uri_run [] more h = (refl, refl, refl)
uri_run (b ∷ bs) more h = uri_step (is_uri b) b bs more refl (uri_run bs more) h

reference_at : (bs uri more : List ℕ) (n : ℕ) → prefix_len is_uri bs ≡ n → take n bs ≡ uri → drop n bs ≡ more → reference bs ≡ read_as (remote_of uri) (id_behind more)
unfolding reference
reference_at bs uri more n e f g =
    ap (λ (k : ℕ). read_as (remote_of (take k bs)) (id_behind (drop k bs))) e
    ∙ ap (λ (u : List ℕ). read_as (remote_of u) (id_behind (drop n bs))) f
    ∙ ap (λ (m : List ℕ). read_as (remote_of uri) (id_behind m)) g

reference_reads : (uri t rest : List ℕ) (i : RefId) → list_all is_uri uri ≡ true → id_goes i t rest → reference (uri ++ (32 ∷ (t ++ (62 ∷ rest)))) ≡ Ok (remote_of uri i, rest)
reference_reads uri t rest i u h =
    let a = uri_run uri (t ++ (62 ∷ rest)) u in
    reference_at _ uri (32 ∷ (t ++ (62 ∷ rest))) (length uri) a.0 a.1 a.2 ∙ ap (read_as (remote_of uri)) h

front_of : (uri t rest : List ℕ) → (uri ++ (32 ∷ (t ++ (62 ∷ [])))) ++ rest ≡ uri ++ (32 ∷ (t ++ (62 ∷ rest)))
front_of uri t rest = append_assoc uri (32 ∷ (t ++ (62 ∷ []))) rest ∙ ap (λ (x : List ℕ). uri ++ (32 ∷ x)) (append_assoc t (62 ∷ []) rest)

angled_reads : (uri t rest : List ℕ) (i : RefId) → list_all is_uri uri ≡ true → id_goes i t rest → plain ((60 ∷ (uri ++ (32 ∷ (t ++ (62 ∷ []))))) ++ rest) ≡ Ok (remote_tree (remote_of uri i), rest)
unfolding plain
angled_reads uri t rest i u h = ap (λ (x : List ℕ). read_as remote_tree (reference x)) (front_of uri t rest) ∙ ap (read_as remote_tree) (reference_reads uri t rest i u h)

abbrev or_empty : Option (List ℕ) → List ℕ
or_empty None = []
or_empty (Some t) = t

pub some_text : (x y : List ℕ) → Some x ≡ Some y → x ≡ y
some_text x y e = ap or_empty e

pub plain_angled : (uri rest t : List ℕ) (i : RefId) → IdInRange i → list_all is_uri uri ≡ true → id_text i ≡ Some t → plain ((60 ∷ (uri ++ (32 ∷ (t ++ (62 ∷ []))))) ++ rest) ≡ Ok (remote_tree (remote_of uri i), rest)
plain_angled uri rest t R.Front k u e = subst (λ (x : List ℕ). plain ((60 ∷ (uri ++ (32 ∷ (x ++ (62 ∷ []))))) ++ rest) ≡ Ok (remote_tree (remote_of uri R.Front), rest)) (some_text _ _ e) (angled_reads uri (number_text None) rest R.Front u refl)
plain_angled uri rest t (R.Number i) k u e = subst (λ (x : List ℕ). plain ((60 ∷ (uri ++ (32 ∷ (x ++ (62 ∷ []))))) ++ rest) ≡ Ok (remote_tree (remote_of uri (R.Number i)), rest)) (some_text _ _ e) (angled_reads uri (number_text (Some i)) rest (R.Number i) u (id_number i k rest))
plain_angled uri rest t (R.Text x) k u e = absurd (cc)
