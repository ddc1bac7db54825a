-- The least of the rows from one on.
use Rattle.std.proofs.Common.{◌≡◌, ℕ, ◌+◌, ◌<◌, List, [], ◌∷◌, ◌++◌, Option, Some, None, length, drop, get_or, refl, sym, ap, ◌∙◌}
use Rattle.std.proofs.lemmas.List.{at_drop_more}
use Rattle.rinda_rules.specs.Cases.{Asking, earlier, flat, least}
use Rattle.std.specs.Prelude.{Result, Ok, Err, IfOk}
use Rattle.rinda_audit.specs.declared.asking.Asking as code
use Rattle.rinda_audit.specs.Asks.{best_seen, least_onto}

least_onto_append : (xs ys : List Asking) (best : Option Asking) → least_onto (xs ++ ys) best ≡ least_onto xs (least_onto ys best)
least_onto_append [] ys best = refl
least_onto_append (x ∷ xs) ys best = ap (λ (b : Option Asking). Some (earlier x b)) (least_onto_append xs ys best)

pub least_step : {R : Type 0} (f : R → List Asking) (rows : List R) (i : ℕ) (row : R) (best : Option Asking) → i < length rows → row ≡ get_or rows i row → least_onto (flat f (drop i rows)) best ≡ least_onto (f row) (least_onto (flat f (drop (i + 1) rows)) best)
least_step {R = R} f rows i row best h e =
    at_drop_more (λ (xs : List R). least_onto (flat f xs) best) rows i row h
    ∙ least_onto_append (f (get_or rows i row)) (flat f (drop (i + 1) rows)) best
    ∙ ap (λ (r : R). least_onto (f r) (least_onto (flat f (drop (i + 1) rows)) best)) (sym e)

least_alone : (xs : List Asking) → least_onto xs None ≡ least xs
least_alone [] = refl
least_alone (x ∷ xs) = ap (λ (b : Option Asking). Some (earlier x b)) (least_alone xs)

-- the least of three lists, the last one first
pub least_of_three : (xs ys zs : List Asking) (last both all : Option Asking) → last ≡ least_onto zs None → both ≡ least_onto ys last → all ≡ least_onto xs both → all ≡ least (xs ++ (ys ++ zs))
least_of_three xs ys zs last both all l b a =
    a ∙ ap (λ (o : Option Asking). least_onto xs o) (b ∙ ap (λ (o : Option Asking). least_onto ys o) l)
    ∙ ap (λ (o : Option Asking). least_onto xs o) (sym (least_onto_append ys zs None))
    ∙ sym (least_onto_append xs (ys ++ zs) None)
    ∙ least_alone (xs ++ (ys ++ zs))

-- the same of what is answered, where memory did not run out
pub least_found : {E : Type 0} (r : Result (Option code.Asking) E) (xs ys zs : List Asking) (last both : Option Asking) → last ≡ least_onto zs None → both ≡ least_onto ys last → IfOk r (λ a. best_seen a ≡ least_onto xs both) → IfOk r (λ a. best_seen a ≡ least (xs ++ (ys ++ zs)))
least_found (Ok a) xs ys zs last both l b e = least_of_three xs ys zs last both (best_seen a) l b e
least_found (Err x) xs ys zs last both l b e = tt
