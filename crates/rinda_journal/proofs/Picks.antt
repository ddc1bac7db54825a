-- The fields of picks, one pick after the other.
use Rattle.std.proofs.Common.{◌≡◌, ℕ, ◌+◌, ◌<◌, List, [], ◌∷◌, ◌++◌, length, take, get_or, refl, sym, ◌∙◌, ap, append_assoc}
use Rattle.std.proofs.lemmas.List.{take_more}
use Rattle.rinda_rules.specs.declared.turn.Pick.{Pick}
use Rattle.rinda_journal.specs.declared.field.Field.{Field}
use Rattle.rinda_journal.specs.Fields.{number}
use Rattle.rinda_journal.specs.Heads.{picks_fields}

both : (ps qs : List Pick) → picks_fields (ps ++ qs) ≡ picks_fields ps ++ picks_fields qs
both [] qs = refl
both (p ∷ ps) qs = ap (λ (fs : List Field). number p.request ∷ number p.tuple ∷ fs) (both ps qs)

pub picks_more : (ps : List Pick) (i : ℕ) (d : Pick) (x y : Field) (a b c : List Field) → i < length ps → x ≡ number (get_or ps i d).request → y ≡ number (get_or ps i d).tuple → b ≡ a ++ picks_fields (take i ps) → c ≡ b ++ (x ∷ y ∷ []) → c ≡ a ++ picks_fields (take (i + 1) ps)
picks_more ps i d x y a b c lt r t h k =
    k ∙ ap (λ (fs : List Field). fs ++ (x ∷ y ∷ [])) h ∙ append_assoc a (picks_fields (take i ps)) (x ∷ y ∷ [])
    ∙ ap (λ (f : Field). a ++ (picks_fields (take i ps) ++ (f ∷ y ∷ []))) r
    ∙ ap (λ (f : Field). a ++ (picks_fields (take i ps) ++ (number (get_or ps i d).request ∷ f ∷ []))) t
    ∙ ap (λ (fs : List Field). a ++ fs) (sym (both (take i ps) (get_or ps i d ∷ [])))
    ∙ ap (λ (qs : List Pick). a ++ picks_fields qs) (sym (take_more ps i d lt))
