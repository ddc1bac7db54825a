-- The bytes of a text, read one after the other.
use Rattle.std.proofs.Common.{ℕ, ◌≡◌, ◌+◌, List, [], ◌∷◌, ◌++◌, length, Result, Ok, Err, refl, sym, ap, ◌∙◌, append_assoc, append-nil}
use Rattle.drb_text.specs.declared.strings.Escape.{Escape}
use Rattle.drb_text.specs.declared.strings.Escape.TheVariants as escape
use Rattle.drb_text.specs.declared.strings.Step.{Step}
use Rattle.drb_text.specs.declared.strings.Step.TheVariants as step
use Rattle.drb_text.specs.Reading.{Read}
use Rattle.drb_text.specs.Strings.{led_by, step_at, taken, quoted}

-- with those bytes in front
abbrev pub all_led : List ℕ → Read (List ℕ) → Read (List ℕ)
all_led s (Ok r) = Ok (s ++ r.0, r.1)
all_led s (Err left) = Err left

pub led_none : (r : Read (List ℕ)) → r ≡ all_led [] r
led_none (Ok r) = refl
led_none (Err left) = refl

led_push : (s : List ℕ) (b : ℕ) (r : Read (List ℕ)) → all_led s (led_by b r) ≡ all_led (s ++ b ∷ []) r
led_push s b (Ok r) = ap (λ (x : List ℕ). Ok (x, r.1)) (sym (append_assoc s (b ∷ []) r.0))
led_push s b (Err left) = refl

-- one byte, by what it is
pub gives_byte : (s : List ℕ) (e : Escape) (b g : ℕ) (bs : List ℕ) → step_at e b ≡ step.Gives g → all_led s (quoted e (b ∷ bs)) ≡ all_led (s ++ g ∷ []) (quoted escape.Outside bs)
gives_byte s e b g bs h = ap (λ (x : Step). all_led s (taken x (λ f. quoted f bs) bs)) h ∙ led_push s g (quoted escape.Outside bs)

pub leads_on : (s : List ℕ) (e f : Escape) (b : ℕ) (bs : List ℕ) → step_at e b ≡ step.Leads f → all_led s (quoted e (b ∷ bs)) ≡ all_led s (quoted f bs)
leads_on s e f b bs h = ap (λ (x : Step). all_led s (taken x (λ g. quoted g bs) bs)) h

pub closes : (s : List ℕ) (e : Escape) (b : ℕ) (bs : List ℕ) → step_at e b ≡ step.Closes → all_led s (quoted e (b ∷ bs)) ≡ Ok (s, bs)
closes s e b bs h = ap (λ (x : Step). all_led s (taken x (λ g. quoted g bs) bs)) h ∙ ap (λ (x : List ℕ). Ok (x, bs)) (append-nil s)

pub no_step : (s : List ℕ) (e : Escape) (b : ℕ) (bs : List ℕ) → step_at e b ≡ step.Stuck → all_led s (quoted e (b ∷ bs)) ≡ Err (length (b ∷ bs))
no_step s e b bs h = ap (λ (x : Step). all_led s (taken x (λ g. quoted g bs) bs)) h
