-- Texts in quotes: docs/TEXT.md, Texts.
use Rattle.std.specs.Prelude.{ℕ, suc, ◌+◌, ◌*◌, ◌==◌, ◌||◌, ◌&&◌, nat_lt, List, [], ◌∷◌, length, Result, Ok, Err, if◌then◌else◌}
use Rattle.drb_text.specs.Bytes.{is_plain, is_hex, hex_value}
use Rattle.drb_text.specs.declared.strings.Escape.{Escape}
use Rattle.drb_text.specs.declared.strings.Escape.TheVariants as escape
use Rattle.drb_text.specs.declared.strings.Step.{Step}
use Rattle.drb_text.specs.declared.strings.Step.TheVariants as step
use Rattle.drb_text.specs.Reading.{Read, stuck}

-- with that byte in front
abbrev pub led_by : ℕ → Read (List ℕ) → Read (List ℕ)
led_by b (Ok r) = Ok (b ∷ r.0, r.1)
led_by b (Err left) = Err left

-- what a byte of a text is outside of an escape: the closing quote, a `\`, a byte for itself, or none that can stand
-- there
abbrev pub outside : ℕ → Step
outside b =
    if b == 34 then step.Closes
    else if b == 92 then step.Leads escape.Backslash
    else if is_plain b then step.Gives b
    else step.Stuck

-- behind `\`: a quote or a `\` for itself, or `x`
abbrev pub behind_backslash : ℕ → Step
behind_backslash b =
    if b == 34 || b == 92 then step.Gives b
    else if b == 120 then step.Leads escape.Hex
    else step.Stuck

-- what a byte is at that place in an escape; behind `\x` come two hexadecimal digits
abbrev pub step_at : Escape → ℕ → Step
step_at escape.Outside b = outside b
step_at escape.Backslash b = behind_backslash b
step_at escape.Hex b = if is_hex b then step.Leads (escape.Half (hex_value b)) else step.Stuck
step_at (escape.Half high) b =
    if is_hex b && nat_lt high 16 then step.Gives (high * 16 + hex_value b) else step.Stuck

-- what is read from such a byte on, the bytes behind it being read as `further` says
abbrev pub taken : Step → (Escape → Read (List ℕ)) → List ℕ → Read (List ℕ)
taken (step.Gives b) further bs = led_by b (further escape.Outside)
taken (step.Leads e) further bs = further e
taken step.Closes further bs = Ok ([], bs)
taken step.Stuck further bs = Err (suc (length bs))

-- the bytes of a text up to its closing quote, from that place in an escape
abbrev pub quoted : Escape → List ℕ → Read (List ℕ)
quoted e [] = stuck []
quoted e (b ∷ bs) = taken (step_at e b) (λ f. quoted f bs) bs
