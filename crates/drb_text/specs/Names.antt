-- The names of symbols and classes: docs/TEXT.md, Symbols and classes.
use Rattle.std.specs.Prelude.{ℕ, suc, ◌+◌, ◌==◌, Bool, true, false, List, [], ◌∷◌, length, take, drop, Result, Ok, Err, if◌then◌else◌}
use Rattle.std.specs.List.{prefix_len}
use Rattle.std.specs.Char.{is_ascii_uppercase}
use Rattle.drb_text.specs.Bytes.{is_word, is_mark}
use Rattle.drb_text.specs.declared.names.Place.{Place}
use Rattle.drb_text.specs.declared.names.Place.TheVariants as place
use Rattle.drb_text.specs.declared.names.Going.{Going}
use Rattle.drb_text.specs.declared.names.Going.TheVariants as going
use Rattle.drb_text.specs.Reading.{Read, stuck}

-- 1 where the bytes begin with `?` or `!`
abbrev pub mark_len : List ℕ → ℕ
mark_len [] = 0
mark_len (b ∷ bs) = if is_mark b then 1 else 0

-- the first n bytes, and those behind them
abbrev pub cut_at : ℕ → List ℕ → Read (List ℕ)
cut_at n bs = Ok (take n bs, drop n bs)

-- the letters, digits and `_` of a symbol, of which there are some, and a mark behind them
abbrev pub symbol_from : ℕ → List ℕ → Read (List ℕ)
symbol_from n bs = if n == 0 then stuck bs else cut_at (n + mark_len (drop n bs)) bs

-- a symbol's name
unfoldable pub symbol_name : List ℕ → Read (List ℕ)
symbol_name bs = symbol_from (prefix_len is_word bs) bs

-- one byte more
abbrev pub one_more : Result ℕ ℕ → Result ℕ ℕ
one_more (Ok n) = Ok (suc n)
one_more (Err left) = Err left

abbrev pub on_if : Bool → Place → Going
on_if fits p = if fits then going.On p else going.Stuck

-- in a word, what is no letter, digit or `_` ends the name, but for `:`
abbrev pub behind_letter : ℕ → Going
behind_letter b =
    if is_word b then going.On place.Word
    else if b == 58 then going.On place.Colon
    else going.Ended

-- what a byte is at that place in a class's name
abbrev pub going_at : Place → ℕ → Going
going_at place.Head b = on_if (is_ascii_uppercase b) place.Word
going_at place.Word b = behind_letter b
going_at place.Colon b = on_if (b == 58) place.Head

abbrev pub gone_on : Going → (Place → Result ℕ ℕ) → List ℕ → Result ℕ ℕ
gone_on (going.On p) further bs = one_more (further p)
gone_on going.Ended further bs = Ok 0
gone_on going.Stuck further bs = Err (suc (length bs))

-- a name may end in a word
abbrev pub ended_at : Place → Result ℕ ℕ
ended_at place.Word = Ok 0
ended_at place.Head = Err 0
ended_at place.Colon = Err 0

-- how many of the bytes belong to a class's name, from that place in it
abbrev pub class_len : Place → List ℕ → Result ℕ ℕ
class_len p [] = ended_at p
class_len p (b ∷ bs) = gone_on (going_at p b) (λ q. class_len q bs) bs

abbrev pub class_cut : List ℕ → Result ℕ ℕ → Read (List ℕ)
class_cut bs (Ok n) = cut_at n bs
class_cut bs (Err left) = Err left

-- a class's name: words that begin with a capital, with `::` between them
unfoldable pub class_name : List ℕ → Read (List ℕ)
class_name bs = class_cut bs (class_len place.Head bs)

-- the bytes are such a name, and nothing is left of them
abbrev pub is_whole : {A : Type 0} → Read A → Bool
is_whole (Ok (x, [])) = true
is_whole (Ok (x, b ∷ bs)) = false
is_whole (Err left) = false
