-- Guests that come.
use Rattle.std.specs.Prelude.{◌≡◌, ℕ, ◌-◌, ◌==◌, List, [], ◌∷◌, take, Bool, true, false}
use Rattle.std.specs.Prelude.{None, Some, Ok, Err}
use Rattle.std.specs.declared.option.Option.{Option}
use Rattle.std.specs.declared.result.Result.{Result}

-- the first of those who will come came; None where nobody will; at Err nobody
abbrev pub Comes : {G E : Type 0} → Result (Option G) E → List G → List G → Type 0
Comes (Ok (Some guest)) old new = old ≡ guest ∷ new
Comes (Ok None) old new = (old ≡ []) × (new ≡ [])
Comes (Err e) old new = new ≡ old

-- no guest is told of who will come
abbrev pub none_left : {G : Type 0} → Option (List G) → Bool
none_left None = true
none_left (Some []) = true
none_left (Some (guest ∷ guests)) = false

-- so many of the guests that are told, or all
abbrev pub first_told : {G : Type 0} → Option ℕ → Option (List G) → Option (List G)
first_told left None = None
first_told None (Some guests) = Some guests
first_told (Some n) (Some guests) = Some (take n guests)

-- nobody more may come; without a number all may
abbrev pub is_used_up : Option ℕ → Bool
is_used_up None = false
is_used_up (Some n) = n == 0

abbrev pub one_fewer : Option ℕ → Option ℕ
one_fewer None = None
one_fewer (Some n) = Some (n - 1)

-- a guest takes one of those that may come, and comes only where one may; nothing else takes any
abbrev pub Spends : {G E : Type 0} → Option ℕ → Option ℕ → Result (Option G) E → Type 0
Spends left left' (Ok (Some guest)) = (is_used_up left ≡ false) × (left' ≡ one_fewer left)
Spends left left' (Ok None) = left' ≡ left
Spends left left' (Err e) = left' ≡ left
