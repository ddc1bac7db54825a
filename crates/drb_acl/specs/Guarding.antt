-- Guests at the door. docs/ACCESS.md, At the door.
use Rattle.std.specs.Prelude.{◌≡◌, ℕ, ◌+◌, ◌-◌, ◌^◌, min, Bool, true, false, List, [], ◌∷◌, ◌++◌, length, slice_index, slice_set, fold, filter, map, Option, Some, None, Result, Ok, Err}
use Rattle.std.specs.List.{list_all, list_any}
use Rattle.drb_outside.specs.Told.{Told}
use Rattle.drb_acl.specs.declared.acl.Judged.{Judged}
use Rattle.drb_acl.specs.declared.acl.Judged.TheVariants as judged
use Rattle.drb_acl.specs.Judging.{Access, judged_of}
use Rattle.drb_acl.specs.Laws.{is_admitted}

-- the list admits a guest with that peer
abbrev pub lets_in : {G : Type 0} → Access → (G → Option ℕ) → G → Bool
lets_in acl peer guest = is_admitted (judged_of acl (peer guest))

-- of the guests that are told, those whom the list admits, in their order
abbrev pub admitted_of : {G : Type 0} → Access → (G → Option ℕ) → Option (List G) → Option (List G)
admitted_of acl peer None = None
admitted_of acl peer (Some guests) = Some (filter (lets_in acl peer) guests)

-- there is a count for each rule, and behind them one for those who were refused by no rule
abbrev pub count_place : ℕ → Option ℕ → ℕ
count_place rules (Some rule) = rule
count_place rules None = rules

-- one more stands there, as far as a u64 counts
abbrev pub raised : ℕ → List ℕ → List ℕ
raised place counts = slice_set counts place (min (slice_index counts place + 1) (2 ^ 64 - 1))

-- one who is refused is counted at the rule that refuses it
abbrev pub counted_so : ℕ → List ℕ → Judged → List ℕ
counted_so rules counts (judged.Admitted rule) = counts
counted_so rules counts (judged.Refused rule) = raised (count_place rules rule) counts

abbrev pub counted : {G : Type 0} → Access → (G → Option ℕ) → List ℕ → G → List ℕ
counted acl peer counts guest =
    counted_so (length acl.rules) counts (judged_of acl (peer guest))

-- who is handed on
abbrev pub handed : {G E : Type 0} → Result (Option G) E → List G
handed (Ok (Some guest)) = guest ∷ []
handed (Ok None) = []
handed (Err e) = []

-- Guests came whom the list refuses, and each of them was counted. Then one was handed on whom the list admits, or
-- nobody; and nobody else came.
pub record Guards {G E : Type 0} (acl : Access) (peer : G → Option ℕ) (counts counts' : List ℕ)
    (guests guests' : Option (List G)) (faults : ℕ) (result : Result (Option G) E) : Type 0 where
  pub refused : List G
  pub none_in : list_any (lets_in acl peer) refused ≡ false
  pub all_in : list_all (lets_in acl peer) (handed result) ≡ true
  pub counts_are : counts' ≡ fold (counted acl peer) counts refused
  pub came : Told guests guests' faults (λ old new. old ≡ refused ++ handed result ++ new)
