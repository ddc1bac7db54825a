-- An index of requests: a set of keys, each of which has a place and an id.
use Rattle.std.specs.Prelude.{◌≡◌, ℕ, ◌+◌, ◌*◌, ◌%◌, Bool, true, false, ◌&&◌, ◌==◌, nat_lt, nat_le, List, [], ◌∷◌, map, filter, Option, Some, None, if◌then◌else◌}
use Rattle.std.specs.List.{list_all}
use Rattle.std.specs.Ordering.{nat_cmp}
use Rattle.std.specs.BTreeMap.{is_at}
use Rattle.std.specs.BTreeSet.{insert_key}
use Rattle.std.specs.Set.{remove_key}
use Rattle.rinda_rules.specs.declared.plain.Request.{Request}
use Rattle.rinda_rules.specs.Rows.{row_of, rising}

abbrev pub key_of : ℕ → ℕ → ℕ
key_of place id = place * 18446744073709551616 + id

abbrev pub id_of : ℕ → ℕ
id_of key = key % 18446744073709551616

-- the key has that place
abbrev pub is_of : ℕ → ℕ → Bool
is_of place key = nat_le (place * 18446744073709551616) key
    && nat_lt key (place * 18446744073709551616 + 18446744073709551616)

-- it has that place
abbrev pub lies_at : (Request → ℕ) → ℕ → Request → Bool
lies_at place_of place r = place_of r == place

-- at each place stand the requests that have it, in rising id
pub record IsIndexed (place_of : Request → ℕ) (requests : List Request) (keys : List ℕ) :
    Type 0 where
  pub at : (place : ℕ) → filter (is_of place) keys
      ≡ map (λ r. key_of place r.id) (filter (lies_at place_of place) requests)
  pub small : list_all (λ r. nat_lt r.id 18446744073709551616) requests ≡ true
  pub requests_rise : rising (λ r. r.id) requests ≡ true
  pub keys_rise : rising (λ k. k) keys ≡ true

-- Looking up.

abbrev pub suits_row : (Request → Bool) → Option Request → Bool
suits_row suits None = false
suits_row suits (Some r) = suits r

-- the key leads to a request that suits
abbrev pub leads : (Request → Bool) → List Request → ℕ → Bool
leads suits requests key = suits_row suits (row_of (λ r. r.id) (id_of key) requests)

-- the first id to which these keys lead
abbrev pub first_led : (Request → Bool) → List Request → List ℕ → Option ℕ
first_led suits requests [] = None
first_led suits requests (key ∷ keys) =
    if leads suits requests key then Some (id_of key) else first_led suits requests keys

-- these ids, and all to which these keys lead
abbrev pub with_led : (Request → Bool) → List Request → List ℕ → List ℕ → List ℕ
with_led suits requests [] ids = ids
with_led suits requests (key ∷ keys) ids =
    with_led suits requests keys
    (if leads suits requests key then insert_key nat_cmp ids (id_of key) else ids)

-- the keys of a place, of none where there is no place
abbrev pub keys_at : Option ℕ → List ℕ → List ℕ
keys_at None keys = []
keys_at (Some place) keys = filter (is_of place) keys

-- the lesser one
abbrev pub lesser : Option ℕ → Option ℕ → Option ℕ
lesser None b = b
lesser (Some a) None = Some a
lesser (Some a) (Some b) = Some (if nat_le a b then a else b)

-- the keys without that of the request, if there is one
abbrev pub without_key_of : (Request → ℕ) → ℕ → Option Request → List ℕ → List ℕ
without_key_of place_of id None keys = keys
without_key_of place_of id (Some r) keys =
    remove_key (is_at (nat_cmp (key_of (place_of r) id))) keys
