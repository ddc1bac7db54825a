-- An index of rows by their marks: the keys are mark * 2^64 + id.
use Rattle.std.specs.Prelude.{◌≡◌, ℕ, ◌+◌, ◌*◌, ◌%◌, Bool, true, ◌&&◌, nat_lt, nat_le, List, [], ◌∷◌, map, filter, Option, Some, None}
use Rattle.std.specs.List.{list_all}
use Rattle.std.specs.BTreeMap.{is_at}
use Rattle.std.specs.BTreeSet.{insert_key}
use Rattle.std.specs.Set.{remove_key}
use Rattle.std.specs.Ordering.{nat_cmp}
use Rattle.rinda_rules.specs.declared.plain.Entry.{Entry}
use Rattle.rinda_rules.specs.Rows.{row_of, rising}
use Rattle.rinda_marks.specs.declared.secret.Secret.{Secret}
use Rattle.rinda_marks.specs.Marks.{marks_of, has_mark}

abbrev pub key_of : ℕ → ℕ → ℕ
key_of mark id = mark * 18446744073709551616 + id

-- the id of which a key is
abbrev pub id_of : ℕ → ℕ
id_of key = key % 18446744073709551616

-- the key is one of that mark
abbrev pub is_of : ℕ → ℕ → Bool
is_of mark key =
    nat_le (mark * 18446744073709551616) key
    && nat_lt key (mark * 18446744073709551616 + 18446744073709551616)

-- the row has that mark
abbrev pub row_has : Secret → ℕ → Entry → Bool
row_has secret mark t = has_mark mark (marks_of secret t.value)

-- the keys of the rows that have the mark
abbrev pub keys_with : Secret → ℕ → List Entry → List ℕ
keys_with secret mark rows = map (λ t. key_of mark t.id) (filter (row_has secret mark) rows)

-- under each mark stand the rows that have it, in rising id, and nothing else
pub record IsIndexed (secret : Secret) (rows : List Entry) (keys : List ℕ) : Type 0 where
  pub under : (mark : ℕ) → filter (is_of mark) keys ≡ keys_with secret mark rows
  pub small : list_all (λ t. nat_lt t.id 18446744073709551616) rows ≡ true
  pub rows_rise : rising (λ t. t.id) rows ≡ true
  pub keys_rise : rising (λ k. k) keys ≡ true

-- the rows to which keys lead
abbrev pub rows_by : List Entry → Option Entry → List Entry → List Entry
rows_by rows None more = more
rows_by rows (Some t) more = t ∷ more

abbrev pub rows_at : List Entry → List ℕ → List Entry
rows_at rows [] = []
rows_at rows (key ∷ keys) =
    rows_by rows (row_of (λ t. t.id) (id_of key) rows) (rows_at rows keys)

-- the keys, with those of that id under the marks, and without them
abbrev pub with_keys : List ℕ → ℕ → List ℕ → List ℕ
with_keys [] id keys = keys
with_keys (m ∷ ms) id keys = with_keys ms id (insert_key nat_cmp keys (key_of m id))

abbrev pub without_keys : List ℕ → ℕ → List ℕ → List ℕ
without_keys [] id keys = keys
without_keys (m ∷ ms) id keys = without_keys ms id (remove_key (is_at (nat_cmp (key_of m id))) keys)
