-- A bag one of whose tuples is lent: its row shows an empty tuple meanwhile, and its keys stay.
use Rattle.std.specs.Prelude.{◌≡◌, ℕ, Bool, true, not, ◌&&◌, ◌==◌, nat_lt, List, [], ◌∷◌, map, filter, Some, IsSome, if◌then◌else◌}
use Rattle.std.specs.List.{list_all}
use Rattle.std.specs.Option.{option_map}
use Rattle.rinda_tuple.specs.declared.tuple.Tuple.{Tuple}
use Rattle.rinda_tuple.specs.declared.tuple.Tuple.TheVariants as tuple
use Rattle.rinda_rules.specs.declared.plain.Entry.{Entry}
use Rattle.rinda_rules.specs.Rows.{row_of, changed, rising}
use Rattle.rinda_marks.specs.declared.secret.Secret.{Secret}
use Rattle.rinda_marks.specs.declared.marks.Marks.{Marks}
use Rattle.rinda_marks.specs.Marks.{has_mark, marks_of, mark_list}
use Rattle.rinda_bag.specs.Indexes.{key_of, is_of, row_has}

-- the row with that tuple
abbrev pub with_value : Tuple → Entry → Entry
with_value u t = record t { value = u }

-- the row whose tuple is lent
abbrev pub without_value : Entry → Entry
without_value t = with_value (tuple.List []) t

-- the row has that mark, where the tuple of one row is lent and has those marks
abbrev pub lent_has : Secret → ℕ → Marks → ℕ → Entry → Bool
lent_has secret id marks mark t = if t.id == id then has_mark mark marks else row_has secret mark t

-- they all differ
abbrev pub differ : List ℕ → Bool
differ [] = true
differ (m ∷ ms) = list_all (λ k. not (k == m)) ms && differ ms

-- under each mark stand the rows that have it, the one whose tuple is lent among them
pub record IsLent (secret : Secret) (id : ℕ) (marks : Marks) (rows : List Entry) (keys : List ℕ)
    : Type 0 where
  pub under : (mark : ℕ) → filter (is_of mark) keys
      ≡ map (λ t. key_of mark t.id) (filter (lent_has secret id marks mark) rows)
  pub small : list_all (λ t. nat_lt t.id 18446744073709551616) rows ≡ true
  pub rows_rise : rising (λ t. t.id) rows ≡ true
  pub keys_rise : rising (λ k. k) keys ≡ true
  pub there : IsSome (row_of (λ t. t.id) id rows)
  pub apart : differ (mark_list marks) ≡ true

-- Of the rows of a whole bag the tuple of one is lent, and these are left.
pub record IsLoanOf (rows : List Entry) (lent : Tuple) (id : ℕ) (secret : Secret) (marks : Marks)
    (left : List Entry) : Type 0 where
  pub there : option_map (λ t. t.value) (row_of (λ t. t.id) id rows) ≡ Some lent
  pub emptied : left ≡ changed (λ t. t.id) id without_value rows
  pub kept : marks ≡ marks_of secret lent
  pub rise : rising (λ t. t.id) rows ≡ true
