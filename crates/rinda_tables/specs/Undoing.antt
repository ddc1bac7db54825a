-- A table as it stands and as the turn under way has made it, and the steps that lead back.
use Rattle.std.specs.Prelude.{◌≡◌, ℕ, Bool, true, false, not, ◌||◌, ◌==◌, nat_lt, List, [], ◌∷◌, ◌++◌, filter, length, Option, Some, None}
use Rattle.std.specs.List.{list_all, list_any}
use Rattle.rinda_rules.specs.declared.plain.Entry.{Entry}
use Rattle.rinda_rules.specs.Rows.{changed, without, rising}
use Rattle.rinda_bag.specs.declared.change.Standing.{Standing}
use Rattle.rinda_bag.specs.Changes.{stood}
use Rattle.rinda_tables.specs.declared.tuples.Step.{Step}
use Rattle.rinda_tables.specs.declared.tuples.Step.TheVariants as step

-- The rows that stand, and those that are ahead; and whether one was added since.
pub record Tupled : Type 0 where
  pub list : List Entry
  pub ahead : List Entry
  pub added : Bool

-- both alike, and none was added
abbrev pub settled : List Entry → Tupled
settled rows = record { list = rows; ahead = rows; added = false }

-- the id is one of these
abbrev pub is_in : List ℕ → ℕ → Bool
is_in ids id = list_any (λ i. i == id) ids

-- the rows without those with these ids
abbrev pub left : {R : Type 0} → (R → ℕ) → List ℕ → List R → List R
left key gone rows = filter (λ row. not (is_in gone (key row))) rows

-- all ids are below that one
abbrev pub below : {R : Type 0} → (R → ℕ) → ℕ → List R → Bool
below key id rows = list_all (λ row. nat_lt (key row) id) rows

-- the rows before that step
abbrev pub undo : Step → List Entry → List Entry
undo (step.Added id) rows = without (λ t. t.id) id rows
undo (step.Stood id standing) rows = changed (λ t. t.id) id (stood standing) rows

-- the rows before these steps, of which the last one was made last
abbrev pub undone : List Step → List Entry → List Entry
undone [] rows = rows
undone (s ∷ steps) rows = undo s (undone steps rows)

abbrev pub adds : Step → Bool
adds (step.Added id) = true
adds (step.Stood id standing) = false

-- one of the steps added a row
abbrev pub any_added : List Step → Bool
any_added steps = list_any adds steps

-- who is gone is marked, so that no search finds it
abbrev pub are_marked : List ℕ → List Entry → Bool
are_marked gone rows = list_all (λ t. not (is_in gone t.id) || t.marked) rows

-- what of a row can change
abbrev pub standing_of : Entry → Standing
standing_of t = record {
  deadline = t.deadline;
  renewer = t.renewer;
  holder = t.holder;
  marked = t.marked;
  doubt = t.doubt;
}

-- the steps, with how a row stands before it changes
abbrev pub noted : ℕ → Option Entry → List Step → List Step
noted id None steps = steps
noted id (Some t) steps = steps ++ step.Stood id (standing_of t) ∷ []

-- what stands is as it was, and no row was added since
pub record Keeps (old new : Tupled) : Type 0 where
  pub list : new.list ≡ old.list
  pub added : new.added ≡ old.added

-- the rows with who is gone, how many of them stand, and the steps that lead back to those
pub record IsTupled (stands : ℕ) (steps : List Step) (gone : List ℕ)
    (rows : List Entry) : Type 0 where
  pub rise : rising (λ t. t.id) rows ≡ true
  pub marked : are_marked gone rows ≡ true
  pub there : list_all (λ id. list_any (λ t. t.id == id) rows) gone ≡ true
  pub counted : stands ≡ length (undone steps rows)
