-- Which rows aging changes.
use Rattle.std.specs.Prelude.{◌≡◌, ℕ, Bool, true, not, ◌&&◌, ◌||◌, ◌==◌, max, List, [], ◌∷◌, ◌++◌, map, filter, Option}
use Rattle.std.specs.List.{list_all, list_any}
use Rattle.rinda_rules.specs.declared.object.Doubt.{Doubt}
use Rattle.rinda_rules.specs.Rows.{changed, without}
use Rattle.rinda_rules.specs.Space.{Plain, retained, is_over, is_doubted, is_due_tuple, is_due_request, is_due_notifier}
use Rattle.rinda_rules.specs.Phases.{advanced, aged, nothing_due}
use Rattle.rinda_rules.specs.AtOnce.{aged_tuple, aged_request, aged_notifier, expires, deleted, expired}
use Rattle.rinda_rules.specs.Steps.{found_by}
use Rattle.rinda_rules.specs.Sound.{Sound}

-- Where nothing is due, aging changes nothing.
abbrev pub NothingAges : Type 0
NothingAges = (s : Plain) → nothing_due s ≡ true → aged s ≡ s

-- Where nothing is due at the reading, the event finds the space as it was, but for the clock.
abbrev pub QuietIsFound : Type 0
QuietIsFound = (s : Plain) (at : ℕ) → nothing_due (advanced s at) ≡ true →
    found_by s at ≡ advanced s at

-- the row is doubted, or its deadline is later
abbrev pub lasts : ℕ → Doubt → Option ℕ → Bool
lasts now doubt deadline = is_doubted doubt || not (is_over now deadline)

-- each row is doubted, or its deadline is later
abbrev pub all_last : ℕ → Plain → Bool
all_last now s =
    list_all (λ t. lasts now t.doubt t.deadline) s.tuples
    && (list_all (λ r. lasts now r.doubt r.deadline) s.requests
    && list_all (λ n. lasts now n.doubt n.deadline) s.notifiers)

-- Where each deadline without a doubt is later than the larger of now and the reading, nothing is due then.
abbrev pub LaterIsNotDue : Type 0
LaterIsNotDue = (s : Plain) (at : ℕ) → all_last (max s.clock at) s ≡ true →
    nothing_due (advanced s at) ≡ true

-- the rows with these ids changed, one after another
abbrev pub changed_all : {R : Type 0} → (R → ℕ) → (R → R) → List ℕ → List R → List R
changed_all key f [] rows = rows
changed_all key f (id ∷ ids) rows = changed_all key f ids (changed key id f rows)

-- the rows without those with these ids
abbrev pub without_all : {R : Type 0} → (R → ℕ) → List ℕ → List R → List R
without_all key [] rows = rows
without_all key (id ∷ ids) rows = without_all key ids (without key id rows)

-- each row that passes the test is among these
abbrev pub has_all : {R : Type 0} → (R → ℕ) → (R → Bool) → List ℕ → List R → Bool
has_all key test ids rows =
    list_all (λ row. not (test row) || list_any (λ id. id == key row) ids) rows

-- each row that is among these passes the test
abbrev pub has_only : {R : Type 0} → (R → ℕ) → (R → Bool) → List ℕ → List R → Bool
has_only key test ids rows =
    list_all (λ row. test row || not (list_any (λ id. id == key row) ids)) rows

-- The ids of all rows that are due. Those of the tuples that expire are of no other tuple; the rest may name rows that
-- are not due.
pub record Due (s : Plain) (gone doubted requests notifiers : List ℕ) : Type 0 where
  pub all_gone : has_all (λ t. t.id) (expires s.clock) gone s.tuples ≡ true
  pub only_gone : has_only (λ t. t.id) (expires s.clock) gone s.tuples ≡ true
  pub all_doubted : has_all (λ t. t.id) (is_due_tuple s.clock) (gone ++ doubted) s.tuples ≡ true
  pub all_requests : has_all (λ r. r.id) (is_due_request s.clock) requests s.requests ≡ true
  pub all_notifiers : has_all (λ n. n.id) (is_due_notifier s.clock) notifiers s.notifiers ≡ true

-- In a sound space aging changes these rows alone.
abbrev pub DueRowsAge : Type 0
DueRowsAge = (s : Plain) (gone doubted requests notifiers : List ℕ) →
    Sound s → Due s gone doubted requests notifiers → aged s ≡ record {
      clock = s.clock;
      next = s.next;
      shut = s.shut;
      tuples = changed_all (λ t. t.id) (aged_tuple s.clock) doubted
          (without_all (λ t. t.id) gone s.tuples);
      requests = changed_all (λ r. r.id) (aged_request s.clock) requests s.requests;
      notifiers = changed_all (λ n. n.id) (aged_notifier s) notifiers s.notifiers;
      events = s.events ++ map deleted (filter (expires s.clock) s.tuples);
      ended = retained (s.ended ++ map expired (filter (expires s.clock) s.tuples));
    }
