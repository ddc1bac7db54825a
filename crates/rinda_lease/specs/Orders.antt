-- The two orders in which the ids stand: by deadline, and of those that are doubted.
use Rattle.std.specs.Prelude.{◌≡◌, ℕ, ◌+◌, ◌*◌, ◌/◌, ◌%◌, ◌≤◌, Bool, true, false, ◌==◌, nat_lt, List, [], ◌∷◌, length, Option, Some, None, if◌then◌else◌}
use Rattle.std.specs.List.{list_all}
use Rattle.std.specs.VecDeque.{deque_capacity}
use Rattle.rinda_rules.specs.Rows.{rising}
use Rattle.rinda_lease.specs.declared.stage.Stage.{Stage}
use Rattle.rinda_lease.specs.declared.stage.Stage.TheVariants.{Still, Timed, Waiting, Asked}
use Rattle.rinda_lease.specs.declared.orders.Orders.{Orders}
use Rattle.rinda_lease.specs.Stages.{is_in, stage_at}

-- the key of an id in a slot: keys rise by slot, and in a slot by id
abbrev pub key_of : ℕ → ℕ → ℕ
key_of slot id = slot * 18446744073709551616 + id

-- the slot among those with a deadline, which is the deadline
abbrev pub timed_slot : Stage → Option ℕ
timed_slot Still = None
timed_slot (Timed deadline) = Some deadline
timed_slot Waiting = None
timed_slot Asked = None

-- the slot among those that are doubted: first those that wait, then those that are asked
abbrev pub doubted_slot : Stage → Option ℕ
doubted_slot Still = None
doubted_slot (Timed deadline) = None
doubted_slot Waiting = Some 0
doubted_slot Asked = Some 1

abbrev pub is_slot : ℕ → Option ℕ → Bool
is_slot slot None = false
is_slot slot (Some s) = slot == s

-- a key stands in the order exactly where its id has its slot
pub record IsOrder (slot_of : Stage → Option ℕ) (stages : ℕ → Stage)
    (keys : List ℕ) : Type 0 where
  pub rise : rising (λ k. k) keys ≡ true
  pub are : (k : ℕ) → is_in k keys
      ≡ is_slot (k / 18446744073709551616) (slot_of (stages (k % 18446744073709551616)))

-- both orders are those of these stages
pub record AreOrders (stages : ℕ → Stage) (o : Orders) : Type 0 where
  pub timed : IsOrder timed_slot stages o.timed.items
  pub doubted : IsOrder doubted_slot stages o.doubted.items

-- the keys of both rise
pub record AreRising (o : Orders) : Type 0 where
  pub timed : rising (λ k. k) o.timed.items ≡ true
  pub doubted : rising (λ k. k) o.doubted.items ≡ true

-- how many keys there are in both
abbrev pub total : Orders → ℕ
total o = length o.timed.items + length o.doubted.items

-- each order has room for all keys of both, and for so many more
pub record HasRoom (more : ℕ) (o : Orders) : Type 0 where
  pub timed : total o + more ≤ deque_capacity o.timed
  pub doubted : total o + more ≤ deque_capacity o.doubted

-- one id has that stage, each other the one that it had
abbrev pub placed : ℕ → Stage → (ℕ → Stage) → ℕ → Stage
placed id stage stages q = if q == id then stage else stages q

abbrev pub is_still : Stage → Bool
is_still Still = true
is_still (Timed deadline) = false
is_still Waiting = false
is_still Asked = false

abbrev pub are_small : List (ℕ × Stage) → Bool
are_small entries = list_all (λ e. nat_lt e.0 18446744073709551616) entries

-- The orders are those of the stages, and have room for whatever stage an id gets that has one.
pub record IsTied (entries : List (ℕ × Stage)) (o : Orders) : Type 0 where
  pub small : are_small entries ≡ true
  pub orders : AreOrders (stage_at entries) o
  pub room : HasRoom 0 o

-- the ids of the first keys whose slot is at most now
abbrev pub due_ids : ℕ → List ℕ → List ℕ
due_ids now [] = []
due_ids now (k ∷ ks) =
    if nat_lt now (k / 18446744073709551616) then []
    else k % 18446744073709551616 ∷ due_ids now ks

-- the ids of the keys
abbrev pub ids_of : List ℕ → List ℕ
ids_of [] = []
ids_of (k ∷ ks) = k % 18446744073709551616 ∷ ids_of ks
