-- What a change of one id's stage does to an order.
use Rattle.std.proofs.lemmas.Nat.{div-mul-add, mod-mul-add, div-add-mod'}
use Rattle.std.proofs.Common.{◌≡◌, ◌∙◌, ℕ, ◌/◌, ◌%◌, ◌<◌, true, List, Option, Some, sym, ap, arith}
use Rattle.std.proofs.lemmas.Bool.Decides.{nat_tests}
use Rattle.rinda_lease.specs.declared.stage.Stage.{Stage}
use Rattle.rinda_lease.specs.declared.orders.Orders.{Orders}
use Rattle.rinda_lease.specs.Stages.{is_in}
use Rattle.rinda_lease.specs.Orders.{key_of, is_slot, IsOrder, AreOrders, timed_slot, doubted_slot}

pub slot_of_key : (slot id : ℕ) → id < 18446744073709551616 → key_of slot id / 18446744073709551616 ≡ slot
slot_of_key slot id l = div-mul-add slot 18446744073709551616 id l

pub id_of_key : (slot id : ℕ) → id < 18446744073709551616 → key_of slot id % 18446744073709551616 ≡ id
id_of_key slot id l = mod-mul-add slot 18446744073709551616 id l

pub key_is : (k slot id : ℕ) → k % 18446744073709551616 ≡ id → k / 18446744073709551616 ≡ slot → k ≡ key_of slot id
key_is k slot id a b = omega (arith, div-add-mod' k 18446744073709551616, a, b)

-- keys that change nothing at any id's slot
pub same_order : (slot_of : Stage → Option ℕ) (f g : ℕ → Stage) (keys : List ℕ) → ((q : ℕ) → slot_of (g q) ≡ slot_of (f q)) → IsOrder slot_of f keys → IsOrder slot_of g keys
same_order slot_of f g keys same h = record {
  rise = h.rise;
  are = λ k. h.are k ∙ sym (ap (λ (s : Option ℕ). is_slot (k / 18446744073709551616) s) (same (k % 18446744073709551616)));
}

pub same_orders : (f g : ℕ → Stage) (o : Orders) → ((q : ℕ) → g q ≡ f q) → AreOrders f o → AreOrders g o
same_orders f g o same h = record {
  timed = same_order timed_slot f g o.timed.items (λ q. ap timed_slot (same q)) h.timed;
  doubted = same_order doubted_slot f g o.doubted.items (λ q. ap doubted_slot (same q)) h.doubted;
}

-- the key of an id in its slot stands there
pub stands : (slot_of : Stage → Option ℕ) (f : ℕ → Stage) (id slot : ℕ) (keys : List ℕ) → id < 18446744073709551616 → slot_of (f id) ≡ Some slot → IsOrder slot_of f keys → is_in (key_of slot id) keys ≡ true
stands slot_of f id slot keys small has h =
    h.are (key_of slot id)
    ∙ ap (λ (s : Option ℕ). is_slot (key_of slot id / 18446744073709551616) s) (ap (λ (q : ℕ). slot_of (f q)) (id_of_key slot id small) ∙ has)
    ∙ grind (arith, nat_tests, slot_of_key slot id small)
