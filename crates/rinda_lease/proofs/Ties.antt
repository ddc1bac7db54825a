-- The orders stay tied to the stages.
use Rattle.std.proofs.Common.{◌≡◌, ◌∙◌, ℕ, ◌<◌, Bool, true, false, List, [], ◌∷◌, Option, Some, None, refl, sym, ap, subst, cond, arith}
use Rattle.std.specs.Prelude.{◌==◌, if◌then◌else◌}
use Rattle.std.specs.Option.{unwrap_or}
use Rattle.std.specs.Map.{lookup, remove_entry}
use Rattle.std.specs.BTreeMap.{is_at, insert_entry}
use Rattle.std.specs.Ordering.{nat_cmp}
use Rattle.std.proofs.lemmas.Bool.Decides.{nat_tests}
use Rattle.rinda_lease.specs.declared.stage.Stage.{Stage}
use Rattle.rinda_lease.specs.declared.stage.Stage.TheVariants.{Still}
use Rattle.rinda_lease.specs.declared.orders.Orders.{Orders}
use Rattle.rinda_lease.specs.Stages.{stage_at, or_still}
use Rattle.rinda_lease.specs.Orders.{IsOrder, AreOrders, AreRising, HasRoom, IsTied, placed, are_small, timed_slot, doubted_slot}
use Rattle.rinda_lease.proofs.Slots.{same_orders}

pub rising_orders : (f : ℕ → Stage) (o : Orders) → AreOrders f o → AreRising o
rising_orders f o h = record { timed = h.timed.rise; doubted = h.doubted.rise }

pub orders_moved : (f : ℕ → Stage) (o p : Orders) → p.timed.items ≡ o.timed.items → p.doubted.items ≡ o.doubted.items → AreOrders f o → AreOrders f p
orders_moved f o p a b h = record {
  timed = subst (λ (xs : List ℕ). IsOrder timed_slot f xs) (sym a) h.timed;
  doubted = subst (λ (xs : List ℕ). IsOrder doubted_slot f xs) (sym b) h.doubted;
}

pub small_insert : (es : List (ℕ × Stage)) (id : ℕ) (v : Stage) → are_small es ≡ true → id < 18446744073709551616 → are_small (insert_entry nat_cmp es id v) ≡ true
small_insert [] id v s l = grind (arith, nat_tests)
small_insert (x ∷ es) id v s l = grind (arith, nat_tests, small_insert es id v)

pub small_remove : (es : List (ℕ × Stage)) (id : ℕ) → are_small es ≡ true → are_small (remove_entry (is_at (nat_cmp id)) es) ≡ true
small_remove [] id s = refl
small_remove (x ∷ es) id s = grind (arith, nat_tests, small_remove es id)

-- the stage that the id had
pub had : (o p : Option Stage) (r : Stage) → o ≡ p → r ≡ unwrap_or o Still → or_still p ≡ r
had o None r e u = grind arith
had o (Some s) r e u = grind arith

pub changed_stage : (q id : ℕ) (v o n : Option Stage) → n ≡ cond (is_at (nat_cmp id) q) v o → or_still n ≡ (if q == id then or_still v else or_still o)
changed_stage q id v o n e = grind (arith, nat_tests)

pub here_now : (id : ℕ) (f : ℕ → Stage) → placed id Still f id ≡ Still
here_now id f = grind (arith, nat_tests)

pub placed_again : (q id : ℕ) (v : Stage) (f : ℕ → Stage) → (if q == id then v else f q) ≡ placed id v (placed id Still f) q
placed_again q id v f = by_test (q == id)
  where
    by_test : (b : Bool) → (if b then v else f q) ≡ (if b then v else (if b then Still else f q))
    by_test true = refl
    by_test false = refl

-- the id, which left its place, came to another
pub tied_after : (es es' : List (ℕ × Stage)) (id : ℕ) (stage : Stage) (o : Orders) → are_small es ≡ true → id < 18446744073709551616 → es' ≡ insert_entry nat_cmp es id stage → ((q : ℕ) → lookup (is_at (nat_cmp q)) es' ≡ cond (is_at (nat_cmp id) q) (Some stage) (lookup (is_at (nat_cmp q)) es)) → AreOrders (placed id stage (placed id Still (stage_at es))) o → HasRoom 0 o → IsTied es' o
tied_after es es' id stage o small l is updates h room = record {
  small = ap are_small is ∙ small_insert es id stage small l;
  orders = same_orders (placed id stage (placed id Still (stage_at es))) (stage_at es') o (λ q. changed_stage q id (Some stage) (lookup (is_at (nat_cmp q)) es) (lookup (is_at (nat_cmp q)) es') (updates q) ∙ placed_again q id stage (stage_at es)) h;
  room = room;
}

pub tied_without : (es es' : List (ℕ × Stage)) (id : ℕ) (o : Orders) → are_small es ≡ true → es' ≡ remove_entry (is_at (nat_cmp id)) es → ((q : ℕ) → lookup (is_at (nat_cmp q)) es' ≡ cond (is_at (nat_cmp id) q) None (lookup (is_at (nat_cmp q)) es)) → AreOrders (placed id Still (stage_at es)) o → HasRoom 0 o → IsTied es' o
tied_without es es' id o small is updates h room = record {
  small = ap are_small is ∙ small_remove es id small;
  orders = same_orders (placed id Still (stage_at es)) (stage_at es') o (λ q. changed_stage q id None (lookup (is_at (nat_cmp q)) es) (lookup (is_at (nat_cmp q)) es') (updates q)) h;
  room = room;
}
