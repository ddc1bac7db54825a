-- What is known of an id, and what the space finds for it.
use Rattle.std.proofs.Common.{◌≡◌, ◌∙◌, ℕ, Bool, true, false, List, [], ◌∷◌, ◌++◌, Option, Some, None, refl, ap, arith}
use Rattle.std.proofs.lemmas.Bool.Decides.{nat_tests}
use Rattle.std.specs.Prelude.{◌||◌, ◌==◌, nat_le, if◌then◌else◌}
use Rattle.rinda_rules.specs.declared.object.ObjectKind.{ObjectKind}
use Rattle.rinda_rules.specs.declared.object.Last.{Last}
use Rattle.rinda_rules.specs.Rows.{row_of, without}
use Rattle.rinda_rules.specs.declared.plain.Entry.{Entry}
use Rattle.rinda_rules.specs.declared.plain.Request.{Request}
use Rattle.rinda_rules.specs.declared.plain.Notifier.{Notifier}
use Rattle.rinda_rules.specs.declared.plain.Ended.{Ended}
use Rattle.rinda_rules.specs.Space.{Plain, IsUnknown, IsRecycled, found, found_among, request_at, tuple_at, notifier_at, ended_at}
use Rattle.drb_ids.specs.declared.object.Looked.TheVariants as looked
use Rattle.drb_ids.specs.Ids.{Ids, live_at, looked_up, looked_among, minted, ended_among, ended_with}
use Rattle.drb_ids.specs.declared.object.LiveId.{LiveId}
use Rattle.drb_ids.specs.Found.{living, looked_as, IsIdsOf}

chosen : (b : Bool) → (if b then looked.Never else looked.Recycled) ≡ looked_as (if b then IsUnknown else IsRecycled)
chosen true = refl
chosen false = refl

looked_among-found : (s : Plain) (t : Ids) (id : ℕ) → t.next ≡ s.next → (r : Option Request) (u : Option Entry) (n : Option Notifier) (e : Option Ended) → looked_among t id (living id r u n) e ≡ looked_as (found_among s id r u n e)
looked_among-found s t id next (Some r) u n e = refl
looked_among-found s t id next None (Some u) n e = refl
looked_among-found s t id next None None (Some n) e = refl
looked_among-found s t id next None None None (Some e) = refl
looked_among-found s t id next None None None None = rw next (chosen (id == 0 || nat_le s.next id))

-- a look-up answers what the space finds
pub looked-found : (s : Plain) (t : Ids) → IsIdsOf s t → (id : ℕ) → looked_up t id ≡ looked_as (found s id)
looked-found s t h id = rw (h.live id, h.ended) (looked_among-found s t id h.next (request_at s id) (tuple_at s id) (notifier_at s id) (ended_at s id))

row_of-last : (q : ℕ) (ls : List LiveId) (r : LiveId) → row_of (λ l. l.id) r.id ls ≡ None → row_of (λ l. l.id) q (ls ++ r ∷ []) ≡ (if q == r.id then Some r else row_of (λ l. l.id) q ls)
row_of-last q [] r new = grind (arith, nat_tests)
row_of-last q (x ∷ ls) r new = grind (arith, nat_tests, row_of-last q ls r)

-- the live ids after one more is given out
pub live_at-minted : (t : Ids) (kind : ObjectKind) (q : ℕ) → live_at t t.next ≡ None → live_at (minted kind t) q ≡ (if q == t.next then Some (record { id = t.next; kind = kind }) else live_at t q)
live_at-minted t kind q new = row_of-last q t.live (record { id = t.next; kind = kind }) new

row_of-without : (q id : ℕ) (ls : List LiveId) → row_of (λ l. l.id) q (without (λ l. l.id) id ls) ≡ (if q == id then None else row_of (λ l. l.id) q ls)
row_of-without q id [] = grind (arith, nat_tests)
row_of-without q id (x ∷ ls) = grind (arith, nat_tests, row_of-without q id ls)

-- the live ids after one of them has ended
pub live_at-ended_with : (t : Ids) (id : ℕ) (last : Last) (l : LiveId) (q : ℕ) → live_at t id ≡ Some l → live_at (ended_with id last t) q ≡ (if q == id then None else live_at t q)
live_at-ended_with t id last l q there = ap (λ (o : Option LiveId). live_at (ended_among id last t o) q) there ∙ row_of-without q id t.live
