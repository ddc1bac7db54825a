-- A table that starts with given ids.
use Rattle.std.proofs.Common.{◌≡◌, ◌∙◌, ℕ, ◌-◌, ◌≤◌, ◌<◌, Bool, true, false, ltb, List, [], ◌∷◌, Option, Some, None, refl, sym, ap, arith}
use Rattle.std.specs.Prelude.{◌==◌, if◌then◌else◌, is_none}
use Rattle.std.specs.List.{list_all}
use Rattle.std.specs.BTreeMap.{insert_entry}
use Rattle.std.specs.Ordering.{nat_cmp}
use Rattle.std.proofs.lemmas.Bool.Decides.{nat_tests}
use Rattle.rinda_rules.specs.declared.plain.Ended.{Ended}
use Rattle.rinda_rules.specs.Rows.{row_of, rising}
use Rattle.rinda_rules.proofs.Lists.{row_has_id}
use Rattle.drb_ids.specs.declared.object.LiveId.{LiveId}
use Rattle.drb_ids.specs.declared.object.Standing.{Standing}
use Rattle.drb_ids.specs.declared.object.Standing.TheVariants.{Live, Ended as Over}
use Rattle.drb_ids.specs.Ids.{are_distinct, are_given, MayStart}
use Rattle.drb_ids.specs.Standings.{live_of, standing_at, live_by, ended_by, are_minted, with_all_live, with_all_ended, IsTied}
use Rattle.drb_ids.proofs.StandingLists.{row_of-live_of}

-- One more.

pub standing_at-insert_entry : (q id : ℕ) (es : List (ℕ × Standing)) (v : Standing) → standing_at q (insert_entry nat_cmp es id v) ≡ (if q == id then Some v else standing_at q es)
standing_at-insert_entry q id [] v = grind (arith, nat_tests)
standing_at-insert_entry q id (x ∷ es) v = grind (arith, nat_tests, standing_at-insert_entry q id es v)

above-insert_entry : (x id : ℕ) (es : List (ℕ × Standing)) (v : Standing) → x < id → list_all (λ e. ltb x e.0) es ≡ true → list_all (λ e. ltb x e.0) (insert_entry nat_cmp es id v) ≡ true
above-insert_entry x id [] v lt e = grind (arith, nat_tests)
above-insert_entry x id (y ∷ es) v lt e = grind (arith, nat_tests, above-insert_entry x id es v lt)

above_more : (x y : ℕ) (es : List (ℕ × Standing)) → x < y → list_all (λ e. ltb y e.0) es ≡ true → list_all (λ e. ltb x e.0) es ≡ true
above_more x y [] lt e = refl
above_more x y (z ∷ es) lt e = grind (arith, nat_tests, above_more x y es lt)

rising-insert_entry : (id : ℕ) (es : List (ℕ × Standing)) (v : Standing) → rising (λ e. e.0) es ≡ true → rising (λ e. e.0) (insert_entry nat_cmp es id v) ≡ true
rising-insert_entry id [] v up = refl
rising-insert_entry id (x ∷ es) v up = grind (arith, nat_tests, above_more id x.0 es, above-insert_entry x.0 id es v, rising-insert_entry id es v)

are_minted-insert_entry : (given id : ℕ) (es : List (ℕ × Standing)) (v : Standing) → 0 < id → id ≤ given → are_minted given es ≡ true → are_minted given (insert_entry nat_cmp es id v) ≡ true
are_minted-insert_entry given id [] v low high e = grind (arith, nat_tests)
are_minted-insert_entry given id (x ∷ es) v low high e = grind (arith, nat_tests, are_minted-insert_entry given id es v low high)

-- All that are live.

abbrev live_or : Option LiveId → Option Standing → Option Standing
live_or None s = s
live_or (Some l) s = Some (Live l.kind)

standing_at-with_all_live : (q : ℕ) (ls : List LiveId) (es : List (ℕ × Standing)) → are_distinct (λ l. l.id) ls ≡ true → standing_at q (with_all_live ls es) ≡ live_or (row_of (λ l. l.id) q ls) (standing_at q es)
standing_at-with_all_live q [] es once = refl
standing_at-with_all_live q (l ∷ ls) es once =
    standing_at-with_all_live q ls (insert_entry nat_cmp es l.id (Live l.kind)) (grind arith)
    ∙ ap (λ (s : Option Standing). live_or (row_of (λ l. l.id) q ls) s) (standing_at-insert_entry q l.id es (Live l.kind))
    ∙ one q l ls (standing_at q es) (l.id == q) refl (grind arith)
  where
    one : (q : ℕ) (l : LiveId) (ls : List LiveId) (s : Option Standing) (b : Bool) → (l.id == q) ≡ b → is_none (row_of (λ l. l.id) l.id ls) ≡ true → live_or (row_of (λ l. l.id) q ls) (if q == l.id then Some (Live l.kind) else s) ≡ live_or (row_of (λ l. l.id) q (l ∷ ls)) s
    one q l ls s true e alone = grind (arith, nat_tests)
    one q l ls s false e alone = grind (arith, nat_tests)

rising-with_all_live : (ls : List LiveId) (es : List (ℕ × Standing)) → rising (λ e. e.0) es ≡ true → rising (λ e. e.0) (with_all_live ls es) ≡ true
rising-with_all_live [] es up = up
rising-with_all_live (l ∷ ls) es up = rising-with_all_live ls (insert_entry nat_cmp es l.id (Live l.kind)) (rising-insert_entry l.id es (Live l.kind) up)

are_minted-with_all_live : (next : ℕ) (ls : List LiveId) (es : List (ℕ × Standing)) → are_given (λ l. l.id) next ls ≡ true → are_minted (next - 1) es ≡ true → are_minted (next - 1) (with_all_live ls es) ≡ true
are_minted-with_all_live next [] es given e = e
are_minted-with_all_live next (l ∷ ls) es given e =
    are_minted-with_all_live next ls (insert_entry nat_cmp es l.id (Live l.kind)) (grind arith) (are_minted-insert_entry (next - 1) l.id es (Live l.kind) (grind (arith, nat_tests)) (grind (arith, nat_tests)) e)

-- All that have ended.

abbrev over_or : Option Ended → Option Standing → Option Standing
over_or None s = s
over_or (Some r) s = Some (Over r.kind r.last)

standing_at-with_all_ended : (q : ℕ) (rs : List Ended) (es : List (ℕ × Standing)) → are_distinct (λ e. e.id) rs ≡ true → standing_at q (with_all_ended rs es) ≡ over_or (row_of (λ e. e.id) q rs) (standing_at q es)
standing_at-with_all_ended q [] es once = refl
standing_at-with_all_ended q (r ∷ rs) es once =
    standing_at-with_all_ended q rs (insert_entry nat_cmp es r.id (Over r.kind r.last)) (grind arith)
    ∙ ap (λ (s : Option Standing). over_or (row_of (λ e. e.id) q rs) s) (standing_at-insert_entry q r.id es (Over r.kind r.last))
    ∙ one q r rs (standing_at q es) (r.id == q) refl (grind arith)
  where
    one : (q : ℕ) (r : Ended) (rs : List Ended) (s : Option Standing) (b : Bool) → (r.id == q) ≡ b → is_none (row_of (λ e. e.id) r.id rs) ≡ true → over_or (row_of (λ e. e.id) q rs) (if q == r.id then Some (Over r.kind r.last) else s) ≡ over_or (row_of (λ e. e.id) q (r ∷ rs)) s
    one q r rs s true e alone = grind (arith, nat_tests)
    one q r rs s false e alone = grind (arith, nat_tests)

rising-with_all_ended : (rs : List Ended) (es : List (ℕ × Standing)) → rising (λ e. e.0) es ≡ true → rising (λ e. e.0) (with_all_ended rs es) ≡ true
rising-with_all_ended [] es up = up
rising-with_all_ended (r ∷ rs) es up = rising-with_all_ended rs (insert_entry nat_cmp es r.id (Over r.kind r.last)) (rising-insert_entry r.id es (Over r.kind r.last) up)

are_minted-with_all_ended : (next : ℕ) (rs : List Ended) (es : List (ℕ × Standing)) → are_given (λ e. e.id) next rs ≡ true → are_minted (next - 1) es ≡ true → are_minted (next - 1) (with_all_ended rs es) ≡ true
are_minted-with_all_ended next [] es given e = e
are_minted-with_all_ended next (r ∷ rs) es given e =
    are_minted-with_all_ended next rs (insert_entry nat_cmp es r.id (Over r.kind r.last)) (grind arith) (are_minted-insert_entry (next - 1) r.id es (Over r.kind r.last) (grind (arith, nat_tests)) (grind (arith, nat_tests)) e)

-- Both.

abbrev pub all_of : List LiveId → List Ended → List (ℕ × Standing)
all_of live ended = with_all_ended ended (with_all_live live [])

standing_at-all_of : (q next : ℕ) (live : List LiveId) (ended : List Ended) → MayStart next live ended → standing_at q (all_of live ended) ≡ over_or (row_of (λ e. e.id) q ended) (live_or (row_of (λ l. l.id) q live) None)
standing_at-all_of q next live ended h =
    standing_at-with_all_ended q ended (with_all_live live []) h.ended_once
    ∙ ap (λ (s : Option Standing). over_or (row_of (λ e. e.id) q ended) s) (standing_at-with_all_live q live [] h.live_once)

over-tied : (q : ℕ) (e : Option Ended) (l : Option LiveId) → ((r : Ended) → e ≡ Some r → r.id ≡ q) → e ≡ ended_by q (over_or e (live_or l None))
over-tied q None None h = refl
over-tied q None (Some l) h = refl
over-tied q (Some r) l h = grind (arith, h r refl)

live-tied : (q : ℕ) (e : Option Ended) (l : Option LiveId) → ((x : LiveId) → l ≡ Some x → x.id ≡ q) → ((x : LiveId) → l ≡ Some x → e ≡ None) → live_by q (over_or e (live_or l None)) ≡ l
live-tied q None None h k = refl
live-tied q None (Some l) h k = grind (arith, h l refl)
live-tied q (Some r) None h k = refl
live-tied q (Some r) (Some l) h k = absurd (impossible r (k l refl))
  where
    impossible : (r : Ended) → Some r ≡ None → ⊥
    impossible r e = cc

apart_at : (q : ℕ) (live : List LiveId) (ended : List Ended) (x : LiveId) → list_all (λ l. is_none (row_of (λ e. e.id) l.id ended)) live ≡ true → row_of (λ l. l.id) q live ≡ Some x → row_of (λ e. e.id) q ended ≡ None
apart_at q [] ended x apart e = cc
apart_at q (l ∷ live) ended x apart e = grind (arith, nat_tests, apart_at q live ended x)

pub started-tied : (next : ℕ) (live : List LiveId) (ended : List Ended) → MayStart next live ended → IsTied (all_of live ended) ended
started-tied next live ended h = record {
  rising = rising-with_all_ended ended (with_all_live live []) (rising-with_all_live live [] refl);
  tied = λ q.
      over-tied q (row_of (λ e. e.id) q ended) (row_of (λ l. l.id) q live) (λ r e. row_has_id (λ e. e.id) q ended r e)
      ∙ sym (ap (λ (s : Option Standing). ended_by q s) (standing_at-all_of q next live ended h));
  once = h.ended_once;
}

pub started-minted : (next : ℕ) (live : List LiveId) (ended : List Ended) → MayStart next live ended → are_minted (next - 1) (all_of live ended) ≡ true
started-minted next live ended h = are_minted-with_all_ended next ended (with_all_live live []) h.ended_given (are_minted-with_all_live next live [] h.live_given refl)

pub started-live : (q next : ℕ) (live : List LiveId) (ended : List Ended) → MayStart next live ended → row_of (λ l. l.id) q (live_of (all_of live ended)) ≡ row_of (λ l. l.id) q live
started-live q next live ended h =
    row_of-live_of q (all_of live ended) (started-tied next live ended h).rising
    ∙ ap (λ (s : Option Standing). live_by q s) (standing_at-all_of q next live ended h)
    ∙ live-tied q (row_of (λ e. e.id) q ended) (row_of (λ l. l.id) q live) (λ x e. row_has_id (λ l. l.id) q live x e) (λ x e. apart_at q live ended x h.apart e)
