-- What each change of the list of standings does to the lists that are in it.
use Rattle.std.proofs.lemmas.List.{drop-append-le}
use Rattle.std.proofs.Common.{length-append, ◌≡◌, ℕ, ◌+◌, ◌-◌, ◌≤◌, Bool, true, ltb, List, [], ◌∷◌, ◌++◌, Some, None, drop, length, refl, ap, arith}
use Rattle.std.specs.Prelude.{◌&&◌, ◌==◌, if◌then◌else◌, nat_lt, nat_le}
use Rattle.std.specs.List.{list_all}
use Rattle.std.specs.Map.{remove_entry, set_value}
use Rattle.std.specs.BTreeMap.{is_at, insert_entry}
use Rattle.std.specs.Ordering.{nat_cmp}
use Rattle.std.proofs.lemmas.Bool.Decides.{nat_tests}
use Rattle.rinda_rules.specs.declared.object.ObjectKind.{ObjectKind}
use Rattle.rinda_rules.specs.declared.object.Last.{Last}
use Rattle.rinda_rules.specs.declared.plain.Ended.{Ended}
use Rattle.rinda_rules.specs.Rows.{row_of, rising, without}
use Rattle.drb_ids.specs.declared.object.LiveId.{LiveId}
use Rattle.drb_ids.specs.declared.object.Standing.{Standing}
use Rattle.drb_ids.specs.declared.object.Standing.TheVariants.{Live, Ended as Over}
use Rattle.drb_ids.specs.Standings.{live_of, standing_at, live_by, ended_by, are_minted}
use Rattle.drb_ids.specs.Ids.{are_distinct}

-- Looking.

none_above : (id : ℕ) (es : List (ℕ × Standing)) → list_all (λ e. ltb id e.0) es ≡ true → row_of (λ l. l.id) id (live_of es) ≡ None
none_above id [] e = refl
none_above id ((x, Live kind) ∷ es) e = grind (arith, nat_tests, none_above id es)
none_above id ((x, Over kind last) ∷ es) e = grind (arith, nat_tests, none_above id es)

-- a live id is found where it stands so
pub row_of-live_of : (id : ℕ) (es : List (ℕ × Standing)) → rising (λ e. e.0) es ≡ true → row_of (λ l. l.id) id (live_of es) ≡ live_by id (standing_at id es)
row_of-live_of id [] up = refl
row_of-live_of id ((x, Live kind) ∷ es) up = grind (arith, nat_tests, row_of-live_of id es)
row_of-live_of id ((x, Over kind last) ∷ es) up = grind (arith, nat_tests, row_of-live_of id es, none_above id es)

-- Minting.

pub insert_entry-last : (given : ℕ) (es : List (ℕ × Standing)) (v : Standing) → are_minted given es ≡ true → insert_entry nat_cmp es (given + 1) v ≡ es ++ (given + 1, v) ∷ []
insert_entry-last given [] v e = refl
insert_entry-last given (x ∷ es) v e = grind (arith, nat_tests, insert_entry-last given es v)

pub live_of-last : (es : List (ℕ × Standing)) (id : ℕ) (kind : ObjectKind) → live_of (es ++ (id, Live kind) ∷ []) ≡ live_of es ++ record { id = id; kind = kind } ∷ []
live_of-last [] id kind = refl
live_of-last ((x, Live k) ∷ es) id kind = ap (λ (ls : List LiveId). record { id = x; kind = k } ∷ ls) (live_of-last es id kind)
live_of-last ((x, Over k l) ∷ es) id kind = live_of-last es id kind

-- whoever is live has not ended
pub ended_by-last : (q : ℕ) (es : List (ℕ × Standing)) (id : ℕ) (kind : ObjectKind) → ended_by q (standing_at q (es ++ (id, Live kind) ∷ [])) ≡ ended_by q (standing_at q es)
ended_by-last q [] id kind = grind (arith, nat_tests)
ended_by-last q (x ∷ es) id kind = grind (arith, nat_tests, ended_by-last q es id kind)

pub are_minted-last : (given : ℕ) (es : List (ℕ × Standing)) (v : Standing) → are_minted given es ≡ true → are_minted (given + 1) (es ++ (given + 1, v) ∷ []) ≡ true
are_minted-last given [] v e = grind (arith, nat_tests)
are_minted-last given (x ∷ es) v e = grind (arith, nat_tests, are_minted-last given es v)

below_last : (q given : ℕ) (es : List (ℕ × Standing)) (v : Standing) → q ≤ given → list_all (λ e. ltb q e.0) es ≡ true → list_all (λ e. ltb q e.0) (es ++ (given + 1, v) ∷ []) ≡ true
below_last q given [] v le e = grind (arith, nat_tests)
below_last q given (x ∷ es) v le e = grind (arith, nat_tests, below_last q given es v le)

pub rising-last : (given : ℕ) (es : List (ℕ × Standing)) (v : Standing) → are_minted given es ≡ true → rising (λ e. e.0) es ≡ true → rising (λ e. e.0) (es ++ (given + 1, v) ∷ []) ≡ true
rising-last given [] v e up = refl
rising-last given (x ∷ es) v e up = grind (arith, nat_tests, below_last x.0 given es v, rising-last given es v)

-- Ending.

none_to_drop : (id : ℕ) (es : List (ℕ × Standing)) → list_all (λ e. ltb id e.0) es ≡ true → without (λ l. l.id) id (live_of es) ≡ live_of es
none_to_drop id [] e = refl
none_to_drop id ((x, Live kind) ∷ es) e = grind (arith, nat_tests, none_to_drop id es)
none_to_drop id ((x, Over kind last) ∷ es) e = grind (arith, nat_tests, none_to_drop id es)

pub live_of-set_value : (id : ℕ) (es : List (ℕ × Standing)) (kind k : ObjectKind) (l : Last) → rising (λ e. e.0) es ≡ true → standing_at id es ≡ Some (Live kind) → live_of (set_value (is_at (nat_cmp id)) es (Over k l)) ≡ without (λ l. l.id) id (live_of es)
live_of-set_value id [] kind k l up there = refl
live_of-set_value id ((x, Live j) ∷ es) kind k l up there = grind (arith, nat_tests, live_of-set_value id es kind k l, none_to_drop id es)
live_of-set_value id ((x, Over j m) ∷ es) kind k l up there = grind (arith, nat_tests, live_of-set_value id es kind k l, none_to_drop id es)

pub standing_at-set_value : (q id : ℕ) (es : List (ℕ × Standing)) (v w : Standing) → standing_at id es ≡ Some v → standing_at q (set_value (is_at (nat_cmp id)) es w) ≡ (if q == id then Some w else standing_at q es)
standing_at-set_value q id [] v w there = cc
standing_at-set_value q id (x ∷ es) v w there = grind (arith, nat_tests, standing_at-set_value q id es v w)

all-set_value : (p : ℕ → Bool) (id : ℕ) (es : List (ℕ × Standing)) (w : Standing) → list_all (λ e. p e.0) (set_value (is_at (nat_cmp id)) es w) ≡ list_all (λ e. p e.0) es
all-set_value p id [] w = refl
all-set_value p id (x ∷ es) w = grind (arith, nat_tests, all-set_value p id es w)

pub rising-set_value : (id : ℕ) (es : List (ℕ × Standing)) (w : Standing) → rising (λ e. e.0) (set_value (is_at (nat_cmp id)) es w) ≡ rising (λ e. e.0) es
rising-set_value id [] w = refl
rising-set_value id (x ∷ es) w = grind (arith, nat_tests, all-set_value (λ q. ltb x.0 q) id es w, rising-set_value id es w)

pub are_minted-set_value : (given id : ℕ) (es : List (ℕ × Standing)) (w : Standing) → are_minted given (set_value (is_at (nat_cmp id)) es w) ≡ are_minted given es
are_minted-set_value given id es w = all-set_value (λ q. nat_lt 0 q && nat_le q given) id es w

-- Forgetting.

pub live_of-remove_entry : (id : ℕ) (es : List (ℕ × Standing)) (k : ObjectKind) (l : Last) → standing_at id es ≡ Some (Over k l) → live_of (remove_entry (is_at (nat_cmp id)) es) ≡ live_of es
live_of-remove_entry id [] k l there = refl
live_of-remove_entry id ((x, Live j) ∷ es) k l there = grind (arith, nat_tests, live_of-remove_entry id es k l)
live_of-remove_entry id ((x, Over j m) ∷ es) k l there = grind (arith, nat_tests, live_of-remove_entry id es k l)

none_stands : (id : ℕ) (es : List (ℕ × Standing)) → list_all (λ e. ltb id e.0) es ≡ true → standing_at id es ≡ None
none_stands id [] e = refl
none_stands id (x ∷ es) e = grind (arith, nat_tests, none_stands id es)

pub standing_at-remove_entry : (q id : ℕ) (es : List (ℕ × Standing)) → rising (λ e. e.0) es ≡ true → standing_at q (remove_entry (is_at (nat_cmp id)) es) ≡ (if q == id then None else standing_at q es)
standing_at-remove_entry q id [] up = grind (arith, nat_tests)
standing_at-remove_entry q id (x ∷ es) up = grind (arith, nat_tests, standing_at-remove_entry q id es, none_stands id es)

all-remove_entry : (p : ℕ → Bool) (id : ℕ) (es : List (ℕ × Standing)) → list_all (λ e. p e.0) es ≡ true → list_all (λ e. p e.0) (remove_entry (is_at (nat_cmp id)) es) ≡ true
all-remove_entry p id [] e = refl
all-remove_entry p id (x ∷ es) e = grind (arith, nat_tests, all-remove_entry p id es)

pub rising-remove_entry : (id : ℕ) (es : List (ℕ × Standing)) → rising (λ e. e.0) es ≡ true → rising (λ e. e.0) (remove_entry (is_at (nat_cmp id)) es) ≡ true
rising-remove_entry id [] up = refl
rising-remove_entry id (x ∷ es) up = grind (arith, nat_tests, all-remove_entry (λ q. ltb x.0 q) id es, rising-remove_entry id es)

pub are_minted-remove_entry : (given id : ℕ) (es : List (ℕ × Standing)) → are_minted given es ≡ true → are_minted given (remove_entry (is_at (nat_cmp id)) es) ≡ true
are_minted-remove_entry given id es e = all-remove_entry (λ q. nat_lt 0 q && nat_le q given) id es e

-- The list of what ended.

pub row_of-last : (q : ℕ) (ended : List Ended) (r : Ended) → row_of (λ e. e.id) r.id ended ≡ None → row_of (λ e. e.id) q (ended ++ r ∷ []) ≡ (if q == r.id then Some r else row_of (λ e. e.id) q ended)
row_of-last q [] r new = grind (arith, nat_tests)
row_of-last q (x ∷ ended) r new = grind (arith, nat_tests, row_of-last q ended r)

pub are_distinct-last : (ended : List Ended) (r : Ended) → row_of (λ e. e.id) r.id ended ≡ None → are_distinct (λ e. e.id) ended ≡ true → are_distinct (λ e. e.id) (ended ++ r ∷ []) ≡ true
are_distinct-last [] r new e = refl
are_distinct-last (x ∷ ended) r new e = grind (arith, nat_tests, row_of-last x.id ended r, are_distinct-last ended r)

pub drop-one : (ended : List Ended) (r : Ended) → length ended ≤ 4096 → drop (length (ended ++ r ∷ []) - 4096) (ended ++ r ∷ []) ≡ drop (length ended - 4095) ended ++ r ∷ []
drop-one ended r few = grind (arith, length-append ended (r ∷ []), drop-append-le (length ended - 4095) ended (r ∷ []))

-- one fewer where the id stands
pub length-remove_entry : (id : ℕ) (es : List (ℕ × Standing)) (v : Standing) → standing_at id es ≡ Some v → length (remove_entry (is_at (nat_cmp id)) es) + 1 ≡ length es
length-remove_entry id [] v there = cc
length-remove_entry id (x ∷ es) v there = grind (arith, nat_tests, length-remove_entry id es v)

pub remove_entry-no-more : (id : ℕ) (es : List (ℕ × Standing)) → length (remove_entry (is_at (nat_cmp id)) es) ≤ length es
remove_entry-no-more id [] = omega arith
remove_entry-no-more id (x ∷ es) = grind (arith, nat_tests, remove_entry-no-more id es)
