-- What is taken back of a table, and what stands of it.
use Rattle.std.specs.List.{list_all, list_any}
use Rattle.std.proofs.lemmas.List.{length-append, length-drop, length-take, drop-append-le, take-append-le, take-append-drop}
use Rattle.std.proofs.Common.{zero, suc, ltb, ◌≡◌, ◌∙◌, ℕ, ◌+◌, ◌-◌, ◌≤◌, ◌<◌, Bool, true, false, List, [], ◌∷◌, ◌++◌, Option, Some, None, take, drop, length, refl, sym, ap, arith}
use Rattle.std.specs.Prelude.{is_none, ◌||◌, ◌==◌, nat_le, if◌then◌else◌}
use Rattle.std.specs.Map.{remove_entry, set_value}
use Rattle.std.specs.BTreeMap.{is_at, insert_entry}
use Rattle.std.specs.Ordering.{nat_cmp}
use Rattle.std.proofs.lemmas.Bool.Decides.{nat_tests}
use Rattle.rinda_rules.specs.declared.object.ObjectKind.{ObjectKind}
use Rattle.rinda_rules.specs.declared.object.Last.{Last}
use Rattle.rinda_rules.specs.declared.plain.Ended.{Ended}
use Rattle.rinda_rules.specs.Rows.{row_of, rising, without}
use Rattle.rinda_rules.specs.Space.{retained}
use Rattle.drb_ids.specs.declared.object.Standing.{Standing}
use Rattle.drb_ids.specs.declared.object.Standing.TheVariants.{Live, Ended as Over}
use Rattle.drb_ids.specs.declared.object.LiveId.{LiveId}
use Rattle.drb_ids.specs.declared.object.Looked.TheVariants as looked
use Rattle.drb_ids.specs.Ids.{Ids, settled, are_distinct, live_at, looked_up, looked_among, minted, ended_with, ended_among}
use Rattle.drb_ids.specs.Standings.{standing_at, live_by, ended_by, are_minted, revived, without_fresh, stood, ahead_of, IsTied, IsTable}
use Rattle.drb_ids.proofs.TableLemmas.{ended-tied}
use Rattle.drb_ids.proofs.StandingLists.{standing_at-set_value, rising-set_value, are_minted-set_value, standing_at-remove_entry, rising-remove_entry, row_of-live_of, live_of-set_value}

-- Changes of one entry.

pub set_value-absent : (id : ℕ) (es : List (ℕ × Standing)) (w : Standing) → standing_at id es ≡ None → set_value (is_at (nat_cmp id)) es w ≡ es
set_value-absent id [] w e = refl
set_value-absent id (x ∷ es) w e = grind (arith, nat_tests, set_value-absent id es w)

-- what was changed is changed back
pub set-back : (id : ℕ) (es : List (ℕ × Standing)) (v w : Standing) → standing_at id es ≡ Some v → set_value (is_at (nat_cmp id)) (set_value (is_at (nat_cmp id)) es w) v ≡ es
set-back id [] v w e = refl
set-back id ((x, y) ∷ es) v w e = grind (arith, nat_tests, set-back id es v w)

above-absent : (id : ℕ) (es : List (ℕ × Standing)) (w : Standing) → list_all (λ e. ltb id e.0) es ≡ true → set_value (is_at (nat_cmp id)) es w ≡ es
above-absent id [] w e = refl
above-absent id ((x, y) ∷ es) w e = grind (arith, nat_tests, above-absent id es w)

pub remove-set : (g id : ℕ) (es : List (ℕ × Standing)) (v : Standing) → rising (λ e. e.0) es ≡ true → remove_entry (is_at (nat_cmp g)) (set_value (is_at (nat_cmp id)) es v) ≡ set_value (is_at (nat_cmp id)) (remove_entry (is_at (nat_cmp g)) es) v
remove-set g id [] v up = refl
remove-set g id ((x, y) ∷ es) v up = grind (arith, nat_tests, remove-set g id es v, above-absent id es v)

pub remove-insert : (given : ℕ) (es : List (ℕ × Standing)) (v : Standing) → are_minted given es ≡ true → remove_entry (is_at (nat_cmp (given + 1))) (insert_entry nat_cmp es (given + 1) v) ≡ es
remove-insert given [] v e = grind (arith, nat_tests)
remove-insert given ((x, y) ∷ es) v e = grind (arith, nat_tests, remove-insert given es v)

-- Several.

pub revived-last : (rs : List Ended) (r : Ended) (es : List (ℕ × Standing)) → revived (rs ++ r ∷ []) es ≡ revived rs (set_value (is_at (nat_cmp r.id)) es (Live r.kind))
revived-last [] r es = refl
revived-last (x ∷ rs) r es = ap (λ (z : List (ℕ × Standing)). set_value (is_at (nat_cmp x.id)) z (Live x.kind)) (revived-last rs r es)

pub rising-revived : (rs : List Ended) (es : List (ℕ × Standing)) → rising (λ e. e.0) (revived rs es) ≡ rising (λ e. e.0) es
rising-revived [] es = refl
rising-revived (r ∷ rs) es = rising-set_value r.id (revived rs es) (Live r.kind) ∙ rising-revived rs es

pub are_minted-revived : (given : ℕ) (rs : List Ended) (es : List (ℕ × Standing)) → are_minted given (revived rs es) ≡ are_minted given es
are_minted-revived given [] es = refl
are_minted-revived given (r ∷ rs) es = are_minted-set_value given r.id (revived rs es) (Live r.kind) ∙ are_minted-revived given rs es

pub remove-revived : (g : ℕ) (rs : List Ended) (es : List (ℕ × Standing)) → rising (λ e. e.0) es ≡ true → remove_entry (is_at (nat_cmp g)) (revived rs es) ≡ revived rs (remove_entry (is_at (nat_cmp g)) es)
remove-revived g [] es up = refl
remove-revived g (r ∷ rs) es up =
    remove-set g r.id (revived rs es) (Live r.kind) (rising-revived rs es ∙ up)
    ∙ ap (λ (z : List (ℕ × Standing)). set_value (is_at (nat_cmp r.id)) z (Live r.kind)) (remove-revived g rs es up)

none-between : (x n : ℕ) (es : List (ℕ × Standing)) → list_all (λ e. ltb x e.0) es ≡ true → are_minted x es ≡ true → are_minted n es ≡ true
none-between x n [] above e = refl
none-between x n ((y, v) ∷ es) above e = grind (arith, nat_tests)

-- the id that was given out last is no longer given out
pub are_minted-less : (given : ℕ) (es : List (ℕ × Standing)) → rising (λ e. e.0) es ≡ true → are_minted given es ≡ true → are_minted (given - 1) (remove_entry (is_at (nat_cmp given)) es) ≡ true
are_minted-less given [] up e = refl
are_minted-less given ((x, y) ∷ es) up e = grind (arith, nat_tests, are_minted-less given es, none-between given (given - 1) es)

-- What ended since is live again.

found-last : (q : ℕ) (rs : List Ended) (r : Ended) → (q == r.id) ≡ true → is_none (row_of (λ e. e.id) q (rs ++ r ∷ [])) ≡ false
found-last q [] r e = grind (arith, nat_tests)
found-last q (x ∷ rs) r e = grind (arith, nat_tests, found-last q rs r)

none-before : (q : ℕ) (rs : List Ended) (r : Ended) → (q == r.id) ≡ true → are_distinct (λ e. e.id) (rs ++ r ∷ []) ≡ true → row_of (λ e. e.id) q rs ≡ None
none-before q [] r e once = refl
none-before q (x ∷ rs) r e once = grind (arith, nat_tests, none-before q rs r, found-last x.id rs r)

other-before : (q : ℕ) (rs : List Ended) (r : Ended) → (q == r.id) ≡ false → row_of (λ e. e.id) q (rs ++ r ∷ []) ≡ row_of (λ e. e.id) q rs
other-before q [] r e = grind (arith, nat_tests)
other-before q (x ∷ rs) r e = grind (arith, nat_tests, other-before q rs r)

distinct-before : (rs : List Ended) (r : Ended) → are_distinct (λ e. e.id) (rs ++ r ∷ []) ≡ true → are_distinct (λ e. e.id) rs ≡ true
distinct-before [] r once = refl
distinct-before (x ∷ rs) r once = by_id (x.id == r.id) refl (distinct-before rs r (grind arith))
  where
    by_id : (b : Bool) → (x.id == r.id) ≡ b → are_distinct (λ e. e.id) rs ≡ true → are_distinct (λ e. e.id) (x ∷ rs) ≡ true
    by_id true e before = grind (arith, found-last x.id rs r)
    by_id false e before = grind (arith, other-before x.id rs r)

unended : (q : ℕ) (rs : List Ended) (r : Ended) (s : Option Standing) (b : Bool) → (q == r.id) ≡ b → are_distinct (λ e. e.id) (rs ++ r ∷ []) ≡ true → row_of (λ e. e.id) q (rs ++ r ∷ []) ≡ ended_by q s → row_of (λ e. e.id) q rs ≡ ended_by q (if b then Some (Live r.kind) else s)
unended q rs r s true e once same = none-before q rs r e once
unended q rs r s false e once same = sym (other-before q rs r e) ∙ same

over_by : (id : ℕ) (s : Option Standing) (r : Ended) → ended_by id s ≡ Some r → s ≡ Some (Over r.kind r.last)
over_by id None r e = cc
over_by id (Some (Live kind)) r e = cc
over_by id (Some (Over kind last)) r e = grind arith

row-last : (rs : List Ended) (r : Ended) → are_distinct (λ e. e.id) (rs ++ r ∷ []) ≡ true → row_of (λ e. e.id) r.id (rs ++ r ∷ []) ≡ Some r
row-last [] r once = grind (arith, nat_tests)
row-last (x ∷ rs) r once = by_id (x.id == r.id) refl (row-last rs r (grind arith))
  where
    by_id : (b : Bool) → (x.id == r.id) ≡ b → row_of (λ e. e.id) r.id (rs ++ r ∷ []) ≡ Some r → row_of (λ e. e.id) r.id ((x ∷ rs) ++ r ∷ []) ≡ Some r
    by_id true e last = grind (arith, nat_tests, found-last x.id rs r)
    by_id false e last = grind (arith, nat_tests)

-- the one that ended last is live again
pub revived-tied : (es : List (ℕ × Standing)) (rs : List Ended) (r : Ended) → IsTied es (rs ++ r ∷ []) → IsTied (set_value (is_at (nat_cmp r.id)) es (Live r.kind)) rs
revived-tied es rs r h =
    let there : standing_at r.id es ≡ Some (Over r.kind r.last) = over_by r.id (standing_at r.id es) r (sym (h.tied r.id) ∙ row-last rs r h.once) in
    record {
      rising = rising-set_value r.id es (Live r.kind) ∙ h.rising;
      tied = λ q. unended q rs r (standing_at q es) (q == r.id) refl h.once (h.tied q) ∙ sym (ap (λ (s : Option Standing). ended_by q s) (standing_at-set_value q r.id es (Over r.kind r.last) (Live r.kind) there));
      once = distinct-before rs r h.once;
    }

-- Ending, of what is ahead and of what stands.

fresh-set : (fresh : Bool) (given id : ℕ) (es : List (ℕ × Standing)) (v : Standing) → rising (λ e. e.0) es ≡ true → without_fresh fresh given (set_value (is_at (nat_cmp id)) es v) ≡ set_value (is_at (nat_cmp id)) (without_fresh fresh given es) v
fresh-set false given id es v up = refl
fresh-set true given id es v up = remove-set given id es v up

set-back-at : (id : ℕ) (es : List (ℕ × Standing)) (v w : Standing) (s : Option Standing) (b : Bool) → standing_at id es ≡ (if b then None else Some v) → set_value (is_at (nat_cmp id)) (set_value (is_at (nat_cmp id)) es w) v ≡ es
set-back-at id es v w s true e = ap (λ (z : List (ℕ × Standing)). set_value (is_at (nat_cmp id)) z v) (set_value-absent id es w e) ∙ set_value-absent id es v e
set-back-at id es v w s false e = set-back id es v w e

fresh-back : (fresh : Bool) (given id : ℕ) (es : List (ℕ × Standing)) (v w : Standing) → rising (λ e. e.0) es ≡ true → standing_at id es ≡ Some v → set_value (is_at (nat_cmp id)) (set_value (is_at (nat_cmp id)) (without_fresh fresh given es) w) v ≡ without_fresh fresh given es
fresh-back false given id es v w up there = set-back id es v w there
fresh-back true given id es v w up there = set-back-at id (remove_entry (is_at (nat_cmp given)) es) v w (Some v) (id == given) (standing_at-remove_entry id given es up ∙ same (id == given))
  where
    same : (b : Bool) → (if b then None else standing_at id es) ≡ (if b then None else Some v)
    same true = refl
    same false = there

-- an end changes nothing of what stands
pub ended-revived : (fresh : Bool) (given id : ℕ) (es : List (ℕ × Standing)) (rs : List Ended) (kind : ObjectKind) (last : Last) → rising (λ e. e.0) es ≡ true → standing_at id es ≡ Some (Live kind) → revived (rs ++ record { id = id; kind = kind; last = last } ∷ []) (without_fresh fresh given (set_value (is_at (nat_cmp id)) es (Over kind last))) ≡ revived rs (without_fresh fresh given es)
ended-revived fresh given id es rs kind last up there =
    revived-last rs (record { id = id; kind = kind; last = last }) (without_fresh fresh given (set_value (is_at (nat_cmp id)) es (Over kind last)))
    ∙ ap (λ (z : List (ℕ × Standing)). revived rs (set_value (is_at (nat_cmp id)) z (Live kind))) (fresh-set fresh given id es (Over kind last) up)
    ∙ ap (λ (z : List (ℕ × Standing)). revived rs z) (fresh-back fresh given id es (Live kind) (Over kind last) up there)

drop-none : {A : Type 0} (m : ℕ) → drop {A = A} m [] ≡ []
drop-none zero = refl
drop-none (suc m) = refl

drop-drop : {A : Type 0} (m n : ℕ) (xs : List A) → drop m (drop n xs) ≡ drop (m + n) xs
drop-drop m zero xs =
    let e : m ≡ m + 0 = omega arith in
    ap (λ (k : ℕ). drop k xs) e
drop-drop {A = A} m (suc n) [] = drop-none {A = A} m ∙ sym (drop-none {A = A} (m + suc n))
drop-drop m (suc n) (x ∷ xs) =
    let e : suc (m + n) ≡ m + suc n = omega arith in
    drop-drop m n xs ∙ ap (λ (k : ℕ). drop k (x ∷ xs)) e

-- one more that ended, and as many are kept
pub retained-more : (ended : List Ended) (r : Ended) → retained (retained ended ++ r ∷ []) ≡ retained (ended ++ r ∷ [])
retained-more ended r =
    let k : ℕ = length ended - 4096 in
    let long : length (drop k ended ++ r ∷ []) ≡ length ended - k + 1 = omega (arith, length-append (drop k ended) (r ∷ []), length-drop k ended) in
    let j : ℕ = length (drop k ended ++ r ∷ []) - 4096 in
    let i : ℕ = length (ended ++ r ∷ []) - 4096 in
    let within : j ≤ length (drop k ended) = omega (arith, length-append (drop k ended) (r ∷ []), length-drop k ended) in
    let low : i ≤ length ended = omega (arith, length-append ended (r ∷ [])) in
    let sum : j + k ≡ i = omega (arith, length-append (drop k ended) (r ∷ []), length-drop k ended, length-append ended (r ∷ [])) in
    drop-append-le j (drop k ended) (r ∷ []) within
    ∙ ap (λ (z : List Ended). z ++ r ∷ []) (drop-drop j k ended ∙ ap (λ (n : ℕ). drop n ended) sum)
    ∙ sym (drop-append-le i ended (r ∷ []) low)

-- what stands of those that ended is as it was
pub took-less : (more : ℕ) (ended : List Ended) (r : Ended) → more ≤ length ended → take (length (ended ++ r ∷ []) - (more + 1)) (ended ++ r ∷ []) ≡ take (length ended - more) ended
took-less more ended r h =
    let same : length (ended ++ r ∷ []) - (more + 1) ≡ length ended - more = omega (arith, length-append ended (r ∷ [])) in
    ap (λ (n : ℕ). take n (ended ++ r ∷ [])) same ∙ take-append-le (length ended - more) ended (r ∷ []) (omega arith)

pub dropped-more : (more : ℕ) (ended : List Ended) (r : Ended) → more ≤ length ended → drop (length (ended ++ r ∷ []) - (more + 1)) (ended ++ r ∷ []) ≡ drop (length ended - more) ended ++ r ∷ []
dropped-more more ended r h =
    let same : length (ended ++ r ∷ []) - (more + 1) ≡ length ended - more = omega (arith, length-append ended (r ∷ [])) in
    ap (λ (n : ℕ). drop n (ended ++ r ∷ [])) same ∙ drop-append-le (length ended - more) ended (r ∷ []) (omega arith)

-- Looking.

none-drop : (id k : ℕ) (ended : List Ended) → row_of (λ e. e.id) id ended ≡ None → row_of (λ e. e.id) id (drop k ended) ≡ None
none-drop id zero ended e = e
none-drop id (suc k) [] e = refl
none-drop id (suc k) (x ∷ ended) e = none-drop id k ended (grind arith)

-- of those that are kept one is found, unless it is among those before
pub row_of-drop : (id k : ℕ) (ended : List Ended) → are_distinct (λ e. e.id) ended ≡ true → row_of (λ e. e.id) id (drop k ended) ≡ (if list_any (λ e. e.id == id) (take k ended) then None else row_of (λ e. e.id) id ended)
row_of-drop id zero ended once = refl
row_of-drop id (suc k) [] once = refl
row_of-drop id (suc k) (x ∷ ended) once = by_id (x.id == id) refl (row_of-drop id k ended (grind arith))
  where
    by_id : (b : Bool) → (x.id == id) ≡ b → row_of (λ e. e.id) id (drop k ended) ≡ (if list_any (λ e. e.id == id) (take k ended) then None else row_of (λ e. e.id) id ended) → row_of (λ e. e.id) id (drop k ended) ≡ (if list_any (λ e. e.id == id) (take (suc k) (x ∷ ended)) then None else row_of (λ e. e.id) id (x ∷ ended))
    by_id true e rest = grind (arith, nat_tests, none-drop id k ended)
    by_id false e rest = grind (arith, nat_tests)

stands-given : (given id : ℕ) (es : List (ℕ × Standing)) (v : Standing) → are_minted given es ≡ true → standing_at id es ≡ Some v → (id == 0 || nat_le (given + 1) id) ≡ false
stands-given given id [] v minted there = cc
stands-given given id ((x, y) ∷ es) v minted there = grind (arith, nat_tests, stands-given given id es v)

pub looked-ahead : (given id : ℕ) (es : List (ℕ × Standing)) (ended : List Ended) (s : Option Standing) → IsTied es ended → standing_at id es ≡ s → looked_up (ahead_of given es ended) id ≡ looked_among (ahead_of given es ended) id (live_by id s) (if list_any (λ e. e.id == id) (take (length ended - 4096) ended) then None else ended_by id s)
looked-ahead given id es ended s h there =
    ap (λ (l : Option LiveId). looked_among (ahead_of given es ended) id l (row_of (λ e. e.id) id (retained ended))) (row_of-live_of id es h.rising ∙ ap (λ (x : Option Standing). live_by id x) there)
    ∙ ap (λ (e : Option Ended). looked_among (ahead_of given es ended) id (live_by id s) e)
    (row_of-drop id (length ended - 4096) ended h.once ∙ ap (λ (e : Option Ended). if list_any (λ e. e.id == id) (take (length ended - 4096) ended) then None else e) (h.tied id ∙ ap (λ (x : Option Standing). ended_by id x) there))

pub looked-live : (given id : ℕ) (es : List (ℕ × Standing)) (ended : List Ended) (kind : ObjectKind) → IsTied es ended → standing_at id es ≡ Some (Live kind) → looked.Live kind ≡ looked_up (ahead_of given es ended) id
looked-live given id es ended kind h there = sym (looked-ahead given id es ended (Some (Live kind)) h there)

by_over : (given id : ℕ) (es : List (ℕ × Standing)) (ended : List Ended) (kind : ObjectKind) (last : Last) (b : Bool) → (id == 0 || nat_le (given + 1) id) ≡ false → (if b then looked.Recycled else looked.Ended kind last) ≡ looked_among (ahead_of given es ended) id None (if b then None else Some (record { id = id; kind = kind; last = last }))
by_over given id es ended kind last true e = rw e refl
by_over given id es ended kind last false e = refl

pub looked-over : (given id : ℕ) (es : List (ℕ × Standing)) (ended : List Ended) (kind : ObjectKind) (last : Last) (b : Bool) → IsTied es ended → are_minted given es ≡ true → standing_at id es ≡ Some (Over kind last) → list_any (λ e. e.id == id) (take (length ended - 4096) ended) ≡ b → (if b then looked.Recycled else looked.Ended kind last) ≡ looked_up (ahead_of given es ended) id
looked-over given id es ended kind last b h minted there over =
    by_over given id es ended kind last b (stands-given given id es (Over kind last) minted there)
    ∙ sym (looked-ahead given id es ended (Some (Over kind last)) h there ∙ ap (λ (b : Bool). looked_among (ahead_of given es ended) id None (if b then None else Some (record { id = id; kind = kind; last = last }))) over)

no-none : (b : Bool) → if◌then◌else◌ {A = Option Ended} b None None ≡ None
no-none true = refl
no-none false = refl

pub looked-none : (given id : ℕ) (es : List (ℕ × Standing)) (ended : List Ended) → IsTied es ended → standing_at id es ≡ None → (if id == 0 || nat_le (given + 1) id then looked.Never else looked.Recycled) ≡ looked_up (ahead_of given es ended) id
looked-none given id es ended h there =
    sym (looked-ahead given id es ended None h there ∙ ap (λ (e : Option Ended). looked_among (ahead_of given es ended) id None e) (no-none (list_any (λ e. e.id == id) (take (length ended - 4096) ended))))

-- What stands where nothing is ahead, and after an id was given out.

take-whole : {A : Type 0} (xs : List A) → take (length xs) xs ≡ xs
take-whole [] = refl
take-whole {A = A} (x ∷ xs) = ap (λ (ys : List A). x ∷ ys) (take-whole xs)

drop-whole : {A : Type 0} (xs : List A) → drop (length xs) xs ≡ []
drop-whole [] = refl
drop-whole (x ∷ xs) = drop-whole xs

pub take-all : {A : Type 0} (xs : List A) → take (length xs - 0) xs ≡ xs
take-all xs =
    let e : length xs - 0 ≡ length xs = omega arith in
    ap (λ (n : ℕ). take n xs) e ∙ take-whole xs

pub drop-all : {A : Type 0} (xs : List A) → drop (length xs - 0) xs ≡ []
drop-all xs =
    let e : length xs - 0 ≡ length xs = omega arith in
    ap (λ (n : ℕ). drop n xs) e ∙ drop-whole xs

-- as many as are kept are all
pub quiet-retained : (ended : List Ended) → length ended ≤ 4096 → retained ended ≡ ended
quiet-retained ended few =
    let e : length ended - 4096 ≡ 0 = omega arith in
    ap (λ (n : ℕ). drop n ended) e

not-fresh : (fresh : Bool) (given : ℕ) → (if fresh then given else given + 1) ≡ given + 1 → fresh ≡ false
not-fresh true given e = absurd (omega arith)
not-fresh false given e = refl

pub minted-stood : (fresh : Bool) (more given : ℕ) (es : List (ℕ × Standing)) (ended : List Ended) (kind : ObjectKind) → (if fresh then given else given + 1) ≡ given + 1 → are_minted given es ≡ true → stood true more (given + 1) (insert_entry nat_cmp es (given + 1) (Live kind)) ended ≡ stood fresh more given es ended
minted-stood fresh more given es ended kind once minted =
    rw (not-fresh fresh given once, remove-insert given es (Live kind) minted) refl

-- An end.

pub table-ended : (fresh : Bool) (more given id : ℕ) (es : List (ℕ × Standing)) (ended : List Ended) (kind : ObjectKind) (last : Last) → IsTable fresh more given es ended → standing_at id es ≡ Some (Live kind) → IsTable fresh (more + 1) given (set_value (is_at (nat_cmp id)) es (Over kind last)) (ended ++ record { id = id; kind = kind; last = last } ∷ [])
table-ended fresh more given id es ended kind last h there =
    let r : Ended = record { id = id; kind = kind; last = last } in
    record {
      standings = ended-tied id es ended kind last h.standings there;
      minted = are_minted-set_value given id es (Over kind last) ∙ h.minted;
      since = omega (arith, length-append ended (r ∷ []), h.since);
      few = omega (arith, length-append ended (r ∷ []), h.few);
      last = λ e. ((h.last e).0, ap (λ (z : List Ended). row_of (λ e. e.id) given z) (took-less more ended r h.since) ∙ (h.last e).1);
    }

pub ended-stood : (fresh : Bool) (more given id : ℕ) (es : List (ℕ × Standing)) (ended : List Ended) (kind : ObjectKind) (last : Last) → IsTable fresh more given es ended → standing_at id es ≡ Some (Live kind) → stood fresh (more + 1) given (set_value (is_at (nat_cmp id)) es (Over kind last)) (ended ++ record { id = id; kind = kind; last = last } ∷ []) ≡ stood fresh more given es ended
ended-stood fresh more given id es ended kind last h there =
    let r : Ended = record { id = id; kind = kind; last = last } in
    rw (took-less more ended r h.since, dropped-more more ended r h.since, ended-revived fresh given id es (drop (length ended - more) ended) kind last h.standings.rising there) refl

pub ended-ahead : (given id : ℕ) (es : List (ℕ × Standing)) (ended : List Ended) (kind : ObjectKind) (last : Last) → IsTied es ended → standing_at id es ≡ Some (Live kind) → ahead_of given (set_value (is_at (nat_cmp id)) es (Over kind last)) (ended ++ record { id = id; kind = kind; last = last } ∷ []) ≡ ended_with id last (ahead_of given es ended)
ended-ahead given id es ended kind last h there =
    let r : Ended = record { id = id; kind = kind; last = last } in
    let t : Ids = ahead_of given es ended in
    let named : live_at t id ≡ Some (record { id = id; kind = kind }) = row_of-live_of id es h.rising ∙ ap (λ (x : Option Standing). live_by id x) there in
    ap (λ (ls : List LiveId). record { next = given + 1; live = ls; ended = retained (ended ++ r ∷ []) }) (live_of-set_value id es kind kind last h.rising there)
    ∙ ap (λ (es : List Ended). record t { live = without (λ l. l.id) id t.live; ended = es }) (sym (retained-more ended r))
    ∙ sym (ap (λ (l : Option LiveId). ended_among id last t l) named)

-- Taking back, one after the other.

revived-append : (xs ys : List Ended) (es : List (ℕ × Standing)) → revived (xs ++ ys) es ≡ revived xs (revived ys es)
revived-append [] ys es = refl
revived-append (x ∷ xs) ys es = ap (λ (z : List (ℕ × Standing)). set_value (is_at (nat_cmp x.id)) z (Live x.kind)) (revived-append xs ys es)

take-take : {A : Type 0} (k n : ℕ) (xs : List A) → k ≤ n → take k (take n xs) ≡ take k xs
take-take zero n xs h = refl
take-take (suc k) zero xs h = absurd (omega arith)
take-take (suc k) (suc n) [] h = refl
take-take {A = A} (suc k) (suc n) (x ∷ xs) h = ap (λ (ys : List A). x ∷ ys) (take-take k n xs (omega arith))

split-drop : {A : Type 0} (k n : ℕ) (xs : List A) → k ≤ n → n ≤ length xs → drop k (take n xs) ++ drop n xs ≡ drop k xs
split-drop {A = A} k n xs h l =
    let within : k ≤ length (take n xs) = omega (arith, length-take n xs) in
    sym (drop-append-le k (take n xs) (drop n xs) within) ∙ ap (λ (ys : List A). drop k ys) (take-append-drop n xs)

pub revived-more : (i more : ℕ) (ended : List Ended) (es : List (ℕ × Standing)) → i < more → more ≤ length ended → revived (drop (length (take (length ended - i) ended) - 1) (take (length ended - i) ended)) (revived (drop (length ended - i) ended) es) ≡ revived (drop (length ended - (i + 1)) ended) es
revived-more i more ended es h l =
    let n : ℕ = length ended - i in
    let long : length (take n ended) - 1 ≡ length ended - (i + 1) = omega (arith, length-take n ended) in
    ap (λ (k : ℕ). revived (drop k (take n ended)) (revived (drop n ended) es)) long
    ∙ sym (revived-append (drop (length ended - (i + 1)) (take n ended)) (drop n ended) es)
    ∙ ap (λ (rs : List Ended). revived rs es) (split-drop (length ended - (i + 1)) n ended (omega arith) (omega arith))

pub taken-more : (i more : ℕ) (ended : List Ended) → i < more → more ≤ length ended → take (length (take (length ended - i) ended) - 1) (take (length ended - i) ended) ≡ take (length ended - (i + 1)) ended
taken-more i more ended h l =
    let n : ℕ = length ended - i in
    let long : length (take n ended) - 1 ≡ length ended - (i + 1) = omega (arith, length-take n ended) in
    ap (λ (k : ℕ). take k (take n ended)) long ∙ take-take (length ended - (i + 1)) n ended (omega arith)

pub drop-one-more : {A : Type 0} (n : ℕ) (xs : List A) → 4096 ≤ n → drop 1 (drop (n - 4096) xs) ≡ drop (n + 1 - 4096) xs
drop-one-more n xs h =
    let e : 1 + (n - 4096) ≡ n + 1 - 4096 = omega arith in
    drop-drop 1 (n - 4096) xs ∙ ap (λ (k : ℕ). drop k xs) e

-- A table that is taken back.

pub few-taken : (more : ℕ) (ended : List Ended) → length ended ≤ 4096 + more → length (take (length ended - more) ended) ≤ 4096
few-taken more ended few = omega (arith, length-take (length ended - more) ended)

pub table-revived : (more given : ℕ) (es : List (ℕ × Standing)) (ended : List Ended) → IsTable false more given es ended → IsTied (revived (drop (length ended - more) ended) es) (take (length ended - more) ended) → IsTable false 0 given (revived (drop (length ended - more) ended) es) (take (length ended - more) ended)
table-revived more given es ended h tied = record {
  standings = tied;
  minted = are_minted-revived given (drop (length ended - more) ended) es ∙ h.minted;
  since = omega arith;
  few = omega (arith, few-taken more ended h.few);
  last = λ e. absurd cc;
}

pub table-unminted : (more given : ℕ) (es : List (ℕ × Standing)) (ended : List Ended) → IsTable true more given es ended → IsTied (revived (drop (length ended - more) ended) es) (take (length ended - more) ended) → IsTable false 0 (given - 1) (remove_entry (is_at (nat_cmp given)) (revived (drop (length ended - more) ended) es)) (take (length ended - more) ended)
table-unminted more given es ended h tied =
    let es' : List (ℕ × Standing) = revived (drop (length ended - more) ended) es in
    let rs : List Ended = take (length ended - more) ended in
    record {
      standings = record {
        rising = rising-remove_entry given es' tied.rising;
        tied = λ q. kept q (q == given) refl ∙ sym (ap (λ (s : Option Standing). ended_by q s) (standing_at-remove_entry q given es' tied.rising));
        once = tied.once;
      };
      minted = are_minted-less given es' tied.rising (are_minted-revived given (drop (length ended - more) ended) es ∙ h.minted);
      since = omega arith;
      few = omega (arith, few-taken more ended h.few);
      last = λ e. absurd cc;
    }
  where
    kept : (q : ℕ) (b : Bool) → (q == given) ≡ b → row_of (λ e. e.id) q (take (length ended - more) ended) ≡ ended_by q (if b then None else standing_at q (revived (drop (length ended - more) ended) es))
    kept q true e = grind (arith, nat_tests, (h.last refl).1)
    kept q false e = tied.tied q

stands-alike : (given : ℕ) (es : List (ℕ × Standing)) (ended : List Ended) → length ended ≤ 4096 → stood false 0 given es ended ≡ ahead_of given es ended
stands-alike given es ended few = rw (drop-all ended, take-all ended, quiet-retained ended few) refl

pub revived-view : (more given : ℕ) (es : List (ℕ × Standing)) (ended : List Ended) → IsTable false more given es ended → ahead_of given (revived (drop (length ended - more) ended) es) (take (length ended - more) ended) ≡ stood false more given es ended
revived-view more given es ended h = rw (quiet-retained (take (length ended - more) ended) (few-taken more ended h.few)) refl

pub unminted-view : (more given : ℕ) (es : List (ℕ × Standing)) (ended : List Ended) → IsTable true more given es ended → ahead_of (given - 1) (remove_entry (is_at (nat_cmp given)) (revived (drop (length ended - more) ended) es)) (take (length ended - more) ended) ≡ stood true more given es ended
unminted-view more given es ended h =
    let next : given - 1 + 1 ≡ given = omega (arith, (h.last refl).0) in
    rw (quiet-retained (take (length ended - more) ended) (few-taken more ended h.few), remove-revived given (drop (length ended - more) ended) es h.standings.rising, next) refl

-- A table that stands has one view.
pub same-view : (given : ℕ) (es : List (ℕ × Standing)) (ended : List Ended) (t : Ids) → length ended ≤ 4096 → ahead_of given es ended ≡ t → record { list = stood false 0 given es ended; ahead = ahead_of given es ended } ≡ settled t
same-view given es ended t few e = rw (stands-alike given es ended few) (ap settled e)
