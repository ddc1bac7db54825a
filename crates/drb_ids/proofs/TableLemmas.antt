-- What each change of a table leaves.
use Rattle.std.proofs.Common.{length-append, take, zero, suc, ◌≡◌, ◌∙◌, ℕ, ◌+◌, ◌-◌, ◌<◌, Bool, true, false, List, [], ◌∷◌, ◌++◌, Option, Some, None, Result, Ok, Err, is_ok, IsOk, length, refl, sym, ap, arith}
use Rattle.std.specs.Prelude.{◌==◌, if◌then◌else◌}
use Rattle.std.specs.Map.{remove_entry, set_value}
use Rattle.std.specs.BTreeMap.{is_at, insert_entry}
use Rattle.std.specs.Ordering.{nat_cmp}
use Rattle.std.proofs.lemmas.Bool.Decides.{nat_tests}
use Rattle.rinda_rules.specs.declared.object.ObjectKind.{ObjectKind}
use Rattle.rinda_rules.specs.declared.object.Last.{Last}
use Rattle.rinda_rules.specs.declared.plain.Ended.{Ended}
use Rattle.rinda_rules.specs.Rows.{row_of, rising}
use Rattle.drb_ids.specs.declared.object.LiveId.{LiveId}
use Rattle.drb_ids.specs.declared.object.Standing.{Standing}
use Rattle.drb_ids.specs.declared.object.Standing.TheVariants.{Live, Ended as Over}
use Rattle.drb_ids.specs.Standings.{live_of, standing_at, live_by, kind_by, ended_by, are_minted, IsTied, HasRoom, IsTable}
use Rattle.drb_ids.proofs.StandingLists.{row_of-live_of, insert_entry-last, live_of-last, ended_by-last, are_minted-last, rising-last, standing_at-set_value, rising-set_value, standing_at-remove_entry, rising-remove_entry, length-remove_entry, remove_entry-no-more, row_of-last, are_distinct-last}

-- Minting.

not-yet : (given : ℕ) (es : List (ℕ × Standing)) → are_minted given es ≡ true → standing_at (given + 1) es ≡ None
not-yet given [] e = refl
not-yet given (x ∷ es) e = grind (arith, nat_tests, not-yet given es)

-- an id that did not end has no record among any of those that did
pub row_of-take : (id n : ℕ) (ended : List Ended) → row_of (λ e. e.id) id ended ≡ None → row_of (λ e. e.id) id (take n ended) ≡ None
row_of-take id zero ended e = refl
row_of-take id (suc n) [] e = refl
row_of-take id (suc n) (x ∷ ended) e = grind (arith, nat_tests, row_of-take id n ended)

pub table-minted : (fresh : Bool) (more given : ℕ) (es : List (ℕ × Standing)) (ended : List Ended) (kind : ObjectKind) → IsTable fresh more given es ended → IsTable true more (given + 1) (insert_entry nat_cmp es (given + 1) (Live kind)) ended
table-minted fresh more given es ended kind h = rw (insert_entry-last given es (Live kind) h.minted) (record {
  standings = record {
    rising = rising-last given es (Live kind) h.minted h.standings.rising;
    tied = λ id. h.standings.tied id ∙ sym (ended_by-last id es (given + 1) kind);
    once = h.standings.once;
  };
  minted = are_minted-last given es (Live kind) h.minted;
  since = h.since;
  few = h.few;
  last = λ e. (omega arith, row_of-take (given + 1) (length ended - more) ended (h.standings.tied (given + 1) ∙ ap (λ (s : Option Standing). ended_by (given + 1) s) (not-yet given es h.minted)));
})

pub live_of-minted : (given : ℕ) (es : List (ℕ × Standing)) (kind : ObjectKind) → are_minted given es ≡ true → live_of (insert_entry nat_cmp es (given + 1) (Live kind)) ≡ live_of es ++ record { id = given + 1; kind = kind } ∷ []
live_of-minted given es kind h = rw (insert_entry-last given es (Live kind) h) (live_of-last es (given + 1) kind)

pub room-minted : (given : ℕ) (es : List (ℕ × Standing)) (v : Standing) (room : ℕ) → are_minted given es ≡ true → HasRoom 1 es room → HasRoom 0 (insert_entry nat_cmp es (given + 1) v) room
room-minted given es v room h some = rw (insert_entry-last given es v h) (omega (arith, some, length-append es ((given + 1, v) ∷ [])))

-- Forgetting.

pub room-removed : (id : ℕ) (es : List (ℕ × Standing)) (room : ℕ) → HasRoom 0 es room → HasRoom 0 (remove_entry (is_at (nat_cmp id)) es) room
room-removed id es room some = omega (arith, some, remove_entry-no-more id es)

-- who is among those that ended stands so
over_by : (id : ℕ) (s : Option Standing) (r : Ended) → ended_by id s ≡ Some r → s ≡ Some (Over r.kind r.last)
over_by id None r e = cc
over_by id (Some (Live kind)) r e = cc
over_by id (Some (Over kind last)) r e = grind arith

row_of-first : (o : Ended) (rest : List Ended) → row_of (λ e. e.id) o.id (o ∷ rest) ≡ Some o
row_of-first o rest = grind (arith, nat_tests)

pub oldest-stands : (es : List (ℕ × Standing)) (o : Ended) (rest : List Ended) → IsTied es (o ∷ rest) → standing_at o.id es ≡ Some (Over o.kind o.last)
oldest-stands es o rest h = over_by o.id (standing_at o.id es) o (sym (h.tied o.id) ∙ row_of-first o rest)

still-tied : (q : ℕ) (es : List (ℕ × Standing)) (o : Ended) (rest : List Ended) (b : Bool) → (q == o.id) ≡ b → IsTied es (o ∷ rest) → row_of (λ e. e.id) q rest ≡ ended_by q (if b then None else standing_at q es)
still-tied q es o rest true e h = grind (arith, nat_tests, h.once)
still-tied q es o rest false e h = grind (arith, nat_tests, h.tied q)

pub forgotten : (es : List (ℕ × Standing)) (o : Ended) (rest : List Ended) → IsTied es (o ∷ rest) → IsTied (remove_entry (is_at (nat_cmp o.id)) es) rest
forgotten es o rest h = record {
  rising = rising-remove_entry o.id es h.rising;
  tied = λ q. still-tied q es o rest (q == o.id) refl h ∙ sym (ap (λ (s : Option Standing). ended_by q s) (standing_at-remove_entry q o.id es h.rising));
  once = grind (arith, h.once);
}

-- Ending.

pub live-stands : (id : ℕ) (s : Option Standing) (kind : ObjectKind) → kind_by s ≡ Some kind → s ≡ Some (Live kind)
live-stands id None kind e = cc
live-stands id (Some (Live k)) kind e = grind arith
live-stands id (Some (Over k l)) kind e = cc

live_by-stands : (id : ℕ) (s : Option Standing) (l : LiveId) → live_by id s ≡ Some l → s ≡ Some (Live l.kind)
live_by-stands id None l e = cc
live_by-stands id (Some (Live k)) l e = grind arith
live_by-stands id (Some (Over k last)) l e = cc

new-tied : (q id : ℕ) (kind : ObjectKind) (last : Last) (s : Option Standing) (e : Option Ended) (b : Bool) → (q == id) ≡ b → e ≡ ended_by q s → (if b then Some (record { id = id; kind = kind; last = last }) else e) ≡ ended_by q (if b then Some (Over kind last) else s)
new-tied q id kind last s e true test same = grind (arith, nat_tests)
new-tied q id kind last s e false test same = same

pub ended-tied : (id : ℕ) (es : List (ℕ × Standing)) (ended : List Ended) (kind : ObjectKind) (last : Last) → IsTied es ended → standing_at id es ≡ Some (Live kind) → IsTied (set_value (is_at (nat_cmp id)) es (Over kind last)) (ended ++ record { id = id; kind = kind; last = last } ∷ [])
ended-tied id es ended kind last h there =
    let r : Ended = record { id = id; kind = kind; last = last } in
    let new : row_of (λ e. e.id) id ended ≡ None = h.tied id ∙ ap (λ (s : Option Standing). ended_by id s) there in
    record {
      rising = rising-set_value id es (Over kind last) ∙ h.rising;
      tied = λ q.
          row_of-last q ended r new
          ∙ new-tied q id kind last (standing_at q es) (row_of (λ e. e.id) q ended) (q == id) refl (h.tied q)
          ∙ sym (ap (λ (s : Option Standing). ended_by q s) (standing_at-set_value q id es (Live kind) (Over kind last) there));
      once = are_distinct-last ended r new h.once;
    }

-- who is live did not end
apart : (id : ℕ) (es : List (ℕ × Standing)) (o : Ended) (kind : ObjectKind) (b : Bool) → (id == o.id) ≡ b → standing_at id es ≡ Some (Live kind) → standing_at o.id es ≡ Some (Over o.kind o.last) → b ≡ false
apart id es o kind true e live over = grind (arith, nat_tests)
apart id es o kind false e live over = refl

-- fewer have ended than stand, where one is live
pub fewer-ended : (id : ℕ) (es : List (ℕ × Standing)) (ended : List Ended) (kind : ObjectKind) → IsTied es ended → standing_at id es ≡ Some (Live kind) → length ended < length es
fewer-ended id [] [] kind h there = cc
fewer-ended id (x ∷ es) [] kind h there = omega arith
fewer-ended id es (o ∷ rest) kind h there =
    let over : standing_at o.id es ≡ Some (Over o.kind o.last) = oldest-stands es o rest h in
    let still : standing_at id (remove_entry (is_at (nat_cmp o.id)) es) ≡ Some (Live kind) =
    standing_at-remove_entry id o.id es h.rising
    ∙ ap (λ (b : Bool). if b then None else standing_at id es) (apart id es o kind (id == o.id) refl there over)
    ∙ there in
    omega (arith, fewer-ended id (remove_entry (is_at (nat_cmp o.id)) es) rest kind (forgotten es o rest h) still, length-remove_entry o.id es (Over o.kind o.last) over)

-- what was pushed is there, where that went well
pub pushed : {A B : Type 0} (r : Result A B) (more ended new : List Ended) → new ≡ (if is_ok r then more else ended) → IsOk r → new ≡ more
pushed (Ok a) more ended new e ok = e
pushed (Err b) more ended new e ok = absurd cc

-- What an end leaves.

none-live : (id : ℕ) (s : Option Standing) → kind_by s ≡ None → live_by id s ≡ None
none-live id None e = refl
none-live id (Some (Live k)) e = cc
none-live id (Some (Over k l)) e = refl

-- who is not live has no end
pub not-live : (id : ℕ) (es : List (ℕ × Standing)) → rising (λ e. e.0) es ≡ true → kind_by (standing_at id es) ≡ None → row_of (λ l. l.id) id (live_of es) ≡ None
not-live id es up none = row_of-live_of id es up ∙ none-live id (standing_at id es) none
