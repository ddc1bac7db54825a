-- What each change of the tuples leaves, and what takes it back.
use Rattle.std.proofs.Common.{◌≡◌, ◌∙◌, ℕ, Bool, true, false, List, [], ◌∷◌, ◌++◌, map, length, Option, Some, None, refl, sym, ap, arith}
use Rattle.std.specs.Prelude.{not, ◌||◌, ◌==◌}
use Rattle.std.specs.Option.{option_map}
use Rattle.rinda_rules.proofs.Lists.{rising-filter}
use Rattle.std.specs.List.{list_all, list_any}
use Rattle.std.proofs.lemmas.Bool.Decides.{nat_tests}
use Rattle.rinda_tuple.specs.declared.tuple.Template.{Template}
use Rattle.rinda_rules.specs.declared.plain.Entry.{Entry}
use Rattle.rinda_rules.specs.Rows.{row_of, changed, rising}
use Rattle.rinda_bag.specs.declared.change.Standing.{Standing}
use Rattle.drb_tree.specs.declared.Remote.{Remote}
use Rattle.rinda_rules.specs.Phases.{held_by, doubt_tuple}
use Rattle.rinda_rules.specs.Cases.{renewed_tuple}
use Rattle.rinda_bag.specs.Changes.{stood, marked, let_go, asked}
use Rattle.rinda_bag.specs.Wanted.{is_wanted, least_wanted, all_wanted}
use Rattle.rinda_tables.specs.declared.tuples.Step.{Step}
use Rattle.rinda_tables.specs.declared.tuples.Step.TheVariants as step
use Rattle.rinda_tables.specs.Undoing.{Tupled, settled, Keeps, IsTupled, is_in, left, below, undo, undone, noted, standing_of, any_added, are_marked}
use Rattle.rinda_tables.proofs.Gone.{left-none, find-left, filter-left, left-append, in-last, rising-last, without-last, below-changed, rising-changed, changed-back, changed-absent, any-changed}

-- Steps.

pub undone-append : (xs ys : List Step) (rows : List Entry) → undone (xs ++ ys) rows ≡ undone xs (undone ys rows)
undone-append [] ys rows = refl
undone-append (x ∷ xs) ys rows = ap (λ (z : List Entry). undo x z) (undone-append xs ys rows)

added-append : (xs ys : List Step) → any_added (xs ++ ys) ≡ (any_added xs || any_added ys)
added-append [] ys = refl
added-append (x ∷ xs) ys = grind (arith, added-append xs ys)

-- Changes that keep a row.

-- It keeps the id, it keeps a mark, and what stood before takes it back.
pub record Changes (f : Entry → Entry) : Type 0 where
  pub id : (t : Entry) → (f t).id ≡ t.id
  pub marked : (t : Entry) → t.marked ≡ true → (f t).marked ≡ true
  pub back : (t : Entry) → stood (standing_of t) (f t) ≡ t

noted-changed : (id : ℕ) (f : Entry → Entry) (steps : List Step) (rows : List Entry) (o : Option Entry) → Changes f → rising (λ t. t.id) rows ≡ true → row_of (λ t. t.id) id rows ≡ o → undone (noted id o steps) (changed (λ t. t.id) id f rows) ≡ undone steps rows
noted-changed id f steps rows None k up there = ap (λ (z : List Entry). undone steps z) (changed-absent (λ t. t.id) id f rows there)
noted-changed id f steps rows (Some t) k up there =
    undone-append steps (step.Stood id (standing_of t) ∷ []) (changed (λ t. t.id) id f rows)
    ∙ ap (λ (z : List Entry). undone steps z) (changed-back (λ t. t.id) id f (stood (standing_of t)) rows t k.id up there (k.back t))

noted-added : (id : ℕ) (steps : List Step) (o : Option Entry) → any_added (noted id o steps) ≡ any_added steps
noted-added id steps None = refl
noted-added id steps (Some t) = grind (arith, added-append steps (step.Stood id (standing_of t) ∷ []))

-- what stands is as it was
pub keeps-changed : (id : ℕ) (f : Entry → Entry) (steps : List Step) (rows ahead : List Entry) → Changes f → rising (λ t. t.id) rows ≡ true → (old : Tupled) → undone steps rows ≡ old.list → any_added steps ≡ old.added → Keeps old (record { list = undone (noted id (row_of (λ t. t.id) id rows) steps) (changed (λ t. t.id) id f rows); ahead = ahead; added = any_added (noted id (row_of (λ t. t.id) id rows) steps) })
keeps-changed id f steps rows ahead k up old list added = record {
  list = noted-changed id f steps rows (row_of (λ t. t.id) id rows) k up refl ∙ list;
  added = noted-added id steps (row_of (λ t. t.id) id rows) ∙ added;
}

marked-changed : (gone : List ℕ) (id : ℕ) (f : Entry → Entry) (rows : List Entry) → Changes f → are_marked gone rows ≡ true → are_marked gone (changed (λ t. t.id) id f rows) ≡ true
marked-changed gone id f [] k e = refl
marked-changed gone id f (t ∷ rows) k e = grind (arith, nat_tests, k.id t, k.marked t, marked-changed gone id f rows k)

there-changed : (gone : List ℕ) (id : ℕ) (f : Entry → Entry) (rows : List Entry) → Changes f → list_all (λ q. list_any (λ t. t.id == q) rows) gone ≡ true → list_all (λ q. list_any (λ t. t.id == q) (changed (λ t. t.id) id f rows)) gone ≡ true
there-changed [] id f rows k e = refl
there-changed (g ∷ gone) id f rows k e = grind (arith, any-changed (λ t. t.id) g id f rows k.id, there-changed gone id f rows k)

pub tupled-changed : (id : ℕ) (f : Entry → Entry) (steps : List Step) (stands : ℕ) (gone : List ℕ) (rows : List Entry) → Changes f → IsTupled stands steps gone rows → IsTupled stands (noted id (row_of (λ t. t.id) id rows) steps) gone (changed (λ t. t.id) id f rows)
tupled-changed id f steps stands gone rows k h = record {
  rise = rising-changed (λ t. t.id) id f rows k.id h.rise;
  marked = marked-changed gone id f rows k h.marked;
  there = there-changed gone id f rows k h.there;
  counted = h.counted ∙ ap (λ (z : List Entry). length z) (sym (noted-changed id f steps rows (row_of (λ t. t.id) id rows) k h.rise refl));
}

-- The changes of the rules.

pub changes-hold : (request : ℕ) → Changes (held_by request)
changes-hold request = record { id = λ t. refl; marked = λ t m. m; back = λ t. refl }

pub changes-release : Changes let_go
changes-release = record { id = λ t. refl; marked = λ t m. m; back = λ t. refl }

pub changes-mark : Changes marked
changes-mark = record { id = λ t. refl; marked = λ t m. refl; back = λ t. refl }

pub changes-renew : (deadline : Option ℕ) (renewer : Option Remote) → Changes (renewed_tuple deadline renewer)
changes-renew deadline renewer = record { id = λ t. refl; marked = λ t m. m; back = λ t. refl }

pub changes-doubt : Changes doubt_tuple
changes-doubt = record { id = λ t. refl; marked = λ t m. m; back = λ t. refl }

pub changes-ask : Changes asked
changes-ask = record { id = λ t. refl; marked = λ t m. m; back = λ t. refl }

-- Taking out.

marked-more : (gone : List ℕ) (id : ℕ) (rows : List Entry) → are_marked gone rows ≡ true → are_marked (gone ++ id ∷ []) (changed (λ t. t.id) id marked rows) ≡ true
marked-more gone id [] e = refl
marked-more gone id (t ∷ rows) e = grind (arith, nat_tests, in-last gone id t.id, marked-more gone id rows)

there-more : (gone : List ℕ) (id : ℕ) (rows : List Entry) → list_all (λ q. list_any (λ t. t.id == q) rows) gone ≡ true → list_any (λ t. t.id == id) rows ≡ true → list_all (λ q. list_any (λ t. t.id == q) rows) (gone ++ id ∷ []) ≡ true
there-more [] id rows e f = grind (arith, nat_tests)
there-more (g ∷ gone) id rows e f = grind (arith, nat_tests, there-more gone id rows)

pub any_there : (id : ℕ) (rows : List Entry) (t : Entry) → row_of (λ t. t.id) id rows ≡ Some t → list_any (λ t. t.id == id) rows ≡ true
any_there id [] t e = cc
any_there id (x ∷ rows) t e = grind (arith, nat_tests, any_there id rows t)

pub tupled-taken : (id : ℕ) (steps : List Step) (stands : ℕ) (gone : List ℕ) (rows : List Entry) → list_any (λ t. t.id == id) rows ≡ true → IsTupled stands steps gone rows → IsTupled stands (noted id (row_of (λ t. t.id) id rows) steps) (gone ++ id ∷ []) (changed (λ t. t.id) id marked rows)
tupled-taken id steps stands gone rows some h = record {
  rise = rising-changed (λ t. t.id) id marked rows (λ t. refl) h.rise;
  marked = marked-more gone id rows h.marked;
  there = there-changed (gone ++ id ∷ []) id marked rows changes-mark (there-more gone id rows h.there some);
  counted = h.counted ∙ ap (λ (z : List Entry). length z) (sym (noted-changed id marked steps rows (row_of (λ t. t.id) id rows) changes-mark h.rise refl));
}

-- Adding.

stood-id : (standing : Standing) (t : Entry) → (stood standing t).id ≡ t.id
stood-id standing t = refl

below-undone : (n : ℕ) (steps : List Step) (rows : List Entry) → any_added steps ≡ false → below (λ t. t.id) n (undone steps rows) ≡ below (λ t. t.id) n rows
below-undone n [] rows e = refl
below-undone n (step.Added id ∷ steps) rows e = cc
below-undone n (step.Stood id standing ∷ steps) rows e = below-changed (λ t. t.id) n id (stood standing) (undone steps rows) (stood-id standing) ∙ below-undone n steps rows (grind arith)

pub below-all : (n : ℕ) (steps : List Step) (rows list : List Entry) → undone steps rows ≡ list → any_added steps ≡ false → below (λ t. t.id) n list ≡ true → below (λ t. t.id) n rows ≡ true
below-all n steps rows list is none low = sym (below-undone n steps rows none) ∙ ap (λ (z : List Entry). below (λ t. t.id) n z) is ∙ low

not_there : (id q : ℕ) (rows : List Entry) → below (λ t. t.id) id rows ≡ true → list_any (λ t. t.id == q) rows ≡ true → (q == id) ≡ false
not_there id q [] low any = cc
not_there id q (x ∷ rows) low any = grind (arith, nat_tests, not_there id q rows)

new-id : (id : ℕ) (gone : List ℕ) (rows : List Entry) → below (λ t. t.id) id rows ≡ true → list_all (λ q. list_any (λ t. t.id == q) rows) gone ≡ true → is_in gone id ≡ false
new-id id [] rows low e = refl
new-id id (g ∷ gone) rows low e = grind (arith, nat_tests, not_there id g rows, new-id id gone rows)

new-left : (gone : List ℕ) (t : Entry) → is_in gone t.id ≡ false → left (λ t. t.id) gone (t ∷ []) ≡ t ∷ []
new-left gone t e = grind arith

pub left-new : (gone : List ℕ) (rows : List Entry) (t : Entry) → below (λ t. t.id) t.id rows ≡ true → list_all (λ q. list_any (λ t. t.id == q) rows) gone ≡ true → left (λ t. t.id) gone (rows ++ t ∷ []) ≡ left (λ t. t.id) gone rows ++ t ∷ []
left-new gone rows t low there = left-append (λ t. t.id) gone rows (t ∷ []) ∙ ap (λ (z : List Entry). left (λ t. t.id) gone rows ++ z) (new-left gone t (new-id t.id gone rows low there))

marked-new : (gone : List ℕ) (rows : List Entry) (t : Entry) → is_in gone t.id ≡ false → are_marked gone rows ≡ true → are_marked gone (rows ++ t ∷ []) ≡ true
marked-new gone [] t new e = grind arith
marked-new gone (x ∷ rows) t new e = grind (arith, marked-new gone rows t)

any-append : (q : ℕ) (rows more : List Entry) → list_any (λ t. t.id == q) (rows ++ more) ≡ (list_any (λ t. t.id == q) rows || list_any (λ t. t.id == q) more)
any-append q [] more = refl
any-append q (x ∷ rows) more = grind (arith, any-append q rows more)

there-new : (gone : List ℕ) (rows : List Entry) (t : Entry) → list_all (λ q. list_any (λ t. t.id == q) rows) gone ≡ true → list_all (λ q. list_any (λ t. t.id == q) (rows ++ t ∷ [])) gone ≡ true
there-new [] rows t e = refl
there-new (g ∷ gone) rows t e = grind (arith, any-append g rows (t ∷ []), there-new gone rows t)

pub undone-added : (steps : List Step) (rows : List Entry) (t : Entry) → below (λ t. t.id) t.id rows ≡ true → undone (steps ++ step.Added t.id ∷ []) (rows ++ t ∷ []) ≡ undone steps rows
undone-added steps rows t low = undone-append steps (step.Added t.id ∷ []) (rows ++ t ∷ []) ∙ ap (λ (z : List Entry). undone steps z) (without-last (λ t. t.id) rows t low)

pub tupled-added : (steps : List Step) (stands : ℕ) (gone : List ℕ) (rows : List Entry) (t : Entry) → below (λ t. t.id) t.id rows ≡ true → IsTupled stands steps gone rows → IsTupled stands (steps ++ step.Added t.id ∷ []) gone (rows ++ t ∷ [])
tupled-added steps stands gone rows t low h = record {
  rise = rising-last (λ t. t.id) rows t h.rise low;
  marked = marked-new gone rows t (new-id t.id gone rows low h.there) h.marked;
  there = there-new gone rows t h.there;
  counted = h.counted ∙ ap (λ (z : List Entry). length z) (sym (undone-added steps rows t low));
}

-- Searching.

unwanted : (gone : List ℕ) (now : ℕ) (free : Bool) (pattern : Template) (rows : List Entry) → are_marked gone rows ≡ true → list_all (λ t. not (is_in gone t.id) || not (is_wanted now free pattern t)) rows ≡ true
unwanted gone now free pattern [] e = refl
unwanted gone now free pattern (t ∷ rows) e = grind (arith, unwanted gone now free pattern rows)

pub find-ahead : (gone : List ℕ) (now : ℕ) (free : Bool) (pattern : Template) (rows : List Entry) → are_marked gone rows ≡ true → least_wanted now free pattern rows ≡ least_wanted now free pattern (left (λ t. t.id) gone rows)
find-ahead gone now free pattern rows e = ap (λ (o : Option Entry). option_map (λ t. t.id) o) (find-left (λ t. t.id) gone (is_wanted now free pattern) rows (unwanted gone now free pattern rows e))

pub find-all-ahead : (gone : List ℕ) (now : ℕ) (pattern : Template) (rows : List Entry) → are_marked gone rows ≡ true → all_wanted now pattern rows ≡ all_wanted now pattern (left (λ t. t.id) gone rows)
find-all-ahead gone now pattern rows e = ap (λ (ts : List Entry). map (λ t. t.id) ts) (filter-left (λ t. t.id) gone (is_wanted now false pattern) rows (unwanted gone now false pattern rows e))

-- Standing.

none-marked : (rows : List Entry) → are_marked [] rows ≡ true
none-marked [] = refl
none-marked (t ∷ rows) = none-marked rows

pub tupled-settled : (rows : List Entry) (stands : ℕ) → stands ≡ length rows → rising (λ t. t.id) rows ≡ true → IsTupled stands [] [] rows
tupled-settled rows stands count up = record { rise = up; marked = none-marked rows; there = refl; counted = count }

pub view-settled : (rows list : List Entry) → rows ≡ list → record { list = rows; ahead = left (λ t. t.id) [] rows; added = false } ≡ settled list
view-settled rows list e = ap (λ (z : List Entry). record { list = rows; ahead = z; added = false }) (left-none (λ t. t.id) rows) ∙ ap settled e

pub rising-undone : (steps : List Step) (rows : List Entry) → rising (λ t. t.id) rows ≡ true → rising (λ t. t.id) (undone steps rows) ≡ true
rising-undone [] rows up = up
rising-undone (step.Added id ∷ steps) rows up = rising-filter (λ t. t.id) (λ t. not (t.id == id)) (undone steps rows) (rising-undone steps rows up)
rising-undone (step.Stood id standing ∷ steps) rows up = rising-changed (λ t. t.id) id (stood standing) (undone steps rows) (stood-id standing) (rising-undone steps rows up)
