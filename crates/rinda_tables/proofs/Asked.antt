-- What each change of the requests leaves, and what takes it back.
use Rattle.std.proofs.Common.{◌≡◌, ◌∙◌, ℕ, Bool, true, false, List, [], ◌∷◌, ◌++◌, map, length, Option, Some, refl, sym, ap, arith}
use Rattle.std.specs.Prelude.{not, ◌&&◌, ◌||◌, ◌==◌, nat_lt, filter, if◌then◌else◌}
use Rattle.std.specs.Option.{option_map}
use Rattle.std.specs.List.{list_all, list_any}
use Rattle.std.proofs.lemmas.Bool.Decides.{nat_tests}
use Rattle.rinda_tuple.specs.declared.tuple.Tuple.{Tuple}
use Rattle.rinda_rules.specs.declared.plain.Request.{Request}
use Rattle.rinda_rules.specs.declared.out.Out.TheVariants as out
use Rattle.rinda_rules.specs.declared.row.RequestState.{RequestState}
use Rattle.rinda_rules.specs.declared.row.RequestState.TheVariants.{Reserved, Parked, Granted, Answered}
use Rattle.rinda_rules.specs.Rows.{row_of, changed, rising}
use Rattle.rinda_rules.specs.Space.{is_reserved, is_parked}
use Rattle.rinda_rules.specs.Phases.{in_state, doubt_request}
use Rattle.rinda_rules.specs.Cases.{renewed_request, shut_request}
use Rattle.drb_tree.specs.declared.Remote.{Remote}
use Rattle.rinda_rules.proofs.Lists.{rising-filter, rising-map}
use Rattle.rinda_wait.specs.Waiting.{is_open, open_ids, reads, takes, readers_of, taker_of, canceled, asked, marked_as, doubted_as, leased, state_or, renewer_or}
use Rattle.rinda_tables.specs.declared.requests.Step.{Step}
use Rattle.rinda_tables.specs.declared.requests.Step.TheVariants as step
use Rattle.rinda_tables.specs.Undoing.{is_in, left, below}
use Rattle.rinda_tables.specs.Asking.{Requested, settled, Keeps, IsRequested, undo, undone, adds, any_added, are_hidden, are_there, deadline_of, mark_of, doubt_of, reserved_in, parked_in, changed_each}
use Rattle.rinda_tables.proofs.Gone.{left-none, find-left, filter-left, left-append, in-last, rising-last, without-last, below-changed, rising-changed, none-above, changed-undone, changed-alike, any-changed}

-- Steps.

pub undone-append : (xs ys : List Step) (rows : List Request) → undone (xs ++ ys) rows ≡ undone xs (undone ys rows)
undone-append [] ys rows = refl
undone-append (x ∷ xs) ys rows = ap (λ (z : List Request). undo x z) (undone-append xs ys rows)

added-last : (xs : List Step) (s : Step) → adds s ≡ false → any_added (xs ++ s ∷ []) ≡ any_added xs
added-last [] s e = grind arith
added-last (x ∷ xs) s e = grind (arith, added-last xs s)

-- Changes that keep a request.

-- a step that takes a change back, for the request that it changed
pub record Backs (s : Step) (id : ℕ) (f g : Request → Request) (rows : List Request) : Type 0 where
  pub keeps : (r : Request) → (f r).id ≡ r.id
  pub undoes : (xs : List Request) → undo s xs ≡ changed (λ r. r.id) id g xs
  pub none : adds s ≡ false
  pub back : (r : Request) → row_of (λ r. r.id) id rows ≡ Some r → g (f r) ≡ r

pub undone-changed : (s : Step) (id : ℕ) (f g : Request → Request) (steps : List Step) (rows : List Request) → Backs s id f g rows → rising (λ r. r.id) rows ≡ true → undone (steps ++ s ∷ []) (changed (λ r. r.id) id f rows) ≡ undone steps rows
undone-changed s id f g steps rows k up =
    undone-append steps (s ∷ []) (changed (λ r. r.id) id f rows)
    ∙ ap (undone steps) (k.undoes (changed (λ r. r.id) id f rows) ∙ changed-undone (λ r. r.id) id f g rows k.keeps up k.back)

-- what stands is as it was
pub keeps-changed : (s : Step) (id : ℕ) (f g : Request → Request) (steps : List Step) (rows ahead : List Request) → Backs s id f g rows → rising (λ r. r.id) rows ≡ true → (old : Requested) → undone steps rows ≡ old.list → any_added steps ≡ old.added → Keeps old (record { list = undone (steps ++ s ∷ []) (changed (λ r. r.id) id f rows); ahead = ahead; added = any_added (steps ++ s ∷ []) })
keeps-changed s id f g steps rows ahead k up old list added = record {
  list = undone-changed s id f g steps rows k up ∙ list;
  added = added-last steps s k.none ∙ added;
}

-- The changes of the rules.

abbrev pub found : ℕ → List Request → Option Request
found id rows = row_of (λ r. r.id) id rows

pub backs-set : (id : ℕ) (state : RequestState) (rows : List Request) → Backs (step.State id (state_or state (found id rows))) id (in_state state) (in_state (state_or state (found id rows))) rows
backs-set id state rows = record {
  keeps = λ r. refl;
  undoes = λ xs. refl;
  none = refl;
  back = λ r e. ap (λ (o : Option Request). in_state (state_or state o) (in_state state r)) e;
}

pub backs-mark : (id : ℕ) (rows : List Request) → Backs (step.Marked id (mark_of (found id rows))) id canceled (marked_as (mark_of (found id rows))) rows
backs-mark id rows = record {
  keeps = λ r. refl;
  undoes = λ xs. refl;
  none = refl;
  back = λ r e. ap (λ (o : Option Request). marked_as (mark_of o) (canceled r)) e;
}

pub backs-renew : (id : ℕ) (deadline : Option ℕ) (renewer : Option Remote) (rows : List Request) → Backs (step.Leased id (deadline_of (found id rows)) (renewer_or renewer (found id rows)) (doubt_of (found id rows))) id (renewed_request deadline renewer) (leased (deadline_of (found id rows)) (renewer_or renewer (found id rows)) (doubt_of (found id rows))) rows
backs-renew id deadline renewer rows = record {
  keeps = λ r. refl;
  undoes = λ xs. refl;
  none = refl;
  back = λ r e. ap (λ (o : Option Request). leased (deadline_of o) (renewer_or renewer o) (doubt_of o) (renewed_request deadline renewer r)) e;
}

pub backs-doubt : (id : ℕ) (rows : List Request) → Backs (step.Doubted id (doubt_of (found id rows))) id doubt_request (doubted_as (doubt_of (found id rows))) rows
backs-doubt id rows = record {
  keeps = λ r. refl;
  undoes = λ xs. refl;
  none = refl;
  back = λ r e. ap (λ (o : Option Request). doubted_as (doubt_of o) (doubt_request r)) e;
}

pub backs-ask : (id : ℕ) (rows : List Request) → Backs (step.Doubted id (doubt_of (found id rows))) id asked (doubted_as (doubt_of (found id rows))) rows
backs-ask id rows = record {
  keeps = λ r. refl;
  undoes = λ xs. refl;
  none = refl;
  back = λ r e. ap (λ (o : Option Request). doubted_as (doubt_of o) (asked r)) e;
}

hidden-changed : (gone : List ℕ) (id : ℕ) (f : Request → Request) (rows : List Request) → ((r : Request) → (f r).id ≡ r.id) → ((r : Request) → is_in gone r.id ≡ true → is_reserved r.state ≡ true → r.id ≡ id → is_reserved (f r).state ≡ true) → are_hidden gone rows ≡ true → are_hidden gone (changed (λ r. r.id) id f rows) ≡ true
hidden-changed gone id f [] keeps hides e = refl
hidden-changed gone id f (r ∷ rows) keeps hides e = by_tests (is_in gone r.id) (is_reserved r.state) (r.id == id) refl refl refl (hidden-changed gone id f rows keeps hides)
  where
    same : (n m : ℕ) → (n == m) ≡ true → n ≡ m
    same n m e = grind (arith, nat_tests)

    by_tests : (a b c : Bool) → is_in gone r.id ≡ a → is_reserved r.state ≡ b → (r.id == id) ≡ c → (are_hidden gone rows ≡ true → are_hidden gone (changed (λ r. r.id) id f rows) ≡ true) → are_hidden gone (changed (λ r. r.id) id f (r ∷ rows)) ≡ true
    by_tests true true true x y z rest = grind (arith, nat_tests, keeps r, hides r x y (same r.id id z), rest)
    by_tests a b c x y z rest = grind (arith, nat_tests, keeps r, rest)

there-changed : (gone : List ℕ) (id : ℕ) (f : Request → Request) (rows : List Request) → ((r : Request) → (f r).id ≡ r.id) → are_there gone rows ≡ true → are_there gone (changed (λ r. r.id) id f rows) ≡ true
there-changed [] id f rows keeps e = refl
there-changed (g ∷ gone) id f rows keeps e = grind (arith, any-changed (λ r. r.id) g id f rows keeps, there-changed gone id f rows keeps)

-- a change that leaves each state as it is
pub requested-changed : (s : Step) (id : ℕ) (f g : Request → Request) (stands : ℕ) (steps : List Step) (gone : List ℕ) (rows : List Request) → Backs s id f g rows → ((r : Request) → (f r).state ≡ r.state) → IsRequested stands steps gone rows → IsRequested stands (steps ++ s ∷ []) gone (changed (λ r. r.id) id f rows)
requested-changed s id f g stands steps gone rows k stays h = record {
  rise = rising-changed (λ r. r.id) id f rows k.keeps h.rise;
  hidden = hidden-changed gone id f rows k.keeps (λ r a b c. ap is_reserved (stays r) ∙ b) h.hidden;
  there = there-changed gone id f rows k.keeps h.there;
  counted = h.counted ∙ ap (λ (z : List Request). length z) (sym (undone-changed s id f g steps rows k h.rise));
}

no-both : (a : Bool) → a ≡ true → a ≡ false → (b : Bool) → b ≡ true
no-both a e f b = cc

-- a change of a request that is not gone
pub requested-set : (s : Step) (id : ℕ) (f g : Request → Request) (stands : ℕ) (steps : List Step) (gone : List ℕ) (rows : List Request) → Backs s id f g rows → is_in gone id ≡ false → IsRequested stands steps gone rows → IsRequested stands (steps ++ s ∷ []) gone (changed (λ r. r.id) id f rows)
requested-set s id f g stands steps gone rows k new h = record {
  rise = rising-changed (λ r. r.id) id f rows k.keeps h.rise;
  hidden = hidden-changed gone id f rows k.keeps (λ r a b c. no-both (is_in gone id) (sym (ap (is_in gone) c) ∙ a) new (is_reserved (f r).state)) h.hidden;
  there = there-changed gone id f rows k.keeps h.there;
  counted = h.counted ∙ ap (λ (z : List Request). length z) (sym (undone-changed s id f g steps rows k h.rise));
}

-- Taking out.

hidden-more : (gone : List ℕ) (id : ℕ) (rows : List Request) → are_hidden gone rows ≡ true → are_hidden (gone ++ id ∷ []) (changed (λ r. r.id) id (in_state Reserved) rows) ≡ true
hidden-more gone id [] e = refl
hidden-more gone id (r ∷ rows) e = grind (arith, nat_tests, in-last gone id r.id, hidden-more gone id rows)

there-more : (gone : List ℕ) (id : ℕ) (rows : List Request) → are_there gone rows ≡ true → list_any (λ r. r.id == id) rows ≡ true → are_there (gone ++ id ∷ []) rows ≡ true
there-more [] id rows e f = grind (arith, nat_tests)
there-more (g ∷ gone) id rows e f = grind (arith, nat_tests, there-more gone id rows)

pub any_there : (id : ℕ) (rows : List Request) (r : Request) → row_of (λ r. r.id) id rows ≡ Some r → list_any (λ r. r.id == id) rows ≡ true
any_there id [] r e = cc
any_there id (x ∷ rows) r e = grind (arith, nat_tests, any_there id rows r)

pub requested-taken : (id stands : ℕ) (steps : List Step) (gone : List ℕ) (rows : List Request) → list_any (λ r. r.id == id) rows ≡ true → IsRequested stands steps gone rows → IsRequested stands (steps ++ step.State id (state_or Reserved (found id rows)) ∷ []) (gone ++ id ∷ []) (changed (λ r. r.id) id (in_state Reserved) rows)
requested-taken id stands steps gone rows some h = record {
  rise = rising-changed (λ r. r.id) id (in_state Reserved) rows (λ r. refl) h.rise;
  hidden = hidden-more gone id rows h.hidden;
  there = there-changed (gone ++ id ∷ []) id (in_state Reserved) rows (λ r. refl) (there-more gone id rows h.there some);
  counted = h.counted ∙ ap (λ (z : List Request). length z) (sym (undone-changed _ id (in_state Reserved) _ steps rows (backs-set id Reserved rows) h.rise));
}

-- Adding.

below-undone : (n : ℕ) (steps : List Step) (rows : List Request) → any_added steps ≡ false → below (λ r. r.id) n (undone steps rows) ≡ below (λ r. r.id) n rows
below-undone n [] rows e = refl
below-undone n (step.Added id ∷ steps) rows e = cc
below-undone n (step.State id state ∷ steps) rows e = below-changed (λ r. r.id) n id (in_state state) (undone steps rows) (λ r. refl) ∙ below-undone n steps rows (grind arith)
below-undone n (step.Marked id marked ∷ steps) rows e = below-changed (λ r. r.id) n id (marked_as marked) (undone steps rows) (λ r. refl) ∙ below-undone n steps rows (grind arith)
below-undone n (step.Leased id deadline renewer doubt ∷ steps) rows e = below-changed (λ r. r.id) n id (leased deadline renewer doubt) (undone steps rows) (λ r. refl) ∙ below-undone n steps rows (grind arith)
below-undone n (step.Doubted id doubt ∷ steps) rows e = below-changed (λ r. r.id) n id (doubted_as doubt) (undone steps rows) (λ r. refl) ∙ below-undone n steps rows (grind arith)

pub below-all : (n : ℕ) (steps : List Step) (rows list : List Request) → undone steps rows ≡ list → any_added steps ≡ false → below (λ r. r.id) n list ≡ true → below (λ r. r.id) n rows ≡ true
below-all n steps rows list is none low = sym (below-undone n steps rows none) ∙ ap (below (λ (r : Request). r.id) n) is ∙ low

not_there : (id q : ℕ) (rows : List Request) → below (λ r. r.id) id rows ≡ true → list_any (λ r. r.id == q) rows ≡ true → (q == id) ≡ false
not_there id q [] low any = cc
not_there id q (x ∷ rows) low any = grind (arith, nat_tests, not_there id q rows)

new-id : (id : ℕ) (gone : List ℕ) (rows : List Request) → below (λ r. r.id) id rows ≡ true → are_there gone rows ≡ true → is_in gone id ≡ false
new-id id [] rows low e = refl
new-id id (g ∷ gone) rows low e = grind (arith, nat_tests, not_there id g rows, new-id id gone rows)

new-left : (gone : List ℕ) (r : Request) → is_in gone r.id ≡ false → left (λ r. r.id) gone (r ∷ []) ≡ r ∷ []
new-left gone r e = grind arith

pub left-new : (gone : List ℕ) (rows : List Request) (r : Request) → below (λ r. r.id) r.id rows ≡ true → are_there gone rows ≡ true → left (λ r. r.id) gone (rows ++ r ∷ []) ≡ left (λ r. r.id) gone rows ++ r ∷ []
left-new gone rows r low there = left-append (λ r. r.id) gone rows (r ∷ []) ∙ ap (λ (z : List Request). left (λ r. r.id) gone rows ++ z) (new-left gone r (new-id r.id gone rows low there))

hidden-new : (gone : List ℕ) (rows : List Request) (r : Request) → is_in gone r.id ≡ false → are_hidden gone rows ≡ true → are_hidden gone (rows ++ r ∷ []) ≡ true
hidden-new gone [] r new e = grind arith
hidden-new gone (x ∷ rows) r new e = grind (arith, hidden-new gone rows r)

any-append : (q : ℕ) (rows more : List Request) → list_any (λ r. r.id == q) (rows ++ more) ≡ (list_any (λ r. r.id == q) rows || list_any (λ r. r.id == q) more)
any-append q [] more = refl
any-append q (x ∷ rows) more = grind (arith, any-append q rows more)

there-new : (gone : List ℕ) (rows : List Request) (r : Request) → are_there gone rows ≡ true → are_there gone (rows ++ r ∷ []) ≡ true
there-new [] rows r e = refl
there-new (g ∷ gone) rows r e = grind (arith, any-append g rows (r ∷ []), there-new gone rows r)

pub undone-added : (steps : List Step) (rows : List Request) (r : Request) → below (λ r. r.id) r.id rows ≡ true → undone (steps ++ step.Added r.id ∷ []) (rows ++ r ∷ []) ≡ undone steps rows
undone-added steps rows r low = undone-append steps (step.Added r.id ∷ []) (rows ++ r ∷ []) ∙ ap (undone steps) (without-last (λ r. r.id) rows r low)

pub requested-added : (stands : ℕ) (steps : List Step) (gone : List ℕ) (rows : List Request) (r : Request) → below (λ r. r.id) r.id rows ≡ true → IsRequested stands steps gone rows → IsRequested stands (steps ++ step.Added r.id ∷ []) gone (rows ++ r ∷ [])
requested-added stands steps gone rows r low h = record {
  rise = rising-last (λ r. r.id) rows r h.rise low;
  hidden = hidden-new gone rows r (new-id r.id gone rows low h.there) h.hidden;
  there = there-new gone rows r h.there;
  counted = h.counted ∙ ap (λ (z : List Request). length z) (sym (undone-added steps rows r low));
}

-- Searching.

pub never-parked : (state : RequestState) → is_reserved state ≡ true → is_parked state ≡ false
never-parked Reserved e = refl
never-parked Parked e = cc
never-parked (Granted tuple) e = cc
never-parked (Answered out) e = cc

pub unread : (gone : List ℕ) (tuple : Tuple) (rows : List Request) → are_hidden gone rows ≡ true → list_all (λ r. not (is_in gone r.id) || not (reads tuple r)) rows ≡ true
unread gone tuple [] e = refl
unread gone tuple (r ∷ rows) e = grind (arith, never-parked r.state, unread gone tuple rows)

pub untaken : (gone : List ℕ) (tuple : Tuple) (rows : List Request) → are_hidden gone rows ≡ true → list_all (λ r. not (is_in gone r.id) || not (takes tuple r)) rows ≡ true
untaken gone tuple [] e = refl
untaken gone tuple (r ∷ rows) e = grind (arith, never-parked r.state, untaken gone tuple rows)

pub taker-ahead : (gone : List ℕ) (tuple : Tuple) (rows : List Request) → are_hidden gone rows ≡ true → taker_of tuple rows ≡ taker_of tuple (left (λ r. r.id) gone rows)
taker-ahead gone tuple rows e = ap (option_map (λ (r : Request). r.id)) (find-left (λ r. r.id) gone (takes tuple) rows (untaken gone tuple rows e))

pub readers-ahead : (gone : List ℕ) (tuple : Tuple) (rows : List Request) → are_hidden gone rows ≡ true → readers_of tuple rows ≡ readers_of tuple (left (λ r. r.id) gone rows)
readers-ahead gone tuple rows e = ap (map (λ (r : Request). r.id)) (filter-left (λ r. r.id) gone (reads tuple) rows (unread gone tuple rows e))

-- Standing.

none-hidden : (rows : List Request) → are_hidden [] rows ≡ true
none-hidden [] = refl
none-hidden (r ∷ rows) = none-hidden rows

pub requested-settled : (rows : List Request) (stands : ℕ) → stands ≡ length rows → rising (λ r. r.id) rows ≡ true → IsRequested stands [] [] rows
requested-settled rows stands count up = record { rise = up; hidden = none-hidden rows; there = refl; counted = count }

pub view-settled : (rows list : List Request) → rows ≡ list → record { list = rows; ahead = left (λ r. r.id) [] rows; added = false } ≡ settled list
view-settled rows list e = ap (λ (z : List Request). record { list = rows; ahead = z; added = false }) (left-none (λ r. r.id) rows) ∙ ap settled e

pub rising-undone : (steps : List Step) (rows : List Request) → rising (λ r. r.id) rows ≡ true → rising (λ r. r.id) (undone steps rows) ≡ true
rising-undone [] rows up = up
rising-undone (step.Added id ∷ steps) rows up = rising-filter (λ r. r.id) (λ r. not (r.id == id)) (undone steps rows) (rising-undone steps rows up)
rising-undone (step.State id state ∷ steps) rows up = rising-changed (λ r. r.id) id (in_state state) (undone steps rows) (λ r. refl) (rising-undone steps rows up)
rising-undone (step.Marked id marked ∷ steps) rows up = rising-changed (λ r. r.id) id (marked_as marked) (undone steps rows) (λ r. refl) (rising-undone steps rows up)
rising-undone (step.Leased id deadline renewer doubt ∷ steps) rows up = rising-changed (λ r. r.id) id (leased deadline renewer doubt) (undone steps rows) (λ r. refl) (rising-undone steps rows up)
rising-undone (step.Doubted id doubt ∷ steps) rows up = rising-changed (λ r. r.id) id (doubted_as doubt) (undone steps rows) (λ r. refl) (rising-undone steps rows up)

-- Shutting.

pub shut-keeps : (r : Request) → (shut_request r).id ≡ r.id
shut-keeps r = by (is_reserved r.state) (is_parked r.state)
  where
    by : (a b : Bool) → (if a then record r { marked = true } else (if b then in_state (Answered out.Canceled) r else r)).id ≡ r.id
    by true b = refl
    by false true = refl
    by false false = refl

shut-hides : (r : Request) → is_reserved r.state ≡ true → is_reserved (shut_request r).state ≡ true
shut-hides r e = by (is_reserved r.state) (is_parked r.state) e
  where
    by : (a b : Bool) → a ≡ true → is_reserved (if a then record r { marked = true } else (if b then in_state (Answered out.Canceled) r else r)).state ≡ true
    by true b x = e
    by false b x = cc

shut-stays : (r : Request) → is_reserved r.state ≡ false → is_parked r.state ≡ false → shut_request r ≡ r
shut-stays r e f = rw (e, f) refl

shut-reserved : (r : Request) → is_reserved r.state ≡ true → canceled r ≡ shut_request r
shut-reserved r e = rw e refl

shut-parked : (r : Request) → is_reserved r.state ≡ false → is_parked r.state ≡ true → in_state (Answered out.Canceled) r ≡ shut_request r
shut-parked r e f = rw (e, f) refl

pub shut-one-reserved : (id : ℕ) (rows : List Request) → rising (λ r. r.id) rows ≡ true → reserved_in (found id rows) ≡ true → changed (λ r. r.id) id canceled rows ≡ changed (λ r. r.id) id shut_request rows
shut-one-reserved id rows up is = changed-alike (λ r. r.id) id canceled shut_request rows up (λ r e. shut-reserved r (sym (ap reserved_in e) ∙ is))

pub shut-one-parked : (id : ℕ) (rows : List Request) → rising (λ r. r.id) rows ≡ true → reserved_in (found id rows) ≡ false → parked_in (found id rows) ≡ true → changed (λ r. r.id) id (in_state (Answered out.Canceled)) rows ≡ changed (λ r. r.id) id shut_request rows
shut-one-parked id rows up not is = changed-alike (λ r. r.id) id (in_state (Answered out.Canceled)) shut_request rows up (λ r e. shut-parked r (sym (ap reserved_in e) ∙ not) (sym (ap parked_in e) ∙ is))

changed-itself : (id : ℕ) (rows : List Request) → rows ≡ changed (λ r. r.id) id (λ r. r) rows
changed-itself id [] = refl
changed-itself id (r ∷ rows) = grind (arith, nat_tests, changed-itself id rows)

pub shut-one-other : (id : ℕ) (rows : List Request) → rising (λ r. r.id) rows ≡ true → reserved_in (found id rows) ≡ false → parked_in (found id rows) ≡ false → rows ≡ changed (λ r. r.id) id shut_request rows
shut-one-other id rows up a b = changed-itself id rows ∙ changed-alike (λ r. r.id) id (λ r. r) shut_request rows up (λ r e. sym (shut-stays r (sym (ap reserved_in e) ∙ a) (sym (ap parked_in e) ∙ b)))

-- who is before all of them stays
each-behind : (q : Request → Bool) (f : Request → Request) (r : Request) (rows xs : List Request) → list_all (λ y. nat_lt r.id y.id) rows ≡ true → changed_each (map (λ y. y.id) (filter q rows)) f (r ∷ xs) ≡ r ∷ changed_each (map (λ y. y.id) (filter q rows)) f xs
each-behind q f r [] xs later = refl
each-behind q f r (y ∷ rows) xs later = by_test (q y) (λ xs. each-behind q f r rows xs (grind (arith, nat_tests)))
  where
    apart : (n m : ℕ) (b : Bool) → (nat_lt n m && b) ≡ true → (n == m) ≡ false
    apart n m b e = grind (arith, nat_tests)

    by_test : (b : Bool) → ((xs : List Request) → changed_each (map (λ y. y.id) (filter q rows)) f (r ∷ xs) ≡ r ∷ changed_each (map (λ y. y.id) (filter q rows)) f xs) → changed_each (map (λ y. y.id) (if b then y ∷ filter q rows else filter q rows)) f (r ∷ xs) ≡ r ∷ changed_each (map (λ y. y.id) (if b then y ∷ filter q rows else filter q rows)) f xs
    by_test true rest = ap (λ (b : Bool). changed_each (map (λ y. y.id) (filter q rows)) f ((if b then f r else r) ∷ changed (λ r. r.id) y.id f xs)) (apart r.id y.id _ later) ∙ rest (changed (λ r. r.id) y.id f xs)
    by_test false rest = rest xs

-- all that are open are shut, and the others stay
pub shut-open : (rows : List Request) → rising (λ r. r.id) rows ≡ true → changed_each (open_ids rows) shut_request rows ≡ map shut_request rows
shut-open [] up = refl
shut-open (r ∷ rows) up = by_test (is_reserved r.state) (is_parked r.state) refl refl (front _ _ up) (shut-open rows (back _ _ up))
  where
    front : (a b : Bool) → (a && b) ≡ true → a ≡ true
    front a b e = grind arith

    back : (a b : Bool) → (a && b) ≡ true → b ≡ true
    back a b e = grind arith

    above : list_all (λ y. nat_lt r.id y.id) rows ≡ true → list_all (λ y. nat_lt (shut_request r).id y.id) rows ≡ true
    above later = rw (shut-keeps r) later

    here : list_all (λ y. nat_lt r.id y.id) rows ≡ true → changed_each (r.id ∷ open_ids rows) shut_request (r ∷ rows) ≡ changed_each (open_ids rows) shut_request (shut_request r ∷ rows)
    here later = ap (changed_each (open_ids rows) shut_request) (grind (arith, nat_tests, none-above (λ r. r.id) r.id shut_request rows later))

    open_now : (a b : Bool) → (a || b) ≡ true → list_all (λ y. nat_lt r.id y.id) rows ≡ true → changed_each (open_ids rows) shut_request rows ≡ map shut_request rows → changed_each (r.id ∷ open_ids rows) shut_request (r ∷ rows) ≡ map shut_request (r ∷ rows)
    open_now a b o later rest = here later ∙ each-behind is_open shut_request (shut_request r) rows rows (above later) ∙ ap (λ (z : List Request). shut_request r ∷ z) rest

    by_test : (a b : Bool) → is_reserved r.state ≡ a → is_parked r.state ≡ b → list_all (λ y. nat_lt r.id y.id) rows ≡ true → changed_each (open_ids rows) shut_request rows ≡ map shut_request rows → changed_each (map (λ r. r.id) (if a || b then r ∷ filter is_open rows else filter is_open rows)) shut_request (r ∷ rows) ≡ map shut_request (r ∷ rows)
    by_test true b e f later rest = open_now true b refl later rest
    by_test false true e f later rest = open_now false true refl later rest
    by_test false false e f later rest =
        each-behind is_open shut_request r rows rows later
        ∙ ap (λ (z : Request). z ∷ changed_each (open_ids rows) shut_request rows) (sym (shut-stays r e f))
        ∙ ap (λ (z : List Request). shut_request r ∷ z) rest

hidden-shut : (gone : List ℕ) (rows : List Request) → are_hidden gone rows ≡ true → are_hidden gone (map shut_request rows) ≡ true
hidden-shut gone [] e = refl
hidden-shut gone (r ∷ rows) e = by_tests (is_in gone r.id) (is_reserved r.state) refl refl (hidden-shut gone rows)
  where
    by_tests : (a b : Bool) → is_in gone r.id ≡ a → is_reserved r.state ≡ b → (are_hidden gone rows ≡ true → are_hidden gone (map shut_request rows) ≡ true) → are_hidden gone (map shut_request (r ∷ rows)) ≡ true
    by_tests true true x y rest = grind (arith, shut-keeps r, shut-hides r y, rest)
    by_tests a b x y rest = grind (arith, shut-keeps r, rest)

any-shut : (q : ℕ) (rows : List Request) → list_any (λ r. r.id == q) (map shut_request rows) ≡ list_any (λ r. r.id == q) rows
any-shut q [] = refl
any-shut q (r ∷ rows) = grind (arith, shut-keeps r, any-shut q rows)

there-shut : (gone : List ℕ) (rows : List Request) → are_there gone rows ≡ true → are_there gone (map shut_request rows) ≡ true
there-shut [] rows e = refl
there-shut (g ∷ gone) rows e = grind (arith, any-shut g rows, there-shut gone rows)

pub requested-shut : (stands : ℕ) (steps steps' : List Step) (gone : List ℕ) (rows : List Request) → undone steps' (map shut_request rows) ≡ undone steps rows → IsRequested stands steps gone rows → IsRequested stands steps' gone (map shut_request rows)
requested-shut stands steps steps' gone rows back h = record {
  rise = rising-map (λ r. r.id) shut_request rows shut-keeps h.rise;
  hidden = hidden-shut gone rows h.hidden;
  there = there-shut gone rows h.there;
  counted = h.counted ∙ ap (λ (z : List Request). length z) (sym back);
}
