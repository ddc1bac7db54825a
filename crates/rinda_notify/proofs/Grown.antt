-- Notifiers that the steps of a turn may have changed for those who wait for their events.
use Rattle.std.proofs.Common.{◌≡◌, ◌∙◌, ℕ, Bool, true, false, List, [], ◌∷◌, ◌++◌, Option, Some, None, refl, sym, ap, arith}
use Rattle.std.specs.Prelude.{◌||◌, ◌==◌, if◌then◌else◌}
use Rattle.std.specs.Option.{option_map}
use Rattle.std.proofs.lemmas.Bool.Decides.{nat_tests}
use Rattle.drb_tree.specs.declared.Tree.{Tree}
use Rattle.rinda_notify.specs.declared.note.Note.{Note}
use Rattle.rinda_notify.specs.declared.step.Standing.{Standing as Stance}
use Rattle.rinda_notify.specs.declared.step.Step.{Step}
use Rattle.rinda_notify.specs.declared.step.Step.TheVariants as step
use Rattle.rinda_notify.specs.Notes.{note_at, with_note, without_note, is_open}
use Rattle.rinda_notify.specs.Undoing.{is_in, left, undone, shortened, given_back, stood, changed_ids}
use Rattle.rinda_notify.specs.Changed.{has_changed, NamesChanged}
use Rattle.rinda_notify.proofs.Gone.{row-left}

-- the note with an id, where one was changed or left

note-changed : (q id : ℕ) (f : Note → Note) (ns : List Note) → ((n : Note) → (f n).id ≡ n.id) → note_at id (with_note q f ns) ≡ (if id == q then option_map f (note_at id ns) else note_at id ns)
note-changed q id f [] keeps = grind (arith, nat_tests)
note-changed q id f (n ∷ ns) keeps = grind (arith, nat_tests, keeps n, note-changed q id f ns keeps)

note-without : (q id : ℕ) (ns : List Note) → note_at id (without_note q ns) ≡ (if id == q then None else note_at id ns)
note-without q id [] = grind (arith, nat_tests)
note-without q id (n ∷ ns) = grind (arith, nat_tests, note-without q id ns)

-- what stood before a step has no more grown to what came than what stood after it

event-given : (event : Tree) (before after : Option Note) → has_changed before after ≡ false → has_changed (option_map (given_back event) before) after ≡ false
event-given event None after e = refl
event-given event (Some n) None e = grind arith
event-given event (Some n) (Some m) e = grind (arith, nat_tests)

closed-before : (standing : Stance) (before after : Option Note) → is_open standing.state ≡ false → has_changed (option_map (stood standing) before) after ≡ false
closed-before standing None after e = refl
closed-before standing (Some n) after e = grind arith

pub unnamed-undone : (id : ℕ) (steps : List Step) (rows : List Note) (after : Option Note) → has_changed (note_at id rows) after ≡ false → is_in (changed_ids steps) id ≡ false → has_changed (note_at id (undone steps rows)) after ≡ false
unnamed-undone id [] rows after same none = same
unnamed-undone id (step.Event q ∷ steps) rows after same none =
    grind (arith, nat_tests, note-changed q id shortened (undone steps rows) (λ n. refl), unnamed-undone id steps rows after same)
unnamed-undone id (step.Popped q event ∷ steps) rows after same none =
    grind (arith, nat_tests, note-changed q id (given_back event) (undone steps rows) (λ n. refl), event-given event (note_at id (undone steps rows)) after, unnamed-undone id steps rows after same)
unnamed-undone id (step.Stood q standing ∷ steps) rows after same none =
    by_state (is_open standing.state) refl (unnamed-undone id steps rows after same)
  where
    by_state : (b : Bool) → is_open standing.state ≡ b → (is_in (changed_ids steps) id ≡ false → has_changed (note_at id (undone steps rows)) after ≡ false) → has_changed (note_at id (undone (step.Stood q standing ∷ steps) rows)) after ≡ false
    by_state true e rest = grind (arith, nat_tests, note-changed q id (stood standing) (undone steps rows) (λ n. refl), rest)
    by_state false e rest = grind (arith, nat_tests, note-changed q id (stood standing) (undone steps rows) (λ n. refl), closed-before standing (note_at id (undone steps rows)) after, rest)
unnamed-undone id (step.Started q ∷ steps) rows after same none =
    grind (arith, nat_tests, note-without q id (undone steps rows), unnamed-undone id steps rows after same)

-- nothing has changed where nothing was done
unchanged : (o : Option Note) → has_changed o o ≡ false
unchanged None = refl
unchanged (Some n) = grind (arith, nat_tests)

pub in-append : (xs ys : List ℕ) (id : ℕ) → is_in (xs ++ ys) id ≡ (is_in xs id || is_in ys id)
in-append [] ys id = refl
in-append (x ∷ xs) ys id = grind (arith, in-append xs ys id)

unnamed : (id : ℕ) (steps : List Step) (gone : List ℕ) (rows : List Note) → is_in (changed_ids steps ++ gone) id ≡ false → has_changed (note_at id (undone steps rows)) (note_at id (left gone rows)) ≡ false
unnamed id steps gone rows none =
    let apart : (is_in (changed_ids steps) id || is_in gone id) ≡ false = sym (in-append (changed_ids steps) gone id) ∙ none in
    let kept : is_in gone id ≡ false = grind (arith, apart) in
    let unstepped : is_in (changed_ids steps) id ≡ false = grind (arith, apart) in
    let same : note_at id rows ≡ note_at id (left gone rows) = row-left gone id rows kept in
    unnamed-undone id steps rows (note_at id (left gone rows)) (ap (λ (o : Option Note). has_changed o (note_at id (left gone rows))) same ∙ unchanged (note_at id (left gone rows))) unstepped

-- those that the steps name, and those that are gone, are all that have changed
pub names-changed : (steps : List Step) (gone : List ℕ) (rows : List Note) (ids : List ℕ) → ids ≡ changed_ids steps ++ gone → NamesChanged (record { list = undone steps rows; ahead = left gone rows }) ids
names-changed steps gone rows ids are id e = by_test (is_in ids id) refl
  where
    by_test : (b : Bool) → is_in ids id ≡ b → is_in ids id ≡ true
    by_test true t = t
    by_test false f =
        let not_so : has_changed (note_at id (undone steps rows)) (note_at id (left gone rows)) ≡ false = unnamed id steps gone rows (ap (λ (xs : List ℕ). is_in xs id) (sym are) ∙ f) in
        cc
