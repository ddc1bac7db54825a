-- A start that stands for a sound space may be the beginning of tables.
use Rattle.std.proofs.Common.{◌≡◌, ◌∙◌, ℕ, ◌+◌, ◌≤◌, Bool, true, false, List, [], ◌∷◌, ◌++◌, map, refl, sym, ap, subst, arith}
use Rattle.std.specs.Prelude.{◌&&◌, nat_lt, nat_le, is_none, length}
use Rattle.std.specs.List.{list_all}
use Rattle.std.proofs.lemmas.Bool.Decides.{nat_tests}
use Rattle.rinda_rules.specs.declared.plain.Entry.{Entry}
use Rattle.rinda_rules.specs.declared.plain.Notifier.{Notifier}
use Rattle.rinda_rules.specs.declared.plain.Raised.{Raised}
use Rattle.rinda_rules.specs.declared.plain.Ended.{Ended}
use Rattle.rinda_rules.specs.declared.start.Start.{Start}
use Rattle.rinda_rules.specs.declared.start.StartNote.{StartNote}
use Rattle.rinda_rules.specs.declared.start.StartLease.{StartLease}
use Rattle.rinda_rules.specs.Rows.{row_of, rising, numbered}
use Rattle.rinda_rules.specs.Space.{Plain}
use Rattle.rinda_rules.specs.Sound.{Sound, named, objects}
use Rattle.rinda_rules.specs.Starts.{StandsFor, Each, NoteMatches}
use Rattle.drb_ids.specs.Ids.{are_given, are_distinct}
use Rattle.rinda_tables.specs.Starting.{live_tuple, live_note, live_in, MayBegin, tuple_by}
use Rattle.rinda_tables.proofs.Started.{all-mapped}

-- Rows of other kinds with the same ids.

rising-mapped : {R S : Type 0} (key : R → ℕ) (key' : S → ℕ) (f : R → S) (xs : List R) → ((x : R) → key' (f x) ≡ key x) → rising key' (map f xs) ≡ rising key xs
rising-mapped key key' f [] keeps = refl
rising-mapped key key' f (x ∷ xs) keeps = rw (keeps x, all-mapped (λ y. nat_lt (key x) (key' y)) f xs, rising-mapped key key' f xs keeps) (ap (λ (b : Bool). b && rising key xs) (later xs))
  where
    later : (ys : List _) → list_all (λ y. nat_lt (key x) (key' (f y))) ys ≡ list_all (λ y. nat_lt (key x) (key y)) ys
    later [] = refl
    later (y ∷ ys) = rw (keeps y, later ys) refl

named-mapped : {R S : Type 0} (key : R → ℕ) (key' : S → ℕ) (f : R → S) (id : ℕ) (xs : List R) → ((x : R) → key' (f x) ≡ key x) → named key' id (map f xs) ≡ named key id xs
named-mapped key key' f id [] keeps = refl
named-mapped key key' f id (x ∷ xs) keeps = grind (arith, nat_tests, keeps x, named-mapped key key' f id xs keeps)

named-both : {R : Type 0} (key : R → ℕ) (id : ℕ) (xs ys : List R) → named key id (xs ++ ys) ≡ named key id xs + named key id ys
named-both key id [] ys = grind (arith, nat_tests)
named-both key id (x ∷ xs) ys = grind (arith, nat_tests, named-both key id xs ys)

-- notifiers and what is stored of them have the same ids
ids-same : (leases : List StartLease) (events : List Raised) (xs : List StartNote) (ns : List Notifier) → Each (NoteMatches leases events) xs ns → map (λ n. n.id) ns ≡ map (λ x. x.row.id) xs
ids-same leases events [] [] m = refl
ids-same leases events (x ∷ xs) [] m = absurd m
ids-same leases events [] (n ∷ ns) m = absurd m
ids-same leases events (x ∷ xs) (n ∷ ns) m = rw ((m.0).id, ids-same leases events xs ns m.1) refl

-- Ids that are counted.

none-named : {R : Type 0} (key : R → ℕ) (id : ℕ) (xs : List R) → named key id xs ≡ 0 → is_none (row_of key id xs) ≡ true
none-named key id [] e = refl
none-named key id (x ∷ xs) e = grind (arith, nat_tests, none-named key id xs)

named-first : {R : Type 0} (key : R → ℕ) (x : R) (xs : List R) → named key (key x) (x ∷ xs) ≡ named key (key x) xs + 1
named-first key x xs = grind (arith, nat_tests)

named-rest : {R : Type 0} (key : R → ℕ) (id : ℕ) (x : R) (xs : List R) → named key id xs ≤ named key id (x ∷ xs)
named-rest key id x xs = grind (arith, nat_tests)

given-named : {R : Type 0} (key : R → ℕ) (next : ℕ) (xs : List R) → named key 0 xs ≡ 0 → ((id : ℕ) → nat_le next id ≡ true → named key id xs ≡ 0) → are_given key next xs ≡ true
given-named key next [] zero above = refl
given-named key next (x ∷ xs) zero above = both (low (key x) refl) (high (nat_lt (key x) next) refl) (given-named key next xs (less (named-rest key 0 x xs) zero) (λ id e. less (named-rest key id x xs) (above id e)))
  where
    less : {a b : ℕ} → a ≤ b → b ≡ 0 → a ≡ 0
    less p e = omega (arith, p, e)

    low : (n : ℕ) → key x ≡ n → nat_lt 0 (key x) ≡ true
    low n e = grind (arith, nat_tests)

    high : (b : Bool) → nat_lt (key x) next ≡ b → nat_lt (key x) next ≡ true
    high true e = e
    high false e = absurd (omega (arith, named-first key x xs, above (key x) (grind (arith, nat_tests))))

    both : nat_lt 0 (key x) ≡ true → nat_lt (key x) next ≡ true → are_given key next xs ≡ true → are_given key next (x ∷ xs) ≡ true
    both a b c = rw (a, b, c) refl

distinct-named : {R : Type 0} (key : R → ℕ) (xs : List R) → ((id : ℕ) → named key id xs ≤ 1) → are_distinct key xs ≡ true
distinct-named key [] once = refl
distinct-named key (x ∷ xs) once = rw (none-named key (key x) xs none, distinct-named key xs (λ id. less (named-rest key id x xs) (once id))) refl
  where
    less : {a b : ℕ} → a ≤ b → b ≤ 1 → a ≤ 1
    less p q = omega (arith, p, q)

    none : named key (key x) xs ≡ 0
    none = omega (arith, named-first key x xs, once (key x))

apart-named : {R S : Type 0} (key : R → ℕ) (key' : S → ℕ) (xs : List R) (ys : List S) → ((id : ℕ) → named key id xs + named key' id ys ≤ 1) → list_all (λ x. is_none (row_of key' (key x) ys)) xs ≡ true
apart-named key key' [] ys once = refl
apart-named key key' (x ∷ xs) ys once = rw (none-named key' (key x) ys none, apart-named key key' xs ys (λ id. less (named key id xs) (named key id (x ∷ xs)) (named key' id ys) (named-rest key id x xs) (once id))) refl
  where
    less : (a b c : ℕ) → a ≤ b → b + c ≤ 1 → a + c ≤ 1
    less a b c p q = omega (arith, p, q)

    none : named key' (key x) ys ≡ 0
    none = omega (arith, named-first key x xs, once (key x))

-- All together.

live-named : (start : Start) (s : Plain) (id : ℕ) → StandsFor start s → named (λ l. l.id) id (live_in start) ≡ named (λ t. t.id) id s.tuples + named (λ n. n.id) id s.notifiers
live-named start s id f =
    named-both (λ l. l.id) id (map live_tuple start.tuples) (map live_note start.notes)
    ∙ ap (λ (k : ℕ). k + named (λ l. l.id) id (map live_note start.notes)) of_tuples
    ∙ ap (λ (k : ℕ). named (λ t. t.id) id s.tuples + k) of_notes
  where
    of_tuples : named (λ l. l.id) id (map live_tuple start.tuples) ≡ named (λ t. t.id) id s.tuples
    of_tuples =
        named-mapped (λ t. t.id) (λ l. l.id) live_tuple id start.tuples (λ x. refl)
        ∙ sym (named-mapped (λ t. t.id) (λ t. t.id) (tuple_by start.leases) id start.tuples (λ x. refl))
        ∙ sym (ap (λ (ts : List Entry). named (λ t. t.id) id ts) f.tuples)

    of_notes : named (λ l. l.id) id (map live_note start.notes) ≡ named (λ n. n.id) id s.notifiers
    of_notes =
        named-mapped (λ x. x.row.id) (λ l. l.id) live_note id start.notes (λ x. refl)
        ∙ sym (named-mapped (λ x. x.row.id) (λ i. i) (λ x. x.row.id) id start.notes (λ x. refl))
        ∙ sym (ap (λ (is : List ℕ). named (λ i. i) id is) (ids-same start.leases s.events start.notes s.notifiers f.notifiers))
        ∙ named-mapped (λ n. n.id) (λ i. i) (λ n. n.id) id s.notifiers (λ x. refl)

all-named : (start : Start) (s : Plain) (id : ℕ) → StandsFor start s → named (λ l. l.id) id (live_in start) + named (λ e. e.id) id start.ended ≤ objects s id
all-named start s id f = sums _ _ _ _ _ _ (live-named start s id f) (ap (λ (es : List Ended). named (λ e. e.id) id es) f.ended)
  where
    sums : (a t n r e e' : ℕ) → a ≡ t + n → e ≡ e' → a + e' ≤ t + r + (n + e)
    sums a t n r e e' p q = omega (arith, p, q)

-- the conditions of a start follow where it stands for a sound space
pub may-begin : (start : Start) (s : Plain) → StandsFor start s → Sound s → MayBegin start
may-begin start s f sound = record {
  ids = record {
    first = grind (arith, nat_tests, sound.numbered.next, f.next);
    live_given = given-named (λ l. l.id) start.next (live_in start) (none_live 0 sound.apart.zero) (λ id e. none_live id (minted id e));
    ended_given = given-named (λ e. e.id) start.next start.ended (none_ended 0 sound.apart.zero) (λ id e. none_ended id (minted id e));
    live_once = distinct-named (λ l. l.id) (live_in start) (λ id. one_live id);
    ended_once = distinct-named (λ e. e.id) start.ended (λ id. one_ended id);
    apart = apart-named (λ l. l.id) (λ e. e.id) (live_in start) start.ended (λ id. both id);
    few = subst (λ (es : List Ended). length es ≤ 4096) f.ended sound.few;
  };
  tuples = sym (rising-mapped (λ t. t.id) (λ t. t.id) (tuple_by start.leases) start.tuples (λ x. refl)) ∙ sym (ap (λ (ts : List Entry). rising (λ t. t.id) ts) f.tuples) ∙ up (λ (t : Entry). t.id) s.tuples sound.numbered.tuples;
  notes = sym (rising-mapped (λ x. x.row.id) (λ i. i) (λ x. x.row.id) start.notes (λ x. refl))
      ∙ sym (ap (λ (is : List ℕ). rising (λ i. i) is) (ids-same start.leases s.events start.notes s.notifiers f.notifiers))
      ∙ rising-mapped (λ n. n.id) (λ i. i) (λ n. n.id) s.notifiers (λ x. refl)
      ∙ up (λ (n : Notifier). n.id) s.notifiers sound.numbered.notifiers;
}
  where
    up : {R : Type 0} (key : R → ℕ) (xs : List R) → numbered key s.next xs ≡ true → rising key xs ≡ true
    up key xs e = grind arith

    both : (id : ℕ) → named (λ l. l.id) id (live_in start) + named (λ e. e.id) id start.ended ≤ 1
    both id = omega (arith, all-named start s id f, sound.apart.once id)

    minted : (id : ℕ) → nat_le start.next id ≡ true → objects s id ≡ 0
    minted id e = sound.apart.minted id (ap (λ (n : ℕ). nat_le n id) f.next ∙ e)

    none_live : (id : ℕ) → objects s id ≡ 0 → named (λ l. l.id) id (live_in start) ≡ 0
    none_live id e = omega (arith, all-named start s id f, e)

    none_ended : (id : ℕ) → objects s id ≡ 0 → named (λ e. e.id) id start.ended ≡ 0
    none_ended id e = omega (arith, all-named start s id f, e)

    one_live : (id : ℕ) → named (λ l. l.id) id (live_in start) ≤ 1
    one_live id = omega (arith, both id)

    one_ended : (id : ℕ) → named (λ e. e.id) id start.ended ≤ 1
    one_ended id = omega (arith, both id)
