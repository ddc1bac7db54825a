-- What a turn begins with, and how what stands goes on to stand.
use Rattle.std.proofs.Common.{◌≡◌, ◌∙◌, ℕ, ◌+◌, ◌<◌, true, List, [], ◌∷◌, map, refl, sym, subst, length, arith}
use Rattle.std.specs.Prelude.{nat_lt}
use Rattle.std.specs.List.{list_all}
use Rattle.std.proofs.lemmas.Bool.Decides.{nat_tests}
use Rattle.rinda_rules.specs.declared.plain.Entry.{Entry}
use Rattle.rinda_rules.specs.declared.plain.Notifier.{Notifier}
use Rattle.rinda_rules.specs.declared.plain.Raised.{Raised}
use Rattle.rinda_rules.specs.declared.plain.Request.{Request}
use Rattle.rinda_rules.specs.Rows.{numbered}
use Rattle.rinda_rules.specs.Space.{Plain}
use Rattle.rinda_rules.specs.Phases.{aged}
use Rattle.rinda_rules.specs.Legal.{plain_from}
use Rattle.rinda_notify.specs.Notes.{note_of}
use Rattle.rinda_notify.specs.Tables.{below as notes_below}
use Rattle.rinda_tables.specs.declared.tables.Tables.{Tables}
use Rattle.rinda_tables.specs.Tabled.{list_of, Stays, Becomes, AddsNone, Fresh}
use Rattle.rinda_tables.proofs.HoldingSame.{holds-same}
use Rattle.rinda_tables.proofs.AgingOn.{aged-next}
use Rattle.rinda_space.specs.Spaces.{Spaced, IsSpace}
use Rattle.rinda_space.specs.Begins.{Begun, KeepsList}

pub keeps-list : (a b : Tables) → Stays a b → KeepsList a b
keeps-list a b k s h = holds-same s (list_of a) (list_of b) h k.stood_at k.stood_shut k.ids k.tuples k.requests k.notes k.deadlines

pub keeps-on : (a b c : Tables) → KeepsList a b → KeepsList b c → KeepsList a c
keeps-on a b c x y s h = y s (x s h)

pub begun-of : (v : Spaced) (room : ℕ) (changed : List ℕ) (t : Tables) → IsSpace v room changed t → Begun t
begun-of v room changed t h = record {
  stood = plain_from h.origin v.turns;
  now = plain_from h.origin v.turns;
  list = h.list h.origin h.starts;
  ahead = h.ahead h.origin h.starts;
  next = refl;
  unadded = h.unadded;
}

unfold-aged : (s : Plain) → (aged s).next ≡ s.next
unfolding aged
unfold-aged s = aged-next s.next s

pub begun-aged : (a b : Tables) → Begun a → Becomes aged a b → Stays a b → AddsNone a b → Begun b
begun-aged a b h becomes stays adds = record {
  stood = h.stood;
  now = aged h.now;
  list = keeps-list a b stays h.stood h.list;
  ahead = becomes h.now h.ahead;
  next = unfold-aged h.now ∙ h.next;
  unadded = record { tuple = adds.tuple ∙ h.unadded.tuple; request = adds.request ∙ h.unadded.request };
}

rows-below : {R : Type 0} (key : R → ℕ) (next : ℕ) (rows : List R) → numbered key next rows ≡ true → list_all (λ row. nat_lt (key row) next) rows ≡ true
rows-below key next rows h = grind arith

seen-below : (events : List Raised) (next : ℕ) (ns : List Notifier) → list_all (λ n. nat_lt n.id next) ns ≡ true → notes_below next (map (note_of events) ns) ≡ true
seen-below events next [] h = refl
seen-below events next (n ∷ ns) h = grind (arith, nat_tests, seen-below events next ns)

pub begun-fresh : (t : Tables) → Begun t → Fresh t
begun-fresh t h = record {
  next = h.list.ids.next ∙ sym h.next ∙ sym h.ahead.ids.next;
  tuple = h.unadded.tuple;
  request = h.unadded.request;
  tuples = rw (stood-next, h.list.tuples) (rows-below (λ (t : Entry). t.id) h.stood.next h.stood.tuples h.list.numbered.tuples);
  requests = rw (stood-next, h.list.requests) (rows-below (λ (r : Request). r.id) h.stood.next h.stood.requests h.list.numbered.requests);
  notes = rw (stood-next, h.list.notes) (seen-below h.stood.events h.stood.next h.stood.notifiers (rows-below (λ (n : Notifier). n.id) h.stood.next h.stood.notifiers h.list.numbered.notifiers));
  notes_ahead = rw (h.ahead.ids.next, h.ahead.notes) (seen-below h.now.events h.now.next h.now.notifiers (rows-below (λ (n : Notifier). n.id) h.now.next h.now.notifiers h.ahead.numbered.notifiers));
}
  where
    stood-next : t.ids.ahead.next ≡ h.stood.next
    stood-next = h.ahead.ids.next ∙ h.next

-- the id that is given out next is a number
pub space-room : (v : Spaced) (room : ℕ) (changed : List ℕ) (t : Tables) → IsSpace v room changed t → length v.turns < room → t.ids.ahead.next < 18446744073709551616
space-room v room changed t h l = rw (h.ahead h.origin h.starts).ids.next (omega (arith, h.ids h.origin h.starts, l))

-- aging gives out no id
pub aged-room : (a b : Tables) → Begun a → Becomes aged a b → a.ids.ahead.next < 18446744073709551616 → b.ids.ahead.next < 18446744073709551616
aged-room a b h becomes l = subst (λ (n : ℕ). n < 18446744073709551616) (h.ahead.ids.next ∙ sym (unfold-aged h.now) ∙ sym (becomes h.now h.ahead).ids.next) l
