-- What a turn leaves of a space that keeps its history.
use Rattle.std.proofs.Common.{◌≡◌, ◌∙◌, ℕ, ◌+◌, ◌^◌, ◌<◌, ◌≤◌, Bool, List, [], ◌∷◌, ◌++◌, Option, Some, None, true, false, Ok, Err, refl, sym, ap, subst, length, length-append, arith}
use Rattle.std.proofs.lemmas.Bool.Decides.{nat_tests}
use Rattle.rinda_rules.specs.declared.event.Event.{Event}
use Rattle.rinda_rules.specs.declared.out.Out.{Out}
use Rattle.rinda_rules.specs.declared.turn.Turn.{Turn}
use Rattle.rinda_rules.specs.declared.start.Start.{Start}
use Rattle.rinda_rules.specs.Journals.{made}
use Rattle.rinda_rules.specs.Space.{Plain, opening}
use Rattle.rinda_rules.specs.Legal.{plain_from, LegalFrom}
use Rattle.rinda_rules.specs.Nothing.{is_nothing}
use Rattle.rinda_rules.specs.Settled.{Settled}
use Rattle.rinda_rules.specs.Sound.{Sound}
use Rattle.rinda_rules.specs.Steps.{Step}
use Rattle.rinda_effects.specs.Turns.{Reached, Made}
use Rattle.rinda_effects.proofs.Making.{opening_is_reached, reached_is_settled, step_makes_turn}
use Rattle.rinda_tables.specs.declared.tables.Tables.{Tables}
use Rattle.rinda_tables.specs.Changed.{is_changed}
use Rattle.rinda_tables.specs.Holds.{Holds}
use Rattle.rinda_tables.specs.Starting.{StartsFrom, MayBegin}
use Rattle.rinda_tables.specs.Tabled.{ahead_of, list_of, Settles, Unadded}
use Rattle.rinda_tables.specs.Undoing.{is_in}
use Rattle.rinda_tables.proofs.Beginning.{may-begin}
use Rattle.rinda_cases.proofs.Nexts.{step_next}
use Rattle.rinda_rules.specs.declared.journal.JournalError.{JournalError}
use Rattle.rinda_rules.specs.declared.journal.JournalError.TheVariants as journal
use Rattle.rinda_space.specs.declared.turned.Turned.TheVariants as turned
use Rattle.rinda_space.specs.declared.turned.TurnError.{TurnError}
use Rattle.rinda_space.specs.Spaces.{Spaced, spaced, start_of, StartsAt, FindsNothing, FindsSomething, IsSpace, IsLegal, MayStart, NamesLast, TurnsTo, IsDone, error_of}
use Rattle.rinda_space.specs.Begins.{KeepsList, IsMade}

-- The space before the first turn.

no-snoc : (before : List Turn) (turn : Turn) → [] ≡ before ++ turn ∷ [] → ⊥
no-snoc [] turn is = cc
no-snoc (t ∷ before) turn is = cc

no-last : (start : Option Start) (ids : List ℕ) → NamesLast start [] ids
no-last start ids before turn is s at id changed = absurd (no-snoc before turn is)

pub opens : (t : Tables) (cap : ℕ) → Holds opening (list_of t) → Holds opening (ahead_of t) → Unadded t → IsSpace (spaced None [] cap) 18446744073709551615 [] t
opens t cap list ahead unadded = record {
  origin = opening;
  starts = refl;
  reached = λ s is. subst (λ (s : Plain). Reached s []) (sym is) (opening_is_reached [] tt);
  list = λ s is. subst (λ (s : Plain). Holds s (list_of t)) (sym is) list;
  ahead = λ s is. subst (λ (s : Plain). Holds s (ahead_of t)) (sym is) ahead;
  unadded = unadded;
  ids = λ s is. subst (λ (s : Plain). s.next + 18446744073709551615 ≤ 18446744073709551616) (sym is) (omega arith);
  few = omega arith;
  bound = λ l. omega (arith, l);
  fits = omega arith;
  names = no-last None [];
}

pub opens-so : (kept : List (Start × Bool)) (turns : List Turn) (ids : List ℕ) (cap : ℕ) (t : Tables) → kept ≡ [] → turns ≡ [] → ids ≡ [] → Holds opening (list_of t) → Holds opening (ahead_of t) → Unadded t → IsSpace (spaced (start_of kept) turns cap) 18446744073709551615 ids t
opens-so kept turns ids cap t none empty named list ahead unadded =
    subst (λ (k : List (Start × Bool)). IsSpace (spaced (start_of k) turns cap) 18446744073709551615 ids t) (sym none)
    (subst (λ (ts : List Turn). IsSpace (spaced None ts cap) 18446744073709551615 ids t) (sym empty)
    (subst (λ (is : List ℕ). IsSpace (spaced None [] cap) 18446744073709551615 is t) (sym named) (opens t cap list ahead unadded)))

-- The space that starts from stored rows.

pub next-above : (start : Start) (cap : ℕ) → MayStart start cap → 0 < start.next
next-above start cap m = grind (arith, nat_tests, m.starts.0.next, m.starts.1.numbered.next)

starts : (start : Start) (cap room : ℕ) (t : Tables) → MayStart start cap → StartsFrom start t → Unadded t → start.next + room ≡ 18446744073709551616 → IsSpace (spaced (Some start) [] cap) room [] t
starts start cap room t m from unadded all = record {
  origin = m.origin;
  starts = m.starts;
  reached = λ s is. record { sound = is.1; settled = m.settled s is; legal = tt };
  list = λ s is. (from s is.0 is.1).1;
  ahead = λ s is. (from s is.0 is.1).0;
  unadded = unadded;
  ids = λ s is. rw is.0.next (omega (arith, all));
  few = omega arith;
  bound = λ l. omega (arith, all, m.room);
  fits = omega (arith, all, next-above start cap m);
  names = no-last (Some start) [];
}

pub starts-so : (start : Start) (kept : List (Start × Bool)) (turns : List Turn) (ids : List ℕ) (cap room : ℕ) (t : Tables) → kept ≡ (start, true) ∷ [] → turns ≡ [] → ids ≡ [] → MayStart start cap → StartsFrom start t → Unadded t → start.next + room ≡ 18446744073709551616 → IsSpace (spaced (start_of kept) turns cap) room ids t
starts-so start kept turns ids cap room t one empty named m from unadded all =
    subst (λ (k : List (Start × Bool)). IsSpace (spaced (start_of k) turns cap) room ids t) (sym one)
    (subst (λ (ts : List Turn). IsSpace (spaced (Some start) ts cap) room ids t) (sym empty)
    (subst (λ (is : List ℕ). IsSpace (spaced (Some start) [] cap) room is t) (sym named) (starts start cap room t m from unadded all)))

pub kept-one : (start : Start) (a b : List (Start × Bool)) → a ≡ b ++ (start, true) ∷ [] → b ≡ [] → a ≡ (start, true) ∷ []
kept-one start a b is none = is ∙ ap (λ (rows : List (Start × Bool)). rows ++ (start, true) ∷ []) none

pub may-begin-so : (start : Start) (cap : ℕ) → MayStart start cap → MayBegin start
may-begin-so start cap m = may-begin start m.origin m.starts.0 m.starts.1

-- What the space is, from each start.

pub sound-space : (v : Spaced) (room : ℕ) (changed : List ℕ) (t : Tables) → IsSpace v room changed t → (s : Plain) → StartsAt v.start s → Sound (plain_from s v.turns) × Settled (plain_from s v.turns)
sound-space v room changed t h s is = reached_is_settled s v.turns (h.reached s is)

pub is-legal : (v : Spaced) (room : ℕ) (changed : List ℕ) (t : Tables) → IsSpace v room changed t → length v.turns < 18446744073709551616 → IsLegal v
is-legal v room changed t h short = record {
  origin = h.origin;
  starts = h.starts;
  legal = λ s is. (h.reached s is).legal;
  few = h.few;
  short = short;
}

-- what the tables say of an event, from each start
pub says : (v : Spaced) (room : ℕ) (changed : List ℕ) (t : Tables) (caller at : ℕ) (event : Event) (b : Bool) → IsSpace v room changed t → ((s : Plain) → Sound s → Holds s (ahead_of t) → b ≡ is_nothing s caller at event) → (s : Plain) → StartsAt v.start s → is_nothing (plain_from s v.turns) caller at event ≡ b
says v room changed t caller at event b h exact s is = sym (exact (plain_from s v.turns) (sound-space v room changed t h s is).0 (h.ahead s is))

one-more : (turns : List Turn) (turn : Turn) → length (turns ++ turn ∷ []) ≡ length turns + 1
one-more turns turn = length-append turns (turn ∷ [])

snoc-front : (xs ys : List Turn) (x y : Turn) → xs ++ x ∷ [] ≡ ys ++ y ∷ [] → xs ≡ ys
snoc-front [] [] x y is = refl
snoc-front [] (b ∷ []) x y is = cc
snoc-front [] (b ∷ c ∷ ys) x y is = cc
snoc-front (a ∷ []) [] x y is = cc
snoc-front (a ∷ c ∷ xs) [] x y is = cc
snoc-front (a ∷ xs) (b ∷ ys) x y is = grind (arith, snoc-front xs ys x y)

-- the turn that was made ahead stands
pub stands-on : (v : Spaced) (room : ℕ) (changed ids : List ℕ) (ready : List Turn) (t b new : Tables) (caller at : ℕ) (event : Event) (out : Out) → IsSpace v room changed t → FindsSomething v.start v.turns caller at event → KeepsList t b → IsMade caller at event v.turns v.cap ready t b out ids → Settles (ahead_of b) new → Unadded new → IsSpace (spaced v.start ready v.cap) room ids new
stands-on v room changed ids ready t b new caller at event out h something keeps m settles unadded =
    subst (λ (list : List Turn). IsSpace (spaced v.start list v.cap) room ids new) (sym m.prepared) (record {
      origin = h.origin;
      starts = h.starts;
      reached = λ s is. (more s is).reached;
      list = λ s is. subst (λ (s : Plain). Holds s (list_of new)) (sym (more s is).leads) (settles.list (step s is).0 (step s is).2);
      ahead = λ s is. subst (λ (s : Plain). Holds s (ahead_of new)) (sym (more s is).leads) (settles.ahead (step s is).0 (step s is).2);
      unadded = unadded;
      ids = λ s is. rw ((more s is).leads, one-more v.turns turn) (omega (arith, h.ids s is, step_next (plain_from s v.turns) caller at event out m.picks (step s is).0 (step s is).1));
      few = rw (one-more v.turns turn) (omega (arith, m.room));
      bound = h.bound;
      fits = h.fits;
      names = λ before last is s at id left.
          let same : before ≡ v.turns = sym (snoc-front v.turns before turn last is) in
          m.names (plain_from s v.turns) (step s at).0 (keeps (plain_from s v.turns) (h.list s at)) (step s at).2 id
          (subst (λ (x : Plain). is_changed (plain_from s v.turns) x id ≡ true) (more s at).leads
          (subst (λ (ts : List Turn). is_changed (plain_from s ts) (plain_from s (v.turns ++ turn ∷ [])) id ≡ true) same left));
    })
  where
    turn : Turn
    turn = made caller at event out m.picks

    step : (s : Plain) → StartsAt v.start s → (s' : Plain) × Step (plain_from s v.turns) caller at event out m.picks s' × Holds s' (ahead_of b)
    step s is = let both = sound-space v room changed t h s is in m.steps (plain_from s v.turns) both.0 both.1 (h.ahead s is)

    more : (s : Plain) (is : StartsAt v.start s) → Made s v.turns turn (step s is).0
    more s is = step_makes_turn s v.turns turn (step s is).0 (h.reached s is) (something s is) (step s is).1

-- while there is an id for one more turn, a u64 can count them
pub short-so : (turns ready new : List Turn) (turn : Turn) (count room : ℕ) → new ≡ ready → ready ≡ turns ++ turn ∷ [] → count ≡ length turns → count < room → room < 18446744073709551616 → length new < 18446744073709551616
short-so turns ready new turn count room x y counts fewer fits = rw (x, y, one-more turns turn) (omega (arith, counts, fewer, fits))

-- with the same turns and cap, by other names
pub same-space : (start : Option Start) (a b : List Turn) (c d room : ℕ) (changed : List ℕ) (t : Tables) → IsSpace (spaced start a c) room changed t → b ≡ a → d ≡ c → IsSpace (spaced start b d) room changed t
same-space start a b c d room changed t h x y =
    subst (λ (ts : List Turn). IsSpace (spaced start ts d) room changed t) (sym x)
    (subst (λ (n : ℕ). IsSpace (spaced start a n) room changed t) (sym y) h)

-- what was made ahead is taken back
pub forgotten : (v : Spaced) (room : ℕ) (changed : List ℕ) (t b new : Tables) → IsSpace v room changed t → KeepsList t b → Settles (list_of b) new → Unadded new → IsSpace v room changed new
forgotten v room changed t b new h keeps settles unadded = record {
  origin = h.origin;
  starts = h.starts;
  reached = h.reached;
  ids = h.ids;
  few = h.few;
  bound = h.bound;
  fits = h.fits;
  names = h.names;
  list = λ s is. settles.list (plain_from s v.turns) (keeps (plain_from s v.turns) (h.list s is));
  ahead = λ s is. settles.ahead (plain_from s v.turns) (keeps (plain_from s v.turns) (h.list s is));
  unadded = unadded;
}

-- What a turn comes to, of such a space.

same-spaced : (start : Option Start) (a b : List Turn) (c d : ℕ) → a ≡ b → c ≡ d → spaced start a c ≡ spaced start b d
same-spaced start a b c d x y = ap (λ (ts : List Turn). spaced start ts c) x ∙ ap (λ (n : ℕ). spaced start b n) y

pub nothing-so : (v old : Spaced) (caller at : ℕ) (event : Event) (count : ℕ) → v ≡ old → FindsNothing v.start v.turns caller at event → count ≡ length v.turns → TurnsTo caller at event old old (Ok (turned.Nothing count))
nothing-so v old caller at event count is nothing counts = subst (λ (o : Spaced). TurnsTo caller at event o o (Ok (turned.Nothing count))) is (nothing, counts, refl)

pub refused-so : (v : Spaced) (new : List Turn) (newcap : ℕ) (old : Spaced) (caller at : ℕ) (event : Event) (count : ℕ) (refused : JournalError) (e : TurnError) → v ≡ old → FindsSomething v.start v.turns caller at event → count ≡ length v.turns → (refused ≡ journal.Full → length v.turns ≡ v.cap) → new ≡ v.turns → newcap ≡ v.cap → e ≡ error_of count refused → TurnsTo caller at event old (spaced v.start new newcap) (Err e)
refused-so v new newcap old caller at event count refused e is something counts full same samecap which = subst (λ (o : Spaced). TurnsTo caller at event o (spaced v.start new newcap) (Err e)) is (subst (λ (x : TurnError). TurnsTo caller at event v (spaced v.start new newcap) (Err x)) (sym which) (by refused full))
  where
    by : (r : JournalError) → (r ≡ journal.Full → length v.turns ≡ v.cap) → TurnsTo caller at event v (spaced v.start new newcap) (Err (error_of count r))
    by journal.Full full = (something, full refl, counts, same-spaced v.start new v.turns newcap v.cap same samecap)
    by journal.Memory full = (something, same-spaced v.start new v.turns newcap v.cap same samecap)

pub made-so : (v : Spaced) (ready new : List Turn) (newcap : ℕ) (old : Spaced) (t b : Tables) (caller at : ℕ) (event : Event) (out : Out) (ids : List ℕ) → v ≡ old → FindsSomething v.start v.turns caller at event → IsMade caller at event v.turns v.cap ready t b out ids → new ≡ ready → newcap ≡ v.cap → IsDone caller at event old (spaced v.start new newcap) out
made-so v ready new newcap old t b caller at event out ids is something m same samecap = subst (λ (o : Spaced). IsDone caller at event o (spaced v.start new newcap) out) is (record { something = something; room = m.room; picks = m.picks; turns = same ∙ m.prepared; cap = samecap; start = refl })
