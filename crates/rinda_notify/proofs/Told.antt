-- The notifiers of a plain space, as a caller sees them, after one change.
use Rattle.std.proofs.Common.{◌≡◌, ℕ, ◌+◌, Bool, true, false, cond, ◌&&◌, ltb, List, [], ◌∷◌, ◌++◌, map, length, Some, Option, refl, sym, ◌∙◌, ap, arith}
use Rattle.std.specs.List.{list_all}
use Rattle.std.proofs.lemmas.Bool.Decides.{nat_tests}
use Rattle.std.proofs.lemmas.List.{map-append}
use Rattle.drb_tree.specs.declared.Remote.{Remote}
use Rattle.rinda_rules.specs.declared.plain.Notifier.{Notifier}
use Rattle.rinda_rules.specs.declared.plain.Hearing.{Hearing}
use Rattle.rinda_rules.specs.declared.plain.Hearing.TheVariants as hearing
use Rattle.rinda_rules.specs.declared.plain.Raised.{Raised}
use Rattle.rinda_rules.specs.declared.object.Last.{Last}
use Rattle.rinda_rules.specs.declared.object.Last.TheVariants as last
use Rattle.rinda_rules.specs.Rows.{row_of, changed, without, rising}
use Rattle.rinda_rules.specs.Space.{hears, is_running, event_value}
use Rattle.rinda_rules.specs.Queue.{queue, queue_values}
use Rattle.rinda_rules.specs.Phases.{close_after, doubt_notifier}
use Rattle.rinda_rules.specs.Cases.{shut_notifier, renewed_notifier, asked_doubt}
use Rattle.rinda_rules.specs.Sound.{hears_within}
use Rattle.rinda_rules.specs.Starts.{closed_as}
use Rattle.rinda_effects.proofs.Queueing.{raised_is_queued, close_keeps_queue, pop_drops_one}
use Rattle.rinda_notify.specs.declared.note.Note.{Note}
use Rattle.rinda_notify.specs.Notes.{note_of, told, listens, listens_to, event_of, is_open, closed, shut_note, advanced, rest, renewed, doubted, asked}

-- Lists of rows, each seen as another.

pub row_seen : {A B : Type 0} (key : A → ℕ) (k : B → ℕ) (see : A → B) (id : ℕ) (xs : List A) (r : A) → ((x : A) → k (see x) ≡ key x) → row_of key id xs ≡ Some r → row_of k id (map see xs) ≡ Some (see r)
row_seen key k see id [] r same e = cc
row_seen key k see id (x ∷ xs) r same e = grind (arith, nat_tests, same x, row_seen key k see id xs r same)

pub changed_seen : {A B : Type 0} (key : A → ℕ) (k : B → ℕ) (see : A → B) (id : ℕ) (f : A → A) (g : B → B) (xs : List A) → ((x : A) → k (see x) ≡ key x) → ((x : A) → see (f x) ≡ g (see x)) → map see (changed key id f xs) ≡ changed k id g (map see xs)
changed_seen key k see id f g [] same h = refl
changed_seen key k see id f g (x ∷ xs) same h = grind (arith, nat_tests, same x, h x, changed_seen key k see id f g xs same h)

pub without_seen : {A B : Type 0} (key : A → ℕ) (k : B → ℕ) (see : A → B) (id : ℕ) (xs : List A) → ((x : A) → k (see x) ≡ key x) → map see (without key id xs) ≡ without k id (map see xs)
without_seen key k see id [] same = refl
without_seen key k see id (x ∷ xs) same = grind (arith, nat_tests, same x, without_seen key k see id xs same)

none_later : {A B : Type 0} (key : A → ℕ) (k : B → ℕ) (see : A → B) (id : ℕ) (f : A → A) (g : B → B) (xs : List A) → ((x : A) → k (see x) ≡ key x) → list_all (λ y. ltb id (key y)) xs ≡ true → map see (changed key id f xs) ≡ changed k id g (map see xs)
none_later key k see id f g [] same e = refl
none_later key k see id f g (x ∷ xs) same e = grind (arith, nat_tests, same x, none_later key k see id f g xs same)

-- the same where the two changes agree on the one row with that id
pub one_seen : {A B : Type 0} (key : A → ℕ) (k : B → ℕ) (see : A → B) (id : ℕ) (f : A → A) (g : B → B) (xs : List A) (r : A) → ((x : A) → k (see x) ≡ key x) → rising key xs ≡ true → row_of key id xs ≡ Some r → see (f r) ≡ g (see r) → map see (changed key id f xs) ≡ changed k id g (map see xs)
one_seen key k see id f g [] r same up there h = refl
one_seen key k see id f g (x ∷ xs) r same up there h = grind (arith, nat_tests, same x, none_later key k see id f g xs same, one_seen key k see id f g xs r same)

pub each_seen : {A B : Type 0} (p : A → Bool) (see see' : A → B) (g : B → B) (xs : List A) → ((x : A) → p x ≡ true → see' x ≡ g (see x)) → list_all p xs ≡ true → map see' xs ≡ map g (map see xs)
each_seen p see see' g [] h e = refl
each_seen p see see' g (x ∷ xs) h e = grind (arith, nat_tests, h x, each_seen p see see' g xs h)

pub map_seen : {A B : Type 0} (see : A → B) (f : A → A) (g : B → B) (xs : List A) → ((x : A) → see (f x) ≡ g (see x)) → map see (map f xs) ≡ map g (map see xs)
map_seen see f g [] h = refl
map_seen see f g (x ∷ xs) h = grind (arith, h x, map_seen see f g xs h)

-- Raise.

open_as : (st : Hearing) → is_open (closed_as st) ≡ is_running st
open_as hearing.Running = refl
open_as (hearing.Closed l until) = refl

heard : (n : Notifier) (e : Raised) (events : List Raised) → listens e.what e.tuple (note_of events n) ≡ (is_running n.state && hears n e)
unfolding hears listens_to
heard n e events = ap (λ (b : Bool). b && hears n e) (open_as n.state)

queue_of : List Raised → Notifier → List Raised → Note
queue_of events n q = record (note_of events n) { queue = map event_value q }

more_none : {R : Type 0} (xs : List R) → xs ++ [] ≡ xs
more_none [] = refl
more_none (x ∷ xs) = ap (λ (ys : List _). x ∷ ys) (more_none xs)

by_tests : (r h b : Bool) (n : Notifier) (e : Raised) (events : List Raised) → r ≡ is_running n.state → h ≡ hears n e → b ≡ (r && h) → map event_value (queue n events ++ cond r (cond h (e ∷ []) []) []) ≡ cond b (queue_values n events ++ event_of e.what e.tuple ∷ []) (queue_values n events)
by_tests true true true n e events er eh eb = map-append event_value (queue n events) (e ∷ [])
by_tests true false false n e events er eh eb = ap (map event_value) (more_none (queue n events))
by_tests false h false n e events er eh eb = ap (map event_value) (more_none (queue n events))
by_tests true true false n e events er eh eb = cc
by_tests true false true n e events er eh eb = cc
by_tests false h true n e events er eh eb = cc

by_test : (b : Bool) (m : Note) (q : List _) → record m { queue = cond b q m.queue } ≡ cond b (record m { queue = q }) m
by_test true m q = refl
by_test false m q = refl

pub raised_is_told : (events : List Raised) (e : Raised) (n : Notifier) → hears_within events n ≡ true → note_of (events ++ e ∷ []) n ≡ told e.what e.tuple (note_of events n)
raised_is_told events e n h =
    let test = listens e.what e.tuple (note_of events n) in
    ap (λ (q : List Raised). record (note_of events n) { queue = map event_value q }) (raised_is_queued n events (e ∷ []) h)
    ∙ ap (λ (q : List _). record (note_of events n) { queue = q }) (by_tests (is_running n.state) (hears n e) test n e events refl refl (heard n e events))
    ∙ by_test test (note_of events n) (queue_values n events ++ event_of e.what e.tuple ∷ [])

-- Close.

pub close_is_closed : (events : List Raised) (last : Last) (n : Notifier) → is_running n.state ≡ true → note_of events (close_after last (length events) n) ≡ closed last (note_of events n)
close_is_closed events last n runs =
    ap (λ (q : List Raised). record (closed last (note_of events n)) { queue = map event_value q })
    (ap (queue (close_after last (length events) n)) (sym (more_none events)) ∙ close_keeps_queue n last events [] runs)

shut_by : (b : Bool) (events : List Raised) (n : Notifier) → is_running n.state ≡ b → note_of events (cond b (close_after last.Canceled (length events) n) n) ≡ cond b (closed last.Canceled (note_of events n)) (note_of events n)
shut_by true events n e = close_is_closed events last.Canceled n e
shut_by false events n e = refl

pub shut_is_closed : (events : List Raised) (n : Notifier) → note_of events (shut_notifier (length events) n) ≡ shut_note last.Canceled (note_of events n)
shut_is_closed events n =
    shut_by (is_running n.state) events n refl
    ∙ ap (λ (b : Bool). cond b (closed last.Canceled (note_of events n)) (note_of events n)) (sym (open_as n.state))

-- Pop.

queue_rest : (q : List Raised) (e : Raised) (es : List Raised) → q ≡ e ∷ es → map event_value es ≡ rest (map event_value q)
queue_rest q e es is = ap (λ (q : List Raised). rest (map event_value q)) (sym is)

pub pop_advances : (events : List Raised) (n : Notifier) (e : Raised) (es : List Raised) → queue n events ≡ e ∷ es → note_of events (record n { popped = n.popped + 1 }) ≡ advanced (note_of events n)
pop_advances events n e es is =
    ap (λ (q : List _). record (note_of events n) { queue = q })
    (ap (map event_value) (pop_drops_one n events es e is) ∙ queue_rest (queue n events) e es is)

-- Leases and doubts.

pub renew_is_renewed : (events : List Raised) (deadline : Option ℕ) (renewer : Option Remote) (n : Notifier) → note_of events (renewed_notifier deadline renewer n) ≡ renewed deadline renewer (note_of events n)
unfolding hears
renew_is_renewed events deadline renewer n = refl

pub doubt_is_doubted : (events : List Raised) (n : Notifier) → note_of events (doubt_notifier n) ≡ doubted (note_of events n)
unfolding hears
doubt_is_doubted events n = refl

pub ask_is_asked : (events : List Raised) (n : Notifier) → note_of events (record n { doubt = asked_doubt n.doubt }) ≡ asked (note_of events n)
unfolding hears
ask_is_asked events n = refl
