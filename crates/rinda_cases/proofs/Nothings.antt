-- What counts as nothing, by what tables hold.
use Rattle.std.proofs.Common.{◌≡◌, ◌∙◌, ℕ, Bool, true, false, List, [], ◌∷◌, ◌++◌, map, Option, Some, None, refl, sym, ap, arith}
use Rattle.std.specs.Prelude.{not, ◌&&◌, ◌||◌, ◌==◌, max, nat_le, nat_lt, is_none, if◌then◌else◌}
use Rattle.std.specs.List.{list_all}
use Rattle.std.specs.Option.{option_map}
use Rattle.std.proofs.lemmas.Bool.Decides.{nat_tests}
use Rattle.drb_tree.specs.declared.Remote.{Remote}
use Rattle.rinda_lease.specs.declared.stage.Stage.{Stage}
use Rattle.rinda_lease.specs.declared.stage.Stage.TheVariants as stage
use Rattle.rinda_lease.specs.Stages.{is_due, is_waiting, stage_at, IsNextAsk}
use Rattle.rinda_rules.specs.declared.object.Doubt.{Doubt}
use Rattle.rinda_rules.specs.declared.object.Doubt.TheVariants as doubt
use Rattle.rinda_rules.specs.declared.plain.Entry.{Entry}
use Rattle.rinda_rules.specs.declared.plain.Request.{Request}
use Rattle.rinda_rules.specs.declared.plain.Notifier.{Notifier}
use Rattle.rinda_rules.specs.declared.plain.Ended.{Ended}
use Rattle.rinda_rules.specs.declared.plain.Hearing.{Hearing}
use Rattle.rinda_rules.specs.declared.plain.Hearing.TheVariants as hearing
use Rattle.rinda_rules.specs.declared.plain.Raised.{Raised}
use Rattle.rinda_rules.specs.Rows.{row_of, rising, numbered}
use Rattle.rinda_rules.specs.Space.{Plain, Found, IsRecycled, IsUnknown, found, found_among, request_at, tuple_at, notifier_at, ended_at, is_free, is_parked, is_running, is_doubted, is_over, is_due_tuple, is_due_request, is_due_notifier, event_value}
use Rattle.rinda_rules.specs.Queue.{queue}
use Rattle.rinda_rules.specs.Phases.{advanced, nothing_due}
use Rattle.rinda_rules.specs.Cases.{Asking, asking_of, flat, askings, least}
use Rattle.rinda_rules.specs.Sound.{may_doubt, Sound}
use Rattle.rinda_rules.specs.Starts.{closed_as}
use Rattle.rinda_rules.specs.Nothing.{is_empty, hears_nothing}
use Rattle.rinda_rules.proofs.Lists.{all_at}
use Rattle.rinda_notify.specs.declared.note.Note.{Note}
use Rattle.rinda_notify.specs.Notes.{first, is_open, note_at, note_of}
use Rattle.rinda_tables.specs.Deadlines.{quiet}
use Rattle.rinda_tables.specs.Holds.{Held, Holds, stage_by, stage_among, stage_of, tuple_stage, request_stage, notifier_stage}
use Rattle.rinda_tables.specs.Tabled.{ahead_of}
use Rattle.rinda_tables.specs.declared.tables.Tables.{Tables}
use Rattle.rinda_tables.proofs.AgingAll.{due-stage}
use Rattle.rinda_tables.proofs.Holding.{alone-tuple, alone-notifier}

-- Rows in rising id.

rises : {R : Type 0} (key : R → ℕ) (next : ℕ) (rows : List R) → numbered key next rows ≡ true → rising key rows ≡ true
rises key next rows e = grind arith

first-row : {R : Type 0} (key : R → ℕ) (x : R) (rows : List R) → row_of key (key x) (x ∷ rows) ≡ Some x
first-row key x rows = grind (arith, nat_tests)

later-row : {R : Type 0} (key : R → ℕ) (x r : R) (rows : List R) → list_all (λ y. nat_lt (key x) (key y)) rows ≡ true → row_of key (key r) rows ≡ Some r → row_of key (key r) (x ∷ rows) ≡ Some r
later-row key x r rows later there =
    let apart : nat_lt (key x) (key r) ≡ true = all_at (λ y. nat_lt (key x) (key y)) key (key r) rows r there later in
    grind (arith, nat_tests)

-- what is so of each row that its id finds is so of all
each-row : {R : Type 0} (p : R → Bool) (key : R → ℕ) (rows : List R) → rising key rows ≡ true → ((r : R) → row_of key (key r) rows ≡ Some r → p r ≡ true) → list_all p rows ≡ true
each-row p key [] up k = refl
each-row p key (x ∷ rows) up k =
    let here : p x ≡ true = k x (first-row key x rows) in
    let later : list_all (λ y. nat_lt (key x) (key y)) rows ≡ true = grind arith in
    let up' : rising key rows ≡ true = grind arith in
    let rest : list_all p rows ≡ true = each-row p key rows up' (λ r there. k r (later-row key x r rows later there)) in
    grind arith

-- what isn't so of one isn't so of all
row-fails : {R : Type 0} (p : R → Bool) (key : R → ℕ) (id : ℕ) (rows : List R) (r : R) → row_of key id rows ≡ Some r → p r ≡ false → list_all p rows ≡ false
row-fails p key id [] r there e = cc
row-fails p key id (x ∷ rows) r there e = grind (arith, nat_tests, row-fails p key id rows r)

-- The stage of an id is that of its row.

stage-tuple : (s : Plain) (t : Held) (id : ℕ) (e : Entry) → Holds s t → tuple_at s id ≡ Some e → stage_of s id ≡ tuple_stage e
stage-tuple s t id e h there =
    let a = alone-tuple (request_at s id) (tuple_at s id) (notifier_at s id) e there (h.alone id) in
    rw (a.0, there) refl

stage-request : (s : Plain) (id : ℕ) (r : Request) → request_at s id ≡ Some r → stage_of s id ≡ request_stage r
stage-request s id r there = rw there refl

stage-notifier : (s : Plain) (t : Held) (id : ℕ) (n : Notifier) → Holds s t → notifier_at s id ≡ Some n → stage_of s id ≡ notifier_stage n
stage-notifier s t id n h there =
    let a = alone-notifier (request_at s id) (tuple_at s id) (notifier_at s id) n there (h.alone id) in
    rw (a.0, a.1, there) refl

-- A row is due where its stage is.

due-tuple : (now : ℕ) (e : Entry) → is_due now (tuple_stage e) ≡ is_due_tuple now e
due-tuple now e = due-stage now e.doubt (is_free e) e.deadline

regroup : (a b c : Bool) → (a && (b && c)) ≡ ((a && b) && c)
regroup true b c = refl
regroup false b c = refl

due-request : (now : ℕ) (r : Request) → is_due now (request_stage r) ≡ is_due_request now r
due-request now r = due-stage now r.doubt (is_parked r.state) r.deadline ∙ regroup (is_parked r.state) (not (is_doubted r.doubt)) (is_over now r.deadline)

due-notifier : (now : ℕ) (n : Notifier) → is_due now (notifier_stage n) ≡ is_due_notifier now n
due-notifier now n = due-stage now n.doubt (is_running n.state) n.deadline

abbrev no-tuple-due : ℕ → Plain → Bool
no-tuple-due now s = list_all (λ (e : Entry). not (is_due_tuple now e)) s.tuples

abbrev no-request-due : ℕ → Plain → Bool
no-request-due now s = list_all (λ (r : Request). not (is_due_request now r)) s.requests

abbrev no-notifier-due : ℕ → Plain → Bool
no-notifier-due now s = list_all (λ (n : Notifier). not (is_due_notifier now n)) s.notifiers

all-three : (a b c : Bool) → a ≡ true → b ≡ true → c ≡ true → (a && (b && c)) ≡ true
all-three a b c e f g = grind arith

-- no stage is due: no row is
none-by : (s : Plain) (t : Held) (now : ℕ) → Holds s t → ((id : ℕ) → is_due now (stage_of s id) ≡ false) → nothing_due (record s { clock = now }) ≡ true
none-by s t now h none =
    all-three (no-tuple-due now s) (no-request-due now s) (no-notifier-due now s)
    (each-row (λ (e : Entry). not (is_due_tuple now e)) (λ (e : Entry). e.id) s.tuples (rises (λ (e : Entry). e.id) s.next s.tuples h.numbered.tuples) (λ e there. ap not (sym (due-tuple now e) ∙ ap (is_due now) (sym (stage-tuple s t e.id e h there)) ∙ none e.id)))
    (each-row (λ (r : Request). not (is_due_request now r)) (λ (r : Request). r.id) s.requests (rises (λ (r : Request). r.id) s.next s.requests h.numbered.requests) (λ r there. ap not (sym (due-request now r) ∙ ap (is_due now) (sym (stage-request s r.id r there)) ∙ none r.id)))
    (each-row (λ (n : Notifier). not (is_due_notifier now n)) (λ (n : Notifier). n.id) s.notifiers (rises (λ (n : Notifier). n.id) s.next s.notifiers h.numbered.notifiers) (λ n there. ap not (sym (due-notifier now n) ∙ ap (is_due now) (sym (stage-notifier s t n.id n h there)) ∙ none n.id)))

first-fails : (a b c : Bool) → a ≡ false → (a && (b && c)) ≡ false
first-fails a b c e = grind arith

second-fails : (a b c : Bool) → b ≡ false → (a && (b && c)) ≡ false
second-fails a b c e = grind arith

third-fails : (a b c : Bool) → c ≡ false → (a && (b && c)) ≡ false
third-fails a b c e = grind arith

-- the stage of a row is due: the row is
some-by : (s : Plain) (now id : ℕ) (r : Option Request) (e : Option Entry) (n : Option Notifier) → request_at s id ≡ r → tuple_at s id ≡ e → notifier_at s id ≡ n → is_due now (stage_among r e n) ≡ true → nothing_due (record s { clock = now }) ≡ false
some-by s now id (Some r) e n a b c due = second-fails (no-tuple-due now s) (no-request-due now s) (no-notifier-due now s) (row-fails (λ (r : Request). not (is_due_request now r)) (λ (r : Request). r.id) id s.requests r a (ap not (sym (due-request now r) ∙ due)))
some-by s now id None (Some e) n a b c due = first-fails (no-tuple-due now s) (no-request-due now s) (no-notifier-due now s) (row-fails (λ (e : Entry). not (is_due_tuple now e)) (λ (e : Entry). e.id) id s.tuples e b (ap not (sym (due-tuple now e) ∙ due)))
some-by s now id None None (Some n) a b c due = third-fails (no-tuple-due now s) (no-request-due now s) (no-notifier-due now s) (row-fails (λ (n : Notifier). not (is_due_notifier now n)) (λ (n : Notifier). n.id) id s.notifiers n c (ap not (sym (due-notifier now n) ∙ due)))
some-by s now id None None None a b c due = cc

-- what is due in tables is due in the space
due-there : (s : Plain) (t : Held) (at id : ℕ) → Holds s t → is_due (max t.clock at) (t.stages id) ≡ is_due (max s.clock at) (stage_of s id)
due-there s t at id h = ap (λ (now : ℕ). is_due (max now at) (t.stages id)) h.clock ∙ ap (is_due (max s.clock at)) (h.stages id)

-- An id is due by then: something is.
pub due-some : (s : Plain) (t : Held) (at id : ℕ) → Holds s t → is_due (max t.clock at) (t.stages id) ≡ true → nothing_due (advanced s at) ≡ false
due-some s t at id h due = some-by s (max s.clock at) id (request_at s id) (tuple_at s id) (notifier_at s id) refl refl refl (sym (due-there s t at id h) ∙ due)

-- No id is due by then: nothing is.
pub due-none : (s : Plain) (t : Held) (at : ℕ) → Holds s t → ((id : ℕ) → is_due (max t.clock at) (t.stages id) ≡ false) → nothing_due (advanced s at) ≡ true
due-none s t at h none = none-by s t (max s.clock at) h (λ id. sym (due-there s t at id h) ∙ none id)

-- What an id finds.

unnamed : (p : Found → Bool) (b : Bool) → p IsUnknown ≡ false → p IsRecycled ≡ false → p (if b then IsUnknown else IsRecycled) ≡ false
unnamed p true e f = e
unnamed p false e f = f

-- A notifier runs with an empty queue.

abbrev pub idle_in : Option Note → Bool
idle_in None = false
idle_in (Some n) = is_open n.state && is_none (first n.queue)

open-as : (st : Hearing) → is_open (closed_as st) ≡ is_running st
open-as hearing.Running = refl
open-as (hearing.Closed last until) = refl

empty-values : (events : List Raised) → is_none (first (map event_value events)) ≡ is_empty events
empty-values [] = refl
empty-values (e ∷ events) = refl

idle-note : (s : Plain) (n : Notifier) → idle_in (Some (note_of s.events n)) ≡ (is_running n.state && is_empty (queue n s.events))
idle-note s n = ap (λ (b : Bool). b && is_none (first (map event_value (queue n s.events)))) (open-as n.state) ∙ ap (λ (b : Bool). is_running n.state && b) (empty-values (queue n s.events))

note-seen : (events : List Raised) (id : ℕ) (ns : List Notifier) → note_at id (map (note_of events) ns) ≡ option_map (note_of events) (row_of (λ n. n.id) id ns)
note-seen events id [] = refl
note-seen events id (n ∷ ns) = grind (arith, nat_tests, note-seen events id ns)

hears-none : (s : Plain) (id : ℕ) (r : Option Request) (t : Option Entry) (e : Option Ended) → hears_nothing s (found_among s id r t None e) ≡ false
hears-none s id (Some r) t e = refl
hears-none s id None (Some t) e = refl
hears-none s id None None (Some e) = refl
hears-none s id None None None = unnamed (hears_nothing s) (id == 0 || nat_le s.next id) refl refl

hears-by : (s : Plain) (t : Held) (id : ℕ) (o : Option Notifier) → Holds s t → notifier_at s id ≡ o → hears_nothing s (found s id) ≡ idle_in (option_map (note_of s.events) o)
hears-by s t id None h is = ap (λ (o : Option Notifier). hears_nothing s (found_among s id (request_at s id) (tuple_at s id) o (ended_at s id))) is ∙ hears-none s id (request_at s id) (tuple_at s id) (ended_at s id)
hears-by s t id (Some n) h is =
    let a = alone-notifier (request_at s id) (tuple_at s id) (notifier_at s id) n is (h.alone id) in
    let there : hears_nothing s (found s id) ≡ (is_running n.state && is_empty (queue n s.events)) = rw (a.0, a.1, is) refl in
    there ∙ sym (idle-note s n)

-- Whether a notifier runs with an empty queue is in its note.
pub hears-found : (s : Plain) (t : Held) (id : ℕ) → Holds s t → hears_nothing s (found s id) ≡ idle_in (note_at id t.notes)
hears-found s t id h = hears-by s t id (notifier_at s id) h refl ∙ sym (ap idle_in (ap (note_at id) h.notes ∙ note-seen s.events id s.notifiers))

-- Nobody is to be asked.

abbrev nobody : List Asking → Bool
nobody xs = is_none (least xs)

nobody-both : (xs ys : List Asking) → nobody xs ≡ true → nobody ys ≡ true → nobody (xs ++ ys) ≡ true
nobody-both [] ys e f = f
nobody-both (x ∷ xs) ys e f = cc

somebody-first : (xs ys : List Asking) → nobody xs ≡ false → nobody (xs ++ ys) ≡ false
somebody-first [] ys e = cc
somebody-first (x ∷ xs) ys e = refl

somebody-last : (xs ys : List Asking) → nobody ys ≡ false → nobody (xs ++ ys) ≡ false
somebody-last [] ys e = e
somebody-last (x ∷ xs) ys e = refl

nobody-flat : {R : Type 0} (f : R → List Asking) (rows : List R) → list_all (λ row. nobody (f row)) rows ≡ true → nobody (flat f rows) ≡ true
nobody-flat f [] e = refl
nobody-flat f (x ∷ rows) e =
    let here : nobody (f x) ≡ true = grind arith in
    let rest : list_all (λ row. nobody (f row)) rows ≡ true = grind arith in
    nobody-both (f x) (flat f rows) here (nobody-flat f rows rest)

somebody-flat : {R : Type 0} (f : R → List Asking) (rows : List R) → list_all (λ row. nobody (f row)) rows ≡ false → nobody (flat f rows) ≡ false
somebody-flat f [] e = cc
somebody-flat f (x ∷ rows) e = by-test (nobody (f x)) refl (somebody-flat f rows)
  where
    by-test : (b : Bool) → nobody (f x) ≡ b → (list_all (λ row. nobody (f row)) rows ≡ false → nobody (flat f rows) ≡ false) → nobody (f x ++ flat f rows) ≡ false
    by-test false here further = somebody-first (f x) (flat f rows) here
    by-test true here further =
        let rest : list_all (λ row. nobody (f row)) rows ≡ false = grind arith in
        somebody-last (f x) (flat f rows) (further rest)

-- who is doubted has a renewer, which is asked where its stage waits
asks-where : (id : ℕ) (d : Doubt) (w : Option Remote) (b : Bool) (deadline : Option ℕ) → may_doubt d (is_none w) ≡ true → nobody (asking_of id d w) ≡ not (is_waiting (stage_by d b deadline))
asks-where id doubt.No w true None e = refl
asks-where id doubt.No w true (Some deadline) e = refl
asks-where id doubt.No w false deadline e = refl
asks-where id doubt.Waiting None b deadline e = cc
asks-where id doubt.Waiting (Some w) b deadline e = refl
asks-where id doubt.Asked w b deadline e = refl

tuple-asks : (s : Plain) (t : Held) (id : ℕ) (e : Entry) → Sound s → Holds s t → tuple_at s id ≡ Some e → nobody (asking_of e.id e.doubt e.renewer) ≡ not (is_waiting (stage_of s id))
tuple-asks s t id e sound h there =
    asks-where e.id e.doubt e.renewer (is_free e) e.deadline (all_at (λ (e : Entry). may_doubt e.doubt (is_none e.renewer)) (λ (e : Entry). e.id) id s.tuples e there sound.doubts.tuples)
    ∙ ap (λ (x : Stage). not (is_waiting x)) (sym (stage-tuple s t id e h there))

request-asks : (s : Plain) (id : ℕ) (r : Request) → Sound s → request_at s id ≡ Some r → nobody (asking_of r.id r.doubt r.renewer) ≡ not (is_waiting (stage_of s id))
request-asks s id r sound there =
    asks-where r.id r.doubt r.renewer (is_parked r.state) r.deadline (all_at (λ (r : Request). may_doubt r.doubt (is_none r.renewer)) (λ (r : Request). r.id) id s.requests r there sound.doubts.requests)
    ∙ ap (λ (x : Stage). not (is_waiting x)) (sym (stage-request s id r there))

notifier-asks : (s : Plain) (t : Held) (id : ℕ) (n : Notifier) → Sound s → Holds s t → notifier_at s id ≡ Some n → nobody (asking_of n.id n.doubt n.renewer) ≡ not (is_waiting (stage_of s id))
notifier-asks s t id n sound h there =
    asks-where n.id n.doubt n.renewer (is_running n.state) n.deadline (all_at (λ (n : Notifier). may_doubt n.doubt (is_none n.renewer)) (λ (n : Notifier). n.id) id s.notifiers n there sound.doubts.notifiers)
    ∙ ap (λ (x : Stage). not (is_waiting x)) (sym (stage-notifier s t id n h there))

abbrev tuple-nobody : Entry → Bool
tuple-nobody e = nobody (asking_of e.id e.doubt e.renewer)

abbrev request-nobody : Request → Bool
request-nobody r = nobody (asking_of r.id r.doubt r.renewer)

abbrev notifier-nobody : Notifier → Bool
notifier-nobody n = nobody (asking_of n.id n.doubt n.renewer)

abbrev tuples-ask : Plain → List Asking
tuples-ask s = flat (λ (e : Entry). asking_of e.id e.doubt e.renewer) s.tuples

abbrev requests-ask : Plain → List Asking
requests-ask s = flat (λ (r : Request). asking_of r.id r.doubt r.renewer) s.requests

abbrev notifiers-ask : Plain → List Asking
notifiers-ask s = flat (λ (n : Notifier). asking_of n.id n.doubt n.renewer) s.notifiers

none-waits : (s : Plain) (t : Held) → Sound s → Holds s t → ((id : ℕ) → is_waiting (stage_of s id) ≡ false) → nobody (askings s) ≡ true
none-waits s t sound h none =
    nobody-both (tuples-ask s) (requests-ask s ++ notifiers-ask s) (nobody-flat (λ (e : Entry). asking_of e.id e.doubt e.renewer) s.tuples (each-row tuple-nobody (λ (e : Entry). e.id) s.tuples (rises (λ (e : Entry). e.id) s.next s.tuples h.numbered.tuples) (λ e there. tuple-asks s t e.id e sound h there ∙ ap not (none e.id))))
    (nobody-both (requests-ask s) (notifiers-ask s) (nobody-flat (λ (r : Request). asking_of r.id r.doubt r.renewer) s.requests (each-row request-nobody (λ (r : Request). r.id) s.requests (rises (λ (r : Request). r.id) s.next s.requests h.numbered.requests) (λ r there. request-asks s r.id r sound there ∙ ap not (none r.id))))
    (nobody-flat (λ (n : Notifier). asking_of n.id n.doubt n.renewer) s.notifiers (each-row notifier-nobody (λ (n : Notifier). n.id) s.notifiers (rises (λ (n : Notifier). n.id) s.next s.notifiers h.numbered.notifiers) (λ n there. notifier-asks s t n.id n sound h there ∙ ap not (none n.id)))))

one-waits : (s : Plain) (t : Held) (id : ℕ) (r : Option Request) (e : Option Entry) (n : Option Notifier) → Sound s → Holds s t → request_at s id ≡ r → tuple_at s id ≡ e → notifier_at s id ≡ n → is_waiting (stage_of s id) ≡ true → is_waiting (stage_among r e n) ≡ true → nobody (askings s) ≡ false
one-waits s t id (Some r) e n sound h a b c waits here = somebody-last (tuples-ask s) (requests-ask s ++ notifiers-ask s) (somebody-first (requests-ask s) (notifiers-ask s) (somebody-flat (λ (r : Request). asking_of r.id r.doubt r.renewer) s.requests (row-fails request-nobody (λ (r : Request). r.id) id s.requests r a (request-asks s id r sound a ∙ ap not waits))))
one-waits s t id None (Some e) n sound h a b c waits here = somebody-first (tuples-ask s) (requests-ask s ++ notifiers-ask s) (somebody-flat (λ (e : Entry). asking_of e.id e.doubt e.renewer) s.tuples (row-fails tuple-nobody (λ (e : Entry). e.id) id s.tuples e b (tuple-asks s t id e sound h b ∙ ap not waits)))
one-waits s t id None None (Some n) sound h a b c waits here = somebody-last (tuples-ask s) (requests-ask s ++ notifiers-ask s) (somebody-last (requests-ask s) (notifiers-ask s) (somebody-flat (λ (n : Notifier). asking_of n.id n.doubt n.renewer) s.notifiers (row-fails notifier-nobody (λ (n : Notifier). n.id) id s.notifiers n c (notifier-asks s t id n sound h c ∙ ap not waits))))
one-waits s t id None None None sound h a b c waits here = cc

quiet-waits : (x : Stage) → is_waiting (quiet x) ≡ is_waiting x
quiet-waits stage.Still = refl
quiet-waits (stage.Timed deadline) = refl
quiet-waits stage.Waiting = refl
quiet-waits stage.Asked = refl

-- who waits in the space waits in tables
waits-there : (s : Plain) (t : Tables) (id : ℕ) → Holds s (ahead_of t) → is_waiting (stage_of s id) ≡ is_waiting (stage_at t.deadlines.entries id)
waits-there s t id h = ap is_waiting (sym (h.stages id)) ∙ quiet-waits (stage_at t.deadlines.entries id)

-- There is nobody to ask where no stage waits.
pub nobody-asked : (s : Plain) (t : Tables) (next : Option ℕ) → Sound s → Holds s (ahead_of t) → IsNextAsk t.deadlines.entries next → is_none next ≡ is_none (least (askings s))
nobody-asked s t None sound h none = sym (none-waits s (ahead_of t) sound h (λ id. waits-there s t id h ∙ none id))
nobody-asked s t (Some id) sound h is =
    let waits = waits-there s t id h ∙ is.0 in
    sym (one-waits s (ahead_of t) id (request_at s id) (tuple_at s id) (notifier_at s id) sound h refl refl refl waits waits)
