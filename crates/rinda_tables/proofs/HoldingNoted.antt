-- What a change of a notifier leaves, by its fields.
use Rattle.std.proofs.Common.{◌≡◌, ◌∙◌, ℕ, Bool, true, List, Option, Some, None, refl, sym, ap, subst, arith, false}
use Rattle.std.specs.Prelude.{◌==◌, length, if◌then◌else◌}
use Rattle.drb_ids.specs.Ids.{ended_with}
use Rattle.rinda_lease.specs.declared.stage.Stage.{Stage}
use Rattle.rinda_lease.specs.declared.stage.Stage.TheVariants as stage
use Rattle.rinda_notify.specs.declared.note.Note.{Note}
use Rattle.rinda_notify.specs.Notes.{note_of, note_at, with_note, without_note, closed, is_open, is_open_at}
use Rattle.rinda_rules.specs.Starts.{closed_as}
use Rattle.rinda_rules.specs.declared.plain.Hearing.{Hearing}
use Rattle.rinda_notify.proofs.Told as N
use Rattle.rinda_rules.specs.declared.object.Last.{Last}
use Rattle.rinda_rules.specs.declared.plain.Entry.{Entry}
use Rattle.rinda_rules.specs.declared.plain.Request.{Request}
use Rattle.rinda_rules.specs.declared.plain.Notifier.{Notifier}
use Rattle.rinda_rules.specs.declared.plain.Hearing.TheVariants as hearing
use Rattle.rinda_rules.specs.declared.plain.Raised.{Raised}
use Rattle.rinda_rules.specs.Cases.{asked_doubt}
use Rattle.rinda_rules.specs.Rows.{numbered, rising}
use Rattle.rinda_rules.specs.Space.{Plain, request_at, tuple_at, notifier_at, is_running}
use Rattle.rinda_rules.specs.Phases.{with_notifier, close_after, notifier_ended}
use Rattle.rinda_rules.specs.Sound.{hears_within}
use Rattle.rinda_rules.proofs.Lists.{all_changed_one, all_at}
use Rattle.rinda_rules.proofs.Becoming.{hears_closed}
use Rattle.rinda_tables.specs.Holds.{Held, Holds, stage_by, stage_among, notifier_stage}
use Rattle.rinda_tables.proofs.Holding.{alone-notifier}
use Rattle.rinda_tables.proofs.HoldingNotifiers.{holds-with-notifier, holds-notifier-ended}
use Rattle.rinda_tables.proofs.HoldingSame.{holds-same, kept-stage}

rises : {R : Type 0} (key : R → ℕ) (next : ℕ) (rows : List R) → numbered key next rows ≡ true → rising key rows ≡ true
rises key next rows h = grind arith

note-stage : (r : Option Request) (t : Option Entry) (n : Option Notifier) (e : Notifier) → (r ≡ None) × (t ≡ None) → n ≡ Some e → stage_among r t n ≡ notifier_stage e
note-stage r t n e p q = rw (p.0, p.1, q) refl

pub notifier-keeps-stage : (s : Plain) (t : Held) (e : Notifier) (id q : ℕ) → Holds s t → notifier_at s id ≡ Some e → t.stages q ≡ (if q == id then notifier_stage e else t.stages q)
notifier-keeps-stage s t e id q h there = kept-stage q id (q == id) t.stages (notifier_stage e) refl (h.stages id ∙ note-stage (request_at s id) (tuple_at s id) (notifier_at s id) e (alone-notifier (request_at s id) (tuple_at s id) (notifier_at s id) e there (h.alone id)) there)

pub noted : (s : Plain) (t b : Held) (id : ℕ) (f : Notifier → Notifier) (g : Note → Note) (e : Notifier) → ((x : Notifier) → (f x).id ≡ x.id) → Holds s t → notifier_at s id ≡ Some e → note_of s.events (f e) ≡ g (note_of s.events e) → (hears_within s.events e ≡ true → hears_within s.events (f e) ≡ true) → b.clock ≡ t.clock → b.shut ≡ t.shut → b.ids ≡ t.ids → b.tuples ≡ t.tuples → b.requests ≡ t.requests → b.notes ≡ with_note id g t.notes → ((q : ℕ) → b.stages q ≡ (if q == id then notifier_stage (f e) else t.stages q)) → Holds (with_notifier id f s) b
noted s t b id f g e keeps h there sees hears clock shut ids tuples requests notes stages =
    let rise = rises (λ (n : Notifier). n.id) s.next s.notifiers h.numbered.notifiers in
    holds-same _ _ b (holds-with-notifier s t id f g e b.stages keeps h there
    (N.one_seen (λ (n : Notifier). n.id) (λ (n : Note). n.id) (note_of s.events) id f g s.notifiers e (λ x. refl) rise there sees)
    (all_changed_one (hears_within s.events) (λ (n : Notifier). n.id) id f s.notifiers e rise there (hears (all_at (hears_within s.events) (λ (n : Notifier). n.id) id s.notifiers e there h.heard)) h.heard)
    stages) clock shut ids tuples requests notes (λ q. refl)

-- the note of a notifier that is there
pub note-there : (s : Plain) (t : Held) (id : ℕ) (e : Notifier) → Holds s t → notifier_at s id ≡ Some e → note_at id t.notes ≡ Some (note_of s.events e)
note-there s t id e h there = ap (note_at id) h.notes ∙ N.row_seen (λ (n : Notifier). n.id) (λ (n : Note). n.id) (note_of s.events) id s.notifiers e (λ x. refl) there

-- where a notifier stands once it is closed
abbrev pub closed-stage : Option Note → Stage
closed-stage None = stage.Still
closed-stage (Some n) = stage_by n.doubt false n.deadline

pub open-runs : (st : Hearing) → is_open (closed_as st) ≡ is_running st
open-runs hearing.Running = refl
open-runs (hearing.Closed last until) = refl

pub runs-is : (s : Plain) (t : Held) (id : ℕ) (e : Notifier) → Holds s t → notifier_at s id ≡ Some e → is_open_at (note_at id t.notes) ≡ is_running e.state
runs-is s t id e h there = ap is_open_at (note-there s t id e h there) ∙ open-runs e.state

-- a running notifier is closed now
pub noted-closed : (s : Plain) (t b : Held) (id : ℕ) (last : Last) (e : Notifier) → Holds s t → notifier_at s id ≡ Some e → e.state ≡ hearing.Running → b.clock ≡ t.clock → b.shut ≡ t.shut → b.ids ≡ t.ids → b.tuples ≡ t.tuples → b.requests ≡ t.requests → b.notes ≡ with_note id (closed last) t.notes → ((q : ℕ) → b.stages q ≡ (if q == id then stage_by e.doubt false e.deadline else t.stages q)) → Holds (with_notifier id (close_after last (length s.events)) s) b
noted-closed s t b id last e h there runs clock shut ids tuples requests notes stages =
    noted s t b id (close_after last (length s.events)) (closed last) e (λ x. refl) h there
    (N.close_is_closed s.events last e (ap is_running runs))
    (hears_closed s.events e last runs) clock shut ids tuples requests notes stages

-- a notifier that has ended
pub ended-notifier : (s : Plain) (t b : Held) (last : Last) (e : Notifier) (id : ℕ) → Holds s t → e.id ≡ id → notifier_at s id ≡ Some e → b.clock ≡ t.clock → b.shut ≡ t.shut → b.ids ≡ ended_with id last t.ids → b.tuples ≡ t.tuples → b.requests ≡ t.requests → b.notes ≡ without_note id t.notes → ((q : ℕ) → b.stages q ≡ (if q == id then stage.Still else t.stages q)) → Holds (notifier_ended last id s) b
ended-notifier s t b last e id h is there clock shut ids tuples requests notes stages =
    let at = subst (λ i. notifier_at s i ≡ Some e) (sym is) there in
    let st = subst (λ (i : ℕ). (q : ℕ) → b.stages q ≡ (if q == i then stage.Still else t.stages q)) (sym is) stages in
    subst (λ (i : ℕ). Holds (notifier_ended last i s) b) is
    (holds-same _ _ b (holds-notifier-ended s t last e b.stages h at st) clock shut
    (ids ∙ ap (λ i. ended_with i last t.ids) (sym is)) tuples requests (notes ∙ ap (λ i. without_note i t.notes) (sym is)) (λ q. refl))

-- a notifier that is there has its note
pub no-note : {P : Type 0} (o : Option Note) (n : Note) → o ≡ None → o ≡ Some n → P
no-note None n a b = cc
no-note (Some x) n a b = cc

-- where a notifier stands once its renewer is being asked
asked-there : (s : List Raised) (e : Notifier) (n : Note) (runs : Bool) → n ≡ note_of s e → runs ≡ is_running e.state → stage_by (asked_doubt n.doubt) runs n.deadline ≡ notifier_stage (record e { doubt = asked_doubt e.doubt })
asked-there s e n runs is r = rw (is, r) refl

same-note : (a b : Note) → Some a ≡ Some b → a ≡ b
same-note a b e = cc

pub asked-stage : (s : List Raised) (e : Notifier) (n : Note) (runs : Bool) → Some n ≡ Some (note_of s e) → runs ≡ is_running e.state → stage_by (asked_doubt n.doubt) runs n.deadline ≡ notifier_stage (record e { doubt = asked_doubt e.doubt })
asked-stage s e n runs is r = asked-there s e n runs (same-note n (note_of s e) is) r
