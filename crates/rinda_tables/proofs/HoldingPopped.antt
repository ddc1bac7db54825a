-- What a pop, and a tuple that has expired as it is written, leave of what tables hold.
use Rattle.std.proofs.Common.{◌≡◌, ◌∙◌, ℕ, ◌+◌, Bool, true, false, List, [], ◌∷◌, ◌++◌, map, Option, Some, None, refl, sym, ap, subst, arith}
use Rattle.std.specs.Prelude.{◌==◌, if◌then◌else◌}
use Rattle.std.proofs.lemmas.Bool.Decides.{nat_tests}
use Rattle.drb_tree.specs.declared.Tree.{Tree}
use Rattle.rinda_rules.specs.declared.object.Last.{Last}
use Rattle.rinda_rules.specs.declared.object.Last.TheVariants as last
use Rattle.rinda_rules.specs.declared.object.ObjectKind.TheVariants as object
use Rattle.rinda_rules.specs.declared.out.Out.{Out}
use Rattle.rinda_rules.specs.declared.out.Out.TheVariants as out
use Rattle.rinda_rules.specs.declared.row.NoteState.{NoteState}
use Rattle.rinda_rules.specs.declared.row.NoteState.TheVariants as state
use Rattle.rinda_rules.specs.declared.plain.Ended.{Ended}
use Rattle.rinda_rules.specs.declared.plain.Entry.{Entry}
use Rattle.rinda_rules.specs.declared.plain.Notifier.{Notifier}
use Rattle.rinda_rules.specs.declared.plain.Request.{Request}
use Rattle.rinda_rules.specs.declared.plain.Raised.{Raised}
use Rattle.rinda_rules.specs.declared.plain.Hearing.{Hearing}
use Rattle.rinda_rules.specs.declared.plain.Hearing.TheVariants as hearing
use Rattle.rinda_rules.specs.Rows.{without}
use Rattle.rinda_rules.specs.Space.{Plain, notifier_at, request_at, tuple_at, retained, event_value}
use Rattle.rinda_rules.specs.Queue.{queue}
use Rattle.rinda_rules.specs.Phases.{with_notifier, notifier_ended}
use Rattle.rinda_rules.specs.Cases.{pop_queue, pop_empty}
use Rattle.rinda_rules.specs.Starts.{closed_as}
use Rattle.rinda_rules.proofs.Lists.{row_has_id, numbered-more}
use Rattle.rinda_rules.proofs.Becoming.{becomes_popped}
use Rattle.rinda_rules.proofs.Ways.{Becomes}
use Rattle.rinda_notify.specs.declared.note.Note.{Note}
use Rattle.rinda_notify.specs.declared.note.Popped.{Popped}
use Rattle.rinda_notify.specs.declared.note.Popped.TheVariants as popped
use Rattle.rinda_notify.specs.Notes.{note_of, note_at, with_note, without_note, advanced, pop_of, given, dry}
use Rattle.rinda_notify.proofs.Told as N
use Rattle.drb_ids.specs.declared.object.LiveId.{LiveId}
use Rattle.drb_ids.specs.Ids.{Ids, live_at, minted, ended_with}
use Rattle.drb_ids.specs.Found.{living}
use Rattle.drb_ids.proofs.Founds.{live_at-minted, live_at-ended_with}
use Rattle.rinda_lease.specs.declared.stage.Stage.TheVariants as stage
use Rattle.rinda_tables.specs.Holds.{Held, Holds, notifier_stage}
use Rattle.rinda_tables.specs.Tabled.{last_in, pop_answer, with_passed_tuple}
use Rattle.rinda_tables.proofs.Holding.{ended-at}
use Rattle.rinda_tables.proofs.HoldingTuples.{none-next}
use Rattle.rinda_tables.proofs.HoldingSame.{holds-same}
use Rattle.rinda_tables.proofs.HoldingNoted.{noted, note-there, notifier-keeps-stage, ended-notifier}

-- what is given of a notifier that is there
pub given-there : (s : Plain) (t : Held) (id : ℕ) (n : Notifier) (p : Popped) → Holds s t → notifier_at s id ≡ Some n → p ≡ pop_of (note_at id t.notes) → p ≡ given (closed_as n.state) (map event_value (queue n s.events))
given-there s t id n p h there is = is ∙ ap pop_of (note-there s t id n h there)

same-note : (a b : Note) → Some a ≡ Some b → a ≡ b
same-note a b e = cc

-- how the notifier has ended is how its note has
pub last-there : (s : Plain) (n : Notifier) (note : Note) → Some note ≡ Some (note_of s.events n) → last_in note.state ≡ last_in (closed_as n.state)
last-there s n note e = ap (λ (x : Note). last_in x.state) (same-note note (note_of s.events n) e)

dry-event : {P : Type 0} (st : NoteState) (event : Tree) → popped.Event event ≡ dry st → P
dry-event state.Running event e = cc
dry-event (state.Closed l) event e = cc

same-event : (st : NoteState) (event : Tree) (e : Raised) (es : List Raised) → popped.Event event ≡ given st (map event_value (e ∷ es)) → event ≡ event_value e
same-event st event e es is = cc

-- it gives its first event
pub popped-event : (s : Plain) (t b : Held) (id : ℕ) (n : Notifier) (nothing : Out) (event : Tree) → Holds s t → notifier_at s id ≡ Some n → popped.Event event ≡ pop_of (note_at id t.notes) → b.clock ≡ t.clock → b.shut ≡ t.shut → b.ids ≡ t.ids → b.tuples ≡ t.tuples → b.requests ≡ t.requests → b.notes ≡ with_note id advanced t.notes → ((q : ℕ) → b.stages q ≡ t.stages q) → (q : List Raised) → queue n s.events ≡ q → (out.Event event ≡ (pop_queue s n nothing q).out) × Holds (pop_queue s n nothing q).after b
popped-event s t b id n nothing event h there is clock shut ids tuples requests notes stages [] none =
    let dries : popped.Event event ≡ dry (closed_as n.state) = given-there s t id n (popped.Event event) h there is ∙ ap (λ (q : List Raised). given (closed_as n.state) (map event_value q)) none in
    dry-event (closed_as n.state) event dries
popped-event s t b id n nothing event h there is clock shut ids tuples requests notes stages (e ∷ es) some =
    let gives : popped.Event event ≡ given (closed_as n.state) (map event_value (e ∷ es)) = given-there s t id n (popped.Event event) h there is ∙ ap (λ (q : List Raised). given (closed_as n.state) (map event_value q)) some in
    let next : Notifier → Notifier = λ m. record m { popped = m.popped + 1 } in (
      ap out.Event (same-event (closed_as n.state) event e es gives),
      subst (λ (i : ℕ). Holds (with_notifier i next s) b) (sym (row_has_id (λ (x : Notifier). x.id) id s.notifiers n there))
          (noted s t b id next advanced n (λ x. refl) h there (N.pop_advances s.events n e es some) (becomes_popped s n e es some).heard clock shut ids tuples requests notes
          (λ q. stages q ∙ notifier-keeps-stage s t n id q h there)),
    )

dry-closed : (st : Hearing) → popped.Closed ≡ dry (closed_as st) → (l : Last) × (until : ℕ) × (st ≡ hearing.Closed l until)
dry-closed hearing.Running e = cc
dry-closed (hearing.Closed l until) e = (l, until, refl)

closed-given : {P : Type 0} (st : NoteState) (e : Raised) (es : List Raised) → popped.Closed ≡ given st (map event_value (e ∷ es)) → P
closed-given st e es is = cc

closed-so : (s : Plain) (b : Held) (n : Notifier) (nothing : Out) (st : Hearing) (l : Last) (until : ℕ) → st ≡ hearing.Closed l until → Holds (notifier_ended l n.id s) b → (out.Closed ≡ (pop_empty s n nothing st).out) × Holds (pop_empty s n nothing st).after b
closed-so s b n nothing st l until is h = subst (λ (x : Hearing). (out.Closed ≡ (pop_empty s n nothing x).out) × Holds (pop_empty s n nothing x).after b) (sym is) (refl, h)

-- it was closed, and has no more to give
pub popped-closed : (s : Plain) (t b : Held) (id : ℕ) (n : Notifier) (nothing : Out) → Holds s t → notifier_at s id ≡ Some n → popped.Closed ≡ pop_of (note_at id t.notes) → b.clock ≡ t.clock → b.shut ≡ t.shut → b.ids ≡ ended_with id (last_in (closed_as n.state)) t.ids → b.tuples ≡ t.tuples → b.requests ≡ t.requests → b.notes ≡ without_note id t.notes → ((q : ℕ) → b.stages q ≡ (if q == id then stage.Still else t.stages q)) → (q : List Raised) → queue n s.events ≡ q → (out.Closed ≡ (pop_queue s n nothing q).out) × Holds (pop_queue s n nothing q).after b
popped-closed s t b id n nothing h there is clock shut ids tuples requests notes stages (e ∷ es) some =
    closed-given (closed_as n.state) e es (given-there s t id n popped.Closed h there is ∙ ap (λ (q : List Raised). given (closed_as n.state) (map event_value q)) some)
popped-closed s t b id n nothing h there is clock shut ids tuples requests notes stages [] none =
    let dries : popped.Closed ≡ dry (closed_as n.state) = given-there s t id n popped.Closed h there is ∙ ap (λ (q : List Raised). given (closed_as n.state) (map event_value q)) none in
    let at = dry-closed n.state dries in
    let same = row_has_id (λ (x : Notifier). x.id) id s.notifiers n there in
    let ended = ended-notifier s t b at.0 n id h same there clock shut (ids ∙ ap (λ (st : Hearing). ended_with id (last_in (closed_as st)) t.ids) at.2) tuples requests notes stages in
    closed-so s b n nothing n.state at.0 at.1 at.2 (subst (λ (i : ℕ). Holds (notifier_ended at.0 i s) b) (sym same) ended)

dry-empty : (st : Hearing) → popped.Empty ≡ dry (closed_as st) → st ≡ hearing.Running
dry-empty hearing.Running e = refl
dry-empty (hearing.Closed l until) e = cc

empty-given : {P : Type 0} (st : NoteState) (e : Raised) (es : List Raised) → popped.Empty ≡ given st (map event_value (e ∷ es)) → P
empty-given st e es is = cc

-- it runs, and has nothing to give
pub popped-empty : (s : Plain) (t b : Held) (id : ℕ) (n : Notifier) (nothing : Out) → Holds s t → notifier_at s id ≡ Some n → popped.Empty ≡ pop_of (note_at id t.notes) → Holds s b → (q : List Raised) → queue n s.events ≡ q → (nothing ≡ (pop_queue s n nothing q).out) × Holds (pop_queue s n nothing q).after b
popped-empty s t b id n nothing h there is same (e ∷ es) some =
    empty-given (closed_as n.state) e es (given-there s t id n popped.Empty h there is ∙ ap (λ (q : List Raised). given (closed_as n.state) (map event_value q)) some)
popped-empty s t b id n nothing h there is same [] none =
    let dries : popped.Empty ≡ dry (closed_as n.state) = given-there s t id n popped.Empty h there is ∙ ap (λ (q : List Raised). given (closed_as n.state) (map event_value q)) none in
    let runs = dry-empty n.state dries in
    rw runs (refl, same)

-- An id of a tuple that has expired.

passed-living : (id q : ℕ) (r : Option Request) (t : Option Entry) (n : Option Notifier) (o : Option LiveId) (l : Option LiveId) (b : Bool) → (b ≡ true → ((r ≡ None) × (t ≡ None)) × (n ≡ None)) → o ≡ living q r t n → (if b then None else (if b then l else o)) ≡ living q r t n
passed-living id q r t n o l true none h = rw ((none refl).0.0, (none refl).0.1, (none refl).1) refl
passed-living id q r t n o l false none h = h

pub passed-tuple : (s : Plain) (t b : Held) (id : ℕ) → Holds s t → id ≡ t.ids.next → b.clock ≡ t.clock → b.shut ≡ t.shut → b.ids ≡ ended_with id last.Expired (minted object.Entry t.ids) → b.tuples ≡ t.tuples → b.requests ≡ t.requests → b.notes ≡ t.notes → ((q : ℕ) → b.stages q ≡ t.stages q) → (id ≡ s.next) × Holds (with_passed_tuple s) b
passed-tuple s t b id h next clock shut ids tuples requests notes stages = (
  is,
  record {
    clock = clock ∙ h.clock;
    shut = shut ∙ h.shut;
    numbered = record { next = grind (arith, nat_tests); tuples = numbered-more (λ t. t.id) s.next s.tuples h.numbered.tuples; requests = numbered-more (λ r. r.id) s.next s.requests h.numbered.requests; notifiers = numbered-more (λ n. n.id) s.next s.notifiers h.numbered.notifiers };
    alone = h.alone;
    ids = record {
      next = ap (λ (i : Ids). i.next) (ids ∙ gone) ∙ ap (λ (n : ℕ). n + 1) h.ids.next;
      live = λ q. ap (λ (i : Ids). live_at i q) ids
          ∙ live_at-ended_with (minted object.Entry t.ids) id last.Expired one q lives
          ∙ ap (λ (o : Option LiveId). if q == id then None else o) (live_at-minted t.ids object.Entry q no_live ∙ ap (λ (i : ℕ). if q == i then Some (record { id = t.ids.next; kind = object.Entry }) else live_at t.ids q) (sym next))
          ∙ passed-living id q (request_at s q) (tuple_at s q) (notifier_at s q) (live_at t.ids q) (Some (record { id = t.ids.next; kind = object.Entry })) (q == id) (λ e. at q e) (h.ids.live q);
      ended = ap (λ (i : Ids). i.ended) (ids ∙ gone) ∙ ap (λ (es : List Ended). retained (es ++ record { id = id; kind = object.Entry; last = last.Expired } ∷ [])) h.ids.ended ∙ ap (λ (i : ℕ). retained (s.ended ++ record { id = i; kind = object.Entry; last = last.Expired } ∷ [])) is;
    };
    tuples = tuples ∙ h.tuples;
    requests = requests ∙ h.requests;
    notes = notes ∙ h.notes;
    heard = h.heard;
    stages = λ q. stages q ∙ h.stages q;
  },
)
  where
    is : id ≡ s.next
    is = next ∙ h.ids.next

    one : LiveId
    one = record { id = id; kind = object.Entry }

    none : ((request_at s id ≡ None) × (tuple_at s id ≡ None)) × (notifier_at s id ≡ None)
    none = subst (λ (i : ℕ). ((request_at s i ≡ None) × (tuple_at s i ≡ None)) × (notifier_at s i ≡ None)) (sym is) ((none-next (λ r. r.id) s.next s.requests h.numbered.requests, none-next (λ t. t.id) s.next s.tuples h.numbered.tuples), none-next (λ n. n.id) s.next s.notifiers h.numbered.notifiers)

    at : (q : ℕ) → (q == id) ≡ true → ((request_at s q ≡ None) × (tuple_at s q ≡ None)) × (notifier_at s q ≡ None)
    at q e =
        let same : q ≡ id = grind (arith, nat_tests) in
        subst (λ (i : ℕ). ((request_at s i ≡ None) × (tuple_at s i ≡ None)) × (notifier_at s i ≡ None)) (sym same) none

    no_live : live_at t.ids t.ids.next ≡ None
    no_live = ap (λ (i : ℕ). live_at t.ids i) (sym next) ∙ h.ids.live id ∙ rw (none.0.0, none.0.1, none.1) refl

    lives : live_at (minted object.Entry t.ids) id ≡ Some one
    lives = live_at-minted t.ids object.Entry id no_live ∙ rw next (grind (arith, nat_tests))

    gone : ended_with id last.Expired (minted object.Entry t.ids) ≡ record (minted object.Entry t.ids) { live = without (λ l. l.id) id (minted object.Entry t.ids).live; ended = retained (t.ids.ended ++ record { id = id; kind = object.Entry; last = last.Expired } ∷ []) }
    gone = ended-at (minted object.Entry t.ids) id object.Entry last.Expired lives
