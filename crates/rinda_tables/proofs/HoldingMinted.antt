-- A new row, by its fields.
use Rattle.std.proofs.Common.{◌≡◌, ◌∙◌, ℕ, [], ◌∷◌, ◌++◌, Option, refl, ap, List, sym, true, arith}
use Rattle.std.specs.Prelude.{◌==◌, if◌then◌else◌}
use Rattle.drb_tree.specs.declared.Remote.{Remote}
use Rattle.drb_ids.specs.Ids.{minted}
use Rattle.rinda_lease.specs.declared.stage.Stage.{Stage}
use Rattle.rinda_lease.specs.Stages.{timed}
use Rattle.rinda_rules.specs.declared.event.Kind.{Kind}
use Rattle.rinda_rules.specs.declared.object.ObjectKind.TheVariants as object
use Rattle.rinda_lease.specs.declared.stage.Stage.TheVariants.{Still}
use Rattle.rinda_rules.specs.Space.{Plain}
use Rattle.rinda_tuple.specs.declared.tuple.Tuple.{Tuple}
use Rattle.rinda_tuple.specs.declared.tuple.Template.{Template}
use Rattle.rinda_tables.specs.Holds.{Held, Holds}
use Rattle.rinda_tables.specs.Tabled.{new_entry, new_asking, new_hearer, with_new_tuple, with_new_request, with_new_notifier}
use Rattle.rinda_tables.proofs.HoldingNotifiers.{holds-notifier-added}
use Rattle.drb_tree.specs.declared.Tree.{Tree}
use Rattle.rinda_rules.specs.declared.plain.Raised.{Raised}
use Rattle.rinda_rules.specs.declared.row.NoteState.TheVariants as state
use Rattle.rinda_rules.specs.declared.object.Doubt.TheVariants.{No}
use Rattle.rinda_rules.specs.Space.{event_value, hears}
use Rattle.std.proofs.lemmas.Bool.Decides.{nat_tests}
use Rattle.rinda_rules.specs.Sound.{hears_within}
use Rattle.rinda_effects.proofs.Queueing.{none_since}
use Rattle.rinda_notify.specs.declared.note.Note.{Note}
use Rattle.rinda_notify.specs.Notes.{note_of}
use Rattle.std.specs.Prelude.{map, length}
use Rattle.rinda_tables.proofs.HoldingTuples.{holds-tuple-added}
use Rattle.rinda_tables.proofs.HoldingRequests.{holds-request-added}
use Rattle.rinda_tables.proofs.HoldingSame.{holds-same}

same-stage : (b : Held) (t : Held) (id next : ℕ) (x : Stage) → id ≡ next → ((q : ℕ) → b.stages q ≡ (if q == id then x else t.stages q)) → (q : ℕ) → b.stages q ≡ (if q == next then x else t.stages q)
same-stage b t id next x is st q = st q ∙ ap (λ (i : ℕ). if q == i then x else t.stages q) is

pub added-tuple : (s : Plain) (t b : Held) (id : ℕ) (value : Tuple) (deadline : Option ℕ) (renewer : Option Remote) → Holds s t → id ≡ t.ids.next → b.clock ≡ t.clock → b.shut ≡ t.shut → b.ids ≡ minted object.Entry t.ids → b.tuples ≡ t.tuples ++ new_entry id value deadline renewer ∷ [] → b.requests ≡ t.requests → b.notes ≡ t.notes → ((q : ℕ) → b.stages q ≡ (if q == id then timed deadline else t.stages q)) → (id ≡ s.next) × Holds (with_new_tuple value deadline renewer s) b
added-tuple s t b id value deadline renewer h next clock shut ids tuples requests notes stages =
    let is : id ≡ s.next = next ∙ h.ids.next in (
      is,
      holds-same _ _ b (holds-tuple-added s t (new_entry s.next value deadline renewer) b.stages h refl (same-stage b t id s.next (timed deadline) is stages)) clock shut ids
          (tuples ∙ ap (λ (i : ℕ). t.tuples ++ new_entry i value deadline renewer ∷ []) is) requests notes (λ q. refl),
    )

pub added-request : (s : Plain) (t b : Held) (id caller : ℕ) (kind : Kind) (pattern : Template) (deadline : Option ℕ) (renewer : Option Remote) → Holds s t → id ≡ t.ids.next → b.clock ≡ t.clock → b.shut ≡ t.shut → b.ids ≡ minted object.Request t.ids → b.tuples ≡ t.tuples → b.requests ≡ t.requests ++ new_asking id caller kind pattern deadline renewer ∷ [] → b.notes ≡ t.notes → ((q : ℕ) → b.stages q ≡ (if q == id then Still else t.stages q)) → (id ≡ s.next) × Holds (with_new_request caller kind pattern deadline renewer s) b
added-request s t b id caller kind pattern deadline renewer h next clock shut ids tuples requests notes stages =
    let is : id ≡ s.next = next ∙ h.ids.next in (
      is,
      holds-same _ _ b (holds-request-added s t (new_asking s.next caller kind pattern deadline renewer) b.stages h refl (same-stage b t id s.next Still is stages)) clock shut ids tuples
          (requests ∙ ap (λ (i : ℕ). t.requests ++ new_asking i caller kind pattern deadline renewer ∷ []) is) notes (λ q. refl),
    )

new-hears : (es : List Raised) (id : ℕ) (event : Tree) (pattern : Template) (deadline : Option ℕ) (renewer : Option Remote) → hears_within es (new_hearer id (length es) event pattern deadline renewer) ≡ true
new-hears es id event pattern deadline renewer = grind (arith, nat_tests)

-- a new notifier has an empty queue
new-note : (s : Plain) (id : ℕ) (event : Tree) (pattern : Template) (deadline : Option ℕ) (renewer : Option Remote) → note_of s.events (new_hearer id (length s.events) event pattern deadline renewer) ≡ record { id = id; event = event; pattern = pattern; deadline = deadline; renewer = renewer; doubt = No; state = state.Running; queue = [] }
new-note s id event pattern deadline renewer = ap (λ (q : List Raised). record { id = id; event = event; pattern = pattern; deadline = deadline; renewer = renewer; doubt = No; state = state.Running; queue = map event_value q }) (none_since (hears (new_hearer id (length s.events) event pattern deadline renewer)) s.events)

pub added-notifier : (s : Plain) (t b : Held) (id : ℕ) (event : Tree) (pattern : Template) (deadline : Option ℕ) (renewer : Option Remote) → Holds s t → id ≡ t.ids.next → b.clock ≡ t.clock → b.shut ≡ t.shut → b.ids ≡ minted object.Notifier t.ids → b.tuples ≡ t.tuples → b.requests ≡ t.requests → b.notes ≡ t.notes ++ record { id = id; event = event; pattern = pattern; deadline = deadline; renewer = renewer; doubt = No; state = state.Running; queue = [] } ∷ [] → ((q : ℕ) → b.stages q ≡ (if q == id then timed deadline else t.stages q)) → (id ≡ s.next) × Holds (with_new_notifier event pattern deadline renewer s) b
added-notifier s t b id event pattern deadline renewer h next clock shut ids tuples requests notes stages =
    let is : id ≡ s.next = next ∙ h.ids.next in (
      is,
      holds-same _ _ b (holds-notifier-added s t (new_hearer s.next (length s.events) event pattern deadline renewer) b.stages h refl (new-hears s.events s.next event pattern deadline renewer) (same-stage b t id s.next (timed deadline) is stages)) clock shut ids tuples requests
          (notes ∙ ap (λ (i : ℕ). t.notes ++ record { id = i; event = event; pattern = pattern; deadline = deadline; renewer = renewer; doubt = No; state = state.Running; queue = [] } ∷ []) is ∙ ap (λ (n : Note). t.notes ++ n ∷ []) (sym (new-note s s.next event pattern deadline renewer))) (λ q. refl),
    )
