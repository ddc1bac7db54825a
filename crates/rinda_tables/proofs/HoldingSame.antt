-- What is the same as what tables hold, field by field, is held too; and a change that no lease sees.
use Rattle.std.proofs.Common.{◌≡◌, ◌∙◌, ℕ, Bool, true, false, map, Option, Some, None, refl, sym, ap, subst, arith}
use Rattle.std.specs.Prelude.{◌==◌, if◌then◌else◌}
use Rattle.std.proofs.lemmas.Bool.Decides.{nat_tests}
use Rattle.drb_ids.specs.Ids.{Ids, ended_with}
use Rattle.rinda_lease.specs.declared.stage.Stage.{Stage}
use Rattle.rinda_rules.specs.declared.plain.Entry.{Entry}
use Rattle.rinda_rules.specs.declared.plain.Request.{Request}
use Rattle.rinda_rules.specs.declared.plain.Notifier.{Notifier}
use Rattle.rinda_rules.specs.Space.{Plain, request_at, tuple_at, notifier_at}
use Rattle.drb_ids.specs.Found.{IsIdsOf}
use Rattle.rinda_tuple.specs.declared.tuple.Tuple.{Tuple}
use Rattle.rinda_tables.specs.Holds.{Held, Holds, tuple_stage, request_stage, stage_among}
use Rattle.rinda_rules.specs.declared.object.Last.{Last}
use Rattle.rinda_rules.specs.Rows.{without}
use Rattle.rinda_rules.specs.Phases.{tuple_ended, request_ended, happening_of}
use Rattle.rinda_lease.specs.declared.stage.Stage.TheVariants as stage
use Rattle.rinda_notify.specs.Notes.{told}
use Rattle.rinda_tables.proofs.Holding.{alone-tuple, holds-tuple-ended}
use Rattle.rinda_tables.proofs.HoldingRequests.{holds-request-ended}

pub holds-same : (s : Plain) (a b : Held) → Holds s a → b.clock ≡ a.clock → b.shut ≡ a.shut → b.ids ≡ a.ids → b.tuples ≡ a.tuples → b.requests ≡ a.requests → b.notes ≡ a.notes → ((q : ℕ) → b.stages q ≡ a.stages q) → Holds s b
holds-same s a b h clock shut ids tuples requests notes stages = record {
  clock = clock ∙ h.clock;
  shut = shut ∙ h.shut;
  numbered = h.numbered;
  alone = h.alone;
  ids = subst (λ (i : Ids). IsIdsOf s i) (sym ids) h.ids;
  tuples = tuples ∙ h.tuples;
  requests = requests ∙ h.requests;
  notes = notes ∙ h.notes;
  heard = h.heard;
  stages = λ q. stages q ∙ h.stages q;
}

-- where a tuple is, the stage is its own
tuple-stage : (r : Option Request) (t : Option Entry) (n : Option Notifier) (e : Entry) → r ≡ None → t ≡ Some e → stage_among r t n ≡ tuple_stage e
tuple-stage r t n e p q = rw (p, q) refl

request-stage : (r : Option Request) (t : Option Entry) (n : Option Notifier) (e : Request) → r ≡ Some e → stage_among r t n ≡ request_stage e
request-stage r t n e p = rw p refl

pub kept-stage : (q id : ℕ) (b : Bool) (at : ℕ → Stage) (x : Stage) → (q == id) ≡ b → at id ≡ x → at q ≡ (if b then x else at q)
kept-stage q id true at x is h =
    let same : q ≡ id = grind (arith, nat_tests) in
    ap at same ∙ h
kept-stage q id false at x is h = refl

pub tuple-keeps-stage : (s : Plain) (t : Held) (e : Entry) (id q : ℕ) → Holds s t → tuple_at s id ≡ Some e → t.stages q ≡ (if q == id then tuple_stage e else t.stages q)
tuple-keeps-stage s t e id q h there = kept-stage q id (q == id) t.stages (tuple_stage e) refl (h.stages id ∙ tuple-stage (request_at s id) (tuple_at s id) (notifier_at s id) e (alone-tuple (request_at s id) (tuple_at s id) (notifier_at s id) e there (h.alone id)).0 there)

pub request-keeps-stage : (s : Plain) (t : Held) (e : Request) (id q : ℕ) → Holds s t → request_at s id ≡ Some e → t.stages q ≡ (if q == id then request_stage e else t.stages q)
request-keeps-stage s t e id q h there = kept-stage q id (q == id) t.stages (request_stage e) refl (h.stages id ∙ request-stage (request_at s id) (tuple_at s id) (notifier_at s id) e there)

-- a request that has ended, by its id
pub ended-request : (s : Plain) (t b : Held) (last : Last) (e : Request) (id : ℕ) → Holds s t → e.id ≡ id → request_at s id ≡ Some e → b.clock ≡ t.clock → b.shut ≡ t.shut → b.ids ≡ ended_with id last t.ids → b.tuples ≡ t.tuples → b.requests ≡ without (λ r. r.id) id t.requests → b.notes ≡ t.notes → ((q : ℕ) → b.stages q ≡ (if q == id then stage.Still else t.stages q)) → Holds (request_ended last id s) b
ended-request s t b last e id h is there clock shut ids tuples requests notes stages =
    let at = subst (λ i. request_at s i ≡ Some e) (sym is) there in
    let st = subst (λ (i : ℕ). (q : ℕ) → b.stages q ≡ (if q == i then stage.Still else t.stages q)) (sym is) stages in
    subst (λ (i : ℕ). Holds (request_ended last i s) b) is
    (holds-same _ _ b (holds-request-ended s t last e b.stages h at st) clock shut
    (ids ∙ ap (λ i. ended_with i last t.ids) (sym is)) tuples (requests ∙ ap (λ i. without (λ r. r.id) i t.requests) (sym is)) notes (λ q. refl))

-- a tuple that has ended, by its id
pub ended-tuple : (s : Plain) (t b : Held) (last : Last) (e : Entry) (id : ℕ) → Holds s t → e.id ≡ id → tuple_at s id ≡ Some e → b.clock ≡ t.clock → b.shut ≡ t.shut → b.ids ≡ ended_with id last t.ids → b.tuples ≡ without (λ t. t.id) id t.tuples → b.requests ≡ t.requests → b.notes ≡ map (told (happening_of last) e.value) t.notes → ((q : ℕ) → b.stages q ≡ (if q == id then stage.Still else t.stages q)) → Holds (tuple_ended last e s) b
ended-tuple s t b last e id h is there clock shut ids tuples requests notes stages =
    let at = subst (λ i. tuple_at s i ≡ Some e) (sym is) there in
    let st = subst (λ (i : ℕ). (q : ℕ) → b.stages q ≡ (if q == i then stage.Still else t.stages q)) (sym is) stages in
    holds-same _ _ b (holds-tuple-ended s t last e b.stages h at st) clock shut
    (ids ∙ ap (λ i. ended_with i last t.ids) (sym is)) (tuples ∙ ap (λ i. without (λ t. t.id) i t.tuples) (sym is)) requests notes (λ q. refl)

abbrev pub value_in : Tuple → Option Entry → Tuple
value_in value None = value
value_in value (Some e) = e.value
