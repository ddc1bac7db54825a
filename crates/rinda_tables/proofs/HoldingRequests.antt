-- What a change of a request, a new one, and the end of one leave of what tables hold.
use Rattle.std.proofs.Common.{◌≡◌, ◌∙◌, ℕ, ◌+◌, Bool, true, false, List, [], ◌∷◌, ◌++◌, map, Option, Some, None, refl, sym, ap, subst, arith}
use Rattle.std.specs.Prelude.{not, ◌==◌, if◌then◌else◌}
use Rattle.std.specs.Option.{option_map}
use Rattle.std.proofs.lemmas.Bool.Decides.{nat_tests}
use Rattle.rinda_rules.specs.declared.object.ObjectKind.TheVariants as object
use Rattle.rinda_rules.specs.declared.object.Last.{Last}
use Rattle.rinda_rules.specs.declared.plain.Ended.{Ended}
use Rattle.rinda_rules.specs.declared.plain.Entry.{Entry}
use Rattle.rinda_rules.specs.declared.plain.Request.{Request}
use Rattle.rinda_rules.specs.declared.plain.Notifier.{Notifier}
use Rattle.rinda_rules.specs.Rows.{row_of, changed, without}
use Rattle.rinda_rules.specs.Space.{Plain, request_at, tuple_at, notifier_at, retained}
use Rattle.rinda_rules.specs.Phases.{with_request, request_ended}
use Rattle.rinda_rules.specs.Cases as C
use Rattle.rinda_rules.proofs.Lists.{numbered-changed, numbered-filter, numbered-map, numbered-more, numbered-push}
use Rattle.drb_ids.specs.declared.object.LiveId.{LiveId}
use Rattle.drb_ids.specs.Ids.{Ids, live_at, minted, ended_with}
use Rattle.drb_ids.specs.Found.{living}
use Rattle.drb_ids.proofs.Founds.{live_at-minted, live_at-ended_with}
use Rattle.rinda_lease.specs.declared.stage.Stage.{Stage}
use Rattle.rinda_lease.specs.declared.stage.Stage.TheVariants as stage
use Rattle.rinda_tables.specs.Holds.{Held, Holds, request_stage, stage_among, at_most_one}
use Rattle.rinda_tables.proofs.Holding.{row-in, row-out, alone-request, no-request, ended-at}
use Rattle.rinda_tables.proofs.HoldingTuples.{none-next, row-pushed}

still-request : (f : Request → Request) (r : Option Request) (t : Option Entry) (n : Option Notifier) (b : Bool) → at_most_one r t n ≡ true → at_most_one (if b then option_map f r else r) t n ≡ true
still-request f r t n false h = h
still-request f None t n true h = h
still-request f (Some r) None None true h = refl
still-request f (Some r) None (Some n) true h = cc
still-request f (Some r) (Some t) n true h = cc

living-request : (f : Request → Request) (id : ℕ) (r : Option Request) (t : Option Entry) (n : Option Notifier) (b : Bool) → living id (if b then option_map f r else r) t n ≡ living id r t n
living-request f id r t n false = refl
living-request f id None t n true = refl
living-request f id (Some r) t n true = refl

changed-stage : (f : Request → Request) (e : Request) (r : Option Request) (t : Option Entry) (n : Option Notifier) (o : Stage) (b : Bool) → (b ≡ true → r ≡ Some e) → o ≡ stage_among r t n → (if b then request_stage (f e) else o) ≡ stage_among (if b then option_map f r else r) t n
changed-stage f e r t n o true there h = rw (there refl) refl
changed-stage f e r t n o false there h = h

-- a request that is there changes
pub holds-with-request : (s : Plain) (t : Held) (id : ℕ) (f : Request → Request) (e : Request) (stages : ℕ → Stage) → ((x : Request) → (f x).id ≡ x.id) → Holds s t → request_at s id ≡ Some e → ((q : ℕ) → stages q ≡ (if q == id then request_stage (f e) else t.stages q)) → Holds (with_request id f s) (record t { requests = changed (λ r. r.id) id f t.requests; stages = stages })
holds-with-request s t id f e stages keeps h there st = record {
  clock = h.clock;
  shut = h.shut;
  numbered = record { next = h.numbered.next; tuples = h.numbered.tuples; requests = numbered-changed (λ r. r.id) s.next id f s.requests keeps h.numbered.requests; notifiers = h.numbered.notifiers };
  alone = λ q. subst (λ (o : Option Request). at_most_one o (tuple_at s q) (notifier_at s q) ≡ true) (sym (row-in (λ r. r.id) id q f s.requests keeps)) (still-request f (request_at s q) (tuple_at s q) (notifier_at s q) (q == id) (h.alone q));
  ids = record {
    next = h.ids.next;
    live = λ q. h.ids.live q ∙ sym (living-request f q (request_at s q) (tuple_at s q) (notifier_at s q) (q == id)) ∙ sym (ap (λ (o : Option Request). living q o (tuple_at s q) (notifier_at s q)) (row-in (λ r. r.id) id q f s.requests keeps));
    ended = h.ids.ended;
  };
  tuples = h.tuples;
  requests = ap (λ (rs : List Request). changed (λ r. r.id) id f rs) h.requests;
  notes = h.notes;
  heard = h.heard;
  stages = λ q. st q ∙ changed-stage f e (request_at s q) (tuple_at s q) (notifier_at s q) (t.stages q) (q == id) (λ b. at q b) (h.stages q) ∙ sym (ap (λ (o : Option Request). stage_among o (tuple_at s q) (notifier_at s q)) (row-in (λ r. r.id) id q f s.requests keeps));
}
  where
    at : (q : ℕ) → (q == id) ≡ true → request_at s q ≡ Some e
    at q b =
        let same : q ≡ id = grind (arith, nat_tests) in
        subst (λ (i : ℕ). request_at s i ≡ Some e) (sym same) there

-- A request ends.

live-request : (s : Plain) (t : Held) (e : Request) → Holds s t → request_at s e.id ≡ Some e → live_at t.ids e.id ≡ Some (record { id = e.id; kind = object.Request })
live-request s t e h there = h.ids.live e.id ∙ rw there refl

gone-living : (id q : ℕ) (r : Option Request) (t : Option Entry) (n : Option Notifier) (o : Option LiveId) (b : Bool) → (b ≡ true → (t ≡ None) × (n ≡ None)) → o ≡ living q r t n → (if b then None else o) ≡ living q (if b then None else r) t n
gone-living id q r t n o true none h = rw ((none refl).0, (none refl).1) refl
gone-living id q r t n o false none h = h

gone-stage : (q : ℕ) (r : Option Request) (t : Option Entry) (n : Option Notifier) (o : Stage) (b : Bool) → (b ≡ true → (t ≡ None) × (n ≡ None)) → o ≡ stage_among r t n → (if b then stage.Still else o) ≡ stage_among (if b then None else r) t n
gone-stage q r t n o true none h = rw ((none refl).0, (none refl).1) refl
gone-stage q r t n o false none h = h

pub holds-request-ended : (s : Plain) (t : Held) (last : Last) (e : Request) (stages : ℕ → Stage) → Holds s t → request_at s e.id ≡ Some e → ((q : ℕ) → stages q ≡ (if q == e.id then stage.Still else t.stages q)) → Holds (request_ended last e.id s) (record t { ids = ended_with e.id last t.ids; requests = without (λ r. r.id) e.id t.requests; stages = stages })
holds-request-ended s t last e stages h there st = record {
  clock = h.clock;
  shut = h.shut;
  numbered = record { next = h.numbered.next; tuples = h.numbered.tuples; requests = numbered-filter (λ r. r.id) s.next (λ r. not (r.id == e.id)) s.requests h.numbered.requests; notifiers = h.numbered.notifiers };
  alone = λ q. subst (λ (o : Option Request). at_most_one o (tuple_at s q) (notifier_at s q) ≡ true) (sym (row-out (λ r. r.id) e.id q s.requests)) (no-request (request_at s q) (tuple_at s q) (notifier_at s q) (q == e.id) (h.alone q));
  ids = record {
    next = ap (λ (i : Ids). i.next) (ended-at t.ids e.id object.Request last live) ∙ h.ids.next;
    live = λ q. live_at-ended_with t.ids e.id last (record { id = e.id; kind = object.Request }) q live ∙ gone-living e.id q (request_at s q) (tuple_at s q) (notifier_at s q) (live_at t.ids q) (q == e.id) (λ b. at q b) (h.ids.live q) ∙ sym (ap (λ (o : Option Request). living q o (tuple_at s q) (notifier_at s q)) (row-out (λ r. r.id) e.id q s.requests));
    ended = ap (λ (i : Ids). i.ended) (ended-at t.ids e.id object.Request last live) ∙ ap (λ (es : List Ended). retained (es ++ record { id = e.id; kind = object.Request; last = last } ∷ [])) h.ids.ended;
  };
  tuples = h.tuples;
  requests = ap (λ (rs : List Request). without (λ r. r.id) e.id rs) h.requests;
  notes = h.notes;
  heard = h.heard;
  stages = λ q. st q ∙ gone-stage q (request_at s q) (tuple_at s q) (notifier_at s q) (t.stages q) (q == e.id) (λ b. at q b) (h.stages q) ∙ sym (ap (λ (o : Option Request). stage_among o (tuple_at s q) (notifier_at s q)) (row-out (λ r. r.id) e.id q s.requests));
}
  where
    live : live_at t.ids e.id ≡ Some (record { id = e.id; kind = object.Request })
    live = live-request s t e h there

    at : (q : ℕ) → (q == e.id) ≡ true → (tuple_at s q ≡ None) × (notifier_at s q ≡ None)
    at q b =
        let same : q ≡ e.id = grind (arith, nat_tests) in
        subst (λ (i : ℕ). (tuple_at s i ≡ None) × (notifier_at s i ≡ None)) (sym same) (alone-request (request_at s e.id) (tuple_at s e.id) (notifier_at s e.id) e there (h.alone e.id))

-- New requests.

new-alone : (r : Option Request) (t : Option Entry) (n : Option Notifier) (e : Request) (b : Bool) → (b ≡ true → (t ≡ None) × (n ≡ None)) → at_most_one r t n ≡ true → at_most_one (if b then Some e else r) t n ≡ true
new-alone r t n e true none h = rw ((none refl).0, (none refl).1) refl
new-alone r t n e false none h = h

new-living : (id q : ℕ) (r : Option Request) (t : Option Entry) (n : Option Notifier) (e : Request) (o : Option LiveId) (b : Bool) → (q == id) ≡ b → o ≡ living q r t n → (if b then Some (record { id = id; kind = object.Request }) else o) ≡ living q (if b then Some e else r) t n
new-living id q r t n e o true s h =
    let same : id ≡ q = grind (arith, nat_tests) in
    ap (λ (i : ℕ). Some (record { id = i; kind = object.Request })) same
new-living id q r t n e o false s h = h

new-stage : (r : Option Request) (t : Option Entry) (n : Option Notifier) (e : Request) (o : Stage) (b : Bool) → o ≡ stage_among r t n → (if b then request_stage e else o) ≡ stage_among (if b then Some e else r) t n
new-stage r t n e o true h = refl
new-stage r t n e o false h = h

-- a request is added
pub holds-request-added : (s : Plain) (t : Held) (e : Request) (stages : ℕ → Stage) → Holds s t → e.id ≡ s.next → ((q : ℕ) → stages q ≡ (if q == e.id then request_stage e else t.stages q)) → Holds (record (C.minted s) { requests = s.requests ++ e ∷ [] }) (record t { ids = minted object.Request t.ids; requests = t.requests ++ e ∷ []; stages = stages })
holds-request-added s t e stages h fresh st = record {
  clock = h.clock;
  shut = h.shut;
  numbered = record { next = grind (arith, nat_tests); tuples = numbered-more (λ t. t.id) s.next s.tuples h.numbered.tuples; requests = numbered-push (λ r. r.id) s.next e s.requests fresh h.numbered.requests; notifiers = numbered-more (λ n. n.id) s.next s.notifiers h.numbered.notifiers };
  alone = λ q. subst (λ (o : Option Request). at_most_one o (tuple_at s q) (notifier_at s q) ≡ true) (sym (row-pushed (λ r. r.id) q s.requests e no_request)) (new-alone (request_at s q) (tuple_at s q) (notifier_at s q) e (q == e.id) (λ b. at q b) (h.alone q));
  ids = record {
    next = ap (λ (n : ℕ). n + 1) h.ids.next;
    live = λ q. live_at-minted t.ids object.Request q no_live ∙ rw h.ids.next (rw (sym fresh) (new-living e.id q (request_at s q) (tuple_at s q) (notifier_at s q) e (live_at t.ids q) (q == e.id) refl (h.ids.live q))) ∙ sym (ap (λ (o : Option Request). living q o (tuple_at s q) (notifier_at s q)) (row-pushed (λ r. r.id) q s.requests e no_request));
    ended = h.ids.ended;
  };
  tuples = h.tuples;
  requests = ap (λ (rs : List Request). rs ++ e ∷ []) h.requests;
  notes = h.notes;
  heard = h.heard;
  stages = λ q. st q ∙ new-stage (request_at s q) (tuple_at s q) (notifier_at s q) e (t.stages q) (q == e.id) (h.stages q) ∙ sym (ap (λ (o : Option Request). stage_among o (tuple_at s q) (notifier_at s q)) (row-pushed (λ r. r.id) q s.requests e no_request));
}
  where
    no_request : request_at s e.id ≡ None
    no_request = subst (λ (i : ℕ). request_at s i ≡ None) (sym fresh) (none-next (λ r. r.id) s.next s.requests h.numbered.requests)

    none : (tuple_at s e.id ≡ None) × (notifier_at s e.id ≡ None)
    none = subst (λ (i : ℕ). (tuple_at s i ≡ None) × (notifier_at s i ≡ None)) (sym fresh) (none-next (λ t. t.id) s.next s.tuples h.numbered.tuples, none-next (λ n. n.id) s.next s.notifiers h.numbered.notifiers)

    at : (q : ℕ) → (q == e.id) ≡ true → (tuple_at s q ≡ None) × (notifier_at s q ≡ None)
    at q b =
        let same : q ≡ e.id = grind (arith, nat_tests) in
        subst (λ (i : ℕ). (tuple_at s i ≡ None) × (notifier_at s i ≡ None)) (sym same) none

    no_live : live_at t.ids t.ids.next ≡ None
    no_live = ap (λ (i : ℕ). live_at t.ids i) (h.ids.next ∙ sym fresh) ∙ h.ids.live e.id ∙ rw (no_request, none.0, none.1) refl

-- All requests change so that their ids and leases stay.

row-mapped : (f : Request → Request) (q : ℕ) (rs : List Request) → ((r : Request) → (f r).id ≡ r.id) → row_of (λ r. r.id) q (map f rs) ≡ option_map f (row_of (λ r. r.id) q rs)
row-mapped f q [] keeps = refl
row-mapped f q (x ∷ rs) keeps = grind (arith, nat_tests, keeps x, row-mapped f q rs keeps)

pub holds-requests-mapped : (s : Plain) (t : Held) (f : Request → Request) (stages : ℕ → Stage) → ((r : Request) → (f r).id ≡ r.id) → Holds s t → ((q : ℕ) → stages q ≡ stage_among (option_map f (request_at s q)) (tuple_at s q) (notifier_at s q)) → Holds (record s { requests = map f s.requests }) (record t { requests = map f t.requests; stages = stages })
holds-requests-mapped s t f stages keeps h st = record {
  clock = h.clock;
  shut = h.shut;
  numbered = record { next = h.numbered.next; tuples = h.numbered.tuples; requests = numbered-map (λ r. r.id) s.next f s.requests keeps h.numbered.requests; notifiers = h.numbered.notifiers };
  alone = λ q. subst (λ (o : Option Request). at_most_one o (tuple_at s q) (notifier_at s q) ≡ true) (sym (row-mapped f q s.requests keeps)) (still-request f (request_at s q) (tuple_at s q) (notifier_at s q) true (h.alone q));
  ids = record {
    next = h.ids.next;
    live = λ q. h.ids.live q ∙ sym (living-request f q (request_at s q) (tuple_at s q) (notifier_at s q) true) ∙ sym (ap (λ (o : Option Request). living q o (tuple_at s q) (notifier_at s q)) (row-mapped f q s.requests keeps));
    ended = h.ids.ended;
  };
  tuples = h.tuples;
  requests = ap (λ (rs : List Request). map f rs) h.requests;
  notes = h.notes;
  heard = h.heard;
  stages = λ q. st q ∙ sym (ap (λ (o : Option Request). stage_among o (tuple_at s q) (notifier_at s q)) (row-mapped f q s.requests keeps));
}
