-- What each small step leaves of what tables hold.
use Rattle.std.proofs.Common.{◌≡◌, ◌∙◌, ℕ, Bool, true, false, List, [], ◌∷◌, ◌++◌, map, Option, Some, None, refl, sym, ap, subst, arith}
use Rattle.std.specs.Prelude.{not, ◌==◌, max, if◌then◌else◌}
use Rattle.std.specs.List.{list_all}
use Rattle.std.specs.Option.{option_map}
use Rattle.rinda_rules.specs.declared.plain.Ended.{Ended}
use Rattle.rinda_rules.proofs.Sounding.{all_hear_more}
use Rattle.drb_ids.specs.declared.object.LiveId.{LiveId}
use Rattle.std.proofs.lemmas.Bool.Decides.{nat_tests}
use Rattle.rinda_rules.specs.declared.object.ObjectKind.{ObjectKind}
use Rattle.rinda_rules.specs.declared.object.ObjectKind.TheVariants as object
use Rattle.rinda_rules.specs.declared.object.Last.{Last}
use Rattle.rinda_rules.specs.declared.plain.Entry.{Entry}
use Rattle.rinda_rules.specs.declared.plain.Request.{Request}
use Rattle.rinda_rules.specs.declared.plain.Notifier.{Notifier}
use Rattle.rinda_rules.specs.declared.plain.Happening.{Happening}
use Rattle.rinda_rules.specs.declared.plain.Raised.{Raised}
use Rattle.rinda_rules.specs.Rows.{row_of, changed, without}
use Rattle.rinda_rules.specs.Space.{Plain, request_at, tuple_at, notifier_at, retained}
use Rattle.rinda_rules.specs.Phases.{advanced, raised, tuple_ended, happening_of}
use Rattle.rinda_rules.specs.Sound.{hears_within}
use Rattle.rinda_rules.proofs.Lists.{numbered-filter}
use Rattle.drb_ids.specs.Ids.{Ids, live_at, ended_with, ended_among}
use Rattle.drb_ids.specs.Found.{living}
use Rattle.drb_ids.proofs.Founds.{live_at-ended_with}
use Rattle.rinda_lease.specs.declared.stage.Stage.{Stage}
use Rattle.rinda_lease.specs.declared.stage.Stage.TheVariants as stage
use Rattle.rinda_notify.specs.declared.note.Note.{Note}
use Rattle.rinda_notify.specs.Notes.{note_of, told}
use Rattle.rinda_notify.proofs.Told as N
use Rattle.rinda_tables.specs.Holds.{Held, Holds, stage_among, at_most_one}

-- time goes on
pub holds-advanced : (s : Plain) (t : Held) (at : ℕ) → Holds s t → Holds (advanced s at) (record t { clock = max t.clock at })
holds-advanced s t at h = record {
  clock = ap (λ (c : ℕ). max c at) h.clock;
  shut = h.shut;
  numbered = record { next = h.numbered.next; tuples = h.numbered.tuples; requests = h.numbered.requests; notifiers = h.numbered.notifiers };
  alone = h.alone;
  ids = record { next = h.ids.next; live = h.ids.live; ended = h.ids.ended };
  tuples = h.tuples;
  requests = h.requests;
  notes = h.notes;
  heard = h.heard;
  stages = h.stages;
}

-- Rows that are looked up.

pub none-either : {A : Type 0} (b : Bool) → None ≡ if◌then◌else◌ {A = Option A} b None None
none-either true = refl
none-either false = refl

pub row-out : {R : Type 0} (key : R → ℕ) (id q : ℕ) (xs : List R) → row_of key q (without key id xs) ≡ (if q == id then None else row_of key q xs)
row-out {R = R} key id q [] = none-either {A = R} (q == id)
row-out key id q (x ∷ xs) = grind (arith, nat_tests, row-out key id q xs)

pub row-in : {R : Type 0} (key : R → ℕ) (id q : ℕ) (f : R → R) (xs : List R) → ((x : R) → key (f x) ≡ key x) → row_of key q (changed key id f xs) ≡ (if q == id then option_map f (row_of key q xs) else row_of key q xs)
row-in {R = R} key id q f [] keeps = none-either {A = R} (q == id)
row-in key id q f (x ∷ xs) keeps = grind (arith, nat_tests, keeps x, row-in key id q f xs keeps)

-- At most one of three.

pub alone-tuple : (r : Option Request) (t : Option Entry) (n : Option Notifier) (e : Entry) → t ≡ Some e → at_most_one r t n ≡ true → (r ≡ None) × (n ≡ None)
alone-tuple None (Some t) None e there h = (refl, refl)
alone-tuple None (Some t) (Some n) e there h = cc
alone-tuple (Some r) (Some t) n e there h = cc
alone-tuple r None n e there h = cc

pub alone-request : (r : Option Request) (t : Option Entry) (n : Option Notifier) (e : Request) → r ≡ Some e → at_most_one r t n ≡ true → (t ≡ None) × (n ≡ None)
alone-request (Some r) None None e there h = (refl, refl)
alone-request (Some r) None (Some n) e there h = cc
alone-request (Some r) (Some t) n e there h = cc
alone-request None t n e there h = cc

pub alone-notifier : (r : Option Request) (t : Option Entry) (n : Option Notifier) (e : Notifier) → n ≡ Some e → at_most_one r t n ≡ true → (r ≡ None) × (t ≡ None)
alone-notifier None None (Some n) e there h = (refl, refl)
alone-notifier (Some r) None (Some n) e there h = cc
alone-notifier (Some r) (Some t) (Some n) e there h = cc
alone-notifier None (Some t) (Some n) e there h = cc
alone-notifier r t None e there h = cc

pub no-tuple : (r : Option Request) (t : Option Entry) (n : Option Notifier) (b : Bool) → at_most_one r t n ≡ true → at_most_one r (if b then None else t) n ≡ true
no-tuple r t n false h = h
no-tuple None None n true h = h
no-tuple None (Some t) None true h = refl
no-tuple None (Some t) (Some n) true h = cc
no-tuple (Some r) None n true h = h
no-tuple (Some r) (Some t) n true h = cc

pub no-request : (r : Option Request) (t : Option Entry) (n : Option Notifier) (b : Bool) → at_most_one r t n ≡ true → at_most_one (if b then None else r) t n ≡ true
no-request r t n false h = h
no-request None t n true h = h
no-request (Some r) None None true h = refl
no-request (Some r) None (Some n) true h = cc
no-request (Some r) (Some t) n true h = cc

pub no-notifier : (r : Option Request) (t : Option Entry) (n : Option Notifier) (b : Bool) → at_most_one r t n ≡ true → at_most_one r t (if b then None else n) ≡ true
no-notifier r t n false h = h
no-notifier None None n true h = refl
no-notifier None (Some t) None true h = refl
no-notifier None (Some t) (Some n) true h = cc
no-notifier (Some r) None None true h = refl
no-notifier (Some r) None (Some n) true h = cc
no-notifier (Some r) (Some t) n true h = cc

pub still-tuple : (f : Entry → Entry) (r : Option Request) (t : Option Entry) (n : Option Notifier) (b : Bool) → at_most_one r t n ≡ true → at_most_one r (if b then option_map f t else t) n ≡ true
still-tuple f r t n false h = h
still-tuple f r None n true h = h
still-tuple f None (Some t) None true h = refl
still-tuple f None (Some t) (Some n) true h = cc
still-tuple f (Some r) (Some t) n true h = cc

pub living-tuple : (f : Entry → Entry) (id : ℕ) (r : Option Request) (t : Option Entry) (n : Option Notifier) (b : Bool) → living id r (if b then option_map f t else t) n ≡ living id r t n
living-tuple f id r t n false = refl
living-tuple f id None None n true = refl
living-tuple f id None (Some t) n true = refl
living-tuple f id (Some r) None n true = refl
living-tuple f id (Some r) (Some t) n true = refl

-- What was raised.

raised-notes : (events : List Raised) (e : Raised) (ns : List Notifier) → list_all (hears_within events) ns ≡ true → map (note_of (events ++ e ∷ [])) ns ≡ map (told e.what e.tuple) (map (note_of events) ns)
raised-notes events e ns h = N.each_seen (hears_within events) (note_of events) (note_of (events ++ e ∷ [])) (told e.what e.tuple) ns (λ n w. N.raised_is_told events e n w) h

pub raised-all : (s : Plain) (t : Held) (what : Happening) (e : Entry) → Holds s t → map (told what e.value) t.notes ≡ map (note_of (s.events ++ record { what = what; id = e.id; tuple = e.value } ∷ [])) s.notifiers
raised-all s t what e h = ap (λ (ns : List Note). map (told what e.value) ns) h.notes ∙ sym (raised-notes s.events (record { what = what; id = e.id; tuple = e.value }) s.notifiers h.heard)

-- a tuple is raised
pub holds-raised : (s : Plain) (t : Held) (what : Happening) (e : Entry) → Holds s t → Holds (raised what e s) (record t { notes = map (told what e.value) t.notes })
holds-raised s t what e h = record {
  clock = h.clock;
  shut = h.shut;
  numbered = record { next = h.numbered.next; tuples = h.numbered.tuples; requests = h.numbered.requests; notifiers = h.numbered.notifiers };
  alone = h.alone;
  ids = record { next = h.ids.next; live = h.ids.live; ended = h.ids.ended };
  tuples = h.tuples;
  requests = h.requests;
  notes = raised-all s t what e h;
  heard = all_hear_more s.events (record { what = what; id = e.id; tuple = e.value }) s.notifiers h.heard;
  stages = h.stages;
}

-- A tuple ends.

live-tuple : (s : Plain) (t : Held) (e : Entry) → Holds s t → tuple_at s e.id ≡ Some e → live_at t.ids e.id ≡ Some (record { id = e.id; kind = object.Entry })
live-tuple s t e h there =
    let a = alone-tuple (request_at s e.id) (tuple_at s e.id) (notifier_at s e.id) e there (h.alone e.id) in
    h.ids.live e.id ∙ rw (a.0, there) refl

pub ended-at : (t : Ids) (id : ℕ) (kind : ObjectKind) (last : Last) → live_at t id ≡ Some (record { id = id; kind = kind }) → ended_with id last t ≡ record t { live = without (λ l. l.id) id t.live; ended = retained (t.ended ++ record { id = id; kind = kind; last = last } ∷ []) }
ended-at t id kind last there = ap (λ (o : Option LiveId). ended_among id last t o) there

pub gone-living : (id q : ℕ) (r : Option Request) (t : Option Entry) (n : Option Notifier) (o : Option LiveId) (b : Bool) → (q == id) ≡ b → (b ≡ true → (r ≡ None) × (n ≡ None)) → o ≡ living q r t n → (if b then None else o) ≡ living q r (if b then None else t) n
gone-living id q r t n o true e none h = rw ((none refl).0, (none refl).1) refl
gone-living id q r t n o false e none h = h

pub gone-stage : (q : ℕ) (r : Option Request) (t : Option Entry) (n : Option Notifier) (o : Stage) (b : Bool) → (b ≡ true → (r ≡ None) × (n ≡ None)) → o ≡ stage_among r t n → (if b then stage.Still else o) ≡ stage_among r (if b then None else t) n
gone-stage q r t n o true none h = rw ((none refl).0, (none refl).1) refl
gone-stage q r t n o false none h = h

pub holds-tuple-ended : (s : Plain) (t : Held) (last : Last) (e : Entry) (stages : ℕ → Stage) → Holds s t → tuple_at s e.id ≡ Some e → ((q : ℕ) → stages q ≡ (if q == e.id then stage.Still else t.stages q)) → Holds (tuple_ended last e s) (record t { ids = ended_with e.id last t.ids; tuples = without (λ t. t.id) e.id t.tuples; notes = map (told (happening_of last) e.value) t.notes; stages = stages })
holds-tuple-ended s t last e stages h there st = record {
  clock = h.clock;
  shut = h.shut;
  numbered = record { next = h.numbered.next; tuples = numbered-filter (λ t. t.id) s.next (λ t. not (t.id == e.id)) s.tuples h.numbered.tuples; requests = h.numbered.requests; notifiers = h.numbered.notifiers };
  alone = λ q. subst (λ (o : Option Entry). at_most_one (request_at s q) o (notifier_at s q) ≡ true) (sym (row-out (λ t. t.id) e.id q s.tuples)) (no-tuple (request_at s q) (tuple_at s q) (notifier_at s q) (q == e.id) (h.alone q));
  ids = record {
    next = ap (λ (i : Ids). i.next) (ended-at t.ids e.id object.Entry last live) ∙ h.ids.next;
    live = λ q. live_at-ended_with t.ids e.id last (record { id = e.id; kind = object.Entry }) q live ∙ gone-living e.id q (request_at s q) (tuple_at s q) (notifier_at s q) (live_at t.ids q) (q == e.id) refl (λ b. at q b) (h.ids.live q) ∙ sym (ap (λ (o : Option Entry). living q (request_at s q) o (notifier_at s q)) (row-out (λ t. t.id) e.id q s.tuples));
    ended = ap (λ (i : Ids). i.ended) (ended-at t.ids e.id object.Entry last live) ∙ ap (λ (es : List Ended). retained (es ++ record { id = e.id; kind = object.Entry; last = last } ∷ [])) h.ids.ended;
  };
  tuples = ap (λ (ts : List Entry). without (λ t. t.id) e.id ts) h.tuples;
  requests = h.requests;
  notes = raised-all s t (happening_of last) e h;
  heard = all_hear_more s.events (record { what = happening_of last; id = e.id; tuple = e.value }) s.notifiers h.heard;
  stages = λ q. st q ∙ gone-stage q (request_at s q) (tuple_at s q) (notifier_at s q) (t.stages q) (q == e.id) (λ b. at q b) (h.stages q) ∙ sym (ap (λ (o : Option Entry). stage_among (request_at s q) o (notifier_at s q)) (row-out (λ t. t.id) e.id q s.tuples));
}
  where
    live : live_at t.ids e.id ≡ Some (record { id = e.id; kind = object.Entry })
    live = live-tuple s t e h there

    at : (q : ℕ) → (q == e.id) ≡ true → (request_at s q ≡ None) × (notifier_at s q ≡ None)
    at q b =
        let same : q ≡ e.id = grind (arith, nat_tests) in
        subst (λ (i : ℕ). (request_at s i ≡ None) × (notifier_at s i ≡ None)) (sym same) (alone-tuple (request_at s e.id) (tuple_at s e.id) (notifier_at s e.id) e there (h.alone e.id))
