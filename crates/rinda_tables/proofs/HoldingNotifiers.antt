-- What a change of a notifier, a new one, and the end of one leave of what tables hold.
use Rattle.std.proofs.Common.{◌≡◌, ◌∙◌, ℕ, ◌+◌, Bool, true, false, List, [], ◌∷◌, ◌++◌, map, Option, Some, None, refl, sym, ap, subst, arith}
use Rattle.std.specs.Prelude.{not, ◌==◌, if◌then◌else◌}
use Rattle.std.specs.List.{list_all}
use Rattle.std.specs.Option.{option_map}
use Rattle.std.proofs.lemmas.Bool.Decides.{nat_tests}
use Rattle.rinda_rules.specs.declared.object.ObjectKind.TheVariants as object
use Rattle.rinda_rules.specs.declared.object.Last.{Last}
use Rattle.rinda_rules.specs.declared.plain.Ended.{Ended}
use Rattle.rinda_rules.specs.declared.plain.Entry.{Entry}
use Rattle.rinda_rules.specs.declared.plain.Request.{Request}
use Rattle.rinda_rules.specs.declared.plain.Notifier.{Notifier}
use Rattle.rinda_rules.specs.Rows.{changed}
use Rattle.rinda_rules.specs.Space.{Plain, request_at, tuple_at, notifier_at, retained}
use Rattle.rinda_rules.specs.Phases.{with_notifier, notifier_ended}
use Rattle.rinda_rules.specs.Cases as C
use Rattle.rinda_rules.specs.Sound.{hears_within}
use Rattle.rinda_rules.proofs.Lists.{all_append, all_filter, numbered-changed, numbered-filter, numbered-more, numbered-push}
use Rattle.drb_ids.specs.declared.object.LiveId.{LiveId}
use Rattle.drb_ids.specs.Ids.{Ids, live_at, minted, ended_with}
use Rattle.drb_ids.specs.Found.{living}
use Rattle.drb_ids.proofs.Founds.{live_at-minted, live_at-ended_with}
use Rattle.rinda_lease.specs.declared.stage.Stage.{Stage}
use Rattle.rinda_lease.specs.declared.stage.Stage.TheVariants as stage
use Rattle.rinda_notify.specs.declared.note.Note.{Note}
use Rattle.rinda_notify.specs.Notes.{note_of, with_note, without_note}
use Rattle.rinda_notify.proofs.Told as N
use Rattle.rinda_tables.specs.Holds.{Held, Holds, notifier_stage, stage_among, at_most_one}
use Rattle.rinda_tables.proofs.Holding.{row-in, row-out, alone-notifier, no-notifier, ended-at}
use Rattle.rinda_tables.proofs.HoldingTuples.{none-next, row-pushed}

still-notifier : (f : Notifier → Notifier) (r : Option Request) (t : Option Entry) (n : Option Notifier) (b : Bool) → at_most_one r t n ≡ true → at_most_one r t (if b then option_map f n else n) ≡ true
still-notifier f r t n false h = h
still-notifier f r t None true h = h
still-notifier f None None (Some n) true h = refl
still-notifier f None (Some t) (Some n) true h = cc
still-notifier f (Some r) None (Some n) true h = cc
still-notifier f (Some r) (Some t) (Some n) true h = cc

living-notifier : (f : Notifier → Notifier) (id : ℕ) (r : Option Request) (t : Option Entry) (n : Option Notifier) (b : Bool) → living id r t (if b then option_map f n else n) ≡ living id r t n
living-notifier f id r t n false = refl
living-notifier f id r t None true = refl
living-notifier f id None None (Some n) true = refl
living-notifier f id None (Some t) (Some n) true = refl
living-notifier f id (Some r) t (Some n) true = refl

changed-stage : (f : Notifier → Notifier) (e : Notifier) (r : Option Request) (t : Option Entry) (n : Option Notifier) (o : Stage) (b : Bool) → (b ≡ true → ((r ≡ None) × (t ≡ None)) × (n ≡ Some e)) → o ≡ stage_among r t n → (if b then notifier_stage (f e) else o) ≡ stage_among r t (if b then option_map f n else n)
changed-stage f e r t n o true there h = rw ((there refl).0.0, (there refl).0.1, (there refl).1) refl
changed-stage f e r t n o false there h = h

-- what all notifiers keep where one of them changes
heard-changed : {R : Type 0} (p : R → Bool) (key : R → ℕ) (id : ℕ) (f : R → R) (xs : List R) → ((x : R) → key x ≡ id → p x ≡ true → p (f x) ≡ true) → list_all p xs ≡ true → list_all p (changed key id f xs) ≡ true
heard-changed p key id f [] k e = refl
heard-changed {R = R} p key id f (x ∷ xs) k e = by_id (key x == id) refl (heard-changed p key id f xs k (grind arith))
  where
    by_id : (b : Bool) → (key x == id) ≡ b → list_all p (changed key id f xs) ≡ true → list_all p (changed key id f (x ∷ xs)) ≡ true
    by_id true s rest =
        let same : key x ≡ id = grind (arith, nat_tests) in
        let one : p (f x) ≡ true = k x same (grind arith) in
        grind (arith, nat_tests)
    by_id false s rest = grind (arith, nat_tests)

-- a notifier that is there changes, and its note with it
pub holds-with-notifier : (s : Plain) (t : Held) (id : ℕ) (f : Notifier → Notifier) (g : Note → Note) (e : Notifier) (stages : ℕ → Stage) → ((x : Notifier) → (f x).id ≡ x.id) → Holds s t → notifier_at s id ≡ Some e → map (note_of s.events) (changed (λ n. n.id) id f s.notifiers) ≡ with_note id g (map (note_of s.events) s.notifiers) → list_all (hears_within s.events) (changed (λ n. n.id) id f s.notifiers) ≡ true → ((q : ℕ) → stages q ≡ (if q == id then notifier_stage (f e) else t.stages q)) → Holds (with_notifier id f s) (record t { notes = with_note id g t.notes; stages = stages })
holds-with-notifier s t id f g e stages keeps h there notes heard st = record {
  clock = h.clock;
  shut = h.shut;
  numbered = record { next = h.numbered.next; tuples = h.numbered.tuples; requests = h.numbered.requests; notifiers = numbered-changed (λ n. n.id) s.next id f s.notifiers keeps h.numbered.notifiers };
  alone = λ q. subst (λ (o : Option Notifier). at_most_one (request_at s q) (tuple_at s q) o ≡ true) (sym (row-in (λ n. n.id) id q f s.notifiers keeps)) (still-notifier f (request_at s q) (tuple_at s q) (notifier_at s q) (q == id) (h.alone q));
  ids = record {
    next = h.ids.next;
    live = λ q. h.ids.live q ∙ sym (living-notifier f q (request_at s q) (tuple_at s q) (notifier_at s q) (q == id)) ∙ sym (ap (λ (o : Option Notifier). living q (request_at s q) (tuple_at s q) o) (row-in (λ n. n.id) id q f s.notifiers keeps));
    ended = h.ids.ended;
  };
  tuples = h.tuples;
  requests = h.requests;
  notes = ap (λ (ns : List Note). with_note id g ns) h.notes ∙ sym notes;
  heard = heard;
  stages = λ q. st q ∙ changed-stage f e (request_at s q) (tuple_at s q) (notifier_at s q) (t.stages q) (q == id) (λ b. at q b) (h.stages q) ∙ sym (ap (λ (o : Option Notifier). stage_among (request_at s q) (tuple_at s q) o) (row-in (λ n. n.id) id q f s.notifiers keeps));
}
  where
    at : (q : ℕ) → (q == id) ≡ true → ((request_at s q ≡ None) × (tuple_at s q ≡ None)) × (notifier_at s q ≡ Some e)
    at q b =
        let same : q ≡ id = grind (arith, nat_tests) in
        subst (λ (i : ℕ). ((request_at s i ≡ None) × (tuple_at s i ≡ None)) × (notifier_at s i ≡ Some e)) (sym same) (alone-notifier (request_at s id) (tuple_at s id) (notifier_at s id) e there (h.alone id), there)

-- A notifier ends.

live-notifier : (s : Plain) (t : Held) (e : Notifier) → Holds s t → notifier_at s e.id ≡ Some e → live_at t.ids e.id ≡ Some (record { id = e.id; kind = object.Notifier })
live-notifier s t e h there =
    let a = alone-notifier (request_at s e.id) (tuple_at s e.id) (notifier_at s e.id) e there (h.alone e.id) in
    h.ids.live e.id ∙ rw (a.0, a.1, there) refl

gone-living : (id q : ℕ) (r : Option Request) (t : Option Entry) (n : Option Notifier) (o : Option LiveId) (b : Bool) → (b ≡ true → (r ≡ None) × (t ≡ None)) → o ≡ living q r t n → (if b then None else o) ≡ living q r t (if b then None else n)
gone-living id q r t n o true none h = rw ((none refl).0, (none refl).1) refl
gone-living id q r t n o false none h = h

gone-stage : (q : ℕ) (r : Option Request) (t : Option Entry) (n : Option Notifier) (o : Stage) (b : Bool) → (b ≡ true → (r ≡ None) × (t ≡ None)) → o ≡ stage_among r t n → (if b then stage.Still else o) ≡ stage_among r t (if b then None else n)
gone-stage q r t n o true none h = rw ((none refl).0, (none refl).1) refl
gone-stage q r t n o false none h = h

pub holds-notifier-ended : (s : Plain) (t : Held) (last : Last) (e : Notifier) (stages : ℕ → Stage) → Holds s t → notifier_at s e.id ≡ Some e → ((q : ℕ) → stages q ≡ (if q == e.id then stage.Still else t.stages q)) → Holds (notifier_ended last e.id s) (record t { ids = ended_with e.id last t.ids; notes = without_note e.id t.notes; stages = stages })
holds-notifier-ended s t last e stages h there st = record {
  clock = h.clock;
  shut = h.shut;
  numbered = record { next = h.numbered.next; tuples = h.numbered.tuples; requests = h.numbered.requests; notifiers = numbered-filter (λ n. n.id) s.next (λ n. not (n.id == e.id)) s.notifiers h.numbered.notifiers };
  alone = λ q. subst (λ (o : Option Notifier). at_most_one (request_at s q) (tuple_at s q) o ≡ true) (sym (row-out (λ n. n.id) e.id q s.notifiers)) (no-notifier (request_at s q) (tuple_at s q) (notifier_at s q) (q == e.id) (h.alone q));
  ids = record {
    next = ap (λ (i : Ids). i.next) (ended-at t.ids e.id object.Notifier last live) ∙ h.ids.next;
    live = λ q. live_at-ended_with t.ids e.id last (record { id = e.id; kind = object.Notifier }) q live ∙ gone-living e.id q (request_at s q) (tuple_at s q) (notifier_at s q) (live_at t.ids q) (q == e.id) (λ b. at q b) (h.ids.live q) ∙ sym (ap (λ (o : Option Notifier). living q (request_at s q) (tuple_at s q) o) (row-out (λ n. n.id) e.id q s.notifiers));
    ended = ap (λ (i : Ids). i.ended) (ended-at t.ids e.id object.Notifier last live) ∙ ap (λ (es : List Ended). retained (es ++ record { id = e.id; kind = object.Notifier; last = last } ∷ [])) h.ids.ended;
  };
  tuples = h.tuples;
  requests = h.requests;
  notes = ap (λ (ns : List Note). without_note e.id ns) h.notes ∙ sym (N.without_seen (λ n. n.id) (λ n. n.id) (note_of s.events) e.id s.notifiers (λ n. refl));
  heard = all_filter (hears_within s.events) (λ n. not (n.id == e.id)) s.notifiers h.heard;
  stages = λ q. st q ∙ gone-stage q (request_at s q) (tuple_at s q) (notifier_at s q) (t.stages q) (q == e.id) (λ b. at q b) (h.stages q) ∙ sym (ap (λ (o : Option Notifier). stage_among (request_at s q) (tuple_at s q) o) (row-out (λ n. n.id) e.id q s.notifiers));
}
  where
    live : live_at t.ids e.id ≡ Some (record { id = e.id; kind = object.Notifier })
    live = live-notifier s t e h there

    at : (q : ℕ) → (q == e.id) ≡ true → (request_at s q ≡ None) × (tuple_at s q ≡ None)
    at q b =
        let same : q ≡ e.id = grind (arith, nat_tests) in
        subst (λ (i : ℕ). (request_at s i ≡ None) × (tuple_at s i ≡ None)) (sym same) (alone-notifier (request_at s e.id) (tuple_at s e.id) (notifier_at s e.id) e there (h.alone e.id))

-- New notifiers.

new-alone : (r : Option Request) (t : Option Entry) (n : Option Notifier) (e : Notifier) (b : Bool) → (b ≡ true → (r ≡ None) × (t ≡ None)) → at_most_one r t n ≡ true → at_most_one r t (if b then Some e else n) ≡ true
new-alone r t n e true none h = rw ((none refl).0, (none refl).1) refl
new-alone r t n e false none h = h

new-living : (id q : ℕ) (r : Option Request) (t : Option Entry) (n : Option Notifier) (e : Notifier) (o : Option LiveId) (b : Bool) → (q == id) ≡ b → (b ≡ true → (r ≡ None) × (t ≡ None)) → o ≡ living q r t n → (if b then Some (record { id = id; kind = object.Notifier }) else o) ≡ living q r t (if b then Some e else n)
new-living id q r t n e o true s none h =
    let same : id ≡ q = grind (arith, nat_tests) in
    rw ((none refl).0, (none refl).1) (ap (λ (i : ℕ). Some (record { id = i; kind = object.Notifier })) same)
new-living id q r t n e o false s none h = h

new-stage : (r : Option Request) (t : Option Entry) (n : Option Notifier) (e : Notifier) (o : Stage) (b : Bool) → (b ≡ true → (r ≡ None) × (t ≡ None)) → o ≡ stage_among r t n → (if b then notifier_stage e else o) ≡ stage_among r t (if b then Some e else n)
new-stage r t n e o true none h = rw ((none refl).0, (none refl).1) refl
new-stage r t n e o false none h = h

map-last : {A B : Type 0} (f : A → B) (xs : List A) (x : A) → map f (xs ++ x ∷ []) ≡ map f xs ++ f x ∷ []
map-last f [] x = refl
map-last {B = B} f (y ∷ xs) x = ap (λ (ys : List B). f y ∷ ys) (map-last f xs x)

-- a notifier is added
pub holds-notifier-added : (s : Plain) (t : Held) (e : Notifier) (stages : ℕ → Stage) → Holds s t → e.id ≡ s.next → hears_within s.events e ≡ true → ((q : ℕ) → stages q ≡ (if q == e.id then notifier_stage e else t.stages q)) → Holds (record (C.minted s) { notifiers = s.notifiers ++ e ∷ [] }) (record t { ids = minted object.Notifier t.ids; notes = t.notes ++ note_of s.events e ∷ []; stages = stages })
holds-notifier-added s t e stages h fresh hears st = record {
  clock = h.clock;
  shut = h.shut;
  numbered = record { next = grind (arith, nat_tests); tuples = numbered-more (λ t. t.id) s.next s.tuples h.numbered.tuples; requests = numbered-more (λ r. r.id) s.next s.requests h.numbered.requests; notifiers = numbered-push (λ n. n.id) s.next e s.notifiers fresh h.numbered.notifiers };
  alone = λ q. subst (λ (o : Option Notifier). at_most_one (request_at s q) (tuple_at s q) o ≡ true) (sym (row-pushed (λ n. n.id) q s.notifiers e no_notifier)) (new-alone (request_at s q) (tuple_at s q) (notifier_at s q) e (q == e.id) (λ b. at q b) (h.alone q));
  ids = record {
    next = ap (λ (n : ℕ). n + 1) h.ids.next;
    live = λ q. live_at-minted t.ids object.Notifier q no_live ∙ rw h.ids.next (rw (sym fresh) (new-living e.id q (request_at s q) (tuple_at s q) (notifier_at s q) e (live_at t.ids q) (q == e.id) refl (λ b. at q b) (h.ids.live q))) ∙ sym (ap (λ (o : Option Notifier). living q (request_at s q) (tuple_at s q) o) (row-pushed (λ n. n.id) q s.notifiers e no_notifier));
    ended = h.ids.ended;
  };
  tuples = h.tuples;
  requests = h.requests;
  notes = ap (λ (ns : List Note). ns ++ note_of s.events e ∷ []) h.notes ∙ sym (map-last (note_of s.events) s.notifiers e);
  heard = all_append (hears_within s.events) s.notifiers (e ∷ []) h.heard (grind arith);
  stages = λ q. st q ∙ new-stage (request_at s q) (tuple_at s q) (notifier_at s q) e (t.stages q) (q == e.id) (λ b. at q b) (h.stages q) ∙ sym (ap (λ (o : Option Notifier). stage_among (request_at s q) (tuple_at s q) o) (row-pushed (λ n. n.id) q s.notifiers e no_notifier));
}
  where
    no_notifier : notifier_at s e.id ≡ None
    no_notifier = subst (λ (i : ℕ). notifier_at s i ≡ None) (sym fresh) (none-next (λ n. n.id) s.next s.notifiers h.numbered.notifiers)

    none : (request_at s e.id ≡ None) × (tuple_at s e.id ≡ None)
    none = subst (λ (i : ℕ). (request_at s i ≡ None) × (tuple_at s i ≡ None)) (sym fresh) (none-next (λ r. r.id) s.next s.requests h.numbered.requests, none-next (λ t. t.id) s.next s.tuples h.numbered.tuples)

    at : (q : ℕ) → (q == e.id) ≡ true → (request_at s q ≡ None) × (tuple_at s q ≡ None)
    at q b =
        let same : q ≡ e.id = grind (arith, nat_tests) in
        subst (λ (i : ℕ). (request_at s i ≡ None) × (tuple_at s i ≡ None)) (sym same) none

    no_live : live_at t.ids t.ids.next ≡ None
    no_live = ap (λ (i : ℕ). live_at t.ids i) (h.ids.next ∙ sym fresh) ∙ h.ids.live e.id ∙ rw (none.0, none.1, no_notifier) refl
