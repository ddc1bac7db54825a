-- What a change of a tuple, and a new one, leave of what tables hold.
use Rattle.std.proofs.Common.{◌≡◌, ◌∙◌, ℕ, ◌+◌, Bool, true, false, List, [], ◌∷◌, ◌++◌, Option, Some, None, refl, sym, ap, subst, arith}
use Rattle.std.specs.Prelude.{◌==◌, if◌then◌else◌}
use Rattle.std.specs.Option.{option_map}
use Rattle.std.proofs.lemmas.Bool.Decides.{nat_tests}
use Rattle.rinda_rules.specs.declared.object.ObjectKind.TheVariants as object
use Rattle.rinda_rules.specs.declared.plain.Entry.{Entry}
use Rattle.rinda_rules.specs.declared.plain.Request.{Request}
use Rattle.rinda_rules.specs.declared.plain.Notifier.{Notifier}
use Rattle.rinda_rules.specs.Rows.{row_of, changed, numbered}
use Rattle.rinda_rules.specs.Space.{Plain, request_at, tuple_at, notifier_at}
use Rattle.rinda_rules.specs.Phases.{with_tuple}
use Rattle.rinda_rules.specs.Cases as C
use Rattle.rinda_rules.proofs.Lists.{numbered-changed, numbered-more, numbered-push}
use Rattle.drb_ids.specs.declared.object.LiveId.{LiveId}
use Rattle.drb_ids.specs.Ids.{live_at, minted}
use Rattle.drb_ids.specs.Found.{living}
use Rattle.drb_ids.proofs.Founds.{live_at-minted}
use Rattle.rinda_lease.specs.declared.stage.Stage.{Stage}
use Rattle.rinda_tables.specs.Holds.{Held, Holds, tuple_stage, stage_among, at_most_one}
use Rattle.rinda_tables.proofs.Holding.{row-in, alone-tuple, still-tuple, living-tuple}

changed-stage : (f : Entry → Entry) (e : Entry) (r : Option Request) (t : Option Entry) (n : Option Notifier) (o : Stage) (b : Bool) → (b ≡ true → (r ≡ None) × (t ≡ Some e)) → o ≡ stage_among r t n → (if b then tuple_stage (f e) else o) ≡ stage_among r (if b then option_map f t else t) n
changed-stage f e r t n o true there h = rw ((there refl).0, (there refl).1) refl
changed-stage f e r t n o false there h = h

-- a tuple that is there changes
pub holds-with-tuple : (s : Plain) (t : Held) (id : ℕ) (f : Entry → Entry) (e : Entry) (stages : ℕ → Stage) → ((x : Entry) → (f x).id ≡ x.id) → Holds s t → tuple_at s id ≡ Some e → ((q : ℕ) → stages q ≡ (if q == id then tuple_stage (f e) else t.stages q)) → Holds (with_tuple id f s) (record t { tuples = changed (λ t. t.id) id f t.tuples; stages = stages })
holds-with-tuple s t id f e stages keeps h there st = record {
  clock = h.clock;
  shut = h.shut;
  numbered = record { next = h.numbered.next; tuples = numbered-changed (λ t. t.id) s.next id f s.tuples keeps h.numbered.tuples; requests = h.numbered.requests; notifiers = h.numbered.notifiers };
  alone = λ q. subst (λ (o : Option Entry). at_most_one (request_at s q) o (notifier_at s q) ≡ true) (sym (row-in (λ t. t.id) id q f s.tuples keeps)) (still-tuple f (request_at s q) (tuple_at s q) (notifier_at s q) (q == id) (h.alone q));
  ids = record {
    next = h.ids.next;
    live = λ q. h.ids.live q ∙ sym (living-tuple f q (request_at s q) (tuple_at s q) (notifier_at s q) (q == id)) ∙ sym (ap (λ (o : Option Entry). living q (request_at s q) o (notifier_at s q)) (row-in (λ t. t.id) id q f s.tuples keeps));
    ended = h.ids.ended;
  };
  tuples = ap (λ (ts : List Entry). changed (λ t. t.id) id f ts) h.tuples;
  requests = h.requests;
  notes = h.notes;
  heard = h.heard;
  stages = λ q. st q ∙ changed-stage f e (request_at s q) (tuple_at s q) (notifier_at s q) (t.stages q) (q == id) (λ b. at q b) (h.stages q) ∙ sym (ap (λ (o : Option Entry). stage_among (request_at s q) o (notifier_at s q)) (row-in (λ t. t.id) id q f s.tuples keeps));
}
  where
    at : (q : ℕ) → (q == id) ≡ true → (request_at s q ≡ None) × (tuple_at s q ≡ Some e)
    at q b =
        let same : q ≡ id = grind (arith, nat_tests) in
        subst (λ (i : ℕ). (request_at s i ≡ None) × (tuple_at s i ≡ Some e)) (sym same) ((alone-tuple (request_at s id) (tuple_at s id) (notifier_at s id) e there (h.alone id)).0, there)

-- New rows.

pub none-next : {R : Type 0} (key : R → ℕ) (next : ℕ) (xs : List R) → numbered key next xs ≡ true → row_of key next xs ≡ None
none-next key next [] e = refl
none-next key next (x ∷ xs) e = grind (arith, nat_tests, none-next key next xs)

pub row-pushed : {R : Type 0} (key : R → ℕ) (q : ℕ) (xs : List R) (x : R) → row_of key (key x) xs ≡ None → row_of key q (xs ++ x ∷ []) ≡ (if q == key x then Some x else row_of key q xs)
row-pushed key q [] x e = grind (arith, nat_tests)
row-pushed key q (y ∷ xs) x e = grind (arith, nat_tests, row-pushed key q xs x)

new-alone : (r : Option Request) (t : Option Entry) (n : Option Notifier) (e : Entry) (b : Bool) → (b ≡ true → (r ≡ None) × (n ≡ None)) → at_most_one r t n ≡ true → at_most_one r (if b then Some e else t) n ≡ true
new-alone r t n e true none h = rw ((none refl).0, (none refl).1) refl
new-alone r t n e false none h = h

new-living : (id q : ℕ) (r : Option Request) (t : Option Entry) (n : Option Notifier) (e : Entry) (o : Option LiveId) (b : Bool) → (q == id) ≡ b → (b ≡ true → (r ≡ None) × (n ≡ None)) → o ≡ living q r t n → (if b then Some (record { id = id; kind = object.Entry }) else o) ≡ living q r (if b then Some e else t) n
new-living id q r t n e o true s none h =
    let same : id ≡ q = grind (arith, nat_tests) in
    rw (none refl).0 (ap (λ (i : ℕ). Some (record { id = i; kind = object.Entry })) same)
new-living id q r t n e o false s none h = h

new-stage : (r : Option Request) (t : Option Entry) (n : Option Notifier) (e : Entry) (o : Stage) (b : Bool) → (b ≡ true → (r ≡ None) × (n ≡ None)) → o ≡ stage_among r t n → (if b then tuple_stage e else o) ≡ stage_among r (if b then Some e else t) n
new-stage r t n e o true none h = rw (none refl).0 refl
new-stage r t n e o false none h = h

-- a tuple is added
pub holds-tuple-added : (s : Plain) (t : Held) (e : Entry) (stages : ℕ → Stage) → Holds s t → e.id ≡ s.next → ((q : ℕ) → stages q ≡ (if q == e.id then tuple_stage e else t.stages q)) → Holds (record (C.minted s) { tuples = s.tuples ++ e ∷ [] }) (record t { ids = minted object.Entry t.ids; tuples = t.tuples ++ e ∷ []; stages = stages })
holds-tuple-added s t e stages h fresh st = record {
  clock = h.clock;
  shut = h.shut;
  numbered = record { next = grind (arith, nat_tests); tuples = numbered-push (λ t. t.id) s.next e s.tuples fresh h.numbered.tuples; requests = numbered-more (λ r. r.id) s.next s.requests h.numbered.requests; notifiers = numbered-more (λ n. n.id) s.next s.notifiers h.numbered.notifiers };
  alone = λ q. subst (λ (o : Option Entry). at_most_one (request_at s q) o (notifier_at s q) ≡ true) (sym (row-pushed (λ t. t.id) q s.tuples e no_tuple)) (new-alone (request_at s q) (tuple_at s q) (notifier_at s q) e (q == e.id) (λ b. at q b) (h.alone q));
  ids = record {
    next = ap (λ (n : ℕ). n + 1) h.ids.next;
    live = λ q. live_at-minted t.ids object.Entry q no_live ∙ rw h.ids.next (rw (sym fresh) (new-living e.id q (request_at s q) (tuple_at s q) (notifier_at s q) e (live_at t.ids q) (q == e.id) refl (λ b. at q b) (h.ids.live q))) ∙ sym (ap (λ (o : Option Entry). living q (request_at s q) o (notifier_at s q)) (row-pushed (λ t. t.id) q s.tuples e no_tuple));
    ended = h.ids.ended;
  };
  tuples = ap (λ (ts : List Entry). ts ++ e ∷ []) h.tuples;
  requests = h.requests;
  notes = h.notes;
  heard = h.heard;
  stages = λ q. st q ∙ new-stage (request_at s q) (tuple_at s q) (notifier_at s q) e (t.stages q) (q == e.id) (λ b. at q b) (h.stages q) ∙ sym (ap (λ (o : Option Entry). stage_among (request_at s q) o (notifier_at s q)) (row-pushed (λ t. t.id) q s.tuples e no_tuple));
}
  where
    no_tuple : tuple_at s e.id ≡ None
    no_tuple = subst (λ (i : ℕ). tuple_at s i ≡ None) (sym fresh) (none-next (λ t. t.id) s.next s.tuples h.numbered.tuples)

    none : (request_at s e.id ≡ None) × (notifier_at s e.id ≡ None)
    none = subst (λ (i : ℕ). (request_at s i ≡ None) × (notifier_at s i ≡ None)) (sym fresh) (none-next (λ r. r.id) s.next s.requests h.numbered.requests, none-next (λ n. n.id) s.next s.notifiers h.numbered.notifiers)

    at : (q : ℕ) → (q == e.id) ≡ true → (request_at s q ≡ None) × (notifier_at s q ≡ None)
    at q b =
        let same : q ≡ e.id = grind (arith, nat_tests) in
        subst (λ (i : ℕ). (request_at s i ≡ None) × (notifier_at s i ≡ None)) (sym same) none

    no_live : live_at t.ids t.ids.next ≡ None
    no_live = ap (λ (i : ℕ). live_at t.ids i) (h.ids.next ∙ sym fresh) ∙ h.ids.live e.id ∙ rw (none.0, no_tuple, none.1) refl
