-- A tuple that is held stays so until the caller of its holder settles.
use Rattle.std.proofs.Common.{◌≡◌, ◌≢◌, ℕ, ◌+◌, Bool, true, false, cond, not, ◌&&◌, ◌||◌, List, [], ◌∷◌, ◌++◌, map, Option, Some, None, refl, sym, ◌∙◌, ap, subst, arith}
use Rattle.std.specs.Prelude.{◌==◌, filter, if◌then◌else◌}
use Rattle.std.specs.List.{list_any}
use Rattle.std.proofs.lemmas.Bool.Decides.{nat_tests}
use Rattle.rinda_rules.specs.declared.object.Last.{Last}
use Rattle.rinda_rules.specs.declared.object.Last.TheVariants as last
use Rattle.rinda_rules.specs.declared.plain.Happening.{Happening}
use Rattle.rinda_rules.specs.declared.plain.Happening.TheVariants as happening
use Rattle.rinda_rules.specs.declared.event.Kind.{Kind}
use Rattle.rinda_rules.specs.declared.event.Kind.TheVariants as kind
use Rattle.rinda_rules.specs.declared.out.Out.{Out}
use Rattle.rinda_rules.specs.declared.out.Out.TheVariants as out
use Rattle.rinda_rules.specs.declared.turn.Pick.{Pick}
use Rattle.rinda_rules.specs.declared.turn.Turn.{Turn}
use Rattle.rinda_rules.specs.declared.event.Event.{Event}
use Rattle.rinda_rules.specs.declared.event.Event.TheVariants.{Write, Reserve, Submit, Collect, Settle, Withdraw, Cancel, Renew, Look, Value, ReadAll, Notify, Pop, NextAsk, Asked, Tick, Shut}
use Rattle.rinda_rules.specs.declared.row.RequestState.{RequestState}
use Rattle.rinda_rules.specs.declared.row.RequestState.TheVariants as state
use Rattle.rinda_rules.specs.declared.plain.Entry.{Entry}
use Rattle.rinda_rules.specs.declared.plain.Request.{Request}
use Rattle.rinda_rules.specs.declared.plain.Raised.{Raised}
use Rattle.rinda_rules.specs.Rows.{row_of, changed}
use Rattle.rinda_rules.specs.Space.{Plain, Found, TheTuple, TheRequest, TheNotifier, HasEnded, IsRecycled, IsUnknown, found, tuple_at, request_at}
use Rattle.rinda_rules.specs.Phases.{advanced, aged, held_by, happening_of, tuple_ended, request_ended, served, served_rows, served_as, with_tuple, Serve}
use Rattle.rinda_rules.specs.AtOnce.{aged_tuple, expires, deleted}
use Rattle.rinda_rules.specs.Sound.{Sound, is_holder, is_held_by}
use Rattle.rinda_rules.specs.Cases.{Outcome, answers, on_own, new_tuple, settle_tuple, settle, outcome}
use Rattle.rinda_rules.specs.Settled.{grants, is_granted, is_kept}
use Rattle.rinda_rules.proofs.Lists.{all_at, row_has_id, row_map, row_append, row_changed, row_without}
use Rattle.rinda_rules.proofs.Keeping.{Keeps, chosen_none, step_kept}
use Rattle.rinda_rules.specs.Steps.{Case, Step, found_by}
use Rattle.rinda_rules.specs.Fixed.{after}
use Rattle.rinda_rules.specs.Legal.{plain_from, LegalFrom}
use Rattle.rinda_rules.proofs.AtOnce.{aging_at_once}
use Rattle.rinda_laws.specs.Starting.{IsStart, raised_since}
use Rattle.rinda_laws.specs.Owns.{Owns, any}
use Rattle.rinda_laws.specs.Holds.{Holds, is_settle, Settles, with_yes, with_no}
use Rattle.rinda_laws.specs.Balance.{takes, is_take}
use Rattle.rinda_laws.proofs.Owning.{owns_keeps}
use Rattle.rinda_laws.proofs.Balancing.{takes-push, takes-append, BooksOf, books_keep, books_start, since_is}
use Rattle.rinda_laws.proofs.Holding.{Gripping, settled_else, gripping_keeps, gripping_sound, grip_at}
use Rattle.rinda_laws.proofs.Staying.{open_any}
use Rattle.rinda_rules.proofs.Sounding.{sound-advanced, sound-found_by, sound-outcome}
use Rattle.rinda_laws.proofs.Turning.{sound_before, plain_from-append, last_step}

same_id : (a b : ℕ) → a == b ≡ true → a ≡ b
same_id a b e = grind (arith, nat_tests)

some_same : {R : Type 0} {x y : R} → Some x ≡ Some y → x ≡ y
some_same e = grind arith

-- the holder, from the test
holder-of : (o : Option ℕ) (request : ℕ) → is_holder request o ≡ true → o ≡ Some request
holder-of None request e = cc
holder-of (Some h) request e = ap Some (same_id h request e)

holds_from : (request id : ℕ) (s : Plain) (o : Option Entry) → tuple_at s id ≡ o → is_held_by request o ≡ true → Holds request id s
holds_from request id s None here e = cc
holds_from request id s (Some t) here e = record { row = t; there = here; by = holder-of t.holder request e }

-- what is granted is held
pub granted_held : (s : Plain) → Sound s → (owner request id : ℕ) → Owns (grants id) owner request s → Holds request id s
granted_held s sound owner request id owns =
    let same : owns.row.id ≡ request = row_has_id (λ (r : Request). r.id) request s.requests owns.row owns.there in
    let there : request_at s owns.row.id ≡ Some owns.row = subst (λ (i : ℕ). request_at s i ≡ Some owns.row) (sym same) owns.there in
    let held : is_held_by owns.row.id (tuple_at s id) ≡ true = grip_at s owns.row id there (granted_as owns.row.state owns.is) (gripping_sound s sound) in
    holds_from request id s (tuple_at s id) refl (subst (λ (i : ℕ). is_held_by i (tuple_at s id) ≡ true) same held)
  where
    granted_as : (st : RequestState) → grants id st ≡ true → st ≡ state.Granted id
    granted_as state.Reserved e = cc
    granted_as state.Parked e = cc
    granted_as (state.Granted t) e = ap state.Granted (same_id t id e)
    granted_as (state.Answered o) e = cc

-- what is held is granted
kept_owns : (rs : List Request) (t : Entry) (holder : Option ℕ) (request : ℕ) → holder ≡ Some request → is_kept rs t holder ≡ true → is_granted t.id (row_of (λ r. r.id) request rs) ≡ true
kept_owns rs t None request e k = cc
kept_owns rs t (Some h) request e k = subst (λ (i : ℕ). is_granted t.id (row_of (λ r. r.id) i rs) ≡ true) (some_same e) k

owns_row : (s : Plain) (request id : ℕ) (o : Option Request) → request_at s request ≡ o → is_granted id o ≡ true → (owner : ℕ) × Owns (grants id) owner request s
owns_row s request id None there e = cc
owns_row s request id (Some r) there e = (r.caller, record { row = r; there = there; own = refl; is = e })

pub held_granted : (s : Plain) → Sound s → (request id : ℕ) → Holds request id s → (owner : ℕ) × Owns (grants id) owner request s
held_granted s sound request id holds =
    let kept : is_kept s.requests holds.row holds.row.holder ≡ true = all_at (λ t. is_kept s.requests t t.holder) (λ t. t.id) id s.tuples holds.row holds.there sound.held in
    let granted : is_granted holds.row.id (request_at s request) ≡ true = kept_owns s.requests holds.row holds.row.holder request holds.by kept in
    owns_row s request id (request_at s request) refl (subst (λ (i : ℕ). is_granted i (request_at s request) ≡ true) (row_has_id (λ (t : Entry). t.id) id s.tuples holds.row holds.there) granted)

-- A tuple that is held stays so.

none_some : (o : Option ℕ) (request : ℕ) → o ≡ None → o ≡ Some request → ⊥
none_some o request e f = cc

expires_not : (now request : ℕ) (t : Entry) → t.holder ≡ Some request → expires now t ≡ false
expires_not now request t e = grind (arith, nat_tests)

aged_id : (now : ℕ) (t : Entry) → (aged_tuple now t).id ≡ t.id
aged_id now t = grind (arith, nat_tests)

aged_holder : (now : ℕ) (t : Entry) → (aged_tuple now t).holder ≡ t.holder
aged_holder now t = grind (arith, nat_tests)

row_filter : (id : ℕ) (q : Entry → Bool) (ts : List Entry) (t : Entry) → row_of (λ t. t.id) id ts ≡ Some t → q t ≡ true → row_of (λ t. t.id) id (filter q ts) ≡ Some t
row_filter id q [] t here keep = cc
row_filter id q (x ∷ xs) t here keep = grind (arith, nat_tests, row_filter id q xs t)

row_in : (id of : ℕ) (f : Entry → Entry) (ts : List Entry) (t : Entry) → ((t : Entry) → (f t).id ≡ t.id) → row_of (λ t. t.id) id ts ≡ Some t → row_of (λ t. t.id) id (changed (λ t. t.id) of f ts) ≡ Some (if t.id == of then f t else t)
row_in id of f ts t keeps there = row_map (λ (t : Entry). t.id) id (λ t. if t.id == of then f t else t) ts t (λ t. kept t (t.id == of)) there
  where
    kept : (t : Entry) (b : Bool) → (cond {A = Entry} b (f t) t).id ≡ t.id
    kept t true = keeps t
    kept t false = refl

holder_in : (of : ℕ) (f : Entry → Entry) (t : Entry) → (f t).holder ≡ t.holder → (if t.id == of then f t else t).holder ≡ t.holder
holder_in of f t e = by_test (t.id == of)
  where
    by_test : (b : Bool) → (cond {A = Entry} b (f t) t).holder ≡ t.holder
    by_test true = e
    by_test false = refl

zero : (n : ℕ) → n + 0 ≡ n
zero n = omega arith

not_counted : (a b : Bool) → b ≡ false → cond {A = ℕ} (a && b) 1 0 ≡ 0
not_counted true b e = rw e refl
not_counted false b e = refl

not_equal : (a b : ℕ) → a ≢ b → a == b ≡ false
not_equal a b ne = grind (arith, nat_tests)

-- what expires is deleted
takes-deleted : (id : ℕ) (es : List Raised) (ts : List Entry) → takes id (es ++ map deleted ts) ≡ takes id es
takes-deleted id es ts = takes-append id es (map deleted ts) ∙ ap (λ (n : ℕ). takes id es + n) (none ts) ∙ zero (takes id es)
  where
    none : (ts : List Entry) → takes id (map deleted ts) ≡ 0
    none [] = refl
    none (t ∷ ts) = grind (arith, none ts)

-- a Settle with no takes nothing
no_takes_tuple : (id : ℕ) (s : Plain) (o : Option Entry) → takes id (settle_tuple false o s).events ≡ takes id s.events
no_takes_tuple id s None = refl
no_takes_tuple id s (Some t) = by_mark t.marked
  where
    by_mark : (b : Bool) → takes id (cond {A = Plain} b (tuple_ended last.Canceled t s) (with_tuple t.id (λ t. record t { holder = None }) s)).events ≡ takes id s.events
    by_mark true = takes-push id s.events (record { what = happening.Delete; id = t.id; tuple = t.value }) ∙ zero (takes id s.events)
    by_mark false = refl

-- a Settle of another tuple doesn't take that one
takes_settled : (id : ℕ) (ok : Bool) (tuple : ℕ) (s : Plain) (o : Option Entry) → tuple_at s tuple ≡ o → id ≢ tuple → takes id (settle_tuple ok o s).events ≡ takes id s.events
takes_settled id ok tuple s None e ne = refl
takes_settled id true tuple s (Some t) e ne = pushed happening.Take
  where
    pushed : (h : Happening) → takes id (s.events ++ record { what = h; id = t.id; tuple = t.value } ∷ []) ≡ takes id s.events
    pushed h = takes-push id s.events (record { what = h; id = t.id; tuple = t.value }) ∙ ap (λ (n : ℕ). takes id s.events + n) (not_counted (is_take h) (t.id == id) (not_equal t.id id (λ same. ne (sym same ∙ row_has_id (λ (t : Entry). t.id) tuple s.tuples t e)))) ∙ zero (takes id s.events)
takes_settled id false tuple s (Some t) e ne = no_takes_tuple id s (Some t)

module _ (request id : ℕ) where
  holds_changed : (of : ℕ) (f : Entry → Entry) (s s' : Plain) → s'.tuples ≡ changed (λ t. t.id) of f s.tuples → ((t : Entry) → (f t).id ≡ t.id) → ((t : Entry) → (f t).holder ≡ t.holder) → Holds request id s → Holds request id s'
  holds_changed of f s s' e ids holders h = record {
    row = if h.row.id == of then f h.row else h.row;
    there = ap (row_of (λ t. t.id) id) e ∙ row_in id of f s.tuples h.row ids h.there;
    by = holder_in of f h.row (holders h.row) ∙ h.by;
  }

  -- the other tuples
  holds_else : (s s' : Plain) → row_of (λ t. t.id) id s'.tuples ≡ row_of (λ t. t.id) id s.tuples → Holds request id s → Holds request id s'
  holds_else s s' e h = record { row = h.row; there = e ∙ h.there; by = h.by }

  -- a free tuple is another one
  free_else : (s : Plain) (t : Entry) → tuple_at s t.id ≡ Some t → t.holder ≡ None → Holds request id s → id ≢ t.id
  free_else s t here isfree h same =
      let row : h.row ≡ t = some_same (sym h.there ∙ subst (λ (i : ℕ). tuple_at s i ≡ Some t) (sym same) here) in
      none_some t.holder request isfree (sym (ap (λ (t : Entry). t.holder) row) ∙ h.by)

  -- another tuple leaves, so that one is not taken
  takes_else : (s : Plain) (l : Last) (t : Entry) → id ≢ t.id → takes id (tuple_ended l t s).events ≡ takes id s.events
  takes_else s l t ne = takes-push id s.events (record { what = happening_of l; id = t.id; tuple = t.value }) ∙ ap (λ (n : ℕ). takes id s.events + n) (not_counted (is_take (happening_of l)) (t.id == id) (not_equal t.id id (λ same. ne (sym same)))) ∙ zero (takes id s.events)

  module _ (caller : ℕ) (event : Event) (taken : ℕ) (Q : Plain → Type 0) (k : Keeps caller event Q) (no : (s : Plain) → Q s → (r : Request) (ok : Bool) → request_at s r.id ≡ Some r → r.id ≡ request → r.caller ≡ caller → event ≡ Settle r.id ok → ⊥) where
    -- held and not taken, while requests hold what they are granted
    pub record Held (s : Plain) : Type 0 where
      pub grip : Gripping s
      pub more : Q s
      pub holds : Holds request id s
      pub takes_are : takes id s.events ≡ taken

    g : Keeps caller event Gripping
    g = gripping_keeps caller event

    takes_raised : (es : List Raised) (e : Raised) → is_take e.what ≡ false → takes id (es ++ e ∷ []) ≡ takes id es
    takes_raised es e not = takes-push id es e ∙ ap (λ (n : ℕ). takes id es + n) (not_first (is_take e.what) (e.id == id) not) ∙ zero (takes id es)
      where
        not_first : (a b : Bool) → a ≡ false → cond {A = ℕ} (a && b) 1 0 ≡ 0
        not_first true b e = cc
        not_first false b e = refl

    settles_else : (r : Request) (tuple : ℕ) (ok : Bool) (s : Plain) → request_at s r.id ≡ Some r → r.state ≡ state.Granted tuple → r.caller ≡ caller → event ≡ Settle r.id ok → Held s → id ≢ tuple
    settles_else r tuple ok s there is mine e h same =
        let held : is_held_by r.id (tuple_at s id) ≡ true = subst (λ (i : ℕ). is_held_by r.id (tuple_at s i) ≡ true) (sym same) (grip_at s r tuple there is h.grip) in
        let mine' : is_held_by r.id (Some h.holds.row) ≡ true = subst (λ (o : Option Entry). is_held_by r.id o ≡ true) h.holds.there held in
        no s h.more r ok there (some_same (sym (holder-of h.holds.row.holder r.id mine') ∙ h.holds.by)) mine e

    pub held_keeps : Keeps caller event Held
    held_keeps = record {
      advances = λ s at h. record { grip = g.advances s at h.grip; more = k.advances s at h.more; holds = record { row = h.holds.row; there = h.holds.there; by = h.holds.by }; takes_are = h.takes_are };
      ages = λ s sound h. record {
        grip = g.ages s sound h.grip;
        more = k.ages s sound h.more;
        takes_are = takes-deleted id s.events (filter (expires s.clock) s.tuples) ∙ h.takes_are;
        holds = record {
          row = aged_tuple s.clock h.holds.row;
          there = row_map (λ (t : Entry). t.id) id (aged_tuple s.clock) (filter (λ t. not (expires s.clock t)) s.tuples) h.holds.row (aged_id s.clock) (row_filter id (λ t. not (expires s.clock t)) s.tuples h.holds.row h.holds.there (ap not (expires_not s.clock request h.holds.row h.holds.by)));
          by = aged_holder s.clock h.holds.row ∙ h.holds.by;
        };
      };
      writes = λ s value lease unshut h. record { grip = g.writes s value lease unshut h.grip; more = k.writes s value lease unshut h.more; holds = record { row = h.holds.row; there = row_append (λ (t : Entry). t.id) id s.tuples (new_tuple s value lease ∷ []) h.holds.row h.holds.there; by = h.holds.by }; takes_are = takes_raised s.events (record { what = happening.Write; id = s.next; tuple = value }) refl ∙ h.takes_are };
      writes_over = λ s value lease unshut h. record { grip = g.writes_over s value lease unshut h.grip; more = k.writes_over s value lease unshut h.more; holds = record { row = h.holds.row; there = h.holds.there; by = h.holds.by }; takes_are = takes_raised (s.events ++ record { what = happening.Write; id = s.next; tuple = value } ∷ []) (record { what = happening.Delete; id = s.next; tuple = value }) refl ∙ takes_raised s.events (record { what = happening.Write; id = s.next; tuple = value }) refl ∙ h.takes_are };
      reserves = λ s kd pattern lease unshut h. record { grip = g.reserves s kd pattern lease unshut h.grip; more = k.reserves s kd pattern lease unshut h.more; holds = record { row = h.holds.row; there = h.holds.there; by = h.holds.by }; takes_are = h.takes_are };
      notifies = λ s e pattern lease unshut h. record { grip = g.notifies s e pattern lease unshut h.grip; more = k.notifies s e pattern lease unshut h.more; holds = record { row = h.holds.row; there = h.holds.there; by = h.holds.by }; takes_are = h.takes_are };
      tuple_leaves = λ l t s here isfree h. record { grip = g.tuple_leaves l t s here isfree h.grip; more = k.tuple_leaves l t s here isfree h.more; holds = holds_else s (tuple_ended l t s) (row_without (λ (t : Entry). t.id) t.id id s.tuples (free_else s t here isfree h.holds)) h.holds; takes_are = takes_else s l t (free_else s t here isfree h.holds) ∙ h.takes_are };
      tuple_leases = λ i f s c h. record { grip = g.tuple_leases i f s c h.grip; more = k.tuple_leases i f s c h.more; holds = holds_changed i f s (with_tuple i f s) refl c.id c.holder h.holds; takes_are = h.takes_are };
      tuple_marks = λ t holder s here isheld h. record { grip = g.tuple_marks t holder s here isheld h.grip; more = k.tuple_marks t holder s here isheld h.more; holds = holds_changed t.id (λ t. record t { marked = true }) s (with_tuple t.id (λ t. record t { marked = true }) s) refl (λ t. refl) (λ t. refl) h.holds; takes_are = h.takes_are };
      request_leases = λ r f s there c may h. record { grip = g.request_leases r f s there c may h.grip; more = k.request_leases r f s there c may h.more; holds = record { row = h.holds.row; there = h.holds.there; by = h.holds.by }; takes_are = h.takes_are };
      request_asks = λ i s h. record { grip = g.request_asks i s h.grip; more = k.request_asks i s h.more; holds = record { row = h.holds.row; there = h.holds.there; by = h.holds.by }; takes_are = h.takes_are };
      request_marks = λ r s there is e h. record { grip = g.request_marks r s there is e h.grip; more = k.request_marks r s there is e h.more; holds = record { row = h.holds.row; there = h.holds.there; by = h.holds.by }; takes_are = h.takes_are };
      request_parks = λ r s there res unmarked mine is h. record { grip = g.request_parks r s there res unmarked mine is h.grip; more = k.request_parks r s there res unmarked mine is h.more; holds = record { row = h.holds.row; there = h.holds.there; by = h.holds.by }; takes_are = h.takes_are };
      request_answers = λ r o s there why h. record { grip = g.request_answers r o s there why h.grip; more = k.request_answers r o s there why h.more; holds = record { row = h.holds.row; there = h.holds.there; by = h.holds.by }; takes_are = h.takes_are };
      request_ends = λ l r s there none mine of h. record { grip = g.request_ends l r s there none mine of h.grip; more = k.request_ends l r s there none mine of h.more; holds = record { row = h.holds.row; there = h.holds.there; by = h.holds.by }; takes_are = h.takes_are };
      grants = λ r t s there here isfree why h. record { grip = g.grants r t s there here isfree why h.grip; more = k.grants r t s there here isfree why h.more; holds = holds_else s (served_as kind.Move r t s) (row_changed (λ (t : Entry). t.id) t.id (held_by r.id) id s.tuples (free_else s t here isfree h.holds) (λ _. refl)) h.holds; takes_are = h.takes_are };
      settles = λ r tuple ok s there is mine e h. record { grip = g.settles r tuple ok s there is mine e h.grip; more = k.settles r tuple ok s there is mine e h.more; holds = holds_else s (request_ended last.Done r.id (settle_tuple ok (tuple_at s tuple) s)) (settled_else ok tuple (tuple_at s tuple) s refl id (settles_else r tuple ok s there is mine e h)) h.holds; takes_are = takes_settled id ok tuple s (tuple_at s tuple) refl (settles_else r tuple ok s there is mine e h) ∙ h.takes_are };
      notifier_changes = λ i f s c h. record { grip = g.notifier_changes i f s c h.grip; more = k.notifier_changes i f s c h.more; holds = record { row = h.holds.row; there = h.holds.there; by = h.holds.by }; takes_are = h.takes_are };
      notifier_ends = λ l n s h. record { grip = g.notifier_ends l n s h.grip; more = k.notifier_ends l n s h.more; holds = record { row = h.holds.row; there = h.holds.there; by = h.holds.by }; takes_are = h.takes_are };
      shuts = λ s unshut is h. record { grip = g.shuts s unshut is h.grip; more = k.shuts s unshut is h.more; holds = record { row = h.holds.row; there = h.holds.there; by = h.holds.by }; takes_are = h.takes_are };
    }

-- an event that isn't its Settle
is_settle_of : (request : ℕ) (event : Event) (i : ℕ) (ok : Bool) → event ≡ Settle i ok → i ≡ request → is_settle request event ≡ true
is_settle_of request event i ok e same = subst (λ (x : Event). is_settle request x ≡ true) (sym e) (equal i request same)
  where
    equal : (a b : ℕ) → a ≡ b → a == b ≡ true
    equal a b e = grind (arith, nat_tests)

contra : (b : Bool) → b ≡ true → b ≡ false → ⊥
contra b x y = grind arith

-- nothing more is asked
abbrev Fine : Plain → Type 0
Fine s = Unit {0}

fine_keeps : (caller : ℕ) (event : Event) → Keeps caller event Fine
fine_keeps caller event = record {
  advances = λ s at h. tt;
  ages = λ s sound h. tt;
  writes = λ s value lease unshut h. tt;
  writes_over = λ s value lease unshut h. tt;
  reserves = λ s k pattern lease unshut h. tt;
  notifies = λ s e pattern lease unshut h. tt;
  tuple_leaves = λ l t s here isfree h. tt;
  tuple_leases = λ i f s k h. tt;
  tuple_marks = λ t holder s here isheld h. tt;
  request_leases = λ r f s there k may h. tt;
  request_asks = λ i s h. tt;
  request_marks = λ r s there is e h. tt;
  request_parks = λ r s there res unmarked mine is h. tt;
  request_answers = λ r o s there why h. tt;
  request_ends = λ l r s there none mine of h. tt;
  grants = λ r t s there here isfree why h. tt;
  settles = λ r tuple ok s there is mine e h. tt;
  notifier_changes = λ i f s k h. tt;
  notifier_ends = λ l n s h. tt;
  shuts = λ s unshut is h. tt;
}

-- it isn't a Settle of that request
no_settle : (request caller : ℕ) (event : Event) → is_settle request event ≡ false → (s : Plain) → Fine s → (r : Request) (ok : Bool) → request_at s r.id ≡ Some r → r.id ≡ request → r.caller ≡ caller → event ≡ Settle r.id ok → ⊥
no_settle request caller event not s q r ok there same mine e = contra (is_settle request event) (is_settle_of request event r.id ok e same) not

-- it is another caller's
other_settle : (request owner caller : ℕ) (event : Event) → caller == owner ≡ false → (s : Plain) → Owns any owner request s → (r : Request) (ok : Bool) → request_at s r.id ≡ Some r → r.id ≡ request → r.caller ≡ caller → event ≡ Settle r.id ok → ⊥
other_settle request owner caller event other s q r ok there same mine e =
    let row : q.row ≡ r = some_same (sym q.there ∙ subst (λ (i : ℕ). request_at s i ≡ Some r) same there) in
    contra (caller == owner) (equal caller owner (sym mine ∙ sym (ap (λ (r : Request). r.caller) row) ∙ q.own)) other
  where
    equal : (a b : ℕ) → a ≡ b → a == b ≡ true
    equal a b e = grind (arith, nat_tests)

-- A turn that isn't the owner's Settle.

module _ (start : Plain) (h : List Turn) (turn : Turn) (owner request id : ℕ) (from : IsStart start) (legal : LegalFrom start (h ++ turn ∷ [])) where
  s : Plain
  s = plain_from start h

  s' : Plain
  s' = after (plain_from start h) turn

  sound : Sound (plain_from start h)
  sound = sound_before start h (turn ∷ []) from legal

  step : Step (plain_from start h) turn.caller turn.at turn.event turn.out turn.picks (after (plain_from start h) turn)
  step = last_step start h turn [] legal

  -- it holds on, and takes nothing of it
  record On : Type 0 where
    holds : Holds request id (after (plain_from start h) turn)
    takes_are : takes id (after (plain_from start h) turn).events ≡ takes id (plain_from start h).events

  holds_on : Holds request id (plain_from start h) → Owns any owner request (plain_from start h) → (turn.caller == owner && is_settle request turn.event) ≡ false → On
  holds_on holds owns not = by_test (turn.caller == owner) refl
    where
      second : (a b : Bool) → a ≡ true → (a && b) ≡ false → b ≡ false
      second a b x y = grind arith

      first_false : (a b : Bool) → a ≡ false → (a && b) ≡ false
      first_false a b x = grind arith

      by_test : (b : Bool) → turn.caller == owner ≡ b → On
      by_test true mine =
          let n : is_settle request turn.event ≡ false = second _ _ mine not in
          let q = no_settle request turn.caller turn.event n in
          let k = fine_keeps turn.caller turn.event in
          let taken : ℕ = takes id (plain_from start h).events in
          let g : Held request id turn.caller turn.event taken Fine k q (after (plain_from start h) turn) =
          step_kept turn.caller turn.event (Held request id turn.caller turn.event taken Fine k q) (held_keeps request id turn.caller turn.event taken Fine k q)
          (plain_from start h) turn.at turn.out turn.picks (after (plain_from start h) turn) step sound
          (record { grip = gripping_sound (plain_from start h) sound; more = tt; holds = holds; takes_are = refl }) in
          record { holds = g.holds; takes_are = g.takes_are }
      by_test false other =
          let k : Keeps turn.caller turn.event (Owns any owner request) = owns_keeps any owner request open_any turn.caller turn.event (first_false _ _ other) in
          let q = other_settle request owner turn.caller turn.event other in
          let taken : ℕ = takes id (plain_from start h).events in
          let g : Held request id turn.caller turn.event taken (Owns any owner request) k q (after (plain_from start h) turn) =
          step_kept turn.caller turn.event (Held request id turn.caller turn.event taken (Owns any owner request) k q) (held_keeps request id turn.caller turn.event taken (Owns any owner request) k q)
          (plain_from start h) turn.at turn.out turn.picks (after (plain_from start h) turn) step sound
          (record { grip = gripping_sound (plain_from start h) sound; more = owns; holds = holds; takes_are = refl }) in
          record { holds = g.holds; takes_are = g.takes_are }

  pub held_stays : Holds request id (plain_from start h) → Owns any owner request (plain_from start h) → (turn.caller == owner && is_settle request turn.event) ≡ false → Holds request id (plain_from start (h ++ turn ∷ []))
  held_stays holds owns not = subst (λ (p : Plain). Holds request id p) (sym (plain_from-append start h (turn ∷ []))) (holds_on holds owns not).holds

-- A Settle with no takes what a pick names.

no_takes_state : (id : ℕ) (s : Plain) (r : Request) (st : RequestState) → takes id (settle s r false st).after.events ≡ takes id s.events
no_takes_state id s r state.Reserved = refl
no_takes_state id s r state.Parked = refl
no_takes_state id s r (state.Granted t) = no_takes_tuple id s (tuple_at s t)
no_takes_state id s r (state.Answered o) = refl

no_takes : (s : Plain) (caller request id : ℕ) → takes id (outcome s caller (Settle request false) None).after.events ≡ takes id s.events
no_takes s caller request id = by_found (found s request)
  where
    by_found : (f : Found) → takes id (on_own s caller (λ r. settle s r false r.state) f).after.events ≡ takes id s.events
    by_found (TheTuple t) = refl
    by_found (TheNotifier n) = refl
    by_found (HasEnded kd l) = refl
    by_found IsRecycled = refl
    by_found IsUnknown = refl
    by_found (TheRequest r) = by_test (r.caller == caller)
      where
        by_test : (b : Bool) → takes id (cond {A = Outcome} b (settle s r false r.state) (answers s out.WrongKind)).after.events ≡ takes id s.events
        by_test true = no_takes_state id s r r.state
        by_test false = refl

takes_aged : (id : ℕ) (s : Plain) → Sound s → takes id (aged s).events ≡ takes id s.events
takes_aged id s sound = ap (λ (p : Plain). takes id p.events) (aging_at_once s sound) ∙ takes-deleted id s.events (filter (expires s.clock) s.tuples)

takes_served : (id : ℕ) (s : Plain) (of : ℕ) (r : Option Request) (t : Option Entry) → tuple_at s of ≡ t → of == id ≡ false → takes id (served_rows s r t).events ≡ takes id s.events
takes_served id s of None t there ne = refl
takes_served id s of (Some r) None there ne = refl
takes_served id s of (Some r) (Some t) there ne = by_kind r.kind
  where
    other : t.id == id ≡ false
    other = subst (λ (i : ℕ). i == id ≡ false) (sym (row_has_id (λ (t : Entry). t.id) of s.tuples t there)) ne

    by_kind : (k : Kind) → takes id (served_as k r t s).events ≡ takes id s.events
    by_kind kind.Read = refl
    by_kind kind.Take = takes-push id s.events (record { what = happening.Take; id = t.id; tuple = t.value }) ∙ ap (λ (n : ℕ). takes id s.events + n) (not_counted true (t.id == id) other) ∙ zero (takes id s.events)
    by_kind kind.Move = refl

takes_serve : (id : ℕ) (s : Plain) (picks : List Pick) (s' : Plain) → Serve s picks s' → list_any (λ pick. pick.tuple == id) picks ≡ false → takes id s'.events ≡ takes id s.events
takes_serve id s [] s' serve none = ap (λ (p : Plain). takes id p.events) serve.1
takes_serve id s (pick ∷ picks) s' serve none =
    takes_serve id (served s pick) picks s' serve.1 (back (pick.tuple == id) _ none)
    ∙ takes_served id s pick.tuple (request_at s pick.request) (tuple_at s pick.tuple) refl (front (pick.tuple == id) _ none)
  where
    back : (a b : Bool) → (a || b) ≡ false → b ≡ false
    back a b e = grind arith

    front : (a b : Bool) → (a || b) ≡ false → a ≡ false
    front a b e = grind arith

takes_no : (id request : ℕ) (s : Plain) (caller : ℕ) (o : Out) (picks : List Pick) (s' : Plain) → Case s caller (Settle request false) None o picks s' → list_any (λ pick. pick.tuple == id) picks ≡ false → Sound s → takes id s'.events ≡ takes id s.events
takes_no id request s caller o picks s' case none sound =
    takes_serve id _ picks s' case.1 none
    ∙ (takes_aged id (outcome s caller (Settle request false) None).after (sound-outcome s caller (Settle request false) None (chosen_none s (Settle request false)) sound)
    ∙ no_takes s caller request id)

-- the event settles it
settles_so : (request : ℕ) (event : Event) → is_settle request event ≡ true → (ok : Bool) × (event ≡ Settle request ok)
settles_so request (Settle i ok) e = (ok, ap (λ (n : ℕ). Settle n ok) (same_id i request e))
settles_so request (Write v lease) e = cc
settles_so request (Reserve k pattern lease) e = cc
settles_so request (Submit i) e = cc
settles_so request (Collect i) e = cc
settles_so request (Withdraw i) e = cc
settles_so request (Cancel i) e = cc
settles_so request (Renew i lease) e = cc
settles_so request (Look i) e = cc
settles_so request (Value i) e = cc
settles_so request (ReadAll pattern) e = cc
settles_so request (Notify x pattern lease) e = cc
settles_so request (Pop i) e = cc
settles_so request NextAsk e = cc
settles_so request (Asked i life) e = cc
settles_so request Tick e = cc
settles_so request Shut e = cc

pub taken_by_settle : (start : Plain) (h : List Turn) (turn : Turn) (request id : ℕ) → IsStart start → LegalFrom start (h ++ turn ∷ []) → Holds request id (plain_from start h) → takes id (raised_since (plain_from start h) (plain_from start (h ++ turn ∷ []))) ≢ 0 → Owns (grants id) turn.caller request (plain_from start h) × Settles request id turn
taken_by_settle start h turn request id from legal holds taken = by_owner (held_granted (plain_from start h) sound request id holds)
  where
    sound : Sound (plain_from start h)
    sound = sound_before start h (turn ∷ []) from legal

    step : Step (plain_from start h) turn.caller turn.at turn.event turn.out turn.picks (after (plain_from start h) turn)
    step = last_step start h turn [] legal

    books : BooksOf (plain_from start h) (after (plain_from start h) turn)
    books = step_kept turn.caller turn.event (BooksOf (plain_from start h)) (books_keep (plain_from start h) turn.caller turn.event) (plain_from start h) turn.at turn.out turn.picks (after (plain_from start h) turn) step sound (books_start (plain_from start h) sound)

    more_is_none : (n k : ℕ) → n + k ≡ n → k ≡ 0
    more_is_none n k e = omega (arith, e)

    -- the turn took it
    untaken : takes id (after (plain_from start h) turn).events ≡ takes id (plain_from start h).events → ⊥
    untaken e = taken
        (ap (λ (p : Plain). takes id (raised_since (plain_from start h) p)) (plain_from-append start h (turn ∷ []))
        ∙ (ap (takes id) (since_is (plain_from start h) (after (plain_from start h) turn) books)
        ∙ more_is_none (takes id (plain_from start h).events) (takes id books.new) (sym (ap (takes id) books.is ∙ takes-append id (plain_from start h).events books.new) ∙ e)))

    weaker : (owner : ℕ) → Owns (grants id) owner request (plain_from start h) → Owns any owner request (plain_from start h)
    weaker owner owns = record { row = owns.row; there = owns.there; own = owns.own; is = refl }

    both : (a b : Bool) → (a && b) ≡ true → (a ≡ true) × (b ≡ true)
    both a b e = (grind arith, grind arith)

    settles : (ok : Bool) → turn.event ≡ Settle request ok → Settles request id turn
    settles true is = with_yes is
    settles false is = by_picks (list_any (λ pick. pick.tuple == id) turn.picks) refl
      where
        by_picks : (b : Bool) → list_any (λ pick. pick.tuple == id) turn.picks ≡ b → Settles request id turn
        by_picks true named = with_no is named
        by_picks false none = absurd (untaken
            (takes_no id request (found_by (plain_from start h) turn.at) turn.caller turn.out turn.picks (after (plain_from start h) turn)
            (subst (λ (event : Event). Step (plain_from start h) turn.caller turn.at event turn.out turn.picks (after (plain_from start h) turn)) is step) none (sound-found_by (plain_from start h) turn.at sound)
            ∙ takes_aged id (advanced (plain_from start h) turn.at) (sound-advanced (plain_from start h) turn.at sound)))

    by_owner : (owner : ℕ) × Owns (grants id) owner request (plain_from start h) → Owns (grants id) turn.caller request (plain_from start h) × Settles request id turn
    by_owner (owner, owns) = by_test (turn.caller == owner && is_settle request turn.event) refl
      where
        by_test : (b : Bool) → (turn.caller == owner && is_settle request turn.event) ≡ b → Owns (grants id) turn.caller request (plain_from start h) × Settles request id turn
        by_test false other = absurd (untaken (holds_on start h turn owner request id from legal holds (weaker owner owns) other).takes_are)
        by_test true mine =
            let so = settles_so request turn.event (both _ _ mine).1 in
            (subst (λ (c : ℕ). Owns (grants id) c request (plain_from start h)) (sym (same_id turn.caller owner (both _ _ mine).0)) owns, settles so.0 so.1)
