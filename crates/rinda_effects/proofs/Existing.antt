-- From a sound and settled space every event has a step.
use Rattle.std.proofs.Common.{◌≡◌, ℕ, Bool, true, false, not, ◌&&◌, ◌||◌, List, [], ◌∷◌, ◌++◌, Option, Some, None, refl, sym, ◌∙◌, ap, subst, arith}
use Rattle.std.specs.Prelude.{◌==◌, nat_lt}
use Rattle.std.specs.List.{list_all, list_any}
use Rattle.std.proofs.lemmas.Bool.Decides.{nat_tests}
use Rattle.rinda_rules.specs.declared.event.Event.{Event}
use Rattle.rinda_rules.specs.declared.event.Event.TheVariants.{Write, Reserve, Submit, Collect, Settle, Withdraw, Cancel, Renew, Look, Value, ReadAll, Notify, Pop, NextAsk, Asked, Tick, Shut}
use Rattle.rinda_rules.specs.declared.out.Out.{Out}
use Rattle.rinda_rules.specs.declared.turn.Pick.{Pick}
use Rattle.rinda_rules.specs.declared.plain.Entry.{Entry}
use Rattle.rinda_rules.specs.declared.plain.Request.{Request}
use Rattle.rinda_rules.specs.Rows.{row_of, rising}
use Rattle.rinda_rules.specs.Space.{Plain, tuple_at, request_at, is_waiting, can_be_served, may_have}
use Rattle.rinda_rules.specs.Phases.{is_match, may_have_row, served_with, Serve}
use Rattle.rinda_rules.specs.Cases.{outcome}
use Rattle.rinda_rules.specs.Steps.{chooser, found_by, Step}
use Rattle.rinda_rules.specs.Settled.{Settled}
use Rattle.rinda_rules.specs.Sound.{Sound, Numbered}
use Rattle.rinda_rules.proofs.Sounding.{sound-found_by}
use Rattle.rinda_rules.proofs.Lists.{row_has_id, all_at}
use Rattle.rinda_rules.proofs.Finding.{itself-tuple, itself-request}
use Rattle.rinda_effects.specs.Touches.{Touched, NoRow, ATuple, ARequest, waits_only, touched_by}
use Rattle.rinda_effects.specs.Serves.{read_all, picks_of, takes, no_taker, reader_ids}
use Rattle.rinda_effects.specs.Unserved.{unserved}
use Rattle.rinda_effects.specs.Turns.{StepExists}
use Rattle.rinda_effects.proofs.Kept.{nobody}
use Rattle.rinda_effects.proofs.Cases.{rising_tuples, rising_requests}
use Rattle.rinda_effects.proofs.Picking.{tuple_dead, tuple_read, tuple_taken, request_unserved, request_served, readers_in_order}
use Rattle.rinda_effects.proofs.Touching.{event_touches_one, match_touches_none, serving_ends_turn, serving_ends_match, chooser_has}

back : (a b : Bool) → (a && b) ≡ true → b ≡ true
back a b e = grind arith

front : (a b : Bool) → (a && b) ≡ true → a ≡ true
front a b e = grind arith

some_same : {X : Type 0} {x y : X} → Some x ≡ Some y → x ≡ y
some_same e = cc

same_id : (a b : ℕ) → a ≡ b → a == b ≡ true
same_id a b e = grind (arith, nat_tests)

-- a row that passes a test, where one does
abbrev Passes : {R : Type 0} → (R → ℕ) → (R → Bool) → List R → Type 0
Passes {R} key p xs = (r : R) × (row_of key (key r) xs ≡ Some r) × (p r ≡ true)

later_row : {R : Type 0} (key : R → ℕ) (x r : R) (xs : List R) → list_all (λ y. nat_lt (key x) (key y)) xs ≡ true → row_of key (key r) xs ≡ Some r → row_of key (key r) (x ∷ xs) ≡ Some r
later_row key x r xs later e = let apart : nat_lt (key x) (key r) ≡ true = all_at (λ y. nat_lt (key x) (key y)) key (key r) xs r e later in grind (arith, nat_tests)

first_row : {R : Type 0} (key : R → ℕ) (x : R) (xs : List R) → row_of key (key x) (x ∷ xs) ≡ Some x
first_row key x xs = grind (arith, nat_tests)

pub one_passes : {R : Type 0} (key : R → ℕ) (p : R → Bool) (xs : List R) → rising key xs ≡ true → list_any p xs ≡ true → Passes key p xs
one_passes key p [] up e = cc
one_passes {R} key p (x ∷ xs) up e = by_test (p x) refl e (λ rest. one_passes key p xs (back _ _ up) rest)
  where
    more : Passes key p xs → Passes key p (x ∷ xs)
    more h = (h.0, later_row key x h.0 xs (front _ _ up) h.1, h.2)

    by_test : (b : Bool) → p x ≡ b → (b || list_any p xs) ≡ true → (list_any p xs ≡ true → Passes key p xs) → Passes key p (x ∷ xs)
    by_test true is e rest = (x, first_row key x xs, is)
    by_test false is e rest = more (rest e)

not_all : {R : Type 0} (p : R → Bool) (xs : List R) → list_all (λ x. not (p x)) xs ≡ false → list_any p xs ≡ true
not_all p [] e = cc
not_all p (x ∷ xs) e = grind (arith, not_all p xs)

-- A space that is to be served can be.

abbrev CanBeServed : Plain → Type 0
CanBeServed s = (picks : List Pick) × (s' : Plain) × Serve s picks s'

tuple_served : (s : Plain) (t : Entry) → Numbered s → tuple_at s t.id ≡ Some t → waits_only (ATuple t.id) s ≡ true → CanBeServed s
tuple_served s t numbered here only = by_test (no_taker s t) refl
  where
    taken : (r : Request) × (request_at s r.id ≡ Some r) × (takes s.clock t r ≡ true) → CanBeServed s
    taken h = (picks_of t.id (reader_ids s t) ++ record { request = h.0.id; tuple = t.id } ∷ [], served_with h.0 t (read_all t s), tuple_taken s t (reader_ids s t) h.0 numbered here (readers_in_order s t numbered) h.1 h.2 only)

    by_test : (b : Bool) → no_taker s t ≡ b → CanBeServed s
    by_test true free = (picks_of t.id (reader_ids s t), read_all t s, tuple_read s t (reader_ids s t) numbered here (readers_in_order s t numbered) free only)
    by_test false some = taken (one_passes (λ r. r.id) (takes s.clock t) s.requests (rising_requests s numbered) (not_all (takes s.clock t) s.requests some))

no_row : {R : Type 0} {o : Option R} (r : R) → o ≡ None → o ≡ Some r → ⊥
no_row r a b = cc

touched_served : (touched : Touched) (s : Plain) → Numbered s → waits_only touched s ≡ true → CanBeServed s
touched_served NoRow s numbered only = ([], s, (nobody s only, refl))
touched_served (ATuple id) s numbered only = by_row (tuple_at s id) refl
  where
    by_row : (o : Option Entry) → tuple_at s id ≡ o → CanBeServed s
    by_row None is = ([], s, (tuple_dead id s numbered (λ t there. absurd (no_row t is there)) only, refl))
    by_row (Some t) is = tuple_served s t numbered (itself-tuple s id t is) (subst (λ (i : ℕ). waits_only (ATuple i) s ≡ true) (sym (row_has_id (λ (t : Entry). t.id) id s.tuples t is)) only)
touched_served (ARequest id) s numbered only = by_row (request_at s id) refl
  where
    has : (r : Request) → request_at s id ≡ Some r → is_waiting r ≡ true → (t : Entry) × (tuple_at s t.id ≡ Some t) × (may_have s.clock r t ≡ true) → CanBeServed s
    has r is waits h = (
      record { request = r.id; tuple = h.0.id } ∷ [],
      served_with r h.0 s,
      request_served s r h.0 numbered (itself-request s id r is) h.1 (both _ _ waits h.2) (subst (λ (i : ℕ). waits_only (ARequest i) s ≡ true) (sym (row_has_id (λ (r : Request). r.id) id s.requests r is)) only),
    )
      where
        both : (a b : Bool) → a ≡ true → b ≡ true → (a && b) ≡ true
        both a b e f = grind arith

    by_test : (r : Request) (b : Bool) → request_at s id ≡ Some r → can_be_served s r ≡ b → CanBeServed s
    by_test r true is e = has r is (front _ _ e) (one_passes (λ t. t.id) (may_have s.clock r) s.tuples (rising_tuples s numbered) (back _ _ e))
    by_test r false is e = ([], s, (request_unserved id s numbered (λ q there. ap (can_be_served s) (some_same (sym there ∙ is)) ∙ e) only, refl))

    by_row : (o : Option Request) → request_at s id ≡ o → CanBeServed s
    by_row None is = ([], s, (request_unserved id s numbered (λ r there. absurd (no_row r is there)) only, refl))
    by_row (Some r) is = by_test r (can_be_served s r) is refl

-- Steps.

abbrev HasStep : Plain → ℕ → ℕ → Event → Type 0
HasStep s caller at event = (out : Out) × (picks : List Pick) × (s' : Plain) × Step s caller at event out picks s'

plain_step : (s : Plain) (caller at : ℕ) (event : Event) → Sound s → Settled s → chooser (found_by s at) caller event ≡ None → HasStep s caller at event
plain_step s caller at event sound settled chooses =
    let u = event_touches_one s caller at event sound settled chooses in
    ends (touched_served (touched_by (found_by s at) event) (unserved s caller at event None) u.sound.numbered u.only)
  where
    ends : CanBeServed (unserved s caller at event None) → HasStep s caller at event
    ends h = ((outcome (found_by s at) caller event None).out, h.0, h.1, serving_ends_turn s caller at event h.0 h.1 chooses h.2)

match_step : (s : Plain) (caller at id : ℕ) (r : Request) → Sound s → Settled s → chooser (found_by s at) caller (Submit id) ≡ Some r → HasStep s caller at (Submit id)
match_step s caller at id r sound settled chooses =
    let ready : Plain = found_by s at in
    ends (one_passes (λ t. t.id) (may_have ready.clock r) ready.tuples (rising_tuples ready (sound-found_by s at sound).numbered) ((chooser_has ready caller id r chooses).has))
  where
    ends : (t : Entry) × (tuple_at (found_by s at) t.id ≡ Some t) × (may_have (found_by s at).clock r t ≡ true) → HasStep s caller at (Submit id)
    ends h =
        let ready : Plain = found_by s at in
        let pick : Pick = record { request = r.id; tuple = h.0.id } in
        let match : is_match ready r pick ≡ true = both _ _ (same_id r.id r.id refl) (ap (may_have_row ready r) h.1 ∙ h.2) in
        let left : Plain = unserved s caller at (Submit id) (tuple_at ready pick.tuple) in (
          (outcome ready caller (Submit id) (tuple_at ready pick.tuple)).out,
          pick ∷ [],
          left,
          serving_ends_match s caller at (Submit id) r pick [] left chooses match (nobody left (match_touches_none s caller at id r pick sound settled chooses match).only, refl),
        )
      where
        both : (a b : Bool) → a ≡ true → b ≡ true → (a && b) ≡ true
        both a b e f = grind arith

submit_step : (s : Plain) (caller at id : ℕ) → Sound s → Settled s → HasStep s caller at (Submit id)
submit_step s caller at id sound settled = by_chooser (chooser (found_by s at) caller (Submit id)) refl
  where
    by_chooser : (o : Option Request) → chooser (found_by s at) caller (Submit id) ≡ o → HasStep s caller at (Submit id)
    by_chooser None is = plain_step s caller at (Submit id) sound settled is
    by_chooser (Some r) is = match_step s caller at id r sound settled is

pub step_exists : StepExists
step_exists s caller at (Submit id) sound settled = submit_step s caller at id sound settled
step_exists s caller at (Write v lease) sound settled = plain_step s caller at (Write v lease) sound settled refl
step_exists s caller at (Reserve k pattern lease) sound settled = plain_step s caller at (Reserve k pattern lease) sound settled refl
step_exists s caller at (Collect id) sound settled = plain_step s caller at (Collect id) sound settled refl
step_exists s caller at (Settle id ok) sound settled = plain_step s caller at (Settle id ok) sound settled refl
step_exists s caller at (Withdraw id) sound settled = plain_step s caller at (Withdraw id) sound settled refl
step_exists s caller at (Cancel id) sound settled = plain_step s caller at (Cancel id) sound settled refl
step_exists s caller at (Renew id lease) sound settled = plain_step s caller at (Renew id lease) sound settled refl
step_exists s caller at (Look id) sound settled = plain_step s caller at (Look id) sound settled refl
step_exists s caller at (Value id) sound settled = plain_step s caller at (Value id) sound settled refl
step_exists s caller at (ReadAll pattern) sound settled = plain_step s caller at (ReadAll pattern) sound settled refl
step_exists s caller at (Notify v pattern lease) sound settled = plain_step s caller at (Notify v pattern lease) sound settled refl
step_exists s caller at (Pop id) sound settled = plain_step s caller at (Pop id) sound settled refl
step_exists s caller at NextAsk sound settled = plain_step s caller at NextAsk sound settled refl
step_exists s caller at (Asked id life) sound settled = plain_step s caller at (Asked id life) sound settled refl
step_exists s caller at Tick sound settled = plain_step s caller at Tick sound settled refl
step_exists s caller at Shut sound settled = plain_step s caller at Shut sound settled refl
