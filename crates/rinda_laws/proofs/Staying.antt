-- A request stays its caller's until that caller's last turn of it.
use Rattle.std.proofs.Common.{◌≡◌, ℕ, Bool, true, false, cond, not, ◌&&◌, ltb, List, [], ◌∷◌, ◌++◌, Option, Some, None, refl, sym, ◌∙◌, ap, subst, arith}
use Rattle.std.specs.Prelude.{◌==◌, is_none}
use Rattle.std.specs.List.{list_all}
use Rattle.std.proofs.lemmas.Bool.Decides.{nat_tests}
use Rattle.rinda_tuple.specs.declared.tuple.Template.{Template}
use Rattle.rinda_tuple.specs.declared.lease.Lease.{Lease}
use Rattle.rinda_rules.specs.declared.object.Last.TheVariants as last
use Rattle.rinda_rules.specs.declared.event.Kind.{Kind}
use Rattle.rinda_rules.specs.declared.event.Kind.TheVariants as kind
use Rattle.rinda_rules.specs.declared.event.Event.{Event}
use Rattle.rinda_rules.specs.declared.event.Event.TheVariants.{Write, Reserve, Submit, Collect, Settle, Withdraw, Cancel, Renew, Look, Value, ReadAll, Notify, Pop, NextAsk, Asked, Tick, Shut}
use Rattle.rinda_rules.specs.declared.out.Out.{Out}
use Rattle.rinda_rules.specs.declared.out.Out.TheVariants as out
use Rattle.rinda_rules.specs.declared.turn.Pick.{Pick}
use Rattle.rinda_rules.specs.declared.turn.Turn.{Turn}
use Rattle.rinda_rules.specs.declared.row.RequestState.{RequestState}
use Rattle.rinda_rules.specs.declared.row.RequestState.TheVariants as state
use Rattle.rinda_rules.specs.declared.plain.Entry.{Entry}
use Rattle.rinda_rules.specs.declared.plain.Request.{Request}
use Rattle.rinda_rules.specs.Rows.{row_of}
use Rattle.rinda_rules.specs.Space.{Plain, Found, found, request_at, tuple_at, is_over, is_reserved}
use Rattle.rinda_rules.specs.Phases.{aged, in_state, request_in, request_ended, served_as, Serve}
use Rattle.rinda_rules.specs.Cases.{Outcome, answers, on_own, submit, collect_served, collect, settle, withdraw, withdraw_request, new_request, outcome}
use Rattle.rinda_rules.specs.Steps.{Case, Step, chooser, found_by}
use Rattle.rinda_rules.specs.Settled.{grants}
use Rattle.rinda_rules.specs.Sound.{Sound, is_kept_answer, has_answer}
use Rattle.rinda_rules.specs.Fixed.{after}
use Rattle.rinda_rules.specs.Legal.{plain_from, LegalFrom}
use Rattle.rinda_rules.specs.Own.{is_of}
use Rattle.rinda_rules.specs.Nothing.{is_nothing}
use Rattle.rinda_rules.proofs.Lists.{all_at, row_has_id}
use Rattle.rinda_rules.proofs.Finding.{request-found}
use Rattle.rinda_rules.proofs.Keeping.{Keeps, chosen_none, chosen_match, with_new_request, found_kept, step_kept}
use Rattle.rinda_laws.specs.Owns.{Owns, any, is_last, is_own, ends_own, submits_well}
use Rattle.rinda_laws.specs.Starting.{IsStart}
use Rattle.rinda_laws.proofs.Owning.{Open, owns_keeps, row_in}
use Rattle.rinda_rules.proofs.Sounding.{sound-found_by, sound-outcome}
use Rattle.rinda_laws.proofs.Turning.{sound_Step, sound_before, plain_from-append, LegalFrom-back, last_step, rest_kept}

-- Words on tests.

never : (b : Bool) → (b && false) ≡ false
never true = refl
never false = refl

same_id : (a b : ℕ) → a == b ≡ true → a ≡ b
same_id a b e = grind (arith, nat_tests)

equal_id : (a b : ℕ) → a ≡ b → a == b ≡ true
equal_id a b e = grind (arith, nat_tests)

one : (a b : Bool) → (a && b) ≡ true → a ≡ true
one a b e = grind arith

two : (a b : Bool) → (a && b) ≡ true → b ≡ true
two a b e = grind arith

pub open_any : Open any
open_any e st = refl

pub open_reserved : Open is_reserved
open_reserved e st = cc

pub open_granted : (tuple : ℕ) → Open (grants tuple)
open_granted tuple e st = cc

-- aging and serving keep what another event would keep
tick_keeps : (states : RequestState → Bool) (owner id caller : ℕ) → Open states → Keeps caller Tick (Owns states owner id)
tick_keeps states owner id caller free = owns_keeps states owner id free caller Tick (never (caller == owner))

-- The owner's own turn.

-- each answer that waits is one that ends its request
abbrev pub Told : Plain → Type 0
Told s = list_all (λ r. has_answer r.state) s.requests ≡ true

-- a fact of what happens to the request is one of what happens to its id
through : (s : Plain) (caller i : ℕ) (r : Request) (case : Request → Outcome) (Q : Outcome → Type 0) → request_at s i ≡ Some r → r.caller ≡ caller → Q (case r) → Q (on_own s caller case (found s i))
through s caller i r case Q there own q =
    subst (λ (f : Found). Q (on_own s caller case f)) (sym (request-found s i r there))
    (subst (λ (b : Bool). Q (cond {A = Outcome} b (case r) (answers s out.WrongKind))) (sym (equal_id r.caller caller own)) q)

told_row : (s : Plain) (id : ℕ) (r : Request) → request_at s id ≡ Some r → Told s → has_answer r.state ≡ true
told_row s id r there told = all_at (λ r. has_answer r.state) (λ r. r.id) id s.requests r there told

told_last : (o : Out) → is_kept_answer o ≡ true → is_last o ≡ true
told_last (out.Answer v) e = refl
told_last out.Expired e = refl
told_last out.Canceled e = refl
told_last (out.Entry i) e = cc
told_last out.Shut e = cc
told_last (out.Reserved i) e = cc
told_last (out.Parked i) e = cc
told_last (out.Granted i v) e = cc
told_last (out.All vs) e = cc
told_last (out.Notifier i) e = cc
told_last (out.Event v) e = cc
told_last out.Closed e = cc
told_last out.WouldWait e = refl
told_last out.NotYet e = cc
told_last (out.State f) e = cc
told_last (out.Ask i r) e = cc
told_last out.Plain e = refl
told_last out.Recycled e = cc
told_last out.Unknown e = cc
told_last out.WrongKind e = cc

module _ (caller id : ℕ) (s : Plain) where
  -- it isn't over, so the request is there
  abbrev Goes : Outcome → Type 0
  Goes o = is_last o.out ≡ false → Owns any caller id o.after

  stays_in : (st : RequestState) (s' : Plain) (r : Request) → r.id ≡ id → r.caller ≡ caller → request_at s' id ≡ Some r → Owns any caller id (request_in r.id st s')
  stays_in st s' r same own there = record {
    row = in_state st r;
    there = row_in id r.id (in_state st) s'.requests r (λ r. refl) there ∙ ap (λ (b : Bool). Some (cond {A = Request} b (in_state st r) r)) (equal_id r.id r.id refl);
    own = own;
    is = refl;
  }

  submit_goes : (r : Request) (choice : Option Entry) (st : RequestState) → r.id ≡ id → r.caller ≡ caller → request_at s id ≡ Some r → Owns any caller id s → Goes (submit s r choice st)
  submit_goes r None state.Reserved same own there h e = by_tests r.marked (is_over s.clock r.deadline && is_none r.renewer) e
    where
      by_tests : (a b : Bool) → Goes (cond {A = Outcome} a (answers (request_ended last.Canceled r.id s) out.Canceled) (cond {A = Outcome} b (answers (request_ended last.Expired r.id s) out.Expired) (answers (request_in r.id state.Parked s) (out.Parked r.id))))
      by_tests true b e = cc
      by_tests false true e = cc
      by_tests false false e = stays_in state.Parked s r same own there
  submit_goes r (Some t) state.Reserved same own there h e = by_kind r.kind e
    where
      by_kind : (k : Kind) → Goes (collect_served (served_as k r t s) r t k)
      by_kind kind.Read e = cc
      by_kind kind.Take e = cc
      by_kind kind.Move e =
          let held : Owns any caller id (request_in r.id (state.Granted t.id) s) = stays_in (state.Granted t.id) s r same own there in
          record { row = held.row; there = held.there; own = held.own; is = held.is }
  submit_goes r choice state.Parked same own there h e = h
  submit_goes r choice (state.Granted t) same own there h e = h
  submit_goes r choice (state.Answered o) same own there h e = h

  collect_goes : (r : Request) (st : RequestState) → has_answer st ≡ true → Owns any caller id s → Goes (collect s r st)
  collect_goes r state.Reserved told h e = h
  collect_goes r state.Parked told h e = h
  collect_goes r (state.Granted t) told h e = h
  collect_goes r (state.Answered o) told h e = absurd (contra (is_last o) (told_last o told) e)
    where
      contra : (b : Bool) → b ≡ true → b ≡ false → ⊥
      contra b x y = grind arith

  settle_goes : (r : Request) (ok : Bool) (st : RequestState) → Owns any caller id s → Goes (settle s r ok st)
  settle_goes r ok state.Reserved h e = h
  settle_goes r ok state.Parked h e = h
  settle_goes r ok (state.Granted t) h e = cc
  settle_goes r ok (state.Answered o) h e = h

  withdraw_goes : (r : Request) (st : RequestState) → has_answer st ≡ true → Owns any caller id s → Goes (withdraw_request s r st)
  withdraw_goes r state.Reserved told h e = cc
  withdraw_goes r state.Parked told h e = cc
  withdraw_goes r (state.Granted t) told h e = h
  withdraw_goes r (state.Answered o) told h e = collect_goes r (state.Answered o) told h e

  own_goes : (event : Event) (choice : Option Entry) → is_of id event ≡ true → Told s → Owns any caller id s → Goes (outcome s caller event choice)
  own_goes (Submit i) choice of told h = through s caller i h.row (λ r. submit s r choice r.state) Goes there h.own (submit_goes h.row choice h.row.state same h.own h.there h)
    where
      there : request_at s i ≡ Some h.row
      there = ap (request_at s) (same_id i id of) ∙ h.there

      same : h.row.id ≡ id
      same = row_has_id (λ (r : Request). r.id) id s.requests h.row h.there
  own_goes (Collect i) choice of told h = through s caller i h.row (λ r. collect s r r.state) Goes (ap (request_at s) (same_id i id of) ∙ h.there) h.own (collect_goes h.row h.row.state (told_row s id h.row h.there told) h)
  own_goes (Settle i ok) choice of told h = through s caller i h.row (λ r. settle s r ok r.state) Goes (ap (request_at s) (same_id i id of) ∙ h.there) h.own (settle_goes h.row ok h.row.state h)
  own_goes (Withdraw i) choice of told h =
      subst (λ (f : Found). Goes (withdraw s caller f)) (sym (request-found s i h.row (ap (request_at s) (same_id i id of) ∙ h.there)))
      (subst (λ (b : Bool). Goes (cond {A = Outcome} b (withdraw_request s h.row h.row.state) (answers s out.WrongKind))) (sym (equal_id h.row.caller caller h.own))
      (withdraw_goes h.row h.row.state (told_row s id h.row h.there told) h))
  own_goes (Write v lease) choice of told h = cc
  own_goes (Reserve k pattern lease) choice of told h = cc
  own_goes (Cancel i) choice of told h = cc
  own_goes (Renew i lease) choice of told h = cc
  own_goes (Look i) choice of told h = cc
  own_goes (Value i) choice of told h = cc
  own_goes (ReadAll pattern) choice of told h = cc
  own_goes (Notify e pattern lease) choice of told h = cc
  own_goes (Pop i) choice of told h = cc
  own_goes NextAsk choice of told h = cc
  own_goes (Asked i life) choice of told h = cc
  own_goes Tick choice of told h = cc
  own_goes Shut choice of told h = cc

-- Reserve.

-- a new row, whose id is above all others
row_push : (n : ℕ) (r : Request) (rs : List Request) → list_all (λ r. ltb r.id n) rs ≡ true → r.id ≡ n → row_of (λ r. r.id) n (rs ++ r ∷ []) ≡ Some r
row_push n r [] below e = grind (arith, nat_tests)
row_push n r (x ∷ xs) below e = grind (arith, nat_tests, row_push n r xs)

abbrev reserved_id : Out → ℕ
reserved_id (out.Reserved i) = i
reserved_id _ = 0

-- The answers to the owner.

submit_well : (s : Plain) (r : Request) (choice : Option Entry) (st : RequestState) → is_reserved st ≡ true → submits_well (submit s r choice st).out ≡ true
submit_well s r None state.Reserved e = by_tests r.marked (is_over s.clock r.deadline && is_none r.renewer)
  where
    by_tests : (a b : Bool) → submits_well (cond {A = Outcome} a (answers (request_ended last.Canceled r.id s) out.Canceled) (cond {A = Outcome} b (answers (request_ended last.Expired r.id s) out.Expired) (answers (request_in r.id state.Parked s) (out.Parked r.id)))).out ≡ true
    by_tests true b = refl
    by_tests false true = refl
    by_tests false false = refl
submit_well s r (Some t) state.Reserved e = by_kind r.kind
  where
    by_kind : (k : Kind) → submits_well (collect_served (served_as k r t s) r t k).out ≡ true
    by_kind kind.Read = refl
    by_kind kind.Take = refl
    by_kind kind.Move = refl
submit_well s r choice state.Parked e = cc
submit_well s r choice (state.Granted t) e = cc
submit_well s r choice (state.Answered o) e = cc

submit_outcome : (caller id : ℕ) (s : Plain) (choice : Option Entry) → Owns is_reserved caller id s → submits_well (outcome s caller (Submit id) choice).out ≡ true
submit_outcome caller id s choice h = through s caller id h.row (λ r. submit s r choice r.state) (λ o. submits_well o.out ≡ true) h.there h.own (submit_well s h.row choice h.row.state h.is)

submit_case : (caller id : ℕ) (s : Plain) (r : Option Request) (o : Out) (picks : List Pick) (s' : Plain) → Case s caller (Submit id) r o picks s' → Owns is_reserved caller id s → submits_well o ≡ true
submit_case caller id s None o picks s' case h = ap submits_well case.0 ∙ submit_outcome caller id s None h
submit_case caller id s (Some r) o [] s' case h = absurd case
submit_case caller id s (Some r) o (pick ∷ picks) s' case h = ap submits_well case.1 ∙ submit_outcome caller id s (tuple_at s pick.tuple) h

settle_well : (s : Plain) (r : Request) (ok : Bool) (tuple : ℕ) (st : RequestState) → grants tuple st ≡ true → (settle s r ok st).out ≡ out.Plain
settle_well s r ok tuple state.Reserved e = cc
settle_well s r ok tuple state.Parked e = cc
settle_well s r ok tuple (state.Granted t) e = refl
settle_well s r ok tuple (state.Answered o) e = cc

settle_case : (caller id tuple : ℕ) (ok : Bool) (s : Plain) (o : Out) (picks : List Pick) (s' : Plain) → Case s caller (Settle id ok) None o picks s' → Owns (grants tuple) caller id s → o ≡ out.Plain
settle_case caller id tuple ok s o picks s' case h = case.0 ∙ through s caller id h.row (λ r. settle s r ok r.state) (λ o. o.out ≡ out.Plain) h.there h.own (settle_well s h.row ok tuple h.row.state h.is)

-- A step.

-- what the event left is aged and served
owns_rest : (states : RequestState → Bool) (owner id caller : ℕ) (free : Open states) (s : Plain) (picks : List Pick) (s' : Plain) → Serve (aged s) picks s' → Sound s → Owns states owner id s → Owns states owner id s'
owns_rest states owner id caller free s picks s' serve sound h = rest_kept caller Tick (Owns states owner id) (tick_keeps states owner id caller free) s picks s' serve sound h

-- the space as the event finds it
owns_found : (states : RequestState → Bool) (owner id caller : ℕ) (free : Open states) (s : Plain) (at : ℕ) → Sound s → Owns states owner id s → Owns states owner id (found_by s at)
owns_found states owner id caller free s at sound h = found_kept caller Tick (Owns states owner id) (tick_keeps states owner id caller free) s at sound h

own_case : (caller id : ℕ) (s : Plain) (event : Event) (r : Option Request) (o : Out) (picks : List Pick) (s' : Plain) → chooser s caller event ≡ r → Case s caller event r o picks s' → is_of id event ≡ true → is_last o ≡ false → Sound s → Owns any caller id s → Owns any caller id s'
own_case caller id s event None o picks s' chooses case of unlast sound h =
    owns_rest any caller id caller open_any (outcome s caller event None).after picks s' case.1 (sound-outcome s caller event None (chosen_none s event) sound) (own_goes caller id s event None of sound.answers h (ap is_last (sym case.0) ∙ unlast))
own_case caller id s event (Some r) o [] s' chooses case of unlast sound h = absurd case
own_case caller id s event (Some r) o (pick ∷ picks) s' chooses case of unlast sound h =
    owns_rest any caller id caller open_any (outcome s caller event (tuple_at s pick.tuple)).after picks s' case.2 (sound-outcome s caller event (tuple_at s pick.tuple) (chosen_match s caller event r pick chooses case.0) sound) (own_goes caller id s event (tuple_at s pick.tuple) of sound.answers h (ap is_last (sym case.1) ∙ unlast))

-- a step that isn't the owner's last one of it
owns-Step : (owner id : ℕ) (s : Plain) (t : Turn) (s' : Plain) → Step s t.caller t.at t.event t.out t.picks s' → ends_own owner id t ≡ false → Sound s → Owns any owner id s → Owns any owner id s'
owns-Step owner id s t s' step unlast sound h = by_test (is_own owner id t) refl
  where
    by_test : (b : Bool) → is_own owner id t ≡ b → Owns any owner id s'
    by_test false other = step_kept t.caller t.event (Owns any owner id) (owns_keeps any owner id open_any t.caller t.event other) s t.at t.out t.picks s' step sound h
    by_test true mine =
        let same : t.caller ≡ owner = same_id t.caller owner (one _ _ mine) in
        let here : Owns any t.caller id s = subst (λ (c : ℕ). Owns any c id s) (sym same) h in
        subst (λ (c : ℕ). Owns any c id s') same
        (own_case t.caller id (found_by s t.at) t.event (chooser (found_by s t.at) t.caller t.event) t.out t.picks s' refl step (two _ _ mine) (last_false _ _ mine unlast) (sound-found_by s t.at sound) (owns_found any t.caller id t.caller open_any s t.at sound here))
      where
        last_false : (a b : Bool) → a ≡ true → (a && b) ≡ false → b ≡ false
        last_false a b x y = grind arith

-- Histories.

pub owns_from : (owner id : ℕ) (s : Plain) (h : List Turn) → LegalFrom s h → list_all (λ next. not (ends_own owner id next)) h ≡ true → Sound s → Owns any owner id s → Owns any owner id (plain_from s h)
owns_from owner id s [] legal none sound h = h
owns_from owner id s (t ∷ ts) legal none sound h =
    owns_from owner id (after s t) ts legal.1 (two _ _ none) (sound_Step s t (after s t) legal.0.step sound) (owns-Step owner id s t (after s t) legal.0.step (unnot _ (one _ _ none)) sound h)
  where
    unnot : (b : Bool) → not b ≡ true → b ≡ false
    unnot b e = grind arith

reserves_unshut : (b : Bool) (s : Plain) (o : Outcome) (id : ℕ) → (cond {A = Outcome} b (answers s out.Shut) o).out ≡ out.Reserved id → b ≡ false
reserves_unshut true s o id e = cc
reserves_unshut false s o id e = refl

reserves_case : (caller id : ℕ) (s : Plain) (k : Kind) (pattern : Template) (lease : Lease) (o : Out) (picks : List Pick) (s' : Plain) → Sound s → Case s caller (Reserve k pattern lease) None o picks s' → o ≡ out.Reserved id → Owns is_reserved caller id s'
reserves_case caller id s k pattern lease o picks s' sound case e =
    owns_rest is_reserved caller id caller open_reserved (outcome s caller (Reserve k pattern lease) None).after picks s' case.1
    (sound-outcome s caller (Reserve k pattern lease) None (chosen_none s (Reserve k pattern lease)) sound)
    (subst (λ (b : Bool). Owns is_reserved caller id (cond {A = Outcome} b (answers s out.Shut) fresh).after) (sym unshut)
    (record { row = new_request s caller k pattern lease; there = row_push id (new_request s caller k pattern lease) s.requests (subst (λ (i : ℕ). list_all (λ r. ltb r.id i) s.requests ≡ true) next_is (two _ _ sound.numbered.requests)) next_is; own = refl; is = refl }))
  where
    fresh : Outcome
    fresh = answers (with_new_request s caller k pattern lease) (out.Reserved s.next)

    said : (outcome s caller (Reserve k pattern lease) None).out ≡ out.Reserved id
    said = sym case.0 ∙ e

    unshut : s.shut ≡ false
    unshut = reserves_unshut s.shut s fresh id said

    next_is : s.next ≡ id
    next_is = ap reserved_id (subst (λ (b : Bool). (cond {A = Outcome} b (answers s out.Shut) fresh).out ≡ out.Reserved id) unshut said)

-- a Reserve that is answered Reserved makes a reserved request of its caller
reserves-Step : (id : ℕ) (s : Plain) (t : Turn) (k : Kind) (pattern : Template) (lease : Lease) (s' : Plain) → Sound s → Step s t.caller t.at t.event t.out t.picks s' → t.event ≡ Reserve k pattern lease → t.out ≡ out.Reserved id → Owns is_reserved t.caller id s'
reserves-Step id s t k pattern lease s' sound step is e =
    reserves_case t.caller id (found_by s t.at) k pattern lease t.out t.picks s' (sound-found_by s t.at sound)
    (subst (λ (event : Event). Step s t.caller t.at event t.out t.picks s') is step) e

weaker : (states : RequestState → Bool) (owner id : ℕ) (s : Plain) → Owns states owner id s → Owns any owner id s
weaker states owner id s h = record { row = h.row; there = h.there; own = h.own; is = refl }

-- The laws.

pub begins : (start : Plain) (before later : List Turn) (turn : Turn) (k : Kind) (pattern : Template) (lease : Lease) (id : ℕ) → IsStart start → LegalFrom start (before ++ turn ∷ later) → turn.event ≡ Reserve k pattern lease → turn.out ≡ out.Reserved id → Owns is_reserved turn.caller id (after (plain_from start before) turn)
begins start before later turn k pattern lease id from legal is e =
    reserves-Step id (plain_from start before) turn k pattern lease (after (plain_from start before) turn) (sound_before start before (turn ∷ later) from legal) (last_step start before turn later legal) is e

pub stays : (start : Plain) (before later : List Turn) (turn : Turn) (k : Kind) (pattern : Template) (lease : Lease) (id : ℕ) → IsStart start → LegalFrom start (before ++ turn ∷ later) → turn.event ≡ Reserve k pattern lease → turn.out ≡ out.Reserved id → list_all (λ next. not (ends_own turn.caller id next)) later ≡ true → Owns any turn.caller id (plain_from start (before ++ turn ∷ later))
stays start before later turn k pattern lease id from legal is e none =
    subst (λ (p : Plain). Owns any turn.caller id p) (sym (plain_from-append start before (turn ∷ later)))
    (owns_from turn.caller id (after (plain_from start before) turn) later (LegalFrom-back start before (turn ∷ later) legal).1 none
    (sound_Step (plain_from start before) turn (after (plain_from start before) turn) (last_step start before turn later legal) (sound_before start before (turn ∷ later) from legal))
    (weaker is_reserved turn.caller id _ (begins start before later turn k pattern lease id from legal is e)))

pub state_kept : (states : RequestState → Bool) (start : Plain) (h : List Turn) (turn : Turn) (caller id : ℕ) → Open states → IsStart start → LegalFrom start (h ++ turn ∷ []) → is_own caller id turn ≡ false → Owns states caller id (plain_from start h) → Owns states caller id (plain_from start (h ++ turn ∷ []))
state_kept states start h turn caller id free from legal other owns =
    subst (λ (p : Plain). Owns states caller id p) (sym (plain_from-append start h (turn ∷ [])))
    (step_kept turn.caller turn.event (Owns states caller id) (owns_keeps states caller id free turn.caller turn.event other) (plain_from start h) turn.at turn.out turn.picks (after (plain_from start h) turn) (last_step start h turn [] legal) (sound_before start h (turn ∷ []) from legal) owns)

pub submit_answers : (start : Plain) (h : List Turn) (turn : Turn) (id : ℕ) → IsStart start → LegalFrom start (h ++ turn ∷ []) → Owns is_reserved turn.caller id (plain_from start h) → turn.event ≡ Submit id → submits_well turn.out ≡ true
submit_answers start h turn id from legal owns is =
    submit_case turn.caller id (found_by (plain_from start h) turn.at) _ turn.out turn.picks (after (plain_from start h) turn)
    (subst (λ (event : Event). Step (plain_from start h) turn.caller turn.at event turn.out turn.picks (after (plain_from start h) turn)) is (last_step start h turn [] legal))
    (owns_found is_reserved turn.caller id turn.caller open_reserved (plain_from start h) turn.at (sound_before start h (turn ∷ []) from legal) owns)

pub settle_answers : (start : Plain) (h : List Turn) (turn : Turn) (id tuple : ℕ) (ok : Bool) → IsStart start → LegalFrom start (h ++ turn ∷ []) → Owns (grants tuple) turn.caller id (plain_from start h) → turn.event ≡ Settle id ok → turn.out ≡ out.Plain
settle_answers start h turn id tuple ok from legal owns is =
    settle_case turn.caller id tuple ok (found_by (plain_from start h) turn.at) turn.out turn.picks (after (plain_from start h) turn)
    (subst (λ (event : Event). Step (plain_from start h) turn.caller turn.at event turn.out turn.picks (after (plain_from start h) turn)) is (last_step start h turn [] legal))
    (owns_found (grants tuple) turn.caller id turn.caller (open_granted tuple) (plain_from start h) turn.at (sound_before start h (turn ∷ []) from legal) owns)

pub not_nothing : (s : Plain) (caller at id : ℕ) (ok : Bool) → (is_nothing s caller at (Submit id) ≡ false) × (is_nothing s caller at (Settle id ok) ≡ false)
not_nothing s caller at id ok = (never _, never _)
