-- What a keeper's step leaves due.
use Rattle.std.proofs.Common.{◌≡◌, ℕ, zero, suc, ◌<◌, List, [], ◌∷◌, ◌++◌, Bool, true, false, cond, max, ◌&&◌, refl, sym, ◌∙◌, ap, subst, arith}
use Rattle.std.specs.Prelude.{None, Some, Ok, Err, length, is_none}
use Rattle.std.specs.declared.option.Option.{Option}
use Rattle.drb_outside.specs.Told.{Reads}
use Rattle.drb_tree.specs.declared.Remote.{Remote}
use Rattle.drb_packet.specs.declared.request.Limits.{Limits}
use Rattle.rinda_tuple.specs.declared.lease.Life.{Life}
use Rattle.rinda_tuple.specs.Lives.{deadline}
use Rattle.rinda_rules.specs.declared.turn.Turn.{Turn}
use Rattle.rinda_rules.specs.declared.turn.Pick.{Pick}
use Rattle.rinda_rules.specs.declared.event.Kind.{Kind}
use Rattle.rinda_rules.specs.declared.event.Kind.TheVariants as kind
use Rattle.rinda_rules.specs.declared.event.Event.{Event}
use Rattle.rinda_rules.specs.declared.event.Event.TheVariants.{NextAsk}
use Rattle.rinda_rules.specs.declared.event.Event.TheVariants as event
use Rattle.rinda_rules.specs.declared.out.Out.{Out}
use Rattle.rinda_rules.specs.declared.out.Out.TheVariants as out
use Rattle.rinda_rules.specs.declared.plain.Entry.{Entry}
use Rattle.rinda_rules.specs.declared.plain.Request.{Request}
use Rattle.rinda_rules.specs.declared.plain.Notifier.{Notifier}
use Rattle.rinda_rules.specs.Space.{Plain, Found, TheTuple, TheRequest, TheNotifier, HasEnded, IsRecycled, IsUnknown, found, tuple_at, request_at, is_due_tuple, is_due_request, is_due_notifier}
use Rattle.rinda_rules.specs.Phases.{advanced, nothing_due, aged, aged_below, age_found, age_tuple, age_request, age_notifier, served_as, served_rows, served, Serve}
use Rattle.rinda_rules.specs.Cases.{Asking, ask, askings, least, is_asked, told}
use Rattle.rinda_rules.specs.Steps.{Step, found_by}
use Rattle.rinda_rules.specs.Fixed.{after}
use Rattle.rinda_rules.specs.Legal.{LegalFrom, MayCome, plain_from}
use Rattle.rinda_space.specs.declared.turned.Turned.TheVariants.{Done, Nothing}
use Rattle.rinda_space.specs.declared.turned.TurnError.{TurnError}
use Rattle.rinda_space.specs.declared.turned.TurnError.TheVariants as turn_error
use Rattle.drb_session.specs.Passes.{Pass, Lawful, Makes}
use Rattle.drb_session.specs.Clocks.{ReadsAll}
use Rattle.drb_session.specs.Runs.{Side}
use Rattle.drb_keeper.specs.declared.owed.Owed.{Owed}
use Rattle.drb_keeper.specs.declared.owed.Owed.TheVariants.{Call, Turn as Telling}
use Rattle.drb_keeper.specs.declared.owed.KeeperEnd.{KeeperEnd}
use Rattle.drb_keeper.specs.declared.owed.KeeperEnd.TheVariants.{Idle, Asked, Full, Memory}
use Rattle.drb_keeper.specs.Deeds.{Deed, tried, called, Trial, DoesAll}
use Rattle.drb_keeper.specs.Keeping.{end_of, life_told, Settles, Asks, AsksOn, Looks, LooksNext, LooksOn, Shuts, Comes, Steps, NoneDue, Ages, AgesBut}
use Rattle.drb_keeper.specs.Tries.{Goes}
use Rattle.drb_keeper.proofs.Keeping.{legal_last, reads_none, reads_then}

-- The now of a space after a turn.

clock_if : (b : Bool) (x y s : Plain) → x.clock ≡ s.clock → y.clock ≡ s.clock → (cond {A = Plain} b x y).clock ≡ s.clock
clock_if true x y s e f = e
clock_if false x y s e f = f

age_tuple_clock : (s : Plain) (t : Entry) → (age_tuple s t).clock ≡ s.clock
age_tuple_clock s t = clock_if (is_none t.renewer) _ _ s refl refl

age_request_clock : (s : Plain) (r : Request) → (age_request s r).clock ≡ s.clock
age_request_clock s r = clock_if (is_none r.renewer) _ _ s refl refl

age_notifier_clock : (s : Plain) (n : Notifier) → (age_notifier s n).clock ≡ s.clock
age_notifier_clock s n = clock_if (is_none n.renewer) _ _ s refl refl

age_found_clock : (s : Plain) (f : Found) → (age_found s f).clock ≡ s.clock
age_found_clock s (TheTuple t) = clock_if (is_due_tuple s.clock t) _ _ s (age_tuple_clock s t) refl
age_found_clock s (TheRequest r) = clock_if (is_due_request s.clock r) _ _ s (age_request_clock s r) refl
age_found_clock s (TheNotifier n) = clock_if (is_due_notifier s.clock n) _ _ s (age_notifier_clock s n) refl
age_found_clock s (HasEnded k l) = refl
age_found_clock s IsRecycled = refl
age_found_clock s IsUnknown = refl

aged_below_clock : (id : ℕ) (s : Plain) → (aged_below id s).clock ≡ s.clock
aged_below_clock zero s = refl
aged_below_clock (suc id) s = age_found_clock (aged_below id s) (found (aged_below id s) id) ∙ aged_below_clock id s

aged_clock : (s : Plain) → (aged s).clock ≡ s.clock
unfolding aged
aged_clock s = aged_below_clock s.next s

served_as_clock : (k : Kind) (r : Request) (t : Entry) (s : Plain) → (served_as k r t s).clock ≡ s.clock
served_as_clock kind.Read r t s = refl
served_as_clock kind.Take r t s = refl
served_as_clock kind.Move r t s = refl

served_rows_clock : (s : Plain) (r : Option Request) (t : Option Entry) → (served_rows s r t).clock ≡ s.clock
served_rows_clock s (Some r) (Some t) = served_as_clock r.kind r t s
served_rows_clock s (Some r) None = refl
served_rows_clock s None t = refl

serve_clock : (s : Plain) (picks : List Pick) (s' : Plain) → Serve s picks s' → s'.clock ≡ s.clock
serve_clock s [] s' h = ap (λ (p : Plain). p.clock) h.1
serve_clock s (pick ∷ picks) s' h = serve_clock (served s pick) picks s' h.1 ∙ served_rows_clock s (request_at s pick.request) (tuple_at s pick.tuple)

ask_clock : (s : Plain) (a : Option Asking) → (ask s a).after.clock ≡ s.clock
ask_clock s None = refl
ask_clock s (Some a) = refl

told_clock : (s : Plain) (d : Option ℕ) (f : Found) → (told s d f).after.clock ≡ s.clock
told_clock s d (TheTuple t) = clock_if (is_asked t.doubt) _ _ s refl refl
told_clock s d (TheRequest r) = clock_if (is_asked r.doubt) _ _ s refl refl
told_clock s d (TheNotifier n) = clock_if (is_asked n.doubt) _ _ s refl refl
told_clock s d (HasEnded k l) = refl
told_clock s d IsRecycled = refl
told_clock s d IsUnknown = refl

-- after a turn of this event the space's now is the larger of what it was and the reading
abbrev Clocks : Event → Type 0
Clocks e = (s s' : Plain) (caller at : ℕ) (o : Out) (picks : List Pick) → Step s caller at e o picks s' → s'.clock ≡ max s.clock at

clocks_next : Clocks NextAsk
clocks_next s s' caller at o picks h =
    let ready : Plain = found_by s at in
    serve_clock (aged (ask ready (least (askings ready))).after) picks s' h.1
    ∙ aged_clock (ask ready (least (askings ready))).after
    ∙ ask_clock ready (least (askings ready))
    ∙ aged_clock (advanced s at)

clocks_asked : (id : ℕ) (life : Life) → Clocks (event.Asked id life)
clocks_asked id life s s' caller at o picks h =
    let ready : Plain = found_by s at in
    serve_clock (aged (told ready (deadline life ready.clock) (found ready id)).after) picks s' h.1
    ∙ aged_clock (told ready (deadline life ready.clock) (found ready id)).after
    ∙ told_clock ready (deadline life ready.clock) (found ready id)
    ∙ aged_clock (advanced s at)

-- What is due at the last reading.

max_twice : (n c at : ℕ) → n ≡ max c at → n ≡ max n at
max_twice n c at e = omega (arith, e)

still : (s : Plain) (c at : ℕ) → s.clock ≡ max c at → nothing_due s ≡ true → nothing_due (advanced s at) ≡ true
still s c at e h = subst (λ (n : ℕ). nothing_due (record s { clock = n }) ≡ true) (max_twice s.clock c at e) h

plain_last : (s : Plain) (before : List Turn) (t : Turn) → plain_from s (before ++ t ∷ []) ≡ after (plain_from s before) t
plain_last s [] t = refl
plain_last s (u ∷ before) t = plain_last (after s u) before t

clock_after : (s : Plain) (t : Turn) (e : Event) (at : ℕ) → Clocks e → t.event ≡ e → t.at ≡ at → MayCome s t → (after s t).clock ≡ max s.clock at
clock_after s t e at c is is_at h =
    c s (after s t) t.caller t.at t.out t.picks (subst (λ (q : Event). Step s t.caller t.at q t.out t.picks (after s t)) is h.step)
    ∙ ap (λ (q : ℕ). max s.clock q) is_at

due_made : (old new : Pass) (at : ℕ) (e : Event) (o : Out) → Clocks e → Lawful new → Makes old new at e o → NoneDue new at
due_made old new at e o c l m s starts =
    let s0 : Plain = plain_from s m.before in
    let h : MayCome s0 m.turn = legal_last s m.before m.turn (subst (λ (ts : List Turn). LegalFrom s ts) m.last (l.legal s starts)) in
    subst (λ (p : Plain). nothing_due (advanced p at) ≡ true)
    (sym (ap (λ (ts : List Turn). plain_from s ts) m.last ∙ plain_last s m.before m.turn))
    (still (after s0 m.turn) s0.clock at (clock_after s0 m.turn e at c m.made m.reading h) h.settled.not_due)

reads_one : (r r' : Option (List ℕ)) (at : ℕ) → Reads r r' at → ReadsAll r r' (at ∷ [])
reads_one r r' at h = reads_then r r' r' at [] h (reads_none r')

left_of : (a b : Bool) → (a && b) ≡ true → a ≡ true
left_of true b e = refl
left_of false b e = e

no_room : (n m : ℕ) → n ≡ m → n < m → ⊥
no_room n m e h = omega (arith, e, h)

ages_done : (at : ℕ) (e : Event) (o : Out) (old new : Side) → Clocks e → Trial at e (Ok (Done o)) old new → Lawful new.pass → Ages new.pass old.readings new.readings
ages_done at e o old new c t l = record {
  ats = [];
  last = at;
  reads = reads_one old.readings new.readings at t.reads;
  none_due = λ _. due_made old.pass new.pass at e o c l t.tries;
}

ages_nothing : (at : ℕ) (e : Event) (turns : ℕ) (old new : Side) → Trial at e (Ok (Nothing turns)) old new → Ages new.pass old.readings new.readings
ages_nothing at e turns old new t = record {
  ats = [];
  last = at;
  reads = reads_one old.readings new.readings at t.reads;
  none_due = λ _ s starts. left_of (nothing_due (advanced (plain_from s new.pass.seen) at)) _ (t.tries.nothing s starts);
}

ages_not : (at : ℕ) (e : Event) (error : TurnError) (old new : Side) → Trial at e (Err error) old new → AgesBut new.pass old.readings new.readings (end_of error)
ages_not at e (turn_error.Full turns) old new t = record {
  ats = [];
  last = at;
  reads = reads_one old.readings new.readings at t.reads;
  none_due = λ room. absurd (no_room (length new.pass.seen) new.pass.cap t.tries.1.full room);
}
ages_not at e turn_error.Memory old new t = tt

-- One try before the others.

ages_on : (p : Pass) (a b c : Option (List ℕ)) (at : ℕ) (end : KeeperEnd) → Reads a b at → AgesBut p b c end → AgesBut p a c end
ages_on p a b c at Memory h k = tt
ages_on p a b c at Idle h k = record { ats = at ∷ k.ats; last = k.last; reads = reads_then a b c at (k.ats ++ k.last ∷ []) h k.reads; none_due = k.none_due }
ages_on p a b c at (Asked id) h k = record { ats = at ∷ k.ats; last = k.last; reads = reads_then a b c at (k.ats ++ k.last ∷ []) h k.reads; none_due = k.none_due }
ages_on p a b c at (Full turns) h k = record { ats = at ∷ k.ats; last = k.last; reads = reads_then a b c at (k.ats ++ k.last ∷ []) h k.reads; none_due = k.none_due }

-- as the whole step ends
ends : (p : Pass) (a c : Option (List ℕ)) (end end' : KeeperEnd) → end ≡ end' → AgesBut p a c end' → AgesBut p a c end
ends p a c end end' e h = subst (λ (q : KeeperEnd). AgesBut p a c q) (sym e) h

ages_settles : (limits : Limits) (id : ℕ) (life : Life) (deeds : List Deed) (after : Option Owed) (end : KeeperEnd) (old new : Side) → Settles id life deeds after end → DoesAll limits deeds old new → Lawful new.pass → AgesBut new.pass old.readings new.readings end
ages_settles limits id life (tried at e (Ok (Done o)) ∷ []) after end old new h k l =
    ends new.pass old.readings new.readings end (Asked id) h.2
    (ages_done at e o old new (subst (λ (q : Event). Clocks q) (sym h.0) (clocks_asked id life)) (subst (λ (q : Side). Trial at e (Ok (Done o)) old q) (sym k.2) k.1) l)
ages_settles limits id life (tried at e (Err error) ∷ []) after end old new h k l =
    ends new.pass old.readings new.readings end (end_of error) h.2
    (ages_not at e error old new (subst (λ (q : Side). Trial at e (Err error) old q) (sym k.2) k.1))
ages_settles limits id life deeds after end old new h k l = absurd h

ages_told : (limits : Limits) (id : ℕ) (to : Remote) (told : Option Life) (deeds : List Deed) (after : Option Owed) (end : KeeperEnd) (old new : Side) → AsksOn id to told deeds after end → DoesAll limits deeds old new → Lawful new.pass → AgesBut new.pass old.readings new.readings end
ages_told limits id to None deeds after end old new h k l = ends new.pass old.readings new.readings end Memory h.2 tt
ages_told limits id to (Some life) deeds after end old new h k l = ages_settles limits id life deeds after end old new h k l

ages_asks : (limits : Limits) (id : ℕ) (to : Remote) (deeds : List Deed) (after : Option Owed) (end : KeeperEnd) (old new : Side) → Asks id to deeds after end → DoesAll limits deeds old new → Lawful new.pass → AgesBut new.pass old.readings new.readings end
ages_asks limits id to (called r b ∷ deeds) after end old new h k l =
    subst (λ (q : Option (List ℕ)). AgesBut new.pass q new.readings end) k.1.readings
    (ages_told limits id to (life_told b) deeds after end k.0 new h.1 k.2 l)
ages_asks limits id to deeds after end old new h k l = absurd h

ages_found : (limits : Limits) (at : ℕ) (e : Event) (o : Out) (deeds : List Deed) (after : Option Owed) (end : KeeperEnd) (old between new : Side) → e ≡ NextAsk → LooksOn o deeds after end → Trial at e (Ok (Done o)) old between → DoesAll limits deeds between new → Lawful new.pass → AgesBut new.pass old.readings new.readings end
ages_found limits at e (out.Ask id to) deeds after end old between new is h t k l =
    ages_on new.pass old.readings between.readings new.readings at end t.reads (ages_asks limits id to deeds after end between new h k l)
ages_found limits at e out.NotYet deeds after end old between new is h t k l =
    let same : new ≡ between = subst (λ (ds : List Deed). DoesAll limits ds between new) h.0 k in
    ends new.pass old.readings new.readings end Idle h.2
    (ages_done at e out.NotYet old new (subst (λ (q : Event). Clocks q) (sym is) clocks_next) (subst (λ (q : Side). Trial at e (Ok (Done out.NotYet)) old q) (sym same) t) l)
ages_found limits at e o deeds after end old between new is h t k l = absurd h

ages_next : (limits : Limits) (deeds : List Deed) (after : Option Owed) (end : KeeperEnd) (old new : Side) → LooksNext deeds after end → DoesAll limits deeds old new → Lawful new.pass → AgesBut new.pass old.readings new.readings end
ages_next limits (tried at e (Ok (Done o)) ∷ deeds) after end old new h k l = ages_found limits at e o deeds after end old k.0 new h.0 h.1 k.1 k.2 l
ages_next limits (tried at e (Ok (Nothing turns)) ∷ deeds) after end old new h k l =
    let same : new ≡ k.0 = subst (λ (ds : List Deed). DoesAll limits ds k.0 new) h.1 k.2 in
    ends new.pass old.readings new.readings end Idle h.3
    (ages_nothing at e turns old new (subst (λ (q : Side). Trial at e (Ok (Nothing turns)) old q) (sym same) k.1))
ages_next limits (tried at e (Err error) ∷ deeds) after end old new h k l =
    let same : new ≡ k.0 = subst (λ (ds : List Deed). DoesAll limits ds k.0 new) h.1 k.2 in
    ends new.pass old.readings new.readings end (end_of error) h.3
    (ages_not at e error old new (subst (λ (q : Side). Trial at e (Err error) old q) (sym same) k.1))
ages_next limits deeds after end old new h k l = absurd h

ages_looks : (limits : Limits) (deeds : List Deed) (after : Option Owed) (end : KeeperEnd) (old new : Side) → Looks deeds after end → DoesAll limits deeds old new → Lawful new.pass → AgesBut new.pass old.readings new.readings end
ages_looks limits (tried at e (Ok turned) ∷ deeds) after end old new h k l =
    ages_on new.pass old.readings k.0.readings new.readings at end k.1.reads (ages_next limits deeds after end k.0 new h.1 k.2 l)
ages_looks limits (tried at e (Err error) ∷ deeds) after end old new h k l =
    let same : new ≡ k.0 = subst (λ (ds : List Deed). DoesAll limits ds k.0 new) h.1 k.2 in
    ends new.pass old.readings new.readings end (end_of error) h.3
    (ages_not at e error old new (subst (λ (q : Side). Trial at e (Err error) old q) (sym same) k.1))
ages_looks limits deeds after end old new h k l = absurd h

ages_shuts : (limits : Limits) (deeds : List Deed) (after : Option Owed) (end : KeeperEnd) (old new : Side) → Shuts deeds after end → DoesAll limits deeds old new → Lawful new.pass → AgesBut new.pass old.readings new.readings end
ages_shuts limits (tried at e (Ok turned) ∷ deeds) after end old new h k l =
    ages_on new.pass old.readings k.0.readings new.readings at end k.1.reads (ages_looks limits deeds after end k.0 new h.1 k.2 l)
ages_shuts limits (tried at e (Err error) ∷ deeds) after end old new h k l =
    let same : new ≡ k.0 = subst (λ (ds : List Deed). DoesAll limits ds k.0 new) h.1 k.2 in
    ends new.pass old.readings new.readings end (end_of error) h.3
    (ages_not at e error old new (subst (λ (q : Side). Trial at e (Err error) old q) (sym same) k.1))
ages_shuts limits deeds after end old new h k l = absurd h

ages_comes : (limits : Limits) (before : Option Owed) (shut : Bool) (deeds : List Deed) (after : Option Owed) (end : KeeperEnd) (old new : Side) → Comes before shut deeds after end → DoesAll limits deeds old new → Lawful new.pass → AgesBut new.pass old.readings new.readings end
ages_comes limits None true deeds after end old new h k l = ages_shuts limits deeds after end old new h k l
ages_comes limits None false deeds after end old new h k l = ages_looks limits deeds after end old new h k l
ages_comes limits (Some (Call id to)) shut deeds after end old new h k l = ages_asks limits id to deeds after end old new h k l
ages_comes limits (Some (Telling id life)) shut deeds after end old new h k l = ages_settles limits id life deeds after end old new h k l

-- a step that memory didn't end leaves nothing due
pub step_ages : (limits : Limits) (shut : Bool) (before after : Option Owed) (old new : Side) (end : KeeperEnd) → Steps limits shut before after old new end → Lawful new.pass → AgesBut new.pass old.readings new.readings end
step_ages limits shut before after old new end s l = ages_comes limits before shut s.deeds after end old new s.comes s.does l

-- and so does one in which a call was owed
pub asks_ages : (limits : Limits) (id : ℕ) (to : Remote) (after : Option Owed) (old new : Side) (end : KeeperEnd) → Goes limits (Asks id to) after old new end → Lawful new.pass → AgesBut new.pass old.readings new.readings end
asks_ages limits id to after old new end g l = ages_asks limits id to g.deeds after end old new g.comes g.does l
