-- What a keeper's deeds come to.
use Rattle.std.proofs.Common.{◌≡◌, ℕ, ◌≤◌, List, [], ◌∷◌, ◌++◌, map, Bool, true, false, refl, sym, ◌∙◌, ap, subst, append_assoc, arith, true≢false}
use Rattle.std.proofs.lemmas.Grind.{common_steps}
use Rattle.std.specs.Prelude.{None, Some, Ok, Err, ◌&&◌, ◌↔◌}
use Rattle.std.specs.declared.option.Option.{Option}
use Rattle.std.specs.declared.result.Result.{Result}
use Rattle.drb_tree.specs.declared.Tree.{Tree}
use Rattle.drb_outside.specs.Told.{Told, Rose, Reads}
use Rattle.drb_outside.specs.Records.{Record}
use Rattle.drb_tree.specs.declared.Remote.{Remote}
use Rattle.drb_packet.specs.declared.request.Limits.{Limits}
use Rattle.drb_packet.specs.Texts.{ask_values, SomeLong}
use Rattle.drb_back.specs.declared.back.Back.{Back}
use Rattle.drb_back.specs.declared.back.Back.TheVariants as back
use Rattle.drb_back.specs.Outgoing.{NamesNone, IsFault, Outgoing, OrMemory}
use Rattle.drb_script.specs.declared.next.Saying.TheVariants as say
use Rattle.drb_reply.specs.Arguments.{method_of}
use Rattle.rinda_tuple.specs.declared.lease.Life.{Life}
use Rattle.rinda_rules.specs.declared.turn.Turn.{Turn}
use Rattle.rinda_rules.specs.declared.event.Event.{Event}
use Rattle.rinda_rules.specs.declared.event.Event.TheVariants.{NextAsk, Tick}
use Rattle.rinda_rules.specs.declared.event.Event.TheVariants as event
use Rattle.rinda_rules.specs.declared.out.Out.{Out}
use Rattle.rinda_rules.specs.declared.out.Out.TheVariants as out
use Rattle.rinda_rules.specs.Space.{Plain}
use Rattle.rinda_rules.specs.Phases.{advanced, nothing_due}
use Rattle.rinda_rules.specs.Cases.{Asking, ask, askings, least}
use Rattle.rinda_rules.specs.Steps.{Step, found_by}
use Rattle.rinda_rules.specs.Fixed.{after}
use Rattle.rinda_rules.specs.Legal.{LegalFrom, MayCome, plain_from}
use Rattle.rinda_space.specs.declared.turned.Turned.{Turned}
use Rattle.rinda_space.specs.declared.turned.Turned.TheVariants.{Done, Nothing}
use Rattle.rinda_space.specs.declared.turned.TurnError.{TurnError}
use Rattle.rinda_space.specs.declared.turned.TurnError.TheVariants as turn_error
use Rattle.drb_session.specs.Passes.{Pass, Lawful, Sees, Makes, Tries, TriesNothing}
use Rattle.drb_session.specs.Clocks.{ReadsAll}
use Rattle.drb_session.specs.Runs.{Side, side}
use Rattle.drb_keeper.specs.declared.owed.Owed.{Owed}
use Rattle.drb_keeper.specs.declared.owed.Owed.TheVariants.{Call, Turn as Telling}
use Rattle.drb_keeper.specs.declared.owed.KeeperEnd.{KeeperEnd}
use Rattle.drb_keeper.specs.declared.owed.KeeperEnd.TheVariants.{Idle, Asked, Memory}
use Rattle.drb_keeper.specs.Deeds.{Deed, tried, called, Saw, saw_of, made_of, ats_of, Trial, Renewal, DoesAll}
use Rattle.drb_keeper.specs.Keeping.{end_of, life_told, Settles, Asks, AsksOn, Shuts, Looks, LooksNext, LooksOn, Comes, Steps}
use Rattle.drb_keeper.specs.Tries.{AsksNext, asking_of, Goes, Settled}

-- What a space answers.

pub legal_last : (s : Plain) (before : List Turn) (t : Turn) → LegalFrom s (before ++ t ∷ []) → MayCome (plain_from s before) t
legal_last s [] t h = h.0
legal_last s (u ∷ before) t h = legal_last (after s u) before t h.1

-- a lawful caller's last turn might come
pub last_may_come : (old new : Pass) (at : ℕ) (e : Event) (o : Out) (l : Lawful new) (m : Makes old new at e o) → MayCome (plain_from l.origin m.before) m.turn
last_may_come old new at e o l m = legal_last l.origin m.before m.turn (subst (λ (ts : List Turn). LegalFrom l.origin ts) m.last (l.legal l.origin l.starts))

-- an answer of NextAsk
abbrev pub is_next : Out → Bool
is_next (out.Ask id renewer) = true
is_next out.NotYet = true
is_next o = false

asked_next : (s : Plain) (a : Option Asking) → is_next (ask s a).out ≡ true
asked_next s None = refl
asked_next s (Some a) = refl

step_next : (s : Plain) (t : Turn) (s' : Plain) → t.event ≡ NextAsk → Step s t.caller t.at t.event t.out t.picks s' → is_next t.out ≡ true
step_next s t s' e h =
    let k : Step s t.caller t.at NextAsk t.out t.picks s' = subst (λ (q : Event). Step s t.caller t.at q t.out t.picks s') e h in
    ap (λ o. is_next o) k.0 ∙ asked_next (found_by s t.at) (least (askings (found_by s t.at)))

pub next_answers : (old new : Pass) (at : ℕ) (o : Out) → Lawful new → Makes old new at NextAsk o → is_next o ≡ true
next_answers old new at o l m =
    ap (λ q. is_next q) (sym m.answered) ∙ step_next (plain_from l.origin m.before) m.turn _ m.made (last_may_come old new at NextAsk o l m).step

pub right_of : (a b : Bool) → (a && b) ≡ true → b ≡ true
right_of true b e = e
right_of false b e = absurd (true≢false (sym e))

-- an Asked always finds something to do
pub asked_acts : (old new : Pass) (at id : ℕ) (life : Life) (turns : ℕ) → Lawful new → TriesNothing old new at (event.Asked id life) turns → ⊥
asked_acts old new at id life turns l h =
    true≢false (sym (right_of (nothing_due (advanced (plain_from l.origin new.seen) at)) false (h.nothing l.origin l.starts)))

-- it ends so, and that is this end
pub ends_so : (limits : Limits) (P : List Deed → Option Owed → KeeperEnd → Type 0) (after : Option Owed) (old new : Side) (end end' : KeeperEnd) → end ≡ end' → Goes limits P after old new end' → Goes limits P after old new end
ends_so limits P after old new end end' e h = subst (λ (q : KeeperEnd). Goes limits P after old new q) (sym e) h

-- it owes this afterwards
pub owes_so : (limits : Limits) (P : List Deed → Option Owed → KeeperEnd → Type 0) (after after' : Option Owed) (old new : Side) (end : KeeperEnd) → after ≡ after' → Goes limits P after' old new end → Goes limits P after old new end
owes_so limits P after after' old new end e h = subst (λ (q : Option Owed). Goes limits P q old new end) (sym e) h

-- The Asked.

pub settled_by : (limits : Limits) (id : ℕ) (life : Life) (p p' : Pass) (r r' : Option (List ℕ)) (at : ℕ) (turned : Turned) → Reads r r' at → Lawful p' → Tries p p' at (event.Asked id life) (Ok turned) → Settled limits id life None p p' r r' (Asked id)
settled_by limits id life p p' r r' at (Done o) h l k c n = record {
  deeds = tried at (event.Asked id life) (Ok (Done o)) ∷ [];
  comes = (refl, refl, refl);
  does = (side p' r' c n, record { reads = h; tries = k; calls = refl; faults = refl }, refl);
}
settled_by limits id life p p' r r' at (Nothing turns) h l k c n = absurd (asked_acts p p' at id life turns l k)

pub settled_not : (limits : Limits) (id : ℕ) (life : Life) (p p' : Pass) (r r' : Option (List ℕ)) (at : ℕ) (error : TurnError) → Reads r r' at → Tries p p' at (event.Asked id life) (Err error) → Settled limits id life (Some (Telling id life)) p p' r r' (end_of error)
settled_not limits id life p p' r r' at error h k c n = record {
  deeds = tried at (event.Asked id life) (Err error) ∷ [];
  comes = (refl, refl, refl);
  does = (side p' r' c n, record { reads = h; tries = k; calls = refl; faults = refl }, refl);
}

-- The call.

-- with the name and the arguments as the code has them
pub record CallsAs (limits : Limits) (to : Remote) (name : List ℕ) (args : List Tree) (b : Back) (c c' : Option (List Record)) (m n : ℕ) : Type 0 where
  pub calls : Told c c' n (Outgoing limits to name args b)
  pub bad_uri : (b ≡ back.BadUri) ↔ NamesNone to.uri.bytes
  pub too_long : b ≡ back.TooLong → SomeLong (ask_values to.id name args)
  pub every_too_long : (NamesNone to.uri.bytes → ⊥) → SomeLong (ask_values to.id name args) → OrMemory back.TooLong b
  pub fault : IsFault b → Rose m n
  pub later : m ≤ n

pub renewal : (limits : Limits) (to : Remote) (name : List ℕ) (args : List Tree) (b : Back) (p : Pass) (r : Option (List ℕ)) (c c' : Option (List Record)) (m n : ℕ) → name ≡ method_of say.Renew → args ≡ [] → CallsAs limits to name args b c c' m n → Renewal limits to b (side p r c m) (side p r c' n)
renewal limits to name args b p r c c' m n e f h =
    let k : CallsAs limits to (method_of say.Renew) [] b c c' m n = subst (λ (q : List ℕ). CallsAs limits to q [] b c c' m n) e (subst (λ (q : List Tree). CallsAs limits to name q b c c' m n) f h) in
    record { calls = k.calls; bad_uri = k.bad_uri; too_long = k.too_long; every_too_long = k.every_too_long; fault = k.fault; later = k.later; pass = refl; readings = refl }

pub asks_settled : (limits : Limits) (id : ℕ) (to : Remote) (b : Back) (life : Life) (after : Option Owed) (end : KeeperEnd) (p p' : Pass) (r r' : Option (List ℕ)) (c c' : Option (List Record)) (m n : ℕ) → Renewal limits to b (side p r c m) (side p r c' n) → Some life ≡ life_told b → Settled limits id life after p p' r r' end → Goes limits (Asks id to) after (side p r c m) (side p' r' c' n) end
asks_settled limits id to b life after end p p' r r' c c' m n h e s =
    let k : Goes limits (Settles id life) after (side p r c' n) (side p' r' c' n) end = s c' n in
    record {
      deeds = called to b ∷ k.deeds;
      comes = (refl, subst (λ (q : Option Life). AsksOn id to q k.deeds after end) e k.comes);
      does = (side p r c' n, h, k.does);
    }

pub asks_memory : (limits : Limits) (id : ℕ) (to : Remote) (b : Back) (p : Pass) (r : Option (List ℕ)) (c c' : Option (List Record)) (m n : ℕ) → Renewal limits to b (side p r c m) (side p r c' n) → None ≡ life_told b → Goes limits (Asks id to) (Some (Call id to)) (side p r c m) (side p r c' n) Memory
asks_memory limits id to b p r c c' m n h e = record {
  deeds = called to b ∷ [];
  comes = (refl, subst (λ (q : Option Life). AsksOn id to q [] (Some (Call id to)) Memory) e (refl, refl, refl));
  does = (side p r c' n, h, refl);
}

-- The look.

pub looks_not : (limits : Limits) (p p' : Pass) (r r' : Option (List ℕ)) (c : Option (List Record)) (n at : ℕ) (error : TurnError) → Reads r r' at → Tries p p' at Tick (Err error) → Goes limits Looks None (side p r c n) (side p' r' c n) (end_of error)
looks_not limits p p' r r' c n at error h k = record {
  deeds = tried at Tick (Err error) ∷ [];
  comes = (refl, refl, refl, refl);
  does = (side p' r' c n, record { reads = h; tries = k; calls = refl; faults = refl }, refl);
}

pub shuts_not : (limits : Limits) (p p' : Pass) (r r' : Option (List ℕ)) (c : Option (List Record)) (n at : ℕ) (error : TurnError) → Reads r r' at → Tries p p' at event.Shut (Err error) → Goes limits Shuts None (side p r c n) (side p' r' c n) (end_of error)
shuts_not limits p p' r r' c n at error h k = record {
  deeds = tried at event.Shut (Err error) ∷ [];
  comes = (refl, refl, refl, refl);
  does = (side p' r' c n, record { reads = h; tries = k; calls = refl; faults = refl }, refl);
}

-- the Shut was tried, and then this was done
pub after_shut : (limits : Limits) (p p' : Pass) (r r' : Option (List ℕ)) (c : Option (List Record)) (n at : ℕ) (turned : Turned) (after : Option Owed) (new : Side) (end : KeeperEnd) → Reads r r' at → Tries p p' at event.Shut (Ok turned) → Goes limits Looks after (side p' r' c n) new end → Goes limits Shuts after (side p r c n) new end
after_shut limits p p' r r' c n at turned after new end h t k = record {
  deeds = tried at event.Shut (Ok turned) ∷ k.deeds;
  comes = (refl, k.comes);
  does = (side p' r' c n, record { reads = h; tries = t; calls = refl; faults = refl }, k.does);
}

-- the Tick was tried, and then this was done
pub after_tick : (limits : Limits) (p p' : Pass) (r r' : Option (List ℕ)) (c : Option (List Record)) (n at : ℕ) (turned : Turned) (after : Option Owed) (new : Side) (end : KeeperEnd) → Reads r r' at → Tries p p' at Tick (Ok turned) → Goes limits LooksNext after (side p' r' c n) new end → Goes limits Looks after (side p r c n) new end
after_tick limits p p' r r' c n at turned after new end h t k = record {
  deeds = tried at Tick (Ok turned) ∷ k.deeds;
  comes = (refl, k.comes);
  does = (side p' r' c n, record { reads = h; tries = t; calls = refl; faults = refl }, k.does);
}

pub next_not : (limits : Limits) (p p' : Pass) (r r' : Option (List ℕ)) (c : Option (List Record)) (n at : ℕ) (error : TurnError) → Reads r r' at → Tries p p' at NextAsk (Err error) → Goes limits LooksNext None (side p r c n) (side p' r' c n) (end_of error)
next_not limits p p' r r' c n at error h k = record {
  deeds = tried at NextAsk (Err error) ∷ [];
  comes = (refl, refl, refl, refl);
  does = (side p' r' c n, record { reads = h; tries = k; calls = refl; faults = refl }, refl);
}

some_none : {A : Type 0} (x : A) → None ≡ Some x → ⊥
some_none x h = cc

idle_on : (o : Out) → is_next o ≡ true → None ≡ asking_of (Done o) → LooksOn o [] None Idle
idle_on (out.Ask id to) e f = absurd (some_none (id, to) f)
idle_on out.NotYet e f = (refl, refl, refl)
idle_on o e f = absurd (true≢false (sym e))

idle_next : (p p' : Pass) (at : ℕ) (turned : Turned) → Lawful p' → Tries p p' at NextAsk (Ok turned) → None ≡ asking_of turned → LooksNext (tried at NextAsk (Ok turned) ∷ []) None Idle
idle_next p p' at (Done o) l k e = (refl, idle_on o (next_answers p p' at o l k) e)
idle_next p p' at (Nothing turns) l k e = (refl, refl, refl, refl)

pub next_idle : (limits : Limits) (p p' : Pass) (r r' : Option (List ℕ)) (c : Option (List Record)) (n at : ℕ) → Reads r r' at → Lawful p' → AsksNext p p' at (Ok None) → Goes limits LooksNext None (side p r c n) (side p' r' c n) Idle
next_idle limits p p' r r' c n at h l k = record {
  deeds = tried at NextAsk (Ok k.0) ∷ [];
  comes = idle_next p p' at k.0 l k.1 k.2;
  does = (side p' r' c n, record { reads = h; tries = k.1; calls = refl; faults = refl }, refl);
}

-- what was found, as the code has it
pub found_so : (p p' : Pass) (at : ℕ) (found found' : Option (ℕ × Remote)) → found ≡ found' → AsksNext p p' at (Ok found) → AsksNext p p' at (Ok found')
found_so p p' at found found' e h = subst (λ (q : Option (ℕ × Remote)). AsksNext p p' at (Ok q)) e h

-- the call of what was found
abbrev AsksSome : Option (ℕ × Remote) → List Deed → Option Owed → KeeperEnd → Type 0
AsksSome None deeds after end = ⊥
AsksSome (Some x) deeds after end = Asks x.0 x.1 deeds after end

asks_on : (o : Out) (deeds : List Deed) (after : Option Owed) (end : KeeperEnd) → AsksSome (asking_of (Done o)) deeds after end → LooksOn o deeds after end
asks_on (out.Ask id to) deeds after end h = h
asks_on o deeds after end h = absurd h

asks_next : (at : ℕ) (turned : Turned) (deeds : List Deed) (after : Option Owed) (end : KeeperEnd) → AsksSome (asking_of turned) deeds after end → LooksNext (tried at NextAsk (Ok turned) ∷ deeds) after end
asks_next at (Done o) deeds after end h = (refl, asks_on o deeds after end h)
asks_next at (Nothing turns) deeds after end h = absurd h

pub next_asked : (limits : Limits) (p p' : Pass) (r r' : Option (List ℕ)) (c : Option (List Record)) (n at id : ℕ) (to : Remote) (after : Option Owed) (new : Side) (end : KeeperEnd) → Reads r r' at → AsksNext p p' at (Ok (Some (id, to))) → Goes limits (Asks id to) after (side p' r' c n) new end → Goes limits LooksNext after (side p r c n) new end
next_asked limits p p' r r' c n at id to after new end h k g = record {
  deeds = tried at NextAsk (Ok k.0) ∷ g.deeds;
  comes = asks_next at k.0 g.deeds after end (subst (λ (q : Option (ℕ × Remote)). AsksSome q g.deeds after end) k.2 g.comes);
  does = (side p' r' c n, record { reads = h; tries = k.1; calls = refl; faults = refl }, g.does);
}

-- The whole step.

nothing_more : {X : Type 0} (x : List X) → x ≡ x ++ []
nothing_more x = grind (arith, common_steps)

sees_same : (p : Pass) → Sees p p []
sees_same p = record { caller = refl; start = refl; cap = refl; beside = refl; mine = nothing_more p.mine; more = []; grown = nothing_more p.seen; known = omega arith; alone = λ h. nothing_more p.seen }

sees_on : (a b c : Pass) (xs ys : List Turn) → Sees a b xs → Sees b c ys → Sees a c (xs ++ ys)
sees_on a b c xs ys h k = record {
  caller = k.caller ∙ h.caller;
  start = k.start ∙ h.start;
  cap = k.cap ∙ h.cap;
  beside = k.beside ∙ h.beside;
  mine = k.mine ∙ ap (λ q. q ++ ys) h.mine ∙ append_assoc a.mine xs ys;
  more = h.more ++ k.more;
  grown = k.grown ∙ ap (λ q. q ++ k.more) h.grown ∙ append_assoc a.seen h.more k.more;
  known = omega (arith, h.known, k.known);
  alone = λ e. k.alone (h.beside ∙ e) ∙ ap (λ q. q ++ ys) (h.alone e) ∙ append_assoc a.seen xs ys;
}

pub reads_none : (a : Option (List ℕ)) → ReadsAll a a []
reads_none None = tt
reads_none (Some x) = nothing_more x

pub reads_then : (a b c : Option (List ℕ)) (at : ℕ) (ats : List ℕ) → Reads a b at → ReadsAll b c ats → ReadsAll a c (at ∷ ats)
reads_then None None None at ats h k = tt
reads_then None None (Some c) at ats h k = absurd k
reads_then None (Some b) c at ats h k = absurd h
reads_then (Some a) None None at ats h k = grind (arith, common_steps)
reads_then (Some a) None (Some c) at ats h k = absurd k
reads_then (Some a) (Some b) None at ats h k = grind (arith, common_steps)
reads_then (Some a) (Some b) (Some c) at ats h k = k ∙ ap (λ q. q ++ ats) h ∙ append_assoc a (at ∷ []) ats

saw_is : (t : Turn) (at : ℕ) (e : Event) (o : Out) → t.at ≡ at → t.event ≡ e → t.out ≡ o → saw_of t ≡ (at, e, o)
saw_is t at e o h k l = ap (λ q. (q, t.event, t.out)) h ∙ ap (λ q. (at, q, t.out)) k ∙ ap (λ q. (at, e, q)) l

-- what the deeds come to together
record Sums (deeds : List Deed) (old new : Side) : Type 0 where
  pub turns : List Turn
  pub made : map saw_of turns ≡ made_of deeds
  pub sees : Sees old.pass new.pass turns
  pub reads : ReadsAll old.readings new.readings (ats_of deeds)

-- a try without a turn
sums_none : (at : ℕ) (e : Event) (result : Result Turned TurnError) (deeds : List Deed) (old between new : Side) → Trial at e result old between → Sees old.pass between.pass [] → made_of (tried at e result ∷ deeds) ≡ made_of deeds → Sums deeds between new → Sums (tried at e result ∷ deeds) old new
sums_none at e result deeds old between new h s m k = record {
  turns = k.turns;
  made = k.made ∙ sym m;
  sees = sees_on old.pass between.pass new.pass [] k.turns s k.sees;
  reads = reads_then old.readings between.readings new.readings at (ats_of deeds) h.reads k.reads;
}

sums_try : (at : ℕ) (e : Event) (result : Result Turned TurnError) (deeds : List Deed) (old between new : Side) → Trial at e result old between → Sums deeds between new → Sums (tried at e result ∷ deeds) old new
sums_try at e (Ok (Done o)) deeds old between new h k =
    let m : Makes old.pass between.pass at e o = h.tries in
    record {
      turns = m.turn ∷ k.turns;
      made = ap (λ (q : Saw). q ∷ map saw_of k.turns) (saw_is m.turn at e o m.reading m.made m.answered) ∙ ap (λ (q : List Saw). (at, e, o) ∷ q) k.made;
      sees = sees_on old.pass between.pass new.pass (m.turn ∷ []) k.turns m.sees k.sees;
      reads = reads_then old.readings between.readings new.readings at (ats_of deeds) h.reads k.reads;
    }
sums_try at e (Ok (Nothing turns)) deeds old between new h k =
    let m : TriesNothing old.pass between.pass at e turns = h.tries in
    sums_none at e (Ok (Nothing turns)) deeds old between new h m.sees refl k
sums_try at e (Err (turn_error.Full turns)) deeds old between new h k = sums_none at e (Err (turn_error.Full turns)) deeds old between new h h.tries.0 refl k
sums_try at e (Err turn_error.Memory) deeds old between new h k = sums_none at e (Err turn_error.Memory) deeds old between new h h.tries refl k

sums : (limits : Limits) (deeds : List Deed) (old new : Side) → DoesAll limits deeds old new → Sums deeds old new
sums limits [] old new e = subst (λ (s : Side). Sums [] old s) (sym e) (record { turns = []; made = refl; sees = sees_same old.pass; reads = reads_none old.readings })
sums limits (tried at e result ∷ deeds) old new h = sums_try at e result deeds old h.0 new h.1 (sums limits deeds h.0 new h.2)
sums limits (called to b ∷ deeds) old new h =
    let k : Sums deeds h.0 new = sums limits deeds h.0 new h.2 in
    record {
      turns = k.turns;
      made = k.made;
      sees = subst (λ (p : Pass). Sees p new.pass k.turns) h.1.pass k.sees;
      reads = subst (λ (r : Option (List ℕ)). ReadsAll r new.readings (ats_of deeds)) h.1.readings k.reads;
    }

pub steps_of : (limits : Limits) (shut : Bool) (P : List Deed → Option Owed → KeeperEnd → Type 0) (before after : Option Owed) (old new : Side) (end : KeeperEnd) → ((deeds : List Deed) → P deeds after end → Comes before shut deeds after end) → Goes limits P after old new end → Steps limits shut before after old new end
steps_of limits shut P before after old new end f g =
    let s : Sums g.deeds old new = sums limits g.deeds old new g.does in
    record { deeds = g.deeds; comes = f g.deeds g.comes; does = g.does; turns = s.turns; made = s.made; sees = s.sees; reads = s.reads }

-- The step, by what is owed.

pub steps_shut : (limits : Limits) (shut : Bool) (before after : Option Owed) (old new : Side) (end : KeeperEnd) → shut ≡ true → before ≡ None → Goes limits Shuts after old new end → Steps limits shut before after old new end
steps_shut limits shut before after old new end s e g = steps_of limits shut Shuts before after old new end
    (λ deeds h. subst (λ (q : Option Owed). Comes q shut deeds after end) (sym e) (subst (λ (q : Bool). Comes None q deeds after end) (sym s) h)) g

pub steps_age : (limits : Limits) (shut : Bool) (before after : Option Owed) (old new : Side) (end : KeeperEnd) → shut ≡ false → before ≡ None → Goes limits Looks after old new end → Steps limits shut before after old new end
steps_age limits shut before after old new end s e g = steps_of limits shut Looks before after old new end
    (λ deeds h. subst (λ (q : Option Owed). Comes q shut deeds after end) (sym e) (subst (λ (q : Bool). Comes None q deeds after end) (sym s) h)) g

pub steps_ask : (limits : Limits) (shut : Bool) (id : ℕ) (to : Remote) (before after : Option Owed) (old new : Side) (end : KeeperEnd) → before ≡ Some (Call id to) → Goes limits (Asks id to) after old new end → Steps limits shut before after old new end
steps_ask limits shut id to before after old new end e g = steps_of limits shut (Asks id to) before after old new end
    (λ deeds h. subst (λ (q : Option Owed). Comes q shut deeds after end) (sym e) h) g

pub steps_settle : (limits : Limits) (shut : Bool) (id : ℕ) (life : Life) (before after : Option Owed) (old new : Side) (end : KeeperEnd) → before ≡ Some (Telling id life) → Goes limits (Settles id life) after old new end → Steps limits shut before after old new end
steps_settle limits shut id life before after old new end e g = steps_of limits shut (Settles id life) before after old new end
    (λ deeds h. subst (λ (q : Option Owed). Comes q shut deeds after end) (sym e) h) g
