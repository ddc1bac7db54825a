-- Who asks a closed notifier for its next event once its queue is empty is answered Closed.
use Rattle.std.proofs.Common.{◌≡◌, ℕ, ◌≤◌, true, false, List, [], ◌∷◌, ◌++◌, Option, Some, None, refl, sym, ◌∙◌, subst, arith}
use Rattle.std.specs.Prelude.{◌==◌}
use Rattle.std.proofs.lemmas.Bool.Decides.{nat_tests}
use Rattle.rinda_rules.specs.declared.event.Event.{Event}
use Rattle.rinda_rules.specs.declared.event.Event.TheVariants.{Write, Reserve, Submit, Collect, Settle, Withdraw, Cancel, Renew, Look, Value, ReadAll, Notify, Pop, NextAsk, Asked, Tick, Shut}
use Rattle.rinda_rules.specs.declared.out.Out.{Out}
use Rattle.rinda_rules.specs.declared.out.Out.TheVariants as out
use Rattle.rinda_rules.specs.declared.plain.Entry.{Entry}
use Rattle.rinda_rules.specs.declared.plain.Request.{Request}
use Rattle.rinda_rules.specs.declared.plain.Notifier.{Notifier}
use Rattle.rinda_rules.specs.declared.plain.Hearing.{Hearing}
use Rattle.rinda_rules.specs.declared.plain.Hearing.TheVariants as hearing
use Rattle.rinda_rules.specs.declared.plain.Raised.{Raised}
use Rattle.rinda_rules.specs.declared.turn.Pick.{Pick}
use Rattle.rinda_rules.specs.declared.turn.Turn.{Turn}
use Rattle.rinda_rules.specs.Rows.{row_of}
use Rattle.rinda_rules.specs.Space.{Plain, Found, TheNotifier, found, found_among, tuple_at, request_at, notifier_at, ended_at, is_running}
use Rattle.rinda_rules.specs.Queue.{queue}
use Rattle.rinda_rules.specs.Cases.{pop, pop_empty, pop_queue, pop_notifier, withdraw}
use Rattle.rinda_rules.specs.Steps.{Case, chooser, found_by}
use Rattle.rinda_rules.specs.Sound.{Sound, named, objects}
use Rattle.rinda_rules.specs.Fixed.{after}
use Rattle.rinda_rules.specs.Legal.{plain_from, LegalFrom}
use Rattle.rinda_rules.proofs.Sounding.{sound-found_by}
use Rattle.rinda_laws.specs.Starting.{IsStart}
use Rattle.rinda_laws.specs.Hears.{asks_next}
use Rattle.rinda_laws.proofs.Turning.{sound_before, last_step}

named_some : {R : Type 0} (key : R → ℕ) (id : ℕ) (xs : List R) (r : R) → row_of key id xs ≡ Some r → 1 ≤ named key id xs
named_some key id [] r e = cc
named_some key id (x ∷ xs) r e = grind (arith, nat_tests, named_some key id xs r)

-- a notifier's id names it alone
notifier_found : (s : Plain) (id : ℕ) (n : Notifier) → Sound s → notifier_at s id ≡ Some n → found s id ≡ TheNotifier n
notifier_found s id n sound there = by_rows (request_at s id) (tuple_at s id) refl refl
  where
    here : 1 ≤ named (λ n. n.id) id s.notifiers
    here = named_some (λ (n : Notifier). n.id) id s.notifiers n there

    with_request : 1 ≤ named (λ r. r.id) id s.requests → 1 ≤ named (λ n. n.id) id s.notifiers → objects s id ≤ 1 → ⊥
    with_request p q r = omega (arith, p, q, r)

    with_tuple : 1 ≤ named (λ t. t.id) id s.tuples → 1 ≤ named (λ n. n.id) id s.notifiers → objects s id ≤ 1 → ⊥
    with_tuple p q r = omega (arith, p, q, r)

    by_rows : (r : Option Request) (t : Option Entry) → request_at s id ≡ r → tuple_at s id ≡ t → found_among s id r t (notifier_at s id) (ended_at s id) ≡ TheNotifier n
    by_rows (Some r) t ir it = absurd (with_request (named_some (λ (r : Request). r.id) id s.requests r ir) here (sound.apart.once id))
    by_rows None (Some t) ir it = absurd (with_tuple (named_some (λ (t : Entry). t.id) id s.tuples t it) here (sound.apart.once id))
    by_rows None None ir it = rw there refl

empty_closed : (s : Plain) (n : Notifier) (nothing : Out) → is_running n.state ≡ false → queue n s.events ≡ [] → (pop_notifier s nothing n).out ≡ out.Closed
empty_closed s n nothing closed empty = subst (λ (es : List Raised). (pop_queue s n nothing es).out ≡ out.Closed) (sym empty) (by_state n.state closed)
  where
    by_state : (st : Hearing) → is_running st ≡ false → (pop_empty s n nothing st).out ≡ out.Closed
    by_state hearing.Running e = cc
    by_state (hearing.Closed l u) e = refl

same_id : (a b : ℕ) → a == b ≡ true → b ≡ a
same_id a b e = grind (arith, nat_tests)

closed_case : (s : Plain) (caller : ℕ) (event : Event) (o : Out) (picks : List Pick) (s' : Plain) (id : ℕ) (n : Notifier) → Sound s → notifier_at s id ≡ Some n → is_running n.state ≡ false → queue n s.events ≡ [] → asks_next id event ≡ true → Case s caller event (chooser s caller event) o picks s' → o ≡ out.Closed
closed_case s caller (Pop i) o picks s' id n sound there closed empty asks case =
    case.0 ∙ subst (λ (f : Found). (pop s f).out ≡ out.Closed) (sym (notifier_found s i n sound (subst (λ (j : ℕ). notifier_at s j ≡ Some n) (same_id i id asks) there))) (empty_closed s n out.NotYet closed empty)
closed_case s caller (Withdraw i) o picks s' id n sound there closed empty asks case =
    case.0 ∙ subst (λ (f : Found). (withdraw s caller f).out ≡ out.Closed) (sym (notifier_found s i n sound (subst (λ (j : ℕ). notifier_at s j ≡ Some n) (same_id i id asks) there))) (empty_closed s n out.WouldWait closed empty)
closed_case s caller (Write v lease) o picks s' id n sound there closed empty asks case = cc
closed_case s caller (Reserve k pattern lease) o picks s' id n sound there closed empty asks case = cc
closed_case s caller (Submit i) o picks s' id n sound there closed empty asks case = cc
closed_case s caller (Collect i) o picks s' id n sound there closed empty asks case = cc
closed_case s caller (Settle i ok) o picks s' id n sound there closed empty asks case = cc
closed_case s caller (Cancel i) o picks s' id n sound there closed empty asks case = cc
closed_case s caller (Renew i lease) o picks s' id n sound there closed empty asks case = cc
closed_case s caller (Look i) o picks s' id n sound there closed empty asks case = cc
closed_case s caller (Value i) o picks s' id n sound there closed empty asks case = cc
closed_case s caller (ReadAll pattern) o picks s' id n sound there closed empty asks case = cc
closed_case s caller (Notify x pattern lease) o picks s' id n sound there closed empty asks case = cc
closed_case s caller NextAsk o picks s' id n sound there closed empty asks case = cc
closed_case s caller (Asked i life) o picks s' id n sound there closed empty asks case = cc
closed_case s caller Tick o picks s' id n sound there closed empty asks case = cc
closed_case s caller Shut o picks s' id n sound there closed empty asks case = cc

pub close_is_last : (start : Plain) (h : List Turn) (turn : Turn) (id : ℕ) (n : Notifier) → IsStart start → LegalFrom start (h ++ turn ∷ []) → notifier_at (found_by (plain_from start h) turn.at) id ≡ Some n → is_running n.state ≡ false → queue n (found_by (plain_from start h) turn.at).events ≡ [] → asks_next id turn.event ≡ true → turn.out ≡ out.Closed
close_is_last start h turn id n from legal there closed empty asks =
    closed_case (found_by (plain_from start h) turn.at) turn.caller turn.event turn.out turn.picks (after (plain_from start h) turn) id n (sound-found_by (plain_from start h) turn.at (sound_before start h (turn ∷ []) from legal)) there closed empty asks (last_step start h turn [] legal)
