-- What entering a monitor comes to for a caller of its space.
use Rattle.std.proofs.Common.{◌≡◌, ◌∙◌, ℕ, ◌≤◌, List, [], ◌∷◌, ◌++◌, length, true, false, Ok, Err, refl, sym, ap, subst, arith, length-append, true≢false}
use Rattle.std.specs.Prelude.{None, Some, is_none}
use Rattle.std.specs.declared.option.Option.{Option}
use Rattle.std.specs.declared.result.Result.{Result}
use mathlib.Core.List.{IsPrefix}
use Rattle.atomic_table.specs.Seated.{TableId}
use Rattle.drb_monitor.specs.declared.entered.Entered.{Entered}
use Rattle.drb_monitor.specs.declared.entered.Entered.TheVariants as entered
use Rattle.drb_monitor.specs.Passes.{Knowledge}
use Rattle.drb_monitor.specs.Entering.{IsEntered}
use Rattle.drb_monitor.proofs.Lists.{prefix_length, prefix_more}
use Rattle.rinda_rules.specs.declared.event.Event.{Event}
use Rattle.rinda_rules.specs.declared.out.Out.{Out}
use Rattle.rinda_rules.specs.declared.turn.Turn.{Turn}
use Rattle.rinda_rules.specs.declared.start.Start.{Start}
use Rattle.rinda_rules.specs.Space.{Plain, opening}
use Rattle.rinda_rules.specs.Legal.{plain_from}
use Rattle.rinda_rules.specs.Nothing.{is_nothing}
use Rattle.rinda_space.specs.Spaces.{StartsAt}
use Rattle.rinda_space.specs.Entered.{Basis, IsLawful, Names, Allows}
use Rattle.rinda_space.specs.declared.turned.TurnError.{TurnError}
use Rattle.rinda_space.specs.declared.turned.TurnError.TheVariants.{Full, Memory}
use Rattle.drb_session.specs.Passes.{Lawful, Sees, Tries, FindsNothing, FindsSomething, turns_by}
use Rattle.drb_shared.specs.Sharing.{shared, starts_empty, turned_of}

-- a caller entered
abbrev Enters : Basis → ℕ → Event → Result (Entered Out) TurnError → Knowledge Turn Basis → Knowledge Turn Basis → Type 0
Enters b at event result k k' = IsEntered IsLawful (λ t. t.caller) Names Allows b at event result k k'

some_monitor : (m : TableId) → Some m ≡ None → ⊥
some_monitor m e = true≢false (sym (ap is_none e))

append_none : (x : List Turn) → x ≡ x ++ []
append_none [] = refl
append_none (t ∷ ts) = ap (λ q. t ∷ q) (append_none ts)

-- what it has seen goes on, by some turns of its own
sees : (b : Basis) (k k' : Knowledge Turn Basis) (seen mine made : List Turn) → k' ≡ record k { seen = seen; mine = mine } → IsPrefix k.seen k'.seen → mine ≡ k.mine ++ made → Sees (shared b k) (shared b k') made
sees b k k' seen mine made same begins more = record {
  caller = ap (λ q. q.number) same;
  start = refl;
  cap = refl;
  beside = ap (λ q. Some q.monitor) same;
  mine = ap (λ q. q.mine) same ∙ more;
  more = begins.0;
  grown = sym begins.1;
  known = omega (arith, ap (λ q. q.known) same);
  alone = λ e. absurd (some_monitor _ e);
}

finds : (b : Basis) (k k' : Knowledge Turn Basis) (found : List Turn) (at : ℕ) (event : Event) → k'.number ≡ k.number → k'.seen ≡ found → ((s : Plain) → StartsAt b.0 s → is_nothing (plain_from s found) k.number at event ≡ true) → FindsNothing (shared b k') at event
finds b k k' found at event number seen h = λ s starts. subst (λ (n : ℕ). is_nothing (plain_from s k'.seen) n at event ≡ true) (sym number) (subst (λ (l : List Turn). is_nothing (plain_from s l) k.number at event ≡ true) (sym seen) (h s starts))

finds_some : (b : Basis) (k k' : Knowledge Turn Basis) (found : List Turn) (at : ℕ) (event : Event) → k'.number ≡ k.number → k'.seen ≡ found → ((s : Plain) → StartsAt b.0 s → is_nothing (plain_from s found) k.number at event ≡ false) → FindsSomething (shared b k') at event
finds_some b k k' found at event number seen h = λ s starts. subst (λ (n : ℕ). is_nothing (plain_from s k'.seen) n at event ≡ false) (sym number) (subst (λ (l : List Turn). is_nothing (plain_from s l) k.number at event ≡ false) (sym seen) (h s starts))

-- it made no turn
sees_none : (b : Basis) (k k' : Knowledge Turn Basis) (found : List Turn) → k' ≡ record k { seen = k'.seen; mine = k'.mine } → IsPrefix k.seen found → k'.seen ≡ found → k'.mine ≡ k.mine → Sees (shared b k) (shared b k') []
sees_none b k k' found same begins seen mine = sees b k k' k'.seen k'.mine [] same (subst (λ (l : List Turn). IsPrefix k.seen l) (sym seen) begins) (mine ∙ append_none k.mine)

-- what the space answers a caller is what its turns may come to
pub tries : (b : Basis) (at : ℕ) (event : Event) (result : Result (Entered Out) TurnError) (k k' : Knowledge Turn Basis) → Enters b at event result k k' → Tries (shared b k) (shared b k') at event (turned_of result)
tries b at event (Ok (entered.Done out)) k k' e = record {
  turn = e.answer.0;
  by = e.answer.3;
  reading = e.answer.4.1;
  made = e.answer.4.2;
  answered = e.answer.4.3;
  sees = sees b k k' k'.seen k'.mine (e.answer.0 ∷ []) e.same (subst (λ (l : List Turn). IsPrefix k.seen l) (sym e.answer.1) (prefix_more k.seen e.found e.answer.0 e.begins)) e.answer.2;
  before = e.found;
  last = e.answer.1;
  later = prefix_length k.seen e.found e.begins;
}
tries b at event (Ok (entered.Nothing turns)) k k' e = record {
  sees = sees_none b k k' e.found e.same e.begins e.answer.0 e.answer.1;
  nothing = finds b k k' e.found at event (ap (λ q. q.number) e.same) e.answer.0 e.answer.3;
  count = e.answer.2 ∙ ap (λ q. length q) (sym e.answer.0);
}
tries b at event (Err (Full turns)) k k' e = (
  sees_none b k k' e.found e.same e.begins e.answer.0 e.answer.1,
  record {
    something = finds_some b k k' e.found at event (ap (λ q. q.number) e.same) e.answer.0 e.answer.2.0;
    full = ap (λ q. length q) e.answer.0 ∙ e.answer.2.1;
    count = e.answer.2.2;
  },
)
tries b at event (Err Memory) k k' e = sees_none b k k' e.found e.same e.begins e.answer.0 e.answer.1

-- it has then seen as much as it knew that there is
pub reached : (b : Basis) (at : ℕ) (event : Event) (result : Result (Entered Out) TurnError) (k k' : Knowledge Turn Basis) → Enters b at event result k k' → k.known ≤ length k'.seen
reached b at event (Ok (entered.Done out)) k k' e = omega (arith, e.knew, ap (λ q. length q) e.answer.1, length-append e.found (e.answer.0 ∷ []))
reached b at event (Ok (entered.Nothing turns)) k k' e = omega (arith, e.knew, ap (λ q. length q) e.answer.0)
reached b at event (Err (Full turns)) k k' e = omega (arith, e.knew, ap (λ q. length q) e.answer.0)
reached b at event (Err Memory) k k' e = omega (arith, e.knew, ap (λ q. length q) e.answer.0)

-- the empty space is the start
starts_at : (start : Option Start) → is_none start ≡ true → StartsAt start opening
starts_at None e = refl
starts_at (Some start) e = absurd (true≢false (sym e))

pub lawful : (b : Basis) (at : ℕ) (event : Event) (result : Result (Entered Out) TurnError) (k k' : Knowledge Turn Basis) → starts_empty b ≡ true → Enters b at event result k k' → Lawful (shared b k')
lawful b at event result k k' empty e = record {
  origin = opening;
  starts = starts_at b.0 empty;
  legal = e.lawful.0;
  own = subst (λ (n : ℕ). turns_by n k'.seen ≡ k'.mine) (sym (ap (λ q. q.number) e.same)) e.own;
  few = e.lawful.1;
  short = e.short;
}

-- A wait leaves what was seen and made.

pub waited : (b : Basis) (k k' : Knowledge Turn Basis) (known : ℕ) → k' ≡ record k { known = known } → k.known ≤ k'.known → Sees (shared b k) (shared b k') []
waited b k k' known same more = record {
  caller = ap (λ q. q.number) same;
  start = refl;
  cap = refl;
  beside = ap (λ q. Some q.monitor) same;
  mine = ap (λ q. q.mine) same ∙ append_none k.mine;
  more = [];
  grown = ap (λ q. q.seen) same ∙ append_none k.seen;
  known = more;
  alone = λ e. absurd (some_monitor _ e);
}

pub lawful_still : (b : Basis) (k k' : Knowledge Turn Basis) (known : ℕ) → k' ≡ record k { known = known } → Lawful (shared b k) → Lawful (shared b k')
lawful_still b k k' known same h = subst (λ (q : Knowledge Turn Basis). Lawful (shared b q)) (sym same) (record { origin = h.origin; starts = h.starts; legal = h.legal; own = h.own; few = h.few; short = h.short })
