-- The queue of a notifier, from its registration or from the start on.
use Rattle.std.proofs.Common.{◌≡◌, ℕ, ltb, ◌+◌, ◌-◌, ◌<◌, ◌≤◌, Bool, true, cond, ◌&&◌, List, [], ◌∷◌, ◌++◌, length, drop, take, Option, Some, None, refl, sym, ◌∙◌, ap, subst, arith}
use Rattle.std.specs.Prelude.{filter, nat_le}
use Rattle.std.specs.List.{list_all}
use Rattle.rinda_rules.specs.Rows.{row_of}
use Rattle.std.proofs.lemmas.Bool.Decides.{nat_tests}
use Rattle.std.proofs.Math.Seq.{take-append-add}
use Rattle.std.proofs.lemmas.List.{drop-drop, drop-take, drop-append-le, take-append-le, append-nil}
use Rattle.std.proofs.lemmas.List.Elements.{filter-append}
use Rattle.drb_tree.specs.declared.Tree.{Tree}
use Rattle.rinda_tuple.specs.declared.tuple.Template.{Template}
use Rattle.rinda_tuple.specs.declared.lease.Lease.{Lease}
use Rattle.rinda_rules.specs.declared.event.Event.{Event}
use Rattle.rinda_rules.specs.declared.event.Event.TheVariants.{Notify, Tick}
use Rattle.rinda_rules.specs.declared.out.Out.{Out}
use Rattle.rinda_rules.specs.declared.out.Out.TheVariants as out
use Rattle.rinda_rules.specs.declared.plain.Request.{Request}
use Rattle.rinda_rules.specs.declared.plain.Notifier.{Notifier}
use Rattle.rinda_rules.specs.declared.plain.Hearing.{Hearing}
use Rattle.rinda_rules.specs.declared.plain.Hearing.TheVariants as hearing
use Rattle.rinda_rules.specs.declared.plain.Raised.{Raised}
use Rattle.rinda_rules.specs.declared.turn.Pick.{Pick}
use Rattle.rinda_rules.specs.declared.turn.Turn.{Turn}
use Rattle.rinda_rules.specs.Space.{Plain, tuple_at, notifier_at, hears}
use Rattle.rinda_rules.specs.Queue.{until_end, heard, queue}
use Rattle.rinda_rules.specs.Phases.{advanced, aged, Serve}
use Rattle.rinda_rules.specs.Cases.{outcome}
use Rattle.rinda_rules.specs.Steps.{Case, Step, chooser, found_by}
use Rattle.rinda_rules.specs.Sound.{Sound, ends_within, hears_within}
use Rattle.rinda_rules.specs.Fixed.{after}
use Rattle.rinda_rules.specs.Legal.{plain_from, LegalFrom}
use Rattle.rinda_rules.proofs.Lists.{all_at, row_has_id}
use Rattle.rinda_rules.proofs.Keeping.{with_new_notifier, chosen_none, chosen_match, outcome_kept, found_kept, step_kept}
use Rattle.rinda_rules.proofs.Sounding.{sound-advanced, sound-found_by, sound-outcome}
use Rattle.rinda_laws.specs.Starting.{IsStart, raised_since}
use Rattle.rinda_laws.specs.Balance.{how_many}
use Rattle.rinda_laws.specs.Hears.{is_event_out, asks_next, pops, until_close, HeardSince}
use Rattle.rinda_laws.proofs.Turning.{sound_Step, sound_before, plain_from-append, LegalFrom-back, last_step, rest_kept}
use Rattle.rinda_laws.proofs.Hearing.{Same, SinceOf, since_keeps, long_of, grown_is, dropped, Registers, registers, new_row, new_since}
use Rattle.rinda_laws.proofs.Popping.{Became, Kept, Popped, more, none_more, begins_so, aged_popped, outcome_popped, rest_popped}

-- Over histories.

module _ (id : ℕ) (event : Tree) (pattern : Template) (from : ℕ) (base : List Raised) (was : Hearing) where
  -- the notifier that this is about
  abbrev Is : Plain → Type 0
  Is s = SinceOf id event pattern from base s

  abbrev PoppedOf : ℕ → Plain → Type 0
  PoppedOf k s = Popped id (length base) was k s.notifiers

  case_popped : (k : ℕ) (s : Plain) (caller : ℕ) (what : Event) (r : Option Request) (o : Out) (picks : List Pick) (s' : Plain) → chooser s caller what ≡ r → Case s caller what r o picks s' → Sound s → Is s → PoppedOf k s → PoppedOf (more (asks_next id what && is_event_out o) k) s'
  case_popped k s caller what None o picks s' chooses case sound since h =
      let next : Is (outcome s caller what None).after = outcome_kept caller what Is (since_keeps id event pattern from base caller what) s what None refl (chosen_none s what) since in
      subst (λ (o : Out). PoppedOf (more (asks_next id what && is_event_out o) k) s') (sym case.0)
      (rest_popped id (length base) was _ (outcome s caller what None).after picks s' case.1 (sound-outcome s caller what None (chosen_none s what) sound) (long_of id event pattern from base (outcome s caller what None).after next)
      (outcome_popped id (length base) was k s caller what None sound.answers since.minted (long_of id event pattern from base s since) h))
  case_popped k s caller what (Some r) o [] s' chooses case sound since h = absurd case
  case_popped k s caller what (Some r) o (pick ∷ picks) s' chooses case sound since h =
      let chosen = chosen_match s caller what r pick chooses case.0 in
      let next : Is (outcome s caller what (tuple_at s pick.tuple)).after = outcome_kept caller what Is (since_keeps id event pattern from base caller what) s what (tuple_at s pick.tuple) refl chosen since in
      subst (λ (o : Out). PoppedOf (more (asks_next id what && is_event_out o) k) s') (sym case.1)
      (rest_popped id (length base) was _ (outcome s caller what (tuple_at s pick.tuple)).after picks s' case.2 (sound-outcome s caller what (tuple_at s pick.tuple) chosen sound) (long_of id event pattern from base (outcome s caller what (tuple_at s pick.tuple)).after next)
      (outcome_popped id (length base) was k s caller what (tuple_at s pick.tuple) sound.answers since.minted (long_of id event pattern from base s since) h))

  step_popped : (k : ℕ) (s : Plain) (t : Turn) (s' : Plain) → Step s t.caller t.at t.event t.out t.picks s' → Sound s → Is s → PoppedOf k s → PoppedOf (more (pops id t) k) s'
  step_popped k s t s' step sound since h =
      case_popped k (found_by s t.at) t.caller t.event (chooser (found_by s t.at) t.caller t.event) t.out t.picks s' refl step (sound-found_by s t.at sound)
      (found_kept t.caller t.event Is (since_keeps id event pattern from base t.caller t.event) s t.at sound since)
      (aged_popped id (length base) was k (advanced s t.at) (sound-advanced s t.at sound) (long_of id event pattern from base s since) h)

  -- what is known of it after a history
  pub record After (k : ℕ) (s : Plain) : Type 0 where
    pub since : SinceOf id event pattern from base s
    pub popped : Popped id (length base) was k s.notifiers

  pub after_history : (k : ℕ) (s : Plain) (h : List Turn) → LegalFrom s h → Sound s → After k s → After (how_many (pops id) h + k) (plain_from s h)
  after_history k s [] legal sound g = record { since = g.since; popped = λ n e. let x = g.popped n e in record { popped_is = none_more n.popped k x.popped_is; became = x.became } }
  after_history k s (t ∷ ts) legal sound g =
      let rest : After (how_many (pops id) ts + more (pops id t) k) (plain_from (after s t) ts) =
      after_history (more (pops id t) k) (after s t) ts legal.1 (sound_Step s t (after s t) legal.0.step sound) (record {
        since = step_kept t.caller t.event Is (since_keeps id event pattern from base t.caller t.event) s t.at t.out t.picks (after s t) legal.0.step sound g.since;
        popped = step_popped k s t (after s t) legal.0.step sound g.since g.popped;
      }) in
      record {
        since = rest.since;
        popped = λ n e. let x = rest.popped n e in record { popped_is = shift (cond {A = ℕ} (pops id t) 1 0) (how_many (pops id) ts) n.popped x.popped_is; became = x.became };
      }
    where
      shift : (a b x : ℕ) → x ≡ b + (a + k) → x ≡ (a + b) + k
      shift a b x e = omega (arith, e)

-- Queues.

le_of : (a b : ℕ) → nat_le a b ≡ true → a ≤ b
le_of a b e = grind (arith, nat_tests)

minted_below : (id next : ℕ) (ns : List Notifier) (n : Notifier) → row_of (λ n. n.id) id ns ≡ Some n → list_all (λ n. ltb n.id next) ns ≡ true → id < next
minted_below id next ns n there e = less (row_has_id (λ (n : Notifier). n.id) id ns n there) (all_at (λ n. ltb n.id next) (λ n. n.id) id ns n there e)
  where
    less : n.id ≡ id → ltb n.id next ≡ true → id < next
    less same e = grind (arith, nat_tests)

parts : (from u : ℕ) → from ≤ u → u ≡ from + (u - from)
parts from u le = omega (arith, le)

take_from : (from u : ℕ) (xs : List Raised) → from ≤ u → drop from (take u xs) ≡ take (u - from) (drop from xs)
take_from from u xs le = ap (λ (k : ℕ). drop from (take k xs)) (parts from u le) ∙ drop-take from (u - from) xs

-- what is heard of the events since, up to the close
rest_is : (base grown : List Raised) (st : Hearing) → Became (length base) hearing.Running st → drop (length base) (until_end st (base ++ grown)) ≡ until_close st (length base) grown
rest_is base grown hearing.Running became = dropped base grown
rest_is base grown (hearing.Closed l u) became = take_from (length base) u (base ++ grown) became ∙ ap (λ (es : List Raised). take (u - length base) es) (dropped base grown)

-- a new notifier's queue
new_queue : (n : Notifier) (base grown es : List Raised) (popped : ℕ) → es ≡ base ++ grown → n.since ≡ length base → n.popped ≡ popped → Became (length base) hearing.Running n.state → queue n es ≡ drop popped (filter (hears n) (until_close n.state (length base) grown))
new_queue n base grown es popped e since count became =
    ap (λ (k : ℕ). drop k (filter (hears n) (drop n.since (until_end n.state es)))) count
    ∙ (ap (λ (es : List Raised). drop popped (filter (hears n) (drop n.since (until_end n.state es)))) e
    ∙ (ap (λ (k : ℕ). drop popped (filter (hears n) (drop k (until_end n.state (base ++ grown))))) since
    ∙ ap (λ (es : List Raised). drop popped (filter (hears n) es)) (rest_is base grown n.state became)))

-- The registration.

module _ (start : Plain) (before later : List Turn) (turn : Turn) (event : Tree) (pattern : Template) (lease : Lease) (id : ℕ) (from : IsStart start) (legal : LegalFrom start (before ++ turn ∷ later)) (is : turn.event ≡ Notify event pattern lease) (e : turn.out ≡ out.Notifier id) where
  sound_first : Sound (found_by (plain_from start before) turn.at)
  sound_first = sound-found_by (plain_from start before) turn.at (sound_before start before (turn ∷ later) from legal)

  registered_case : (s : Plain) (o : Out) (picks : List Pick) (s' : Plain) → Sound s → Case s turn.caller (Notify event pattern lease) None o picks s' → o ≡ out.Notifier id → After id event pattern (length s.events) s.events hearing.Running 0 s'
  registered_case s o picks s' sound case said = record {
    since = rest_kept turn.caller Tick (SinceOf id event pattern (length s.events) s.events) (since_keeps id event pattern (length s.events) s.events turn.caller Tick) (with_new_notifier s event pattern lease) picks s' serve sound_new (new_since s event pattern lease id sound reg.next_is);
    popped = rest_popped id (length s.events) hearing.Running 0 (with_new_notifier s event pattern lease) picks s' serve sound_new (same (length s.events))
        (λ m there. subst (λ (m : Notifier). Kept id (length s.events) hearing.Running 0 m) (new_row s event pattern lease id m sound reg.next_is there) (record { popped_is = refl; became = tt }));
  }
    where
      reg : Registers s event pattern lease id turn.caller
      reg = registers s event pattern lease id turn.caller (sym case.0 ∙ said)

      serve : Serve (aged (with_new_notifier s event pattern lease)) picks s'
      serve = subst (λ (p : Plain). Serve (aged p) picks s') reg.after_is case.1

      sound_new : Sound (with_new_notifier s event pattern lease)
      sound_new = subst (λ (p : Plain). Sound p) reg.after_is (sound-outcome s turn.caller (Notify event pattern lease) None (chosen_none s (Notify event pattern lease)) sound)

      same : (n : ℕ) → n ≤ n
      same n = omega arith

  registered : After id event pattern (length (found_by (plain_from start before) turn.at).events) (found_by (plain_from start before) turn.at).events hearing.Running 0 (after (plain_from start before) turn)
  registered = registered_case (found_by (plain_from start before) turn.at) turn.out turn.picks (after (plain_from start before) turn) sound_first
      (subst (λ (x : Event). Step (plain_from start before) turn.caller turn.at x turn.out turn.picks (after (plain_from start before) turn)) is (last_step start before turn later legal)) e

  pub queue_is_exact : (n : Notifier) → notifier_at (plain_from start (before ++ turn ∷ later)) id ≡ Some n → HeardSince event pattern (found_by (plain_from start before) turn.at) (how_many (pops id) later) (plain_from start (before ++ turn ∷ later)) n
  queue_is_exact n there = record {
    event_is = row.event_is;
    pattern_is = row.pattern_is;
    queue_is = new_queue n (found_by (plain_from start before) turn.at).events all.since.grown (plain_from start (before ++ turn ∷ later)).events (how_many (pops id) later) all.since.events row.since_is (no_first (how_many (pops id) later) n.popped kept.popped_is) kept.became
        ∙ ap (λ (es : List Raised). drop (how_many (pops id) later) (filter (hears n) (until_close n.state (length (found_by (plain_from start before) turn.at).events) es))) (sym (grown_is id event pattern (length (found_by (plain_from start before) turn.at).events) (found_by (plain_from start before) turn.at).events (plain_from start (before ++ turn ∷ later)) all.since));
  }
    where
      all : After id event pattern (length (found_by (plain_from start before) turn.at).events) (found_by (plain_from start before) turn.at).events hearing.Running (how_many (pops id) later + 0) (plain_from start (before ++ turn ∷ later))
      all = subst (λ (p : Plain). After id event pattern (length (found_by (plain_from start before) turn.at).events) (found_by (plain_from start before) turn.at).events hearing.Running (how_many (pops id) later + 0) p) (sym (plain_from-append start before (turn ∷ later)))
          (after_history id event pattern (length (found_by (plain_from start before) turn.at).events) (found_by (plain_from start before) turn.at).events hearing.Running 0 (after (plain_from start before) turn) later (LegalFrom-back start before (turn ∷ later) legal).1
          (sound_Step (plain_from start before) turn (after (plain_from start before) turn) (last_step start before turn later legal) (sound_before start before (turn ∷ later) from legal)) registered)

      row : Same event pattern (length (found_by (plain_from start before) turn.at).events) n
      row = all.since.rows n there

      kept : Kept id (length (found_by (plain_from start before) turn.at).events) hearing.Running (how_many (pops id) later + 0) n
      kept = all.popped n there

      no_first : (k x : ℕ) → x ≡ k + 0 → x ≡ k
      no_first k x e = omega (arith, e)

-- From the start on.

no_more : (es : List Raised) → es ≡ es ++ []
no_more es = sym (append-nil es)

hears_same : (n first : Notifier) → n.event ≡ first.event → n.pattern ≡ first.pattern → (e : Raised) → hears n e ≡ hears first e
unfolding hears
hears_same n first event_is pattern_is e = rw (event_is, pattern_is) refl

filter_same : (p q : Raised → Bool) → ((e : Raised) → p e ≡ q e) → (es : List Raised) → filter p es ≡ filter q es
filter_same p q same [] = refl
filter_same p q same (e ∷ es) = grind (arith, same e, filter_same p q same es)

take_beyond : (u : ℕ) (xs ys : List Raised) → length xs ≤ u → take u (xs ++ ys) ≡ xs ++ take (u - length xs) ys
take_beyond u xs ys le = ap (λ (k : ℕ). take k (xs ++ ys)) (parts (length xs) u le) ∙ take-append-add xs ys (u - length xs)

-- what a notifier of the start may hear is what it might there, and what it may of the events since
split : (since : ℕ) (a grown : List Raised) (was st : Hearing) → ends_within since (length a) was ≡ true → Became (length a) was st → drop since (until_end st (a ++ grown)) ≡ drop since (until_end was a) ++ until_close st (length a) grown
split since a grown hearing.Running hearing.Running within became = drop-append-le since a grown (le_of since (length a) within)
split since a grown hearing.Running (hearing.Closed l u) within became =
    ap (drop since) (take_beyond u a grown became) ∙ drop-append-le since a (take (u - length a) grown) (le_of since (length a) within)
split since a grown (hearing.Closed l u) st within became =
    ap (λ (st : Hearing). drop since (until_end st (a ++ grown))) became
    ∙ (ap (drop since) (take-append-le u a grown (le_of u (length a) (back _ _ within)))
    ∙ (sym (append-nil (drop since (take u a)))
    ∙ (ap (λ (k : ℕ). drop since (take u a) ++ take k grown) (none u (length a) (le_of u (length a) (back _ _ within)))
    ∙ ap (λ (st : Hearing). drop since (take u a) ++ until_close st (length a) grown) (sym became))))
  where
    back : (a b : Bool) → (a && b) ≡ true → b ≡ true
    back a b e = grind arith

    none : (u n : ℕ) → u ≤ n → 0 ≡ u - n
    none u n le = omega (arith, le)

old_queue : (first n : Notifier) (a grown es : List Raised) (popped : ℕ) → es ≡ a ++ grown → n.event ≡ first.event → n.pattern ≡ first.pattern → n.since ≡ first.since → n.popped ≡ popped + first.popped → hears_within a first ≡ true → Became (length a) first.state n.state → queue n es ≡ drop popped (queue first a ++ filter (hears n) (until_close n.state (length a) grown))
old_queue first n a grown es popped e event_is pattern_is since_is count within became =
    ap (λ (k : ℕ). drop k (filter (hears n) (drop n.since (until_end n.state es)))) count
    ∙ (ap (λ (es : List Raised). drop (popped + first.popped) (filter (hears n) (drop n.since (until_end n.state es)))) e
    ∙ (ap (λ (k : ℕ). drop (popped + first.popped) (filter (hears n) (drop k (until_end n.state (a ++ grown))))) since_is
    ∙ (ap (λ (es : List Raised). drop (popped + first.popped) (filter (hears n) es)) (split first.since a grown first.state n.state (front _ _ within) became)
    ∙ (ap (drop (popped + first.popped)) (filter-append (hears n) (drop first.since (until_end first.state a)) (until_close n.state (length a) grown))
    ∙ (ap (λ (es : List Raised). drop (popped + first.popped) (es ++ filter (hears n) (until_close n.state (length a) grown))) (filter_same (hears n) (hears first) (hears_same n first event_is pattern_is) (drop first.since (until_end first.state a)))
    ∙ (ap (λ (k : ℕ). drop k (heard first a ++ filter (hears n) (until_close n.state (length a) grown))) (turned popped first.popped)
    ∙ (sym (drop-drop popped first.popped (heard first a ++ filter (hears n) (until_close n.state (length a) grown)))
    ∙ ap (drop popped) (drop-append-le first.popped (heard first a) (filter (hears n) (until_close n.state (length a) grown)) (le_of first.popped (length (heard first a)) (back _ _ within))))))))))
  where
    turned : (a b : ℕ) → a + b ≡ b + a
    turned a b = omega arith

    front : (a b : Bool) → (a && b) ≡ true → a ≡ true
    front a b e = grind arith

    back : (a b : Bool) → (a && b) ≡ true → b ≡ true
    back a b e = grind arith

some_same : {x y : Notifier} → Some x ≡ Some y → x ≡ y
some_same e = grind arith

-- as it is at the start
at_start : (start : Plain) (id : ℕ) (first : Notifier) → Sound start → notifier_at start id ≡ Some first → After id first.event first.pattern first.since start.events first.state first.popped start
at_start start id first sound there = record {
  since = record {
    grown = [];
    events = no_more start.events;
    minted = minted_below id start.next start.notifiers first there (back _ _ sound.numbered.notifiers);
    rows = λ n e. subst (λ (m : Notifier). Same first.event first.pattern first.since m) (some_same (sym there ∙ e)) (record { event_is = refl; pattern_is = refl; since_is = refl });
  };
  popped = λ n e. subst (λ (m : Notifier). Kept id (length start.events) first.state first.popped m) (some_same (sym there ∙ e)) (record { popped_is = refl; became = begins_so (length start.events) first.state });
}
  where
    back : (a b : Bool) → (a && b) ≡ true → b ≡ true
    back a b e = grind arith

pub old_queue_is_exact : (start : Plain) (h : List Turn) (id : ℕ) (first n : Notifier) → IsStart start → LegalFrom start h → notifier_at start id ≡ Some first → notifier_at (plain_from start h) id ≡ Some n → (n.event ≡ first.event) × (n.pattern ≡ first.pattern) × (queue n (plain_from start h).events ≡ drop (how_many (pops id) h) (queue first start.events ++ filter (hears n) (until_close n.state (length start.events) (raised_since start (plain_from start h)))))
old_queue_is_exact start h id first n from legal was there = (row.event_is, row.pattern_is, queue_is)
  where
    all : After id first.event first.pattern first.since start.events first.state (how_many (pops id) h + first.popped) (plain_from start h)
    all = after_history id first.event first.pattern first.since start.events first.state first.popped start h legal from.sound (at_start start id first from.sound was)

    row : Same first.event first.pattern first.since n
    row = all.since.rows n there

    kept : Kept id (length start.events) first.state (how_many (pops id) h + first.popped) n
    kept = all.popped n there

    queue_is : queue n (plain_from start h).events ≡ drop (how_many (pops id) h) (queue first start.events ++ filter (hears n) (until_close n.state (length start.events) (raised_since start (plain_from start h))))
    queue_is = old_queue first n start.events all.since.grown (plain_from start h).events (how_many (pops id) h) all.since.events row.event_is row.pattern_is row.since_is kept.popped_is
        (all_at (hears_within start.events) (λ n. n.id) id start.notifiers first was from.sound.heard) kept.became
        ∙ ap (λ (es : List Raised). drop (how_many (pops id) h) (queue first start.events ++ filter (hears n) (until_close n.state (length start.events) es))) (sym (grown_is id first.event first.pattern first.since start.events (plain_from start h) all.since))
