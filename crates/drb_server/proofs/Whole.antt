-- What a whole run comes to.
use Rattle.std.proofs.Common.{◌≡◌, ◌∙◌, ℕ, ◌≤◌, List, [], length, refl, sym, ap, subst, arith, inl, inr, Option, Some, None}
use Rattle.std.specs.Prelude.{Err, ◌↔◌}
use Rattle.drb_outside.specs.Telling.{told_same}
use Rattle.drb_packet.specs.declared.refusal.PacketError.TheVariants as fault
use Rattle.drb_packet.specs.Reads.{ReadsRequest}
use Rattle.rinda_rules.specs.declared.start.Start.{Start}
use Rattle.rinda_rules.specs.declared.turn.Turn.{Turn}
use Rattle.rinda_rules.specs.Space.{opening}
use Rattle.rinda_space.specs.Spaces.{Spaced, spaced, StartsAt}
use Rattle.drb_dispatch.specs.declared.place.Place.{Place}
use Rattle.drb_dispatch.specs.declared.planned.Planned.{Planned}
use Rattle.drb_dispatch.specs.declared.planned.Planned.TheVariants as outcome
use Rattle.drb_script.specs.declared.patience.Patience.TheVariants.{Never}
use Rattle.drb_script.specs.Stands.{Action}
use Rattle.drb_session.specs.declared.end.SessionEnd.{SessionEnd}
use Rattle.drb_session.specs.declared.end.SessionEnd.TheVariants.{Ended, Raised, Refused, ReadFault, WriteFault, Full, Memory}
use Rattle.drb_session.specs.Passes.{Pass, Lawful, alone, turns_by}
use Rattle.drb_session.specs.Calls.{turns_of}
use Rattle.drb_session.specs.Runs.{side}
use Rattle.drb_session.specs.Transcripts.{Last, nothing, whole, refusal, begun, Ends}
use Rattle.drb_session.specs.Session.{Session, HaltsFull, answering, EndsWhole}
use Rattle.drb_session.proofs.Wholes.{step_memory}
use Rattle.drb_server.specs.Words.{Options}
use Rattle.drb_server.specs.Runs.{Moment, RunsAt, when, after, status_of, IsWholeStatus}

whole_end : (end : SessionEnd) → EndsWhole end → IsWholeStatus (status_of end)
whole_end Ended h = inl refl
whole_end Raised h = inr (inl refl)
whole_end (Refused why) h = absurd h
whole_end ReadFault h = absurd h
whole_end WriteFault h = absurd h
whole_end (Full turns) h = inr (inr (inl refl))
whole_end Memory h = inr (inr (inr refl))

pub whole_status : (end : SessionEnd) (status : ℕ) → status ≡ status_of end → EndsWhole end → IsWholeStatus status
whole_status end status e h = subst (λ (n : ℕ). IsWholeStatus n) (sym e) (whole_end end h)

-- Where the history was full it is as long as it may be.

halts_full : (plan : Planned) (new : Pass) (actions : List Action) (turns : ℕ) → HaltsFull Never plan new actions turns → length new.seen ≡ new.cap
halts_full (outcome.Call call) new actions turns (loose, at, event, before, full) = full.full
halts_full (outcome.Raise exception) new actions turns h = absurd h

ends_full : (place : Place) (new : Pass) (turns : ℕ) (last : Last Action) → Ends (answering place Never) new (Full turns) last → length new.seen ≡ new.cap
ends_full place new turns nothing h = absurd h
ends_full place new turns (whole s) h = absurd h
ends_full place new turns (refusal why) h = absurd h
ends_full place new turns (begun request actions) h = halts_full _ new actions turns h

full_end : (place : Place) (new : Pass) (end : SessionEnd) (status : ℕ) (last : Last Action) → status ≡ status_of end → status ≡ 6 → Ends (answering place Never) new end last → length new.seen ≡ new.cap
full_end place new Ended status last e f h = let t : ◌≡◌ {A = ℕ} 0 6 = sym e ∙ f in absurd (omega arith)
full_end place new Raised status last e f h = let t : ◌≡◌ {A = ℕ} 2 6 = sym e ∙ f in absurd (omega arith)
full_end place new (Refused why) status last e f h = let t : ◌≡◌ {A = ℕ} 3 6 = sym e ∙ f in absurd (omega arith)
full_end place new ReadFault status last e f h = let t : ◌≡◌ {A = ℕ} 4 6 = sym e ∙ f in absurd (omega arith)
full_end place new WriteFault status last e f h = let t : ◌≡◌ {A = ℕ} 5 6 = sym e ∙ f in absurd (omega arith)
full_end place new (Full turns) status last e f h = ends_full place new turns last h
full_end place new Memory status last e f h = let t : ◌≡◌ {A = ℕ} 7 6 = sym e ∙ f in absurd (omega arith)

-- The only caller of a space that started empty.

lawful_at_first : (cap : ℕ) → Lawful (after [] cap)
lawful_at_first cap = record { origin = opening; starts = refl; legal = λ s e. tt; own = refl; few = omega arith; short = omega arith }

at_first : (caller cap : ℕ) (first : Spaced) → caller ≡ 0 → first ≡ spaced None [] cap → alone caller first ≡ after [] cap
at_first caller cap first e f = ap (λ (n : ℕ). alone n first) e ∙ ap (λ (v : Spaced). alone 0 v) f

at_last : (caller : ℕ) (start : Option Start) (turns : List Turn) (most cap : ℕ) → caller ≡ 0 → start ≡ None → most ≡ cap → alone caller (spaced start turns most) ≡ after turns cap
at_last caller start turns most cap d e f = ap (λ (n : ℕ). alone n (spaced start turns most)) d ∙ ap (λ (q : Option Start). alone 0 (spaced q turns most)) e ∙ ap (λ (q : ℕ). alone 0 (spaced None turns q)) f

runs_from : (place : Place) (cap : ℕ) (caller : ℕ) (last : Spaced) (end : SessionEnd) (status : ℕ) (old new : Moment) → status ≡ status_of end → Lawful (alone caller last) → Session place Never end (when (after [] cap) old) (when (alone caller last) new) → RunsAt place cap status old new
runs_from place cap caller last end status old new e l s =
    let sees = s.did.sees in
    let zero : caller ≡ 0 = sees.caller in
    let began : last.start ≡ None = sees.start in
    let most : last.cap ≡ cap = sees.cap in
    let same : alone caller last ≡ after last.turns cap = at_last caller last.start last.turns last.cap cap zero began most in
    let mine : turns_by caller last.turns ≡ turns_of s.actions = sees.mine in
    let seen : last.turns ≡ turns_of s.actions = sees.alone refl in
    record {
      history = last.turns;
      legal = l.legal opening (subst (λ (q : Option Start). StartsAt q opening) (sym began) refl);
      by_one = ap (λ (n : ℕ). turns_by n last.turns) (sym zero) ∙ mine ∙ sym seen;
      few = subst (λ (n : ℕ). length last.turns ≤ n) most l.few;
      end = end;
      status_is = e;
      session = subst (λ (p : Pass). Session place Never end (when (after [] cap) old) (when p new)) same s;
      full = λ six. full_end place (alone caller last) end status s.transcript.last e six s.transcript.ends ∙ most;
    }

pub runs_at : (place : Place) (cap caller next : ℕ) (first last : Spaced) (end : SessionEnd) (status : ℕ) (old new : Moment) → caller ≡ 0 → first ≡ spaced None [] cap → status ≡ status_of end → (Lawful (alone caller first) → Lawful (alone next last)) → Session place Never end (when (alone caller first) old) (when (alone next last) new) → RunsAt place cap status old new
runs_at place cap caller next first last end status old new d f e l s =
    let same : alone caller first ≡ after [] cap = at_first caller cap first d f in
    runs_from place cap next last end status old new e (l (subst Lawful (sym same) (lawful_at_first cap)))
    (subst (λ (p : Pass). Session place Never end (when p old) (when (alone next last) new)) same s)

-- nothing was done, for want of memory
pub nothing_done : (place : Place) (cap : ℕ) (m : Moment) → RunsAt place cap 7 m m
nothing_done place cap m = record {
  history = [];
  legal = tt;
  by_one = refl;
  few = omega arith;
  end = Memory;
  status_is = refl;
  session = step_memory place Never (side (after [] cap) m.readings m.calls m.dial_faults) m.wire.left m.wire.left m.wire.given m.wire.read_faults m.wire.read_faults m.wire.write_faults (omega arith) (told_same (ReadsRequest place.limits (Err fault.Memory)) m.wire.left m.wire.read_faults (λ x. record { taken = []; front = refl; says = tt }));
  full = λ six. absurd (omega arith);
}

-- What the words set is what was read of them.

some_set : (x o : Options) → Some x ≡ Some o → x ≡ o
some_set x o e = cc

pub for_read : (P Q : Options → Type 0) (x : Options) → ((o : Options) → P o ↔ Some x ≡ Some o) → Q x → (o : Options) → P o → Q o
for_read P Q x h q o p = subst Q (some_set x o ((h o).0 p)) q

pub for_none : (P Q : Options → Type 0) → ((o : Options) → P o ↔ None ≡ Some o) → (o : Options) → P o → Q o
for_none P Q h o p = let e : None ≡ Some o = (h o).0 p in absurd (cc)

pub words_read : (P : Options → Type 0) (x : Options) (status : ℕ) → ((o : Options) → P o ↔ Some x ≡ Some o) → (status ≡ 1 → ⊥) → (status ≡ 1 → (o : Options) → P o → ⊥) × (((o : Options) → P o → ⊥) → status ≡ 1)
words_read P x status h other = ((λ e. absurd (other e)), (λ none. absurd (none x ((h x).1 refl))))
