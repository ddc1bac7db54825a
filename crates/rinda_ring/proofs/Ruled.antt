-- What a space that keeps to the rules answers to a write.
use Rattle.std.proofs.Common.{◌≡◌, ℕ, List, [], ◌∷◌, ◌++◌, map, Bool, true, false, refl, sym, ◌∙◌, ap, subst, true≢false}
use Rattle.std.specs.Prelude.{None, Some, Ok, ◌==◌, if◌then◌else◌}
use Rattle.drb_tree.specs.declared.Remote.{Remote}
use Rattle.rinda_tuple.specs.declared.tuple.Tuple.{Tuple}
use Rattle.rinda_tuple.specs.declared.lease.Lease.{Lease}
use Rattle.rinda_rules.specs.declared.event.Event.{Event}
use Rattle.rinda_rules.specs.declared.event.Event.TheVariants.{Write, Tick}
use Rattle.rinda_rules.specs.declared.out.Out.{Out}
use Rattle.rinda_rules.specs.declared.out.Out.TheVariants as out
use Rattle.rinda_rules.specs.declared.turn.Turn.{Turn}
use Rattle.rinda_rules.specs.Space.{Plain}
use Rattle.rinda_rules.specs.Cases.{Outcome, answers, write_tuple, new_tuple}
use Rattle.rinda_rules.specs.Steps.{Step, found_by}
use Rattle.rinda_rules.specs.Fixed.{after}
use Rattle.rinda_rules.specs.Legal.{LegalFrom, MayCome, plain_from}
use Rattle.drb_dispatch.specs.declared.call.Call.{Call}
use Rattle.drb_dispatch.specs.declared.call.Lasting.{Lasting}
use Rattle.drb_dispatch.specs.declared.call.Lasting.TheVariants.{Known, Renewer}
use Rattle.drb_dispatch.specs.declared.place.Place.{Place}
use Rattle.drb_dispatch.specs.Calls.{lasting_of}
use Rattle.drb_back.specs.declared.back.Back.{Back}
use Rattle.drb_back.specs.declared.back.Back.TheVariants as back
use Rattle.drb_script.specs.declared.patience.Patience.TheVariants.{Never}
use Rattle.drb_script.specs.declared.reply.Failure.TheVariants as failure
use Rattle.drb_script.specs.declared.reply.Reply.{Reply}
use Rattle.drb_script.specs.declared.reply.Reply.TheVariants as reply
use Rattle.drb_script.specs.declared.next.Loose.TheVariants.{Nothing}
use Rattle.drb_script.specs.Acting.{makes, Answer, Course, does, replied, Acting, gives, turn, kept, on}
use Rattle.drb_script.specs.Scripts.{lease, life_from, made, write}
use Rattle.drb_script.specs.Stands.{Action, turned, called, deed_of, answer_of, doing, Script}
use Rattle.drb_session.specs.Passes.{Pass, Lawful, Sees, turns_by}
use Rattle.drb_session.specs.Calls.{turns_of}
use Rattle.drb_session.specs.Runs.{Side, Runs}
use Rattle.rinda_ring.specs.declared.lookup.Lookup.{Lookup}
use Rattle.rinda_ring.specs.declared.end.RingEnd.{RingEnd}
use Rattle.rinda_ring.specs.declared.end.RingEnd.TheVariants.{NoTuple}
use Rattle.rinda_ring.specs.Tasks.{write_of}
use Rattle.rinda_ring.specs.Rings.{end_written}
use Rattle.rinda_ring.proofs.Replying.{Only, only_doing}

-- Turns of one's own are among those that were seen.

-- the turn stands somewhere in the list
pub record In (t : Turn) (ts : List Turn) : Type 0 where
  pub before : List Turn
  pub behind : List Turn
  pub is : ts ≡ before ++ t ∷ behind

in_more : (t u : Turn) (ts : List Turn) → In t ts → In t (u ∷ ts)
in_more t u ts h = record { before = u ∷ h.before; behind = h.behind; is = ap (λ q. u ∷ q) h.is }

in_behind : (t : Turn) (xs ys : List Turn) → In t ys → In t (xs ++ ys)
in_behind t [] ys h = h
in_behind t (x ∷ xs) ys h = in_more t x (xs ++ ys) (in_behind t xs ys h)

in_first : (t : Turn) (ts : List Turn) → In t (t ∷ ts)
in_first t ts = record { before = []; behind = ts; is = refl }

first_or : Turn → List Turn → Turn
first_or t [] = t
first_or t (u ∷ us) = u

behind_first : List Turn → List Turn
behind_first [] = []
behind_first (u ∷ us) = us

in_split : (t u : Turn) (xs ys : List Turn) → ((t : Turn) → In t xs → In t ys) → (before behind : List Turn) → u ∷ xs ≡ before ++ t ∷ behind → In t (u ∷ ys)
unfolding first_or behind_first
in_split t u xs ys f [] behind e = record { before = []; behind = ys; is = ap (λ (q : List Turn). first_or t q ∷ ys) e }
in_split t u xs ys f (v ∷ before) behind e = in_more t u ys (f t (record { before = before; behind = behind; is = ap (λ (q : List Turn). behind_first q) e }))

-- of one who is there, and of the rest, where it is a turn of that caller
in_kept : (t u : Turn) (b : Bool) (xs ys : List Turn) → ((t : Turn) → In t xs → In t ys) → In t (if b then u ∷ xs else xs) → In t (u ∷ ys)
in_kept t u true xs ys f h = in_split t u xs ys f h.before h.behind h.is
in_kept t u false xs ys f h = in_more t u ys (f t h)

in_own : (t : Turn) (caller : ℕ) (ts : List Turn) → In t (turns_by caller ts) → In t ts
in_own t caller [] h = h
in_own t caller (u ∷ ts) h = in_kept t u (u.caller == caller) (turns_by caller ts) ts (λ t h. in_own t caller ts h) h

-- a turn that was made is among those that were seen
in_seen : (old new : Pass) (made : List Turn) (t : Turn) → Sees old new made → Lawful new → In t made → In t new.seen
in_seen old new made t s l h = in_own t new.caller new.seen
    (subst (λ (q : List Turn). In t q) (sym (l.own ∙ s.mine)) (in_behind t old.mine made h))

legal_in : (s : Plain) (before : List Turn) (t : Turn) (behind : List Turn) → LegalFrom s (before ++ t ∷ behind) → MayCome (plain_from s before) t
legal_in s [] t behind h = h.0
legal_in s (u ∷ before) t behind h = legal_in (after s u) before t behind h.1

-- A write.

abbrev pub is_written : Out → Bool
is_written (out.Entry id) = true
is_written out.Shut = true
is_written o = false

unless_shut_out : (b : Bool) (s : Plain) (case : Outcome) → is_written case.out ≡ true → is_written (if b then answers s out.Shut else case).out ≡ true
unless_shut_out true s case e = refl
unless_shut_out false s case e = e

step_write : (s : Plain) (t : Turn) (s' : Plain) (value : Tuple) (l : Lease) → t.event ≡ Write value l → Step s t.caller t.at t.event t.out t.picks s' → is_written t.out ≡ true
step_write s t s' value l e h =
    let k : Step s t.caller t.at (Write value l) t.out t.picks s' = subst (λ (q : Event). Step s t.caller t.at q t.out t.picks s') e h in
    let ready : Plain = found_by s t.at in
    ap (λ o. is_written o) k.0 ∙ unless_shut_out ready.shut ready (answers (write_tuple ready (new_tuple ready value l)) (out.Entry ready.next)) refl

-- each write among these turns was written, or the space is shut
abbrev pub WellWritten : List Turn → Type 0
WellWritten ts = (t : Turn) → In t ts → (value : Tuple) (l : Lease) → t.event ≡ Write value l → is_written t.out ≡ true

well_written : (old new : Pass) (made : List Turn) → Sees old new made → Lawful new → WellWritten made
well_written old new made s l t h value lease e =
    let k : In t new.seen = in_seen old new made t s l h in
    let m : MayCome (plain_from l.origin k.before) t = legal_in l.origin k.before t k.behind (subst (λ (q : List Turn). LegalFrom l.origin q) k.is (l.legal l.origin l.starts)) in
    step_write (plain_from l.origin k.before) t _ value lease e m.step

-- The script of a write.

-- a reference, or the space is shut
abbrev pub IsWritten : Reply → Type 0
IsWritten (reply.Object id) = Unit {0}
IsWritten (reply.Failure failure.Shut) = Unit {0}
IsWritten _ = ⊥

only_written : (o : Out) (answers : List Answer) → is_written o ≡ true → Only IsWritten (made o answers)
only_written (out.Entry id) answers e = tt
only_written out.Shut answers e = tt
only_written o answers e = absurd (true≢false (sym e))

event_or : Event → Course (Unit {0}) → Event
event_or e (does (makes f) course) = f
event_or e course = e

rest_of : Course (Unit {0}) → Course (Unit {0})
rest_of (does deed course) = course
rest_of course = course

-- a course without another reply
by_only : (actions : List Action) (r : Reply) (course : Course (Unit {0})) → Only IsWritten course → course ≡ doing (map deed_of actions) (replied r []) → IsWritten r
by_only actions r course h e = only_doing IsWritten (map deed_of actions) (replied r []) (subst (λ (q : Course (Unit {0})). Only IsWritten q) e h)

abbrev writing : Tuple → Lease → Acting (Unit {0})
writing value l answers = on (turn (Write value l) answers) made

by_turn : (value : Tuple) (l : Lease) (actions : List Action) (r : Reply) → WellWritten (turns_of actions) → writing value l (map answer_of actions) ≡ doing (map deed_of actions) (replied r []) → IsWritten r
unfolding event_or rest_of
by_turn value l [] r h e = by_only [] r (writing value l []) tt e
by_turn value l (called to s b ∷ actions) r h e = by_only (called to s b ∷ actions) r (writing value l (map answer_of (called to s b ∷ actions))) tt e
by_turn value l (turned t ∷ actions) r h e =
    by_only actions r (made t.out (map answer_of actions))
    (only_written t.out (map answer_of actions) (h t (in_first t (turns_of actions)) value l (sym (ap (λ (q : Course (Unit {0})). event_or Tick q) e))))
    (ap (λ (q : Course (Unit {0})). rest_of q) e)

by_back : (value : Tuple) (renewer : Remote) (b : Back) (actions : List Action) (r : Reply) → WellWritten (turns_of actions) → on (on (kept Nothing b (map answer_of actions)) (λ b. gives (lease (life_from b) (Some renewer)))) (λ l. writing value l) ≡ doing (map deed_of actions) (replied r []) → IsWritten r
by_back value renewer back.Memory actions r h e = by_only actions r _ tt e
by_back value renewer b actions r h e = by_turn value (lease (life_from b) (Some renewer)) actions r h e

by_life : (value : Tuple) (life : Lasting) (actions : List Action) (r : Reply) → WellWritten (turns_of actions) → write value life (map answer_of actions) ≡ doing (map deed_of actions) (replied r []) → IsWritten r
unfolding rest_of
by_life value (Known life) actions r h e = by_turn value (lease life None) actions r h e
by_life value (Renewer renewer) [] r h e = by_only [] r (write value (Renewer renewer) []) tt e
by_life value (Renewer renewer) (turned t ∷ actions) r h e = by_only (turned t ∷ actions) r (write value (Renewer renewer) (map answer_of (turned t ∷ actions))) tt e
by_life value (Renewer renewer) (called to s b ∷ actions) r h e = by_back value renewer b actions r h (ap (λ (q : Course (Unit {0})). rest_of q) e)

is_no_tuple : RingEnd → Type 0
is_no_tuple NoTuple = Unit {0}
is_no_tuple end = ⊥

written_ends : (r : Reply) → IsWritten r → end_written r ≡ NoTuple → ⊥
unfolding is_no_tuple
written_ends (reply.Object id) i e = subst (λ (q : RingEnd). is_no_tuple q) (sym e) tt
written_ends (reply.Failure failure.Shut) i e = subst (λ (q : RingEnd). is_no_tuple q) (sym e) tt
written_ends r i e = absurd i

-- in such a space a write is written, or refused since the space is shut
pub never_untupled : (place : Place) (lookup : Lookup) (call : Call) (a b : Side) (r : Reply) (end : RingEnd) → call ≡ write_of lookup → end ≡ end_written r → Lawful b.pass → Runs place Never call a b (Ok r) → end ≡ NoTuple → ⊥
never_untupled place lookup call a b r end e f l h n =
    let s : Script Never (write_of lookup) h.actions r = subst (λ (q : Call). Script Never q h.actions r) e h.comes in
    written_ends r (by_life lookup.tuple (lasting_of lookup.life) h.actions r (well_written a.pass b.pass (turns_of h.actions) h.did.sees l) s) (sym f ∙ n)
