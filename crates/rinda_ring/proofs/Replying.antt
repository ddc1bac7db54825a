-- Which replies a script has.
use Rattle.std.proofs.Common.{ℕ, zero, suc, List, [], ◌∷◌, map, length, subst}
use Rattle.std.specs.Prelude.{None, Some}
use Rattle.std.specs.declared.option.Option.{Option}
use Rattle.drb_tree.specs.declared.Remote.{Remote}
use Rattle.rinda_tuple.specs.declared.tuple.Tuple.{Tuple}
use Rattle.rinda_rules.specs.declared.event.Event.{Event}
use Rattle.rinda_rules.specs.declared.event.Event.TheVariants as event
use Rattle.rinda_rules.specs.declared.event.Kind.{Kind}
use Rattle.rinda_rules.specs.declared.event.Kind.TheVariants.{Take}
use Rattle.rinda_tuple.specs.declared.tuple.Template.{Template}
use Rattle.rinda_tuple.specs.declared.lease.Life.TheVariants as life
use Rattle.rinda_rules.specs.declared.out.Out.{Out}
use Rattle.rinda_rules.specs.declared.out.Out.TheVariants as out
use Rattle.drb_dispatch.specs.declared.call.Call.{Call}
use Rattle.drb_dispatch.specs.declared.call.Lasting.{Lasting}
use Rattle.drb_dispatch.specs.declared.call.Lasting.TheVariants.{Known, Renewer}
use Rattle.drb_back.specs.declared.back.Back.{Back}
use Rattle.drb_back.specs.declared.back.Back.TheVariants as back
use Rattle.drb_script.specs.declared.patience.Patience.{Patience}
use Rattle.drb_script.specs.declared.patience.Patience.TheVariants.{Never, Wait}
use Rattle.drb_script.specs.declared.reply.Reply.{Reply}
use Rattle.drb_script.specs.declared.reply.Reply.TheVariants as reply
use Rattle.drb_script.specs.declared.next.Saying.{Saying}
use Rattle.drb_script.specs.declared.next.Loose.{Loose}
use Rattle.drb_script.specs.declared.next.Loose.TheVariants.{Nothing, Reserved}
use Rattle.drb_script.specs.Acting.{Deed, Answer, by_space, by_peer, Course, does, holds, replied, wants, lost, strange, Acting, turn, turn_over, call, call_over, kept, on, found_or, tries, repeat}
use Rattle.drb_script.specs.Scripts.{life_part, made, write, reserved, looks, awaits, waiting_part, port_part, ask, script}
use Rattle.drb_script.specs.Stands.{Action, deed_of, answer_of, doing, Script}
use Rattle.rinda_ring.specs.declared.lookup.Lookup.{Lookup}
use Rattle.rinda_ring.specs.Tasks.{write_of, pattern, take_lookup}

-- the reply of a course, where it has one, is such
abbrev pub Only : {A : Type 0} → (Reply → Type 0) → Course A → Type 0
Only P (does deed course) = Only P course
Only P (holds a rest) = Unit {0}
Only P (replied r rest) = P r
Only P (wants loose deed) = Unit {0}
Only P (lost loose rest) = Unit {0}
Only P strange = Unit {0}

only_on : {A B : Type 0} (P : Reply → Type 0) (course : Course A) (f : A → Acting B) → Only P course → ((a : A) (rest : List Answer) → Only P (f a rest)) → Only P (on course f)
only_on P (does deed course) f h k = only_on P course f h k
only_on P (holds a rest) f h k = k a rest
only_on P (replied r rest) f h k = h
only_on P (wants loose deed) f h k = tt
only_on P (lost loose rest) f h k = tt
only_on P strange f h k = tt

pub only_doing : (P : Reply → Type 0) (deeds : List Deed) (course : Course (Unit {0})) → Only P (doing deeds course) → Only P course
only_doing P [] course h = h
only_doing P (d ∷ deeds) course h = only_doing P deeds course h

-- what holds of each reply of a script holds of this one
pub only_reply : (P : Reply → Type 0) (p : Patience) (call : Call) (actions : List Action) (r : Reply) → Only P (script p call (map answer_of actions)) → Script p call actions r → P r
only_reply P p call actions r h s = only_doing P (map deed_of actions) (replied r []) (subst (λ (c : Course (Unit {0})). Only P c) s h)

only_turn : (P : Reply → Type 0) (loose : Loose) (e : Event) (answers : List Answer) → Only P (turn_over loose e answers)
only_turn P loose e [] = tt
only_turn P loose e (by_space o ∷ rest) = tt
only_turn P loose e (by_peer b ∷ rest) = tt

only_kept : (P : Reply → Type 0) (loose : Loose) (b : Back) (answers : List Answer) → Only P (kept loose b answers)
only_kept P loose back.Memory answers = tt
only_kept P loose b answers = tt

only_call : (P : Reply → Type 0) (loose : Loose) (to : Remote) (saying : Saying) (answers : List Answer) → Only P (call_over loose to saying answers)
only_call P loose to saying [] = tt
only_call P loose to saying (by_space o ∷ rest) = tt
only_call P loose to saying (by_peer b ∷ rest) = only_kept P loose b rest

only_life : (P : Reply → Type 0) (life : Lasting) (answers : List Answer) → Only P (life_part life answers)
only_life P (Known life) answers = tt
only_life P (Renewer r) answers = only_on P (call r _ answers) _ (only_call P Nothing r _ answers) (λ b rest. tt)

-- Writes.

-- a reference, or a failure
abbrev pub IsWriteReply : Reply → Type 0
IsWriteReply (reply.Object id) = Unit {0}
IsWriteReply (reply.Failure why) = Unit {0}
IsWriteReply _ = ⊥

only_made : (o : Out) (rest : List Answer) → Only IsWriteReply (made o rest)
only_made (out.Entry id) rest = tt
only_made (out.Notifier id) rest = tt
only_made o rest = tt

only_write : (value : Tuple) (life : Lasting) (answers : List Answer) → Only IsWriteReply (write value life answers)
only_write value life answers = only_on IsWriteReply (life_part life answers) _ (only_life IsWriteReply life answers)
    (λ l rest. only_on IsWriteReply (turn (event.Write value l) rest) _ (only_turn IsWriteReply Nothing (event.Write value l) rest) only_made)

pub write_replies : (p : Patience) (lookup : Lookup) (actions : List Action) (r : Reply) → Script p (write_of lookup) actions r → IsWriteReply r
write_replies p lookup actions r s = only_reply IsWriteReply p (write_of lookup) actions r (only_write lookup.tuple _ (map answer_of actions)) s

-- Takes.

-- a tuple, or a failure
abbrev pub IsTakeReply : Reply → Type 0
IsTakeReply (reply.Value v) = Unit {0}
IsTakeReply (reply.Failure why) = Unit {0}
IsTakeReply _ = ⊥

only_reserved : (o : Out) (rest : List Answer) → Only IsTakeReply (reserved o rest)
only_reserved (out.Reserved id) rest = tt
only_reserved o rest = tt

only_found : {A : Type 0} (P : Reply → Type 0) (q : Acting A) → ((answers : List Answer) → Only P (q answers)) → (a : Option A) (rest : List Answer) → Only P (found_or q a rest)
only_found P q k None rest = k rest
only_found P q k (Some a) rest = tt

only_tries : {A : Type 0} (P : Reply → Type 0) (n : ℕ) (q : Acting (Option A)) → ((answers : List Answer) → Only P (q answers)) → (answers : List Answer) → Only P (tries n q answers)
only_tries P zero q k answers = tt
only_tries P (suc n) q k answers = only_on P (q answers) (found_or (tries n q)) (k answers) (only_found P (tries n q) (only_tries P n q k))

only_looks : (P : Reply → Type 0) (e : Event) (answers : List Answer) → Only P (looks e answers)
only_looks P e answers = only_on P (turn e answers) _ (only_turn P Nothing e answers) (λ o rest. tt)

only_awaits : (P : Reply → Type 0) (e : Event) (answers : List Answer) → Only P (awaits e answers)
unfolding repeat
only_awaits P e answers = only_tries P (suc (length answers)) (looks e) (only_looks P e) answers

only_waiting : (P : Reply → Type 0) (p : Patience) (id : ℕ) (o : Out) (answers : List Answer) → Only P (waiting_part p id o answers)
only_waiting P Never id (out.Parked n) answers = only_turn P Nothing (event.Withdraw id) answers
only_waiting P Wait id (out.Parked n) answers = only_awaits P (event.Collect id) answers
only_waiting P p id o answers = tt

only_port : (id : ℕ) (o : Out) (rest : List Answer) → Only IsTakeReply (port_part None id o rest)
only_port id (out.Answer v) rest = tt
only_port id o rest = tt

only_ask : (p : Patience) (kind : Kind) (pattern : Template) (life : Lasting) (answers : List Answer) → Only IsTakeReply (ask p kind pattern None life None answers)
only_ask p kind pattern life answers = only_on IsTakeReply (life_part life answers) _ (only_life IsTakeReply life answers)
    (λ l rest. only_on IsTakeReply (turn (event.Reserve kind pattern l) rest) _ (only_turn IsTakeReply Nothing (event.Reserve kind pattern l) rest)
    (λ o rest. only_on IsTakeReply (reserved o rest) _ (only_reserved o rest)
    (λ id rest. only_on IsTakeReply (turn_over (Reserved id) (event.Submit id) rest) _ (only_turn IsTakeReply (Reserved id) (event.Submit id) rest)
    (λ s rest. only_on IsTakeReply (waiting_part p id s rest) _ (only_waiting IsTakeReply p id s rest)
    (λ answer rest. only_port id answer rest)))))

pub take_replies : (p : Patience) (actions : List Action) (r : Reply) → Script p take_lookup actions r → IsTakeReply r
take_replies p actions r s = only_reply IsTakeReply p take_lookup actions r (only_ask p Take pattern (Known life.Never) (map answer_of actions)) s
