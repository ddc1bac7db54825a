-- What a script does, and how it goes on by what it is answered: docs/SESSIONS.md, Scripts.
use Rattle.std.specs.Prelude.{ℕ, zero, suc, List, [], ◌∷◌, length, Option, None, Some}
use Rattle.drb_tree.specs.declared.Remote.{Remote}
use Rattle.rinda_rules.specs.declared.event.Event.{Event}
use Rattle.rinda_rules.specs.declared.out.Out.{Out}
use Rattle.drb_back.specs.declared.back.Back.{Back}
use Rattle.drb_back.specs.declared.back.Back.TheVariants as back
use Rattle.drb_script.specs.declared.reply.Failure.{Failure}
use Rattle.drb_script.specs.declared.reply.Reply.{Reply}
use Rattle.drb_script.specs.declared.reply.Reply.TheVariants as reply
use Rattle.drb_script.specs.declared.next.Saying.{Saying}
use Rattle.drb_script.specs.declared.next.Loose.{Loose}
use Rattle.drb_script.specs.declared.next.Loose.TheVariants.{Nothing}

-- what is done: a turn of the space, or a call of a peer
pub data Deed : Type 0 where
  makes : Event → Deed
  calls : Remote → Saying → Deed

-- what it is answered
pub data Answer : Type 0 where
  by_space : Out → Answer
  by_peer : Back → Answer

-- How it goes by a list of answers. One deed was done, and then it goes on; this is known by now, and
-- these answers are left; the reply was this; no answer is left, this is to be done next, and this would
-- be left behind; a call found no memory, which ends it, and this is left behind; or an answer isn't of
-- the kind that was asked for.
pub data Course (A : Type 0) : Type 0 where
  does : Deed → Course A → Course A
  holds : A → List Answer → Course A
  replied : Reply → List Answer → Course A
  wants : Loose → Deed → Course A
  lost : Loose → List Answer → Course A
  strange : Course A

-- what is done by a list of answers
abbrev pub Acting : Type 0 → Type 0
Acting A = List Answer → Course A

-- this is known, and nothing is done
abbrev pub gives : {A : Type 0} → A → Acting A
gives a answers = holds a answers

-- it ends with this reply
abbrev pub replies : {A : Type 0} → Reply → Acting A
replies r answers = replied r answers

-- it ends with this failure
abbrev pub fails : {A : Type 0} → Failure → Acting A
fails why = replies (reply.Failure why)

-- a turn is made; until it is answered, this would be left behind
abbrev pub turn_over : Loose → Event → Acting Out
turn_over loose event [] = wants loose (makes event)
turn_over loose event (by_space out ∷ rest) = does (makes event) (holds out rest)
turn_over loose event (by_peer back ∷ rest) = strange

-- what a call came to, unless there was no memory for it: then the call is the last that is done
abbrev pub kept : Loose → Back → Acting Back
kept loose back.Memory answers = lost loose answers
kept loose result answers = holds result answers

-- a peer is called; until it has answered, this would be left behind
abbrev pub call_over : Loose → Remote → Saying → Acting Back
call_over loose to saying [] = wants loose (calls to saying)
call_over loose to saying (by_space out ∷ rest) = strange
call_over loose to saying (by_peer back ∷ rest) = does (calls to saying) (kept loose back rest)

-- a turn is made, and nothing would be left behind
abbrev pub turn : Event → Acting Out
turn event = turn_over Nothing event

-- a peer is called, and nothing would be left behind
abbrev pub call : Remote → Saying → Acting Back
call to saying = call_over Nothing to saying

-- what is done with what is known
abbrev pub on : {A B : Type 0} → Course A → (A → Acting B) → Course B
on (does deed course) f = does deed (on course f)
on (holds a rest) f = f a rest
on (replied r rest) f = replied r rest
on (wants loose deed) f = wants loose deed
on (lost loose rest) f = lost loose rest
on strange f = strange

-- one after the other
infixl 10 ◌>>=◌
abbrev pub ◌>>=◌ : {A B : Type 0} → Acting A → (A → Acting B) → Acting B
(p >>= f) answers = on (p answers) f

-- what was found, or else this is done
abbrev pub found_or : {A : Type 0} → Acting A → Option A → Acting A
found_or p None = p
found_or p (Some a) = gives a

-- again and again, at most so many times
abbrev pub tries : {A : Type 0} → ℕ → Acting (Option A) → Acting A
tries zero p answers = strange
tries (suc n) p answers = on (p answers) (found_or (tries n p))

-- Again and again, until something is found. Each time takes an answer, so there are no more times than
-- answers, and one.
unfoldable pub repeat : {A : Type 0} → Acting (Option A) → Acting A
repeat p answers = tries (suc (length answers)) p answers
