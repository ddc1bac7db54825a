-- What is left of a script where the machine stands. Nothing here has to be believed: the contracts tie it to the scripts.
use Rattle.std.specs.Prelude.{◌≡◌, ℕ, Bool, true, false, List, Option, Some}
use Rattle.drb_tree.specs.declared.Remote.{Remote}
use Rattle.rinda_tuple.specs.declared.lease.Lease.{Lease}
use Rattle.rinda_rules.specs.declared.event.Event.{Event}
use Rattle.rinda_rules.specs.declared.event.Event.TheVariants as event
use Rattle.rinda_rules.specs.declared.out.Out.{Out}
use Rattle.rinda_rules.specs.declared.out.Out.TheVariants as out
use Rattle.drb_script.specs.declared.patience.Patience.{Patience}
use Rattle.drb_script.specs.declared.patience.Patience.TheVariants as patience
use Rattle.drb_dispatch.specs.declared.call.Lasting.{Lasting}
use Rattle.drb_back.specs.declared.back.Back.{Back}
use Rattle.drb_back.specs.declared.back.Back.TheVariants as back
use Rattle.drb_script.specs.declared.reply.Failure.TheVariants as failure
use Rattle.drb_script.specs.declared.reply.Reply.TheVariants as reply
use Rattle.drb_script.specs.declared.next.Loose.{Loose}
use Rattle.drb_script.specs.declared.next.Loose.TheVariants.{Nothing, Reserved, Granted}
use Rattle.drb_script.specs.declared.next.Leasing.{Leasing}
use Rattle.drb_script.specs.declared.next.Leasing.TheVariants as leasing
use Rattle.drb_script.specs.declared.next.AfterTurn.{AfterTurn}
use Rattle.drb_script.specs.declared.next.AfterTurn.TheVariants as at
use Rattle.drb_script.specs.declared.next.AfterCall.{AfterCall}
use Rattle.drb_script.specs.declared.next.AfterCall.TheVariants as of
use Rattle.drb_script.specs.declared.next.Next.{Next}
use Rattle.drb_script.specs.declared.next.Next.TheVariants as next
use Rattle.drb_script.specs.Acting.{Answer, lost, Acting, gives, replies, fails, turn, turn_over, call_over, kept, ◌>>=◌, found_or}
use Rattle.drb_script.specs.Scripts.{lease, life_from, life_part, round, made, listed, reserved, told, block_part, unless_not_yet, awaits, waiting_part, pushed, port_part, changed, looked, valued, popped, is_value, heard, rounds, unheard}

-- a request, from its submission on
abbrev pub submitted : Patience → ℕ → Option Remote → Out → Acting (Unit {0})
submitted p id port s = do
  answer ← waiting_part p id s
  port_part port id answer

-- a request, before its submission
abbrev pub submit : Patience → ℕ → Option Remote → Acting (Unit {0})
submit p id port = do
  s ← turn_over (Reserved id) (event.Submit id)
  submitted p id port s

-- a request, from its block part on
abbrev pub tell : Patience → ℕ → Option Remote → Option Remote → Acting (Unit {0})
tell p id port block = do
  u ← block_part block id
  submit p id port

-- a request, from its reservation on
abbrev pub after_reserved : Patience → Option Remote → Option Remote → Out → Acting (Unit {0})
after_reserved p port block o = do
  id ← reserved o
  tell p id port block

-- this answer, or where it is NotYet that of a later look
abbrev pub at_last : Event → Out → Acting Out
at_last e o = found_or (awaits e) (unless_not_yet o)

-- the answer to a request's event
abbrev pub collect_answer : Patience → ℕ → Out → Acting Out
collect_answer patience.Never id o = gives o
collect_answer patience.Wait id o = at_last (event.Collect id) o

-- what follows a collect's answer
abbrev pub collected : Patience → ℕ → Option Remote → Out → Acting (Unit {0})
collected p id port o = do
  answer ← collect_answer p id o
  port_part port id answer

-- a request that waits
abbrev pub waits : Patience → ℕ → Option Remote → Acting (Unit {0})
waits patience.Never id port = do
  o ← turn (event.Withdraw id)
  port_part port id o
waits patience.Wait id port = do
  o ← awaits (event.Collect id)
  port_part port id o

-- what follows a block's answer
abbrev pub after_told : Patience → ℕ → Option Remote → Remote → Back → Acting (Unit {0})
after_told p id port block b = do
  u ← told id block b
  submit p id port

-- the answer to a pop part's event
abbrev pub pop_answer : Patience → ℕ → Out → Acting Out
pop_answer patience.Never id o = gives o
pop_answer patience.Wait id o = at_last (event.Pop id) o

-- the further rounds, and the end
abbrev pub ending : Patience → ℕ → Remote → Bool → Acting (Unit {0})
ending p id block more = do
  u ← rounds p id block more
  c ← turn (event.Cancel id)
  replies reply.Nil

-- what follows what was popped for a block
abbrev pub hearing : Patience → Bool → ℕ → Remote → Out → Acting (Unit {0})
hearing p first id block o = do
  more ← heard first id block o
  ending p id block more

-- what follows a pop's answer
abbrev pub pop_again : Patience → ℕ → Out → Acting (Unit {0})
pop_again p id o = do
  answer ← pop_answer p id o
  popped id answer

-- what follows the answer to a pop for a block
abbrev pub hear_again : Patience → ℕ → Remote → Bool → Out → Acting (Unit {0})
hear_again p id block first o = do
  answer ← pop_answer p id o
  hearing p first id block answer

-- there is nothing yet
abbrev pub is_not_yet : Out → Bool
is_not_yet out.NotYet = true
is_not_yet _ = false

-- one who waits and was answered NotYet looks again
abbrev pub looks_again : Patience → Out → Bool
looks_again patience.Never o = false
looks_again patience.Wait o = is_not_yet o

-- there was no memory for the call
abbrev pub is_memory : Back → Bool
is_memory back.Memory = true
is_memory _ = false

-- what follows the life part
abbrev pub after_lease : Patience → Leasing → Lease → Acting (Unit {0})
after_lease p (leasing.Write value) l = do
  o ← turn (event.Write value l)
  made o
after_lease p (leasing.Ask kind pattern port block) l = do
  o ← turn (event.Reserve kind pattern l)
  after_reserved p port block o
after_lease p (leasing.Notify heard pattern) l = do
  o ← turn (event.Notify heard pattern l)
  made o
after_lease p (leasing.Renew id) l = do
  o ← turn (event.Renew id l)
  changed id o

-- what is left behind where the turn that is asked for isn't made
abbrev pub loose_turn : AfterTurn → Loose
loose_turn (at.Untold id block back) = Reserved id
loose_turn (at.Submitted id port) = Reserved id
loose_turn (at.Unsettled id port back) = Granted id
loose_turn _ = Nothing

-- what is left behind where the call that is asked for finds no memory
abbrev pub loose_call : AfterCall → Loose
loose_call (of.Told id port) = Reserved id
loose_call (of.Pushed id) = Granted id
loose_call _ = Nothing

-- what is left behind where it goes no further
abbrev pub loose_next : Next → Loose
loose_next (next.Turn event then) = loose_turn then
loose_next (next.Call to saying then) = loose_call then
loose_next (next.Reply r) = Nothing
loose_next (next.Lost loose) = loose

-- what follows a turn's answer
abbrev pub after_turn : Patience → AfterTurn → Out → Acting (Unit {0})
after_turn p at.Made o = made o
after_turn p at.Listed o = listed o
after_turn p (at.Reserved port block) o = after_reserved p port block o
after_turn p (at.Untold id block back) o = fails (failure.Call block back)
after_turn p (at.Submitted id port) o = submitted p id port o
after_turn p (at.Withdrawn id port) o = port_part port id o
after_turn p (at.Collected id port) o = collected p id port o
after_turn p at.Settled o = replies reply.Nil
after_turn p (at.Unsettled id port back) o = fails (failure.Call port back)
after_turn p (at.Changed id) o = changed id o
after_turn p (at.Looked id flag) o = looked id flag o
after_turn p (at.Valued id) o = valued id o
after_turn p (at.Popped id) o = pop_again p id o
after_turn p (at.Unheard id) o = unheard id o
after_turn p (at.Heard id block first) o = hear_again p id block first o
after_turn p at.Ended o = replies reply.Nil

-- what follows what a call came to
abbrev pub after_call : Patience → AfterCall → Remote → Back → Acting (Unit {0})
after_call p (of.Leased then) to b = after_lease p then (lease (life_from b) (Some to))
after_call p (of.Told id port) to b = after_told p id port to b
after_call p (of.Pushed id) to b = pushed id to b
after_call p (of.Given id) to b = ending p id to (is_value b)
after_call p (of.Closed id) to b = ending p id to false

-- what a call came to, and what is left then
abbrev pub after_back : Patience → AfterCall → Remote → Back → Acting (Unit {0})
after_back p then to b = do
  result ← kept (loose_call then) b
  after_call p then to result

-- what is left
abbrev pub rest : Patience → Next → Acting (Unit {0})
rest p (next.Turn event then) = do
  o ← turn_over (loose_turn then) event
  after_turn p then o
rest p (next.Call to saying then) = do
  b ← call_over (loose_call then) to saying
  after_call p then to b
rest p (next.Reply r) = replies r
rest p (next.Lost loose) = λ answers. lost loose answers

-- exactly this is left
abbrev pub Leaves : Patience → Next → Acting (Unit {0}) → Type 0
Leaves p next q = (answers : List Answer) → rest p next answers ≡ q answers

-- the life part and what follows it
abbrev pub leased : Patience → Lasting → Leasing → Acting (Unit {0})
leased p life then = do
  l ← life_part life
  after_lease p then l

-- the event of a pop part
abbrev pub pop_event : Patience → ℕ → Event
pop_event patience.Never id = event.Withdraw id
pop_event patience.Wait id = event.Pop id

-- the rounds from this one on
abbrev pub from_round : Patience → Bool → ℕ → Remote → Acting (Unit {0})
from_round p first id block = do
  more ← round p first id block
  ending p id block more

-- how far it is from the next turn: a reply is two, a call one, a turn none
abbrev pub weight : Next → ℕ
weight (next.Turn event then) = 0
weight (next.Call to saying then) = 1
weight (next.Reply r) = 2
weight (next.Lost loose) = 0

-- an event that may find nothing to do
abbrev pub is_glance : Event → Bool
is_glance (event.Collect id) = true
is_glance (event.Pop id) = true
is_glance event.NextAsk = true
is_glance event.Tick = true
is_glance _ = false

-- the next turn may find nothing to do
abbrev pub may_wait : Next → Bool
may_wait (next.Turn e then) = is_glance e
may_wait _ = false
