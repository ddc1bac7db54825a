-- Scripts: the turns and the outgoing calls of each call, and its reply. docs/SESSIONS.md, Scripts.
use Rattle.std.specs.Prelude.{ℕ, Bool, true, false, Option, None, Some}
use Rattle.drb_tree.specs.declared.Tree.{Tree}
use Rattle.drb_tree.specs.declared.Tree.TheViews.{out-Tree}
use Rattle.drb_tree.specs.declared.Tree.TheOpen.{Tree-F}
use Rattle.drb_tree.specs.declared.Remote.{Remote}
use Rattle.rinda_tuple.specs.declared.tuple.Tuple.{Tuple}
use Rattle.rinda_tuple.specs.declared.tuple.Template.{Template}
use Rattle.rinda_tuple.specs.declared.lease.Life.{Life}
use Rattle.rinda_tuple.specs.declared.lease.Life.TheVariants.{Never, Gone, Seconds}
use Rattle.rinda_tuple.specs.declared.lease.Lease.{Lease}
use Rattle.rinda_rules.specs.declared.event.Kind.{Kind}
use Rattle.rinda_rules.specs.declared.event.Event.{Event}
use Rattle.rinda_rules.specs.declared.event.Event.TheVariants as event
use Rattle.rinda_rules.specs.declared.out.Flags.{Flags}
use Rattle.rinda_rules.specs.declared.out.Out.{Out}
use Rattle.rinda_rules.specs.declared.out.Out.TheVariants as out
use Rattle.drb_dispatch.specs.declared.call.Lasting.{Lasting}
use Rattle.drb_dispatch.specs.declared.call.Lasting.TheVariants as lasting
use Rattle.drb_dispatch.specs.declared.call.Flag.{Flag}
use Rattle.drb_dispatch.specs.declared.call.Flag.TheVariants as flag
use Rattle.drb_dispatch.specs.declared.call.Call.{Call}
use Rattle.drb_dispatch.specs.declared.call.Call.TheVariants as the
use Rattle.drb_back.specs.declared.back.Back.{Back}
use Rattle.drb_back.specs.declared.back.Back.TheVariants as back
use Rattle.drb_script.specs.declared.patience.Patience.{Patience}
use Rattle.drb_script.specs.declared.patience.Patience.TheVariants as patience
use Rattle.drb_script.specs.declared.reply.Failure.{Failure}
use Rattle.drb_script.specs.declared.reply.Failure.TheVariants as failure
use Rattle.drb_script.specs.declared.reply.Reply.TheVariants as reply
use Rattle.drb_script.specs.declared.next.Saying.TheVariants as say
use Rattle.drb_script.specs.declared.next.Loose.TheVariants.{Reserved, Granted}
use Rattle.drb_script.specs.Acting.{Acting, gives, replies, fails, turn, turn_over, call, call_over, ◌>>=◌, repeat}

-- Failures.

-- the failure that an answer of the space says of the object with that id; an answer without a text of
-- its own says that the object is of the wrong kind
abbrev pub failing : ℕ → Out → Failure
failing id out.Expired = failure.Expired
failing id out.Canceled = failure.Canceled
failing id out.WouldWait = failure.WouldWait
failing id out.Shut = failure.Shut
failing id out.Recycled = failure.Recycled id
failing id out.Unknown = failure.Unknown id
failing id _ = failure.WrongKind

-- the same at an event that names no object
abbrev pub failing_new : Out → Failure
failing_new out.Expired = failure.Expired
failing_new out.Canceled = failure.Canceled
failing_new out.WouldWait = failure.WouldWait
failing_new out.Shut = failure.Shut
failing_new _ = failure.WrongKind

-- the same at a pop part: a notifier is never answered Canceled, so there the object is another one
abbrev pub failing_pop : ℕ → Out → Failure
failing_pop id out.Canceled = failure.WrongKind
failing_pop id o = failing id o

-- Lives.

-- the life that a renewer's value says: nil is never, a number so many seconds, and all else, true
-- among it, is gone
abbrev pub life_at : Tree-F Tree → Life
life_at Tree-F.Nil = Never
life_at (Tree-F.Int s) = Seconds s
life_at _ = Gone

-- the life that a renewer answered; a call that isn't answered by a value is gone
abbrev pub life_from : Back → Life
life_from (back.Value v) = life_at (out-Tree v)
life_from _ = Gone

-- a life, and who is asked for more
abbrev pub lease : Life → Option Remote → Lease
lease life renewer = record { life = life; renewer = renewer }

-- the life part: a renewer is asked, and kept
abbrev pub life_part : Lasting → Acting Lease
life_part (lasting.Known life) = gives (lease life None)
life_part (lasting.Renewer r) = do
  b ← call r say.Renew
  gives (lease (life_from b) (Some r))

-- Tuples and notifiers that are made, and lists.

-- the reference of what was made
abbrev pub made : Out → Acting (Unit {0})
made (out.Entry id) = replies (reply.Object id)
made (out.Notifier id) = replies (reply.Object id)
made o = fails (failing_new o)

-- write
abbrev pub write : Tuple → Lasting → Acting (Unit {0})
write value life = do
  l ← life_part life
  o ← turn (event.Write value l)
  made o

-- notify
abbrev pub notify : Tree → Template → Lasting → Acting (Unit {0})
notify heard pattern life = do
  l ← life_part life
  o ← turn (event.Notify heard pattern l)
  made o

-- the list
abbrev pub listed : Out → Acting (Unit {0})
listed (out.All vs) = replies (reply.List vs)
listed o = fails (failing_new o)

-- read_all
abbrev pub read_all : Template → Acting (Unit {0})
read_all pattern = do
  o ← turn (event.ReadAll pattern)
  listed o

-- Requests.

-- the id of the request
abbrev pub reserved : Out → Acting ℕ
reserved (out.Reserved id) = gives id
reserved o = fails (failing_new o)

-- the block answered a value; else the request is withdrawn, and the call fails as the block did
abbrev pub told : ℕ → Remote → Back → Acting (Unit {0})
told id block (back.Value v) = gives tt
told id block b = do
  o ← turn_over (Reserved id) (event.Withdraw id)
  fails (failure.Call block b)

-- the block part, where there is a block: it is called with the reference of the request
abbrev pub block_part : Option Remote → ℕ → Acting (Unit {0})
block_part None id = gives tt
block_part (Some block) id = do
  b ← call_over (Reserved id) block (say.Object id)
  told id block b

-- every answer but NotYet
abbrev pub unless_not_yet : Out → Option Out
unless_not_yet out.NotYet = None
unless_not_yet o = Some o

-- one look
abbrev pub looks : Event → Acting (Option Out)
looks e = do
  o ← turn e
  gives (unless_not_yet o)

-- Looks that were answered NotYet, and then one that was answered otherwise. A look that came to nothing
-- is no turn.
abbrev pub awaits : Event → Acting Out
awaits e = repeat (looks e)

-- the waiting part, where the request waits: who doesn't wait withdraws it, who waits collects its answer
abbrev pub waiting_part : Patience → ℕ → Out → Acting Out
waiting_part patience.Never id (out.Parked n) = turn (event.Withdraw id)
waiting_part patience.Wait id (out.Parked n) = awaits (event.Collect id)
waiting_part p id o = gives o

-- the port answered a value, and the tuple leaves; else it is given back, and the call fails as the port
-- did
abbrev pub pushed : ℕ → Remote → Back → Acting (Unit {0})
pushed id port (back.Value v) = do
  o ← turn (event.Settle id true)
  replies reply.Nil
pushed id port b = do
  o ← turn_over (Granted id) (event.Settle id false)
  fails (failure.Call port b)

-- the port part: an answer is the reply, and a tuple that is held is pushed to the port
abbrev pub port_part : Option Remote → ℕ → Out → Acting (Unit {0})
port_part port id (out.Answer v) = replies (reply.Value v)
port_part (Some port) id (out.Granted n v) = do
  b ← call_over (Granted n) port (say.Push v)
  pushed n port b
port_part port id o = fails (failing id o)

-- take, read and move
abbrev pub ask : Patience → Kind → Template → Option Remote → Lasting → Option Remote
    → Acting (Unit {0})
ask p kind pattern port life block = do
  l ← life_part life
  o ← turn (event.Reserve kind pattern l)
  id ← reserved o
  u ← block_part block id
  s ← turn_over (Reserved id) (event.Submit id)
  answer ← waiting_part p id s
  port_part port id answer

-- Any object.

-- it was done
abbrev pub changed : ℕ → Out → Acting (Unit {0})
changed id out.Plain = replies reply.Nil
changed id o = fails (failing id o)

-- cancel
abbrev pub cancel : ℕ → Acting (Unit {0})
cancel id = do
  o ← turn (event.Cancel id)
  changed id o

-- renew
abbrev pub renew : ℕ → Lasting → Acting (Unit {0})
renew id life = do
  l ← life_part life
  o ← turn (event.Renew id l)
  changed id o

-- the flag that is asked for
abbrev pub flag_of : Flag → Flags → Bool
flag_of flag.Alive fs = fs.alive
flag_of flag.Expired fs = fs.expired
flag_of flag.Canceled fs = fs.canceled

-- the flag is the reply
abbrev pub looked : ℕ → Flag → Out → Acting (Unit {0})
looked id f (out.State fs) = replies (reply.Flag (flag_of f fs))
looked id f o = fails (failing id o)

-- alive?, expired? and canceled?
abbrev pub look : ℕ → Flag → Acting (Unit {0})
look id f = do
  o ← turn (event.Look id)
  looked id f o

-- the tuple is the reply
abbrev pub valued : ℕ → Out → Acting (Unit {0})
valued id (out.Answer v) = replies (reply.Value v)
valued id o = fails (failing id o)

-- value
abbrev pub value : ℕ → Acting (Unit {0})
value id = do
  o ← turn (event.Value id)
  valued id o

-- Notifiers.

-- the pop part: who doesn't wait withdraws the notifier, who waits pops
abbrev pub pop_part : Patience → ℕ → Acting Out
pop_part patience.Never id = turn (event.Withdraw id)
pop_part patience.Wait id = awaits (event.Pop id)

-- the event is the reply, or that there are no more
abbrev pub popped : ℕ → Out → Acting (Unit {0})
popped id (out.Event v) = replies (reply.Value v)
popped id out.Closed = replies reply.Close
popped id o = fails (failing_pop id o)

-- pop
abbrev pub pop : Patience → ℕ → Acting (Unit {0})
pop p id = do
  o ← pop_part p id
  popped id o

-- a call was answered by a value
abbrev pub is_value : Back → Bool
is_value (back.Value v) = true
is_value _ = false

-- What a round does with what was popped, and whether there is a further round: after an event where the
-- block answered a value. Only at the first round is it a failure where the notifier has ended too long
-- ago.
abbrev pub heard : Bool → ℕ → Remote → Out → Acting Bool
heard first id block (out.Event v) = do
  b ← call block (say.Event v)
  gives (is_value b)
heard first id block out.Closed = do
  b ← call block say.Close
  gives false
heard first id block out.Expired = gives false
heard first id block out.WouldWait = gives false
heard true id block out.Recycled = fails (failure.Recycled id)
heard false id block out.Recycled = gives false
heard first id block o = fails (failing_pop id o)

-- a round
abbrev pub round : Patience → Bool → ℕ → Remote → Acting Bool
round p first id block = do
  o ← pop_part p id
  heard first id block o

-- no further round
abbrev pub unless_more : Bool → Option (Unit {0})
unless_more true = None
unless_more false = Some tt

-- a round after the first one
abbrev pub later_round : Patience → ℕ → Remote → Acting (Option (Unit {0}))
later_round p id block = do
  more ← round p false id block
  gives (unless_more more)

-- the rounds after the first one, where there are some
abbrev pub rounds : Patience → ℕ → Remote → Bool → Acting (Unit {0})
rounds p id block false = gives tt
rounds p id block true = repeat (later_round p id block)

-- a notifier whose events go to no block was withdrawn: it is canceled, unless it is none
abbrev pub unheard : ℕ → Out → Acting (Unit {0})
unheard id out.Unknown = fails (failure.Unknown id)
unheard id out.Recycled = fails (failure.Recycled id)
unheard id out.WrongKind = fails failure.WrongKind
unheard id o = do
  c ← turn (event.Cancel id)
  replies reply.Nil

-- each, without a block and with one
abbrev pub each : Patience → ℕ → Option Remote → Acting (Unit {0})
each p id None = do
  o ← turn (event.Withdraw id)
  unheard id o
each p id (Some block) = do
  more ← round p true id block
  u ← rounds p id block more
  c ← turn (event.Cancel id)
  replies reply.Nil

-- The script of a call.
abbrev pub script : Patience → Call → Acting (Unit {0})
script p (the.Write value life) = write value life
script p (the.Ask kind pattern port life block) = ask p kind pattern port life block
script p (the.ReadAll pattern) = read_all pattern
script p (the.Notify heard pattern life) = notify heard pattern life
script p (the.Cancel id) = cancel id
script p (the.Renew id life) = renew id life
script p (the.Look id f) = look id f
script p (the.Value id) = value id
script p (the.Pop id) = pop p id
script p (the.Each id block) = each p id block
