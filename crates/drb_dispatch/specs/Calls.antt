-- What each method is a call of, argument by argument: docs/SESSIONS.md, Dispatch.
use Rattle.std.specs.Prelude.{ℕ, List, Option, None, Some, Result, Ok, unwrap_or, slice_get}
use Rattle.drb_tree.specs.declared.Remote.{Remote}
use Rattle.drb_tree.specs.declared.Tree.{Tree}
use Rattle.drb_tree.specs.declared.Tree.TheViews.{out-Tree}
use Rattle.drb_tree.specs.declared.Tree.TheOpen.{Tree-F}
use Rattle.drb_tree.specs.Trees.{nil_tree}
use Rattle.rinda_tuple.specs.declared.lease.Life.TheVariants.{Never, Gone, Seconds}
use Rattle.rinda_rules.specs.declared.event.Kind.{Kind}
use Rattle.rinda_rules.specs.declared.event.Kind.TheVariants.{Read, Take, Move}
use Rattle.drb_dispatch.specs.declared.call.Lasting.{Lasting}
use Rattle.drb_dispatch.specs.declared.call.Lasting.TheVariants.{Known, Renewer}
use Rattle.drb_dispatch.specs.declared.call.Flag.TheVariants.{Alive, Expired, Canceled}
use Rattle.drb_dispatch.specs.declared.call.Call.{Call}
use Rattle.drb_dispatch.specs.declared.call.Call.TheVariants as call
use Rattle.drb_dispatch.specs.declared.fault.Fault.{Fault}
use Rattle.drb_dispatch.specs.declared.method.FrontMethod.{FrontMethod}
use Rattle.drb_dispatch.specs.declared.method.FrontMethod.TheVariants as front
use Rattle.drb_dispatch.specs.declared.method.ObjectMethod.{ObjectMethod}
use Rattle.drb_dispatch.specs.declared.method.ObjectMethod.TheVariants as object
use Rattle.drb_dispatch.specs.declared.method.Method.{Method}
use Rattle.drb_dispatch.specs.declared.method.Method.TheVariants as method
use Rattle.drb_dispatch.specs.Checks.{◌>>=◌, tuple_of, template_of, port_of}

-- the argument at that place, counted from 0; one that is left out is nil
unfoldable pub argument : ℕ → List Tree → Tree
argument n args = unwrap_or (slice_get args n) nil_tree

-- how long a life argument says: nil is for ever, a number so many seconds, a remote object as long as it answers, and
-- all else, true among it, is gone
abbrev pub lasting_at : Tree-F Tree → Lasting
lasting_at Tree-F.Nil = Known Never
lasting_at (Tree-F.Int s) = Known (Seconds s)
lasting_at (Tree-F.Remote renewer) = Renewer renewer
lasting_at _ = Known Gone

unfoldable pub lasting_of : Tree → Lasting
lasting_of v = lasting_at (out-Tree v)

-- write(tuple, life)
unfoldable pub write_call : List Tree → Result Call Fault
write_call args = do
  value ← tuple_of (argument 0 args)
  Ok (call.Write value (lasting_of (argument 1 args)))

-- take(template, life) and read(template, life)
unfoldable pub asked : Kind → List Tree → Option Remote → Result Call Fault
asked kind args block = do
  pattern ← template_of (argument 0 args)
  Ok (call.Ask kind pattern None (lasting_of (argument 1 args)) block)

-- read_all(template)
unfoldable pub read_all_call : List Tree → Result Call Fault
read_all_call args = do
  pattern ← template_of (argument 0 args)
  Ok (call.ReadAll pattern)

-- notify(event, template, life)
unfoldable pub notify_call : List Tree → Result Call Fault
notify_call args = do
  pattern ← template_of (argument 1 args)
  Ok (call.Notify (argument 0 args) pattern (lasting_of (argument 2 args)))

-- to a port a tuple is moved; where there is none it is taken
abbrev pub kind_to : Option Remote → Kind
kind_to None = Take
kind_to (Some port) = Move

-- move(port, template, life)
unfoldable pub move_call : List Tree → Option Remote → Result Call Fault
move_call args block = do
  pattern ← template_of (argument 1 args)
  port ← port_of (argument 0 args)
  Ok (call.Ask (kind_to port) pattern port (lasting_of (argument 2 args)) block)

-- the methods of the space; the block is of no use to `write`, `read_all` and `notify`
abbrev pub front_call : FrontMethod → List Tree → Option Remote → Result Call Fault
front_call front.Write args block = write_call args
front_call front.Take args block = asked Take args block
front_call front.Read args block = asked Read args block
front_call front.ReadAll args block = read_all_call args
front_call front.Notify args block = notify_call args
front_call front.Move args block = move_call args block

-- the methods of the object of that id; the block is of use to `each` alone
abbrev pub object_call : ℕ → ObjectMethod → List Tree → Option Remote → Call
object_call id object.Cancel args block = call.Cancel id
object_call id object.Renew args block = call.Renew id (lasting_of (argument 0 args))
object_call id object.IsAlive args block = call.Look id Alive
object_call id object.IsExpired args block = call.Look id Expired
object_call id object.IsCanceled args block = call.Look id Canceled
object_call id object.Value args block = call.Value id
object_call id object.Pop args block = call.Pop id
object_call id object.Each args block = call.Each id block

-- the call of a method with these arguments and this block
abbrev pub call_of : Method → List Tree → Option Remote → Result Call Fault
call_of (method.Front m) args block = front_call m args block
call_of (method.Object id m) args block = Ok (object_call id m args block)
