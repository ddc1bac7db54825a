-- The value of each reply: docs/SESSIONS.md, Replies, and docs/WIRE.md, Exceptions.
use Rattle.std.specs.Prelude.{ℕ, Bool, true, false, List, ◌++◌, codes}
use Rattle.drb_tree.specs.declared.Text.{Text}
use Rattle.drb_tree.specs.declared.Remote.{Remote}
use Rattle.drb_tree.specs.declared.Tree.{Tree}
use Rattle.drb_tree.specs.Trees.{nil_tree, bool_tree, list_tree}
use Rattle.drb_ref.specs.declared.causes.Cause.TheVariants as cause
use Rattle.drb_ref.specs.Causes.{exception_of}
use Rattle.drb_ref.specs.Exceptions.{exception_tree}
use Rattle.drb_back.specs.declared.back.Back.{Back}
use Rattle.drb_back.specs.declared.back.Back.TheVariants as back
use Rattle.drb_script.specs.declared.reply.Failure.{Failure}
use Rattle.drb_script.specs.declared.reply.Failure.TheVariants as failure
use Rattle.drb_script.specs.declared.reply.Reply.{Reply}
use Rattle.drb_script.specs.declared.reply.Reply.TheVariants as reply
use Rattle.drb_reply.specs.Values.{reference, close}

-- `no method NAME`, NAME the bytes of the request
abbrev pub no_method : List ℕ → Tree
no_method name = exception_tree (codes "NoMethodError") (codes "no method " ++ name)

-- `bad uri:` and the uri that was called
abbrev pub bad_uri : List ℕ → Tree
bad_uri uri = exception_tree (codes "DRb::DRbBadURI") (codes "bad uri:" ++ uri)

-- The exception for a call of that peer that came to this. What a peer raised is handed on as it is. By
-- a value, which is handed on too, and by want of memory no script fails.
abbrev pub exception_for_back : Remote → Back → Tree
exception_for_back to (back.Value v) = v
exception_for_back to (back.Raised e) = e
exception_for_back to back.BadUri = bad_uri to.uri.bytes
exception_for_back to back.DialFault = exception_of cause.DialFault
exception_for_back to back.ReadFault = exception_of cause.ReadFault
exception_for_back to back.WriteFault = exception_of cause.WriteFault
exception_for_back to back.Cut = exception_of cause.Cut
exception_for_back to (back.Refused refusal) = exception_of (cause.Packet refusal)
exception_for_back to back.TooLong = exception_of cause.ArgumentTooLong
exception_for_back to back.Memory = exception_of cause.Cut

-- the exception for a failure of the method with that name
abbrev pub exception_for : List ℕ → Failure → Tree
exception_for name failure.Expired = exception_of cause.Expired
exception_for name failure.Canceled = exception_of cause.Canceled
exception_for name failure.WouldWait = exception_of cause.WouldWait
exception_for name failure.Shut = exception_of cause.Shut
exception_for name (failure.Recycled id) = exception_of (cause.Recycled id)
exception_for name (failure.Unknown id) = exception_of (cause.Unknown id)
exception_for name failure.WrongKind = no_method name
exception_for name (failure.Call to result) = exception_for_back to result

-- The reply of a server at that uri to a request of the method with that name: whether it is one of
-- success, and its value.
abbrev pub answered : Text → List ℕ → Reply → Bool × Tree
answered uri name reply.Nil = (true, nil_tree)
answered uri name (reply.Flag flag) = (true, bool_tree flag)
answered uri name (reply.Object id) = (true, reference uri id)
answered uri name (reply.Value v) = (true, v)
answered uri name (reply.List vs) = (true, list_tree vs)
answered uri name reply.Close = (true, close)
answered uri name (reply.Failure why) = (false, exception_for name why)
