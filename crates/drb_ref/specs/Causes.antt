-- The exception that each cause raises: docs/WIRE.md, Exceptions.
use Rattle.std.specs.Prelude.{ℕ, ◌==◌, if◌then◌else◌, List, ◌++◌, codes, decimal}
use Rattle.drb_tree.specs.declared.Tree.{Tree}
use Rattle.marshal_grammar.specs.declared.refusal.Refusal.{Refusal}
use Rattle.marshal_grammar.specs.Refusals.{number_of}
use Rattle.drb_packet.specs.declared.refusal.PacketRefusal.TheVariants as packet
use Rattle.drb_ref.specs.declared.causes.Cause.{Cause}
use Rattle.drb_ref.specs.declared.causes.Cause.TheVariants as cause
use Rattle.drb_ref.specs.Exceptions.{exception_tree}

-- `marshal refusal W at N`: the number of the reason, and the place
abbrev pub refused_at : Refusal → List ℕ
refused_at r = codes "marshal refusal " ++ decimal (number_of r.why) ++ codes " at " ++ decimal r.at

-- a range of counts: `M..K`, or `M` where it has only that one
abbrev pub counts : ℕ → ℕ → List ℕ
counts least most = if least == most then decimal least
    else decimal least ++ codes ".." ++ decimal most

-- `wrong number of arguments (given N, expected M..K)`
abbrev pub wrong_count : ℕ → ℕ → ℕ → List ℕ
wrong_count given least most = codes "wrong number of arguments (given " ++ decimal given
    ++ codes ", expected " ++ counts least most ++ codes ")"

-- the class of the exception that each cause raises, and its text
abbrev pub raised : Cause → List ℕ × List ℕ
raised (cause.Packet packet.PrematureHeader) = (codes "DRb::DRbConnError", codes "premature header")
raised (cause.Packet (packet.TooLarge n)) =
    (codes "DRb::DRbConnError", codes "too large packet " ++ decimal n)
raised (cause.Packet packet.PrematureBody) =
    (codes "DRb::DRbConnError", codes "premature marshal format(can't read)")
raised (cause.Packet (packet.TooManyArguments n)) =
    (codes "DRb::DRbConnError", codes "too many arguments")
raised (cause.Packet (packet.Marshal refusal)) = (codes "ArgumentError", refused_at refusal)
raised (cause.Packet packet.NotAName) = (codes "TypeError", codes "method name must be a text")
raised (cause.Packet packet.NotACount) =
    (codes "TypeError", codes "argument count must be a whole number")
raised (cause.Packet packet.NotABlock) = (codes "TypeError", codes "block must be a reference")
raised (cause.Packet packet.CutBetween) = (codes "DRb::DRbConnError", codes "connection closed")
raised (cause.NoMethod name) = (codes "NoMethodError", codes "no method " ++ name.now)
raised cause.Insecure = (codes "SecurityError", codes "insecure method __send__")
raised (cause.WrongCount given least most) = (codes "ArgumentError", wrong_count given least most)
raised cause.NotATuple = (codes "TypeError", codes "tuple must be an array or a hash")
raised cause.BadKey = (codes "Rinda::InvalidHashTupleKey", codes "hash tuple keys must be texts")
raised cause.NotAnId = (codes "TypeError", codes "reference must be nil or a number")
raised cause.BadPort = (codes "TypeError", codes "port must be a reference")
raised cause.Expired = (codes "Rinda::RequestExpiredError", codes "request expired")
raised cause.Canceled = (codes "Rinda::RequestCanceledError", codes "request canceled")
raised cause.WouldWait = (codes "ThreadError", codes "would wait")
raised cause.Shut = (codes "RuntimeError", codes "space is shut")
raised (cause.Recycled id) = (codes "RangeError", decimal id ++ codes " is recycled object")
raised (cause.Unknown id) = (codes "RangeError", decimal id ++ codes " is not id value")
raised cause.ReplyTooLong = (codes "RangeError", codes "reply too long")
raised cause.ArgumentTooLong = (codes "RangeError", codes "argument too long")
raised (cause.BadUri uri) = (codes "DRb::DRbBadURI", codes "bad uri:" ++ uri.now)
raised cause.DialFault = (codes "DRb::DRbConnError", codes "dial failed")
raised cause.ReadFault = (codes "DRb::DRbConnError", codes "read failed")
raised cause.WriteFault = (codes "DRb::DRbConnError", codes "write failed")
raised cause.Cut = (codes "DRb::DRbConnError", codes "connection closed")

-- the exception that a cause raises
abbrev pub exception_of : Cause → Tree
exception_of c = exception_tree (raised c).0 (raised c).1
