-- What is written for a reply, and for a refusal of the input: docs/SESSIONS.md, Replies and Ends.
use Rattle.std.specs.Prelude.{ℕ, List, [], Bool, true, false, nat_lt, length, if◌then◌else◌}
use Rattle.drb_tree.specs.declared.Text.{Text}
use Rattle.drb_tree.specs.declared.Tree.{Tree}
use Rattle.marshal_grammar.specs.Spelled.{spelled}
use Rattle.marshal_write.specs.Limits.{max_dump}
use Rattle.drb_packet.specs.declared.refusal.PacketRefusal.{PacketRefusal}
use Rattle.drb_packet.specs.declared.refusal.PacketRefusal.TheVariants as packet
use Rattle.drb_packet.specs.Texts.{reply_text}
use Rattle.drb_ref.specs.declared.causes.Cause.TheVariants as cause
use Rattle.drb_ref.specs.Causes.{exception_of}
use Rattle.drb_script.specs.declared.reply.Reply.{Reply}
use Rattle.drb_reply.specs.Replies.{answered}

-- a reply: whether it is one of success, and its value
abbrev pub Replied : Type 0
Replied = Bool × Tree

-- the failure that the reply is too long
abbrev pub too_long : Replied
too_long = (false, exception_of cause.ReplyTooLong)

-- The reply that is written in place of this one: itself, or where the dump of its value is too long the failure that
-- it is.
abbrev pub within : Replied → Replied
within r = if nat_lt max_dump (length (spelled r.1)) then too_long else r

-- the bytes of a reply
abbrev pub text_of : Replied → List ℕ
text_of r = reply_text r.0 r.1

-- The reply to a script's answer by the server at that uri, to the method with that name.
abbrev pub reply_of : Text → List ℕ → Reply → Replied
reply_of uri name reply = within (answered uri name reply)

-- An input that was cut between two packets isn't answered; every other refusal is.
abbrev pub is_told : PacketRefusal → Bool
is_told packet.PrematureHeader = true
is_told (packet.TooLarge size) = true
is_told packet.PrematureBody = true
is_told (packet.Marshal refusal) = true
is_told packet.NotAName = true
is_told packet.NotACount = true
is_told (packet.TooManyArguments count) = true
is_told packet.NotABlock = true
is_told packet.CutBetween = false

-- the exception of a refusal, as a reply of failure
abbrev pub refused_reply : PacketRefusal → Replied
refused_reply why = within (false, exception_of (cause.Packet why))

-- the bytes that are written for a refusal
abbrev pub refusal_text : PacketRefusal → List ℕ
refusal_text why = if is_told why then text_of (refused_reply why) else []
