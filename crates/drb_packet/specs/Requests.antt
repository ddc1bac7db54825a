-- Requests: docs/WIRE.md, Requests.
use Rattle.std.specs.Prelude.{ℕ, zero, suc, List, [], ◌∷◌, pos, negsuc, Option, None, Some, nat_le, if◌then◌else◌}
use Rattle.drb_tree.specs.declared.Text.{Text}
use Rattle.drb_tree.specs.declared.Remote.{Remote}
use Rattle.drb_tree.specs.declared.Tree.{Tree}
use Rattle.drb_tree.specs.declared.Tree.TheViews.{out-Tree}
use Rattle.drb_tree.specs.declared.Tree.TheOpen.{Tree-F}
use Rattle.drb_packet.specs.declared.refusal.PacketRefusal.TheVariants.{NotAName, NotACount, TooManyArguments, NotABlock}
use Rattle.drb_packet.specs.declared.request.Limits.{Limits}
use Rattle.drb_packet.specs.declared.request.Request.{Request}
use Rattle.drb_packet.specs.Parsers.{Parser, gives, refuses, ◌>>=◌}
use Rattle.drb_packet.specs.Packets.{packet, further}

-- a method's name is a text
abbrev pub as_name : Tree-F Tree → Parser Text
as_name (Tree-F.Text t) = gives t
as_name _ = refuses NotAName

-- so many arguments are read where they are at most as many as the limit says
abbrev pub few : ℕ → ℕ → Parser ℕ
few most n = if nat_le n most then gives n else refuses (TooManyArguments (pos n))

-- a count is an integer, and not below 0
abbrev pub as_count : ℕ → Tree-F Tree → Parser ℕ
as_count most (Tree-F.Int (pos n)) = few most n
as_count most (Tree-F.Int (negsuc n)) = refuses NotACount
as_count most _ = refuses NotACount

-- a block is a reference, or there is none
abbrev pub as_block : Tree-F Tree → Parser (Option Remote)
as_block Tree-F.Nil = gives None
as_block (Tree-F.Remote r) = gives (Some r)
as_block _ = refuses NotABlock

-- the packet of a name
abbrev pub method_name : ℕ → Parser Text
method_name load = do
  v ← further load
  as_name (out-Tree v)

-- the packet of a count
abbrev pub argument_count : Limits → Parser ℕ
argument_count limits = do
  v ← further limits.load
  as_count limits.args (out-Tree v)

-- so many packets, of values
abbrev pub arguments : ℕ → ℕ → Parser (List Tree)
arguments load zero = gives []
arguments load (suc n) = do
  v ← further load
  vs ← arguments load n
  gives (v ∷ vs)

-- the packet of a block
abbrev pub block : ℕ → Parser (Option Remote)
block load = do
  v ← further load
  as_block (out-Tree v)

-- what follows the name: the packets of the count of arguments, the arguments, and the block
abbrev pub after_name : Limits → Tree → Text → Parser Request
after_name limits reference called = do
  n ← argument_count limits
  args ← arguments limits.load n
  b ← block limits.load
  gives (record { reference = reference; name = called; args = args; block = b })

-- a request: the packets of the reference and of the method's name, and what follows it
unfoldable pub next_request : Limits → Parser Request
next_request limits = do
  reference ← packet limits.load
  called ← method_name limits.load
  after_name limits reference called
