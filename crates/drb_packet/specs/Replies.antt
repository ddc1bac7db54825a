-- Replies: docs/WIRE.md, Replies.
use Rattle.std.specs.Prelude.{ℕ, Bool, true, false}
use Rattle.drb_tree.specs.declared.Tree.{Tree}
use Rattle.drb_tree.specs.declared.Tree.TheViews.{out-Tree}
use Rattle.drb_tree.specs.declared.Tree.TheOpen.{Tree-F}
use Rattle.drb_packet.specs.Parsers.{Parser, gives, ◌>>=◌}
use Rattle.drb_packet.specs.Packets.{packet, further}

-- nil and false mean failure, every other value means success
abbrev pub truth : Tree-F Tree → Bool
truth Tree-F.Nil = false
truth (Tree-F.Bool b) = b
truth _ = true

-- a reply: the packets of success or failure, and of the result
unfoldable pub next_reply : ℕ → Parser (Bool × Tree)
next_reply load = do
  v ← packet load
  result ← further load
  gives (truth (out-Tree v), result)
