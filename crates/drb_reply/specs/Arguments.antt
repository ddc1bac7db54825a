-- What an outgoing call says: docs/SESSIONS.md, Replies.
use Rattle.std.specs.Prelude.{ℕ, ◌≡◌, List, [], ◌∷◌, codes}
use Rattle.drb_tree.specs.declared.Text.{Text}
use Rattle.drb_tree.specs.declared.Tree.{Tree}
use Rattle.drb_ref.specs.Blocks.{ForBlock, IsTooLong}
use Rattle.drb_script.specs.declared.next.Saying.{Saying}
use Rattle.drb_script.specs.declared.next.Saying.TheVariants as say
use Rattle.drb_reply.specs.Values.{reference, close}

-- the method that a peer is called by
abbrev pub method_of : Saying → List ℕ
method_of say.Renew = codes "renew"
method_of (say.Object id) = codes "call"
method_of (say.Event v) = codes "call"
method_of say.Close = codes "call"
method_of (say.Push v) = codes "push"

-- one argument: what a block is sent for the value
abbrev pub ArgumentForBlock : Tree → List Tree → Type 0
ArgumentForBlock v args = (w : Tree) × (args ≡ w ∷ []) × ForBlock v w

-- The arguments of a call by the server at that uri: none for a renewer; the request's reference for a
-- block; what a block is sent for an event, or for `["close"]`; and the tuple for a port.
abbrev pub Arguments : Text → Saying → List Tree → Type 0
Arguments uri say.Renew args = args ≡ []
Arguments uri (say.Object id) args = args ≡ reference uri id ∷ []
Arguments uri (say.Event v) args = ArgumentForBlock v args
Arguments uri say.Close args = ArgumentForBlock close args
Arguments uri (say.Push v) args = args ≡ v ∷ []

-- the array for a block is too long
abbrev pub IsTooLongFor : Saying → Type 0
IsTooLongFor (say.Event v) = IsTooLong v
IsTooLongFor say.Close = IsTooLong close
IsTooLongFor _ = ⊥
