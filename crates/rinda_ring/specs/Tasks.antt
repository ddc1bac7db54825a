-- What a ring asks of the space, and what it tells a block. docs/RING.md, Writes and Answers.
use Rattle.std.specs.Prelude.{[], ◌∷◌, None}
use Rattle.drb_tree.specs.declared.Text.{Text}
use Rattle.drb_tree.specs.Trees.{nil_tree, sym_tree}
use Rattle.rinda_tuple.specs.declared.tuple.Template.{Template}
use Rattle.rinda_tuple.specs.declared.tuple.Template.TheVariants as template
use Rattle.rinda_tuple.specs.declared.lease.Life.TheVariants as life
use Rattle.rinda_rules.specs.declared.event.Kind.TheVariants.{Take}
use Rattle.drb_dispatch.specs.declared.call.Call.{Call}
use Rattle.drb_dispatch.specs.declared.call.Call.TheVariants as the
use Rattle.drb_dispatch.specs.declared.call.Lasting.TheVariants.{Known}
use Rattle.drb_dispatch.specs.Calls.{lasting_of}
use Rattle.drb_script.specs.declared.next.Saying.{Saying}
use Rattle.drb_script.specs.declared.next.Saying.TheVariants as say
use Rattle.rinda_ring.specs.declared.lookup.Lookup.{Lookup}
use Rattle.rinda_ring.specs.Lookups.{lookup_name}
use Rattle.rinda_ring.specs.Blocks.{front}

-- the call that a lookup makes: to write its tuple, with its life
abbrev pub write_of : Lookup → Call
write_of lookup = the.Write lookup.tuple (lasting_of lookup.life)

-- `[:lookup_ring, nil]`
abbrev pub pattern : Template
pattern = template.List (sym_tree lookup_name ∷ nil_tree ∷ [])

-- the call by which a lookup is taken: without a port or a block, for ever
abbrev pub take_lookup : Call
take_lookup = the.Ask Take pattern None (Known life.Never) None

-- What the block is told: `call`, with the front of the server at that uri. A notifier's event is told in the same way.
abbrev pub telling : Text → Saying
telling uri = say.Event (front uri)
