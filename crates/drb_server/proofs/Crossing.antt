-- What a counted history keeps may go to another thread, type by type: a search over all at once finds no end.
use denote.RattleType.{RattleType}
use denote.Param.Send.{IsSend, sendable}
use Rattle.std.proofs.Crossing.{crosses}
use Rattle.sqlite_items.proofs.items.Items.TheSendSync as lists
use Rattle.drb_tree.proofs.Remote.TheSendSync as remotes
use Rattle.drb_tree.proofs.Text.TheSendSync as texts
use Rattle.drb_value.proofs.Name.TheSendSync as names
use Rattle.drb_value.proofs.Dumped.TheLaws.TheKnot as knot
use Rattle.rinda_tuple.proofs.lease.Lease.TheSendSync as leases
use Rattle.rinda_tuple.proofs.lease.Life.TheSendSync as lives
use Rattle.rinda_rules.proofs.event.Kind.TheSendSync as kinds
use Rattle.rinda_rules.proofs.out.Flags.TheSendSync as flags
use Rattle.rinda_rules.proofs.turn.Picks.TheSendSync as picks
use Rattle.http_server.proofs.log.Log.TheSendSync as logs
use Rattle.sqlite_items.specs.contracts.items.Items as Items
use Rattle.drb_value.specs.contracts.Value as Value
use Rattle.rinda_tuple.specs.contracts.tuple.Tuple as Tuple
use Rattle.rinda_tuple.specs.contracts.tuple.Template as Template
use Rattle.rinda_rules.specs.contracts.event.Event as Event
use Rattle.rinda_rules.specs.contracts.out.Out as Out
use Rattle.rinda_rules.specs.contracts.turn.Picks as Picks
use Rattle.http_server.specs.contracts.log.Log as Log
use Rattle.rinda_counted.specs.contracts.counted.Counted as Counted

value_send : IsSend Value.the_row
value_send = search (remotes.the_send, texts.the_send, names.the_send, crosses, knot.crosses, sendable) depth 60

value_field : IsSend (Value.the_field).row
value_field = search (remotes.the_send, texts.the_send, names.the_send, crosses, knot.crosses, sendable) depth 60 fits 20000

items_send : IsSend (Items.the_row Value.the_row)
items_send = lists.the_send Value.the_row value_send

tuple_field : IsSend (Tuple.the_field).row
tuple_field = search (remotes.the_send, texts.the_send, names.the_send, crosses, knot.crosses, sendable) depth 60 fits 20000

template_field : IsSend (Template.the_field).row
template_field = search (remotes.the_send, texts.the_send, names.the_send, crosses, knot.crosses, sendable) depth 60 fits 20000

event_send : IsSend Event.the_row
event_send = search (value_field, tuple_field, template_field, leases.the_field_send, lives.the_field_send, kinds.the_field_send, sendable) depth 60 fits 20000

out_send : IsSend Out.the_row
out_send = search (items_send, value_field, remotes.the_field_send, flags.the_field_send, sendable) depth 60 fits 20000

events_send : (A : RattleType) → IsSend A → IsSend (Log.the_row A Event.the_row)
events_send A a = logs.the_send A Event.the_row a event_send

answers_send : IsSend (Log.the_row Out.the_row Picks.the_row)
answers_send = logs.the_send Out.the_row Picks.the_row out_send (search (picks.the_send, sendable))

pub counted_send : IsSend Counted.the_row
counted_send = search (events_send, answers_send, crosses, sendable) depth 60 fits 20000
