-- What a history keeps may go to another thread, type by type: a search over all at once finds no end.
use denote.Param.Send.{IsSend, sendable}
use Rattle.std.proofs.Crossing.{crosses, Vec-send}
use Rattle.sqlite_items.proofs.items.Items.TheSendSync as lists
use Rattle.drb_tree.proofs.Remote.TheSendSync as remotes
use Rattle.drb_tree.proofs.Text.TheSendSync as texts
use Rattle.drb_value.proofs.Name.TheSendSync as names
use Rattle.drb_value.proofs.Dumped.TheLaws.TheKnot as knot
use Rattle.rinda_tuple.proofs.lease.Lease.TheSendSync as leases
use Rattle.rinda_tuple.proofs.lease.Life.TheSendSync as lives
use Rattle.rinda_rules.proofs.event.Kind.TheSendSync as kinds
use Rattle.rinda_rules.proofs.out.Flags.TheSendSync as flags
use Rattle.rinda_rules.proofs.turn.Picks.TheSendSync as picks
use Rattle.sqlite_items.specs.contracts.items.Items as Items
use Rattle.drb_value.specs.contracts.Value as Value
use Rattle.rinda_tuple.specs.contracts.tuple.Tuple as Tuple
use Rattle.rinda_tuple.specs.contracts.tuple.Template as Template
use Rattle.rinda_rules.specs.contracts.event.Event as Event
use Rattle.rinda_rules.specs.contracts.out.Out as Out
use Rattle.rinda_rules.specs.contracts.turn.Turn as Turn
use Rattle.rinda_rules.specs.contracts.journal.VecJournal as VecJournal

value_send : IsSend Value.the_row
value_send = search (remotes.the_send, texts.the_send, names.the_send, crosses, knot.crosses, sendable) depth 60

value_field : IsSend (Value.the_field).row
value_field = search (remotes.the_send, texts.the_send, names.the_send, crosses, knot.crosses, sendable) depth 60 fits 20000

items_send : IsSend (Items.the_row Value.the_row)
items_send = lists.the_send Value.the_row value_send

tuple_field : IsSend (Tuple.the_field).row
tuple_field = search (remotes.the_send, texts.the_send, names.the_send, crosses, knot.crosses, sendable) depth 60 fits 20000

template_field : IsSend (Template.the_field).row
template_field = search (remotes.the_send, texts.the_send, names.the_send, crosses, knot.crosses, sendable) depth 60 fits 20000

event_field : IsSend (Event.the_field).row
event_field = search (value_field, tuple_field, template_field, leases.the_field_send, lives.the_field_send, kinds.the_field_send, sendable) depth 60 fits 20000

out_field : IsSend (Out.the_field).row
out_field = search (items_send, value_field, remotes.the_field_send, flags.the_field_send, sendable) depth 60 fits 20000

turn_send : IsSend Turn.the_row
turn_send = search (event_field, out_field, picks.the_send, sendable) depth 60 fits 20000

pub journal_send : IsSend VecJournal.the_row
journal_send = search (turn_send, Vec-send, crosses, sendable) depth 60 fits 20000
