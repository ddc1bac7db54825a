-- All parts of a space may go to another thread where its journal may; so a pass may, and a monitor may be shared. It is
-- shown part by part, since a search for all of it at once gives up.
use denote.RattleType.{RattleType}
use denote.Struct.Declared.{shape}
use denote.Param.Send.{IsSend, IsSync, sendable, view_send, recorded_send, struct_send}
use Rattle.std.proofs.Crossing.{crosses}
use Rattle.std.proofs.MapsCrossing.{crosses as maps}
use Rattle.std.proofs.alloc.Global.TheSendSync as global
use Rattle.std.proofs.boxed.Box.TheSendSync as boxes
use Rattle.std.proofs.vec.Vec.TheSendSync as vecs
use Rattle.std.proofs.option.Option.TheSendSync as options
use Rattle.sqlite_items.proofs.boxed.Boxed.TheSendSync as boxed
use Rattle.sqlite_items.proofs.items.Items.TheSendSync as items
use Rattle.drb_tree.proofs.Code.TheSendSync as codes
use Rattle.drb_tree.proofs.Text.TheSendSync as texts
use Rattle.drb_tree.proofs.Remote.TheSendSync as remotes
use Rattle.drb_tree.proofs.bytes.Bytes.TheSendSync as bytes
use Rattle.drb_value.proofs.Name.TheSendSync as names
use Rattle.drb_value.proofs.Dumped.TheLaws.TheKnot.{crosses as values}
use Rattle.drb_value.specs.contracts.Value as Value
use Rattle.rinda_rules.proofs.event.Kind.TheSendSync as kinds
use Rattle.rinda_rules.proofs.object.Doubt.TheSendSync as doubts
use Rattle.rinda_rules.proofs.out.Flags.TheSendSync as flags
use Rattle.rinda_rules.proofs.row.NoteState.TheSendSync as notes
use Rattle.rinda_tuple.specs.contracts.tuple.Tuple as Tuple
use Rattle.rinda_tuple.specs.contracts.tuple.Template as Template
use Rattle.rinda_rules.specs.contracts.out.Out as Out
use Rattle.rinda_rules.specs.contracts.plain.Entry as Entry
use Rattle.rinda_rules.specs.contracts.plain.Request as Request
use Rattle.rinda_rules.specs.contracts.row.RequestState as RequestState
use Rattle.drb_ids.proofs.table.IdTable.TheSendSync as ids
use Rattle.rinda_bag.proofs.change.Standing.TheSendSync as bag_standing
use Rattle.rinda_marks.proofs.secret.Secret.TheSendSync as secret
use Rattle.rinda_notify.proofs.step.Standing.TheSendSync as note_standing
use Rattle.rinda_notify.proofs.chain.Link.TheLaws.TheKnot.{crosses as links, crosses_both as links_both}
use Rattle.rinda_rules.proofs.plain.Ended.TheSendSync as endeds
use Rattle.rinda_tables.proofs.deadlines.Deadlines.TheSendSync as deadlines
use Rattle.rinda_tables.proofs.tuples.Step.TheSendSync as tuple_steps
use Rattle.std.proofs.collections.BTreeMap.TheSendSync as btree_maps
use Rattle.std.proofs.collections.BTreeSet.TheSendSync as btree_sets
use Rattle.std.proofs.collections.VecDeque.TheSendSync as deques
use Rattle.rinda_bag.specs.contracts.bag.Bag as Bag
use Rattle.rinda_wait.specs.contracts.waits.Waits as Waits
use Rattle.rinda_notify.specs.contracts.queue.Queue as Queue
use Rattle.rinda_notify.specs.contracts.note.Note as Note
use Rattle.rinda_notify.specs.contracts.notes.Notes as Notes
use Rattle.rinda_rules.specs.contracts.start.Start as Start
use Rattle.rinda_rules.specs.contracts.start.StartNote as StartNote
use Rattle.rinda_rules.specs.contracts.start.StartLease as StartLease
use Rattle.rinda_rules.specs.contracts.row.TupleRow as TupleRow
use Rattle.rinda_rules.specs.contracts.row.NoteRow as NoteRow
use Rattle.rinda_tables.specs.contracts.tables.Tables as Tables
use Rattle.rinda_tables.specs.contracts.tuples.Tuples as Tuples
use Rattle.rinda_tables.specs.contracts.requests.Requests as Requests
use Rattle.rinda_rules.specs.declared.journal.Journal.{Ghosts}
use Rattle.rinda_space.specs.contracts.space.Space as Space
use Rattle.rinda_space.specs.contracts.space.Space.TheInside as Inside
use Rattle.http_server.proofs.log.Log.TheSendSync as logs
use denote.Struct.Field.{u64-field}
use denote.Struct.Tuple as Tuples'
use Rattle.std.specs.Prelude.{[], ◌∷◌}
use Rattle.std.specs.contracts.option.Option as Option
use Rattle.rinda_rules.specs.contracts.event.Event as Event
use Rattle.rinda_rules.specs.contracts.turn.Turn as Turn
use Rattle.rinda_space.specs.contracts.turned.TurnError as TurnError
use Rattle.rinda_space.specs.contracts.machine.SpaceMachine.TheImpl as machine
use Rattle.drb_monitor.specs.contracts.pass.Pass as Pass
use Rattle.drb_monitor.specs.contracts.monitor.Monitor as Monitor
use Rattle.drb_monitor.proofs.pass.Pass.TheSendSync as passes
use Rattle.drb_monitor.proofs.monitor.Monitor.TheSendSync as monitors

ruleset sent = (crosses, maps, values, boxed.the_send, items.the_send, names.the_send, bytes.the_send, texts.the_send, remotes.the_send, options.the_send, options.the_field_send, codes.the_field_send, codes.the_send, texts.the_field_send, remotes.the_field_send, boxes.the_send, vecs.the_send, global.the_send, global.the_field_send, kinds.the_field_send, doubts.the_field_send, flags.the_field_send, notes.the_field_send, bag_standing.the_field_send, secret.the_field_send, secret.the_send, btree_maps.the_send, btree_sets.the_send, deques.the_send, sendable)

pub value_send : IsSend Value.the_row
value_send = search sent depth 60 fits 100000

pub tuple_send : IsSend Tuple.the_row
tuple_send = search (value_send, sent) depth 60 fits 100000

pub template_send : IsSend Template.the_row
template_send = search (value_send, sent) depth 60 fits 100000

pub out_send : IsSend Out.the_row
out_send = search (value_send, sent) depth 60 fits 100000

pub out_field : IsSend (Out.the_field).row
out_field = search (value_send, sent) depth 60 fits 100000

pub tuple_field : IsSend (Tuple.the_field).row
tuple_field = search (value_send, sent) depth 60 fits 100000

pub template_field : IsSend (Template.the_field).row
template_field = search (value_send, sent) depth 60 fits 100000

pub state_send : IsSend RequestState.the_row
state_send = search (out_field, sent) depth 60 fits 100000

pub state_field : IsSend (RequestState.the_field).row
state_field = search (out_field, sent) depth 60 fits 100000

pub entry_send : IsSend Entry.the_row
entry_send = search (tuple_field, sent) depth 60 fits 100000

pub request_send : IsSend Request.the_row
request_send = search (state_field, template_field, sent) depth 60 fits 100000

pub bag_send : IsSend Bag.the_row
bag_send = search (entry_send, sent) depth 60 fits 100000

pub bag_field : IsSend (Bag.the_field).row
bag_field = search (bag_send, sent) depth 60 fits 100000

pub waits_send : IsSend Waits.the_row
waits_send = search (request_send, sent) depth 60 fits 100000

pub waits_field : IsSend (Waits.the_field).row
waits_field = search (waits_send, sent) depth 60 fits 100000

pub tuples_field : IsSend (Tuples.the_field).row
tuples_field = search (bag_field, tuple_steps.the_send, sent) depth 60 fits 100000

pub requests_field : IsSend (Requests.the_field).row
requests_field = search (waits_field, state_field, sent) depth 60 fits 100000

pub queue_field : IsSend (Queue.the_field).row
queue_field = search (value_send, links, links_both, sent) depth 60 fits 100000

pub note_send : IsSend Note.the_row
note_send = search (queue_field, template_field, value_send, sent) depth 60 fits 100000

pub notes_field : IsSend (Notes.the_field).row
notes_field = search (note_send, value_send, note_standing.the_field_send, links, links_both, sent) depth 60 fits 100000

pub tables_field : IsSend (Tables.the_field).row
tables_field = search (tuples_field, requests_field, notes_field, ids.the_send, deadlines.the_send, sent) depth 60 fits 100000

pub note_row_field : IsSend (NoteRow.the_field).row
note_row_field = search (template_field, value_send, sent) depth 60 fits 100000

pub tuple_row_send : IsSend TupleRow.the_row
tuple_row_send = search (tuple_field, sent) depth 60 fits 100000

pub start_note_send : IsSend StartNote.the_row
start_note_send = search (note_row_field, value_send, sent) depth 60 fits 100000

pub start_lease_send : IsSend StartLease.the_row
start_lease_send = search sent depth 60 fits 100000

pub start_send : IsSend Start.the_row
start_send = search (tuple_row_send, start_note_send, start_lease_send, endeds.the_send, sent) depth 60 fits 100000

module _ (J : RattleType) (g : Ghosts J.Denot) where
  pub space_send : IsSend J → IsSend (Space.the_row J g)
  space_send s = view_send (Inside.the_row J g) _ _ _ _ (recorded_send (Inside.the_field J g).row _ _ (Inside.the_type J g).to_one (struct_send (shape (Inside.the_type J g)) (
    tables_field,
    (
      search (s, sent) depth 60 fits 100000,
      (
        search (start_send, logs.the_send, sent) depth 60 fits 100000,
        (
          search sent depth 60 fits 100000,
          (
            search sent depth 60 fits 100000,
            (global.the_field_send, tt),
          ),
        ),
      ),
    ),
  )))

  abbrev Basis : RattleType
  Basis = Tuples'.TupleAt (40 ∷ 44 ∷ 41 ∷ []) (Option.the_row Start.the_row ∷ u64-field.row ∷ [])

  pub pass_send : IsSend J → IsSend (Pass.the_row (Space.the_row J g) Event.the_row Out.the_row TurnError.the_row Turn.the_row Basis (machine.ghosts J g machine.no_dict machine.no_dict))
  pass_send s = passes.the_send (Space.the_row J g) Event.the_row Out.the_row TurnError.the_row Turn.the_row Basis (machine.ghosts J g machine.no_dict machine.no_dict) (space_send s)

  pub monitor_sync : IsSend J → IsSync (Monitor.the_row (Space.the_row J g) Event.the_row Out.the_row TurnError.the_row Turn.the_row Basis (machine.ghosts J g machine.no_dict machine.no_dict))
  monitor_sync s = monitors.the_sync (Space.the_row J g) Event.the_row Out.the_row TurnError.the_row Turn.the_row Basis (machine.ghosts J g machine.no_dict machine.no_dict) (space_send s)
