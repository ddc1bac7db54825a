use denote.Exit.{no}
use denote.Param.{param}
use denote.Param.Send.{IsSync, param_send, arg_send, recorded_sync, struct_sync, shr_sync}
use denote.RattleType.{RattleType}
use denote.Struct.Declared.{shape}
use denote.Struct.Field.{shr_ref_field, u64-field}
use denote.Struct.Tuple as Tuples
use mir.Syntax.{named}
use Rattle.std.proofs.Common.{rules, ℕ, ◌<◌, List, [], ◌∷◌, length, slice_index_or, subst, sym}
use Rattle.drb_monitor.specs.Passes.{Knowledge}
use Rattle.rinda_rules.specs.declared.turn.Turn as Turned
use Rattle.rinda_space.specs.Entered.{Basis}
use Rattle.drb_shared.specs.Sharing.{IsReady}
use Rattle.std.proofs.alloc.Global.TheSendSync as global
use Rattle.std.proofs.sync.Mutex.TheSendSync as mutexes
use Rattle.std.specs.contracts.alloc.Global as Global
use Rattle.std.specs.contracts.option.Option as Option
use Rattle.std.specs.contracts.sync.Mutex as Mutex
use Rattle.drb_dispatch.proofs.place.Place.TheSendSync as places
use Rattle.drb_dispatch.specs.contracts.place.Place as Place
use Rattle.drb_monitor.specs.contracts.monitor.Monitor as Monitor
use Rattle.rinda_rules.specs.contracts.event.Event as Event
use Rattle.rinda_rules.specs.contracts.out.Out as Out
use Rattle.rinda_rules.specs.contracts.start.Start as Start
use Rattle.rinda_rules.specs.contracts.turn.Turn as Turn
use Rattle.rinda_space.specs.contracts.machine.SpaceMachine.TheImpl as machine
use Rattle.rinda_space.specs.contracts.space.Space as Space
use Rattle.rinda_space.specs.contracts.turned.TurnError as TurnError
use Rattle.drb_serving.proofs.entrance.Entrance.TheSendSync as entrances
use Rattle.drb_serving.specs.contracts.entrance.Entrance as Entrance
use Rattle.drb_shared.proofs.Sending.{pass_send, monitor_sync}
use Rattle.drb_serving.proofs.work.work_all.Goals.{then-workers-gt0, else-workers-gt0}
use Rattle.drb_serving.proofs.work.work_all.Goals as goal

pub for_each_mut-requires-send-T : goal.for_each_mut-requires-send-T
for_each_mut-requires-send-T g c κs within = param_send 1 _ (arg_send _ no _ (pass_send (param 1 g.row.J) g.J.Journal c.type_bounds.send-J))

-- drb_serving::work::fn::work_all::for_each_mut+Self
abbrev closure : List ℕ
closure = 100 ∷ 114 ∷ 98 ∷ 95 ∷ 115 ∷ 101 ∷ 114 ∷ 118 ∷ 105 ∷ 110 ∷ 103 ∷ 58 ∷ 58 ∷ 119 ∷ 111 ∷ 114 ∷ 107 ∷ 58 ∷ 58 ∷ 102 ∷ 110 ∷ 58 ∷ 58 ∷ 119 ∷ 111 ∷ 114 ∷ 107 ∷ 95 ∷ 97 ∷ 108 ∷ 108 ∷ 58 ∷ 58 ∷ 102 ∷ 111 ∷ 114 ∷ 95 ∷ 101 ∷ 97 ∷ 99 ∷ 104 ∷ 95 ∷ 109 ∷ 117 ∷ 116 ∷ 43 ∷ 83 ∷ 101 ∷ 108 ∷ 102 ∷ []

pub for_each_mut-requires-sync-F : goal.for_each_mut-requires-sync-F
for_each_mut-requires-sync-F g c κs within =
    let basis : RattleType = Tuples.TupleAt (40 ∷ 44 ∷ 41 ∷ []) (Option.the_row Start.the_row ∷ u64-field.row ∷ []) in
    let monitor : RattleType = Monitor.the_row (Space.the_row (param 1 g.row.J) g.J.Journal) Event.the_row Out.the_row TurnError.the_row Turn.the_row basis (machine.ghosts (param 1 g.row.J) g.J.Journal machine.no_dict machine.no_dict) in
    let entrance : RattleType = Entrance.the_row (param 0 g.row.N) (param 2 g.row.B) (param 5 g.row.N-In) (param 6 g.row.N-Out) (param 7 g.row.N-Time) (param 8 g.row.N-Calls) g.N.Doors g.N.In.Source g.N.Out.Sink g.N.Time.Clock g.N.Calls.Dialer g.B.Naming in
    let taken : List RattleType = (shr_ref_field record { mir = named 6; lft = κs.1.1.1.1.1.1.0 } (param 4 g.row.R) tt).row
    ∷ (shr_ref_field record { mir = named 7; lft = κs.1.1.1.1.1.1.1.0 } Global.the_row tt).row
    ∷ (shr_ref_field record { mir = named 8; lft = κs.1.1.1.1.1.1.1.1.0 } monitor tt).row
    ∷ (shr_ref_field record { mir = named 9; lft = κs.1.1.1.1.1.1.1.1.1.0 } Place.the_row tt).row
    ∷ (shr_ref_field record { mir = named 10; lft = κs.1.1.1.1.1.1.1.1.1.1.0 } (Mutex.the_row entrance) tt).row
    ∷ (shr_ref_field record { mir = named 11; lft = κs.1.1.1.1.1.1.1.1.1.1.1.0 } (param 3 g.row.G) tt).row ∷ [] in
    let all : IsSync (Tuples.TupleAt closure taken) = recorded_sync (Tuples.field_at closure taken).row _ _ (Tuples.type_at closure taken).to_one (struct_sync (shape (Tuples.type_at closure taken)) (
      shr_sync _ _ (param 4 g.row.R) c.type_bounds.sync-R,
      (
        shr_sync _ _ Global.the_row global.the_sync,
        (
          shr_sync _ _ monitor (monitor_sync (param 1 g.row.J) g.J.Journal c.type_bounds.send-J),
          (
            shr_sync _ _ Place.the_row places.the_sync,
            (
              shr_sync _ _ (Mutex.the_row entrance) (mutexes.the_sync entrance (entrances.the_send (param 0 g.row.N) (param 2 g.row.B) (param 5 g.row.N-In) (param 6 g.row.N-Out) (param 7 g.row.N-Time) (param 8 g.row.N-Calls) g.N.Doors g.N.In.Source g.N.Out.Sink g.N.Time.Clock g.N.Calls.Dialer g.B.Naming c.type_bounds.send-N)),
              (shr_sync _ _ (param 3 g.row.G) c.type_bounds.sync-G, tt),
            ),
          ),
        ),
      ),
    )) in
    record { shared = all.shared }

pub returns : goal.returns
returns g c = elim c.if-workers-gt0.branch [
  | then-workers-gt0 w ↦ λ k d lt.
      let within : k < length c.args.passes.now = search (rules, lt, w.passes-is, w.for_each_mut.auto) in
      let h = w.for_each_mut.ensures k d within in
      let made : IsReady c.args.monitor.now (slice_index_or w.for_each_mut.new.s k d) = subst (λ (q : Knowledge Turned.Turn Basis). IsReady c.args.monitor.now q) h.1.left h.1.call in
      subst (λ (l : List (Knowledge Turned.Turn Basis)). IsReady c.args.monitor.now (slice_index_or l k d)) (sym w.passes-is) made
  | else-workers-gt0 w ↦ search (rules, w.passes-is, c.requires)
]
