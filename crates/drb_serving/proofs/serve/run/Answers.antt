use denote.Exit.{no}
use denote.Param.{param}
use denote.Param.Send.{IsSend, param_send, arg_send, recorded_send, struct_send, shr_send}
use denote.RattleType.{RattleType}
use denote.Struct.Declared.{shape}
use denote.Struct.Field.{shr_ref_field, u64-field}
use denote.Struct.Tuple as Tuples
use mir.Syntax.{named}
use Rattle.std.proofs.Common.{ℕ, List, [], ◌∷◌}
use Rattle.std.proofs.alloc.Global.TheSendSync as global
use Rattle.std.proofs.sync.Mutex.TheSendSync as mutexes
use Rattle.std.proofs.sync.atomic.AtomicU64.TheSendSync as atomics
use Rattle.std.proofs.vec.Vec.TheSendSync as vecs
use Rattle.std.below.std_heap.proofs.GlobalAllocator.TheSendSync as heaps
use Rattle.std.specs.contracts.impls.GlobalAllocator.TheImpl as heap
use Rattle.std.specs.contracts.alloc.Global as Global
use Rattle.std.specs.contracts.option.Option as Option
use Rattle.std.specs.contracts.sync.Mutex as Mutex
use Rattle.std.specs.contracts.sync.atomic.AtomicU64 as AtomicU64
use Rattle.std.specs.contracts.vec.Vec as Vec
use Rattle.drb_dispatch.proofs.place.Place.TheSendSync as places
use Rattle.drb_dispatch.specs.contracts.place.Place as Place
use Rattle.drb_monitor.specs.contracts.monitor.Monitor as Monitor
use Rattle.drb_monitor.specs.contracts.pass.Pass as Pass
use Rattle.rinda_rules.specs.contracts.event.Event as Event
use Rattle.rinda_rules.specs.contracts.out.Out as Out
use Rattle.rinda_rules.specs.contracts.start.Start as Start
use Rattle.rinda_rules.specs.contracts.turn.Turn as Turn
use Rattle.rinda_space.specs.contracts.machine.SpaceMachine.TheImpl as machine
use Rattle.rinda_space.specs.contracts.space.Space as Space
use Rattle.rinda_space.specs.contracts.turned.TurnError as TurnError
use Rattle.drb_serving.proofs.entrance.Entrance.TheSendSync as entrances
use Rattle.drb_serving.specs.contracts.entrance.Entrance as Entrance
use Rattle.drb_shared.proofs.Sending.{pass_send, monitor_sync}
use Rattle.drb_serving.proofs.serve.run.Goals as goal

-- drb_serving::serve::fn::run::join+arg2+Self
abbrev closure : List ℕ
closure = 100 ∷ 114 ∷ 98 ∷ 95 ∷ 115 ∷ 101 ∷ 114 ∷ 118 ∷ 105 ∷ 110 ∷ 103 ∷ 58 ∷ 58 ∷ 115 ∷ 101 ∷ 114 ∷ 118 ∷ 101 ∷ 58 ∷ 58 ∷ 102 ∷ 110 ∷ 58 ∷ 58 ∷ 114 ∷ 117 ∷ 110 ∷ 58 ∷ 58 ∷ 106 ∷ 111 ∷ 105 ∷ 110 ∷ 43 ∷ 97 ∷ 114 ∷ 103 ∷ 50 ∷ 43 ∷ 83 ∷ 101 ∷ 108 ∷ 102 ∷ []

pub join-requires-send-F : goal.join-requires-send-F
join-requires-send-F g c κs within =
    let basis : RattleType = Tuples.TupleAt (40 ∷ 44 ∷ 41 ∷ []) (Option.the_row Start.the_row ∷ u64-field.row ∷ []) in
    let pass : RattleType = Pass.the_row (Space.the_row (param 4 g.row.J) g.J.Journal) Event.the_row Out.the_row TurnError.the_row Turn.the_row basis (machine.ghosts (param 4 g.row.J) g.J.Journal machine.no_dict machine.no_dict) in
    let monitor : RattleType = Monitor.the_row (Space.the_row (param 4 g.row.J) g.J.Journal) Event.the_row Out.the_row TurnError.the_row Turn.the_row basis (machine.ghosts (param 4 g.row.J) g.J.Journal machine.no_dict machine.no_dict) in
    let entrance : RattleType = Entrance.the_row (param 0 g.row.N) (param 5 g.row.B) (param 7 g.row.N-In) (param 8 g.row.N-Out) (param 9 g.row.N-Time) (param 10 g.row.N-Calls) g.N.Doors g.N.In.Source g.N.Out.Sink g.N.Time.Clock g.N.Calls.Dialer g.B.Naming in
    let taken : List RattleType = Vec.the_row pass Global.the_row heap.ghosts
    ∷ (shr_ref_field record { mir = named 6; lft = κs.1.1.1.1.1.1.0 } (param 6 g.row.R) tt).row
    ∷ Global.the_row
    ∷ (shr_ref_field record { mir = named 7; lft = κs.1.1.1.1.1.1.1.0 } monitor tt).row
    ∷ (shr_ref_field record { mir = named 8; lft = κs.1.1.1.1.1.1.1.1.0 } Place.the_row tt).row
    ∷ (shr_ref_field record { mir = named 9; lft = κs.1.1.1.1.1.1.1.1.1.0 } (Mutex.the_row entrance) tt).row
    ∷ (shr_ref_field record { mir = named 10; lft = κs.1.1.1.1.1.1.1.1.1.1.0 } (param 3 g.row.G) tt).row
    ∷ (shr_ref_field record { mir = named 11; lft = κs.1.1.1.1.1.1.1.1.1.1.1.0 } AtomicU64.the_row tt).row ∷ [] in
    let all : IsSend (Tuples.TupleAt closure taken) = recorded_send (Tuples.field_at closure taken).row _ _ (Tuples.type_at closure taken).to_one (struct_send (shape (Tuples.type_at closure taken)) (
      vecs.the_send pass Global.the_row heap.ghosts (pass_send (param 4 g.row.J) g.J.Journal c.type_bounds.send-J) global.the_send heaps.the_frees,
      (
        shr_send _ _ (param 6 g.row.R) c.type_bounds.sync-R,
        (
          global.the_send,
          (
            shr_send _ _ monitor (monitor_sync (param 4 g.row.J) g.J.Journal c.type_bounds.send-J),
            (
              shr_send _ _ Place.the_row places.the_sync,
              (
                shr_send _ _ (Mutex.the_row entrance) (mutexes.the_sync entrance (entrances.the_send (param 0 g.row.N) (param 5 g.row.B) (param 7 g.row.N-In) (param 8 g.row.N-Out) (param 9 g.row.N-Time) (param 10 g.row.N-Calls) g.N.Doors g.N.In.Source g.N.Out.Sink g.N.Time.Clock g.N.Calls.Dialer g.B.Naming c.type_bounds.send-N)),
                (
                  shr_send _ _ (param 3 g.row.G) c.type_bounds.sync-G,
                  (shr_send _ _ AtomicU64.the_row atomics.the_sync, tt),
                ),
              ),
            ),
          ),
        ),
      ),
    )) in
    param_send 1 _ (arg_send _ no _ all)

pub join-requires-send-A : goal.join-requires-send-A
join-requires-send-A g c κs within = param_send 3 _ (arg_send _ no _ (vecs.the_send _ _ _ (pass_send (param 4 g.row.J) g.J.Journal c.type_bounds.send-J) global.the_send heaps.the_frees))
