-- What a ring does, and how that ends. docs/RING.md, Writes, Answers and Ends.
use Rattle.std.specs.Prelude.{◌≡◌, ◌⊎◌, ℕ, ◌≤◌, List, [], ◌∷◌, ◌++◌, ⊤, Ok, Err}
use Rattle.std.specs.declared.option.Option.{Option}
use Rattle.drb_outside.specs.Told.{Told}
use Rattle.drb_outside.specs.Records.{Record}
use Rattle.drb_tree.specs.declared.Tree.{Tree}
use Rattle.drb_dispatch.specs.declared.call.Call.{Call}
use Rattle.drb_dispatch.specs.declared.place.Place.{Place}
use Rattle.drb_back.specs.declared.back.Back.{Back}
use Rattle.drb_back.specs.declared.back.Back.TheVariants as back
use Rattle.drb_script.specs.declared.patience.Patience.{Patience}
use Rattle.drb_script.specs.declared.patience.Patience.TheVariants.{Never}
use Rattle.drb_script.specs.declared.reply.Failure.{Failure}
use Rattle.drb_script.specs.declared.reply.Failure.TheVariants as failure
use Rattle.drb_script.specs.declared.reply.Reply.{Reply}
use Rattle.drb_script.specs.declared.reply.Reply.TheVariants as reply
use Rattle.drb_script.specs.Stands.{Action, called, Script}
use Rattle.drb_session.specs.declared.making.Halt.{Halt}
use Rattle.drb_session.specs.declared.making.Halt.TheVariants as halt
use Rattle.drb_session.specs.Passes.{Pass}
use Rattle.drb_session.specs.Peers.{Says, Caused}
use Rattle.drb_session.specs.Runs.{Side, Did, RunsTo}
use Rattle.rinda_ring.specs.declared.lookup.Lookup.{Lookup}
use Rattle.rinda_ring.specs.declared.lookup.RingError.{RingError}
use Rattle.rinda_ring.specs.declared.lookup.RingError.TheVariants.{Refused, Memory as LacksMemory}
use Rattle.rinda_ring.specs.declared.end.RingEnd.{RingEnd}
use Rattle.rinda_ring.specs.declared.end.RingEnd.TheVariants.{Served, Ignored, Failed, NoTuple, Shut, Full, Memory}
use Rattle.rinda_ring.specs.Lookups.{Finds}
use Rattle.rinda_ring.specs.Blocks.{block_of}
use Rattle.rinda_ring.specs.Tasks.{write_of, take_lookup, telling}

-- where a script went no further
abbrev pub end_halted : Halt → RingEnd
end_halted (halt.Full turns) = Full turns
end_halted halt.Memory = Memory

-- where a script failed for this reason
abbrev pub end_failed : Failure → RingEnd
end_failed failure.Shut = Shut
end_failed _ = NoTuple

-- the whole script of a call, which fails for another reason than that the space is shut
abbrev pub FailsOtherwise : Patience → Call → List Action → Type 0
FailsOtherwise p call actions =
    (why : Failure) × Script p call actions (reply.Failure why) × (why ≡ failure.Shut → ⊥)

-- Writes.

-- What was done of a lookup, by the end. Served: the whole script of its write, which is replied with a reference. Shut,
-- NoTuple: the same, and it fails for that reason, or for another. Full: the first actions of it, where the next one is a
-- turn that finds something to do, and the history was full. Memory: the first actions of it.
abbrev pub Wrote : Lookup → Pass → List Action → RingEnd → Type 0
Wrote lookup new actions Served =
    (id : ℕ) × Script Never (write_of lookup) actions (reply.Object id)
Wrote lookup new actions (Ignored why) = ⊥
Wrote lookup new actions (Failed b) = ⊥
Wrote lookup new actions NoTuple = FailsOtherwise Never (write_of lookup) actions
Wrote lookup new actions Shut = Script Never (write_of lookup) actions (reply.Failure failure.Shut)
Wrote lookup new actions (Full turns) =
    RunsTo Never (write_of lookup) new actions (Err (halt.Full turns))
Wrote lookup new actions Memory = RunsTo Never (write_of lookup) new actions (Err halt.Memory)

-- exactly these actions were done of that lookup
pub record WritesLookup (place : Place) (lookup : Lookup) (old new : Side) (end : RingEnd) : Type 0
  where
    pub actions : List Action
    pub did : Did place old new actions
    pub wrote : Wrote lookup new.pass actions end

-- the same of a datagram: it is that lookup
abbrev pub WroteDatagram : List ℕ → Pass → List Action → RingEnd → Type 0
WroteDatagram bytes new actions end =
    (lookup : Lookup) × Finds bytes (Ok lookup) × Wrote lookup new actions end

-- What was done of a datagram, by the end: nothing where it is no lookup, and where there was no memory to read it.
abbrev pub WritesTo : List ℕ → Pass → List Action → RingEnd → Type 0
WritesTo bytes new actions (Ignored why) = Finds bytes (Err why) × (actions ≡ [])
WritesTo bytes new actions Memory = (actions ≡ []) ⊎ WroteDatagram bytes new actions Memory
WritesTo bytes new actions end = WroteDatagram bytes new actions end

-- exactly these actions were done of that datagram
pub record Writes (place : Place) (bytes : List ℕ) (old new : Side) (end : RingEnd) : Type 0 where
  pub actions : List Action
  pub did : Did place old new actions
  pub comes : WritesTo bytes new.pass actions end

-- Answers.

-- the end by what the call of a block came to
abbrev pub end_told : Back → RingEnd
end_told (back.Value v) = Served
end_told back.Memory = Memory
end_told b = Failed b

-- After the script of a take that was replied with a tuple, its block was called with the front, and that came to this.
pub record Tells (place : Place) (p : Patience) (actions : List Action) (b : Back) : Type 0 where
  pub tuple : Tree
  pub taken : List Action
  pub script : Script p take_lookup taken (reply.Value tuple)
  pub then : actions ≡ taken ++ called (block_of tuple) (telling place.uri) b ∷ []

-- neither a value nor want of memory
abbrev pub IsFailed : Back → Type 0
IsFailed (back.Value v) = ⊥
IsFailed back.Memory = ⊥
IsFailed _ = ⊤

-- What was done, by the end. Memory: nothing; the first actions of the take, perhaps all; or all of it, and the call.
abbrev pub AnswersTo : Place → Patience → Pass → List Action → RingEnd → Type 0
AnswersTo place p new actions Served = (v : Tree) × Tells place p actions (back.Value v)
AnswersTo place p new actions (Ignored why) = ⊥
AnswersTo place p new actions (Failed b) = Tells place p actions b × IsFailed b
AnswersTo place p new actions NoTuple = FailsOtherwise p take_lookup actions
AnswersTo place p new actions Shut = Script p take_lookup actions (reply.Failure failure.Shut)
AnswersTo place p new actions (Full turns) =
    RunsTo p take_lookup new actions (Err (halt.Full turns))
AnswersTo place p new actions Memory =
    (actions ≡ []) ⊎ (RunsTo p take_lookup new actions (Err halt.Memory)
    ⊎ Tells place p actions back.Memory)

-- exactly these actions were done
pub record Answers (place : Place) (p : Patience) (old new : Side) (end : RingEnd) : Type 0 where
  pub actions : List Action
  pub did : Did place old new actions
  pub comes : AnswersTo place p new.pass actions end

-- The parts of them.

-- the end where no lookup was read
abbrev pub end_unread : RingError → RingEnd
end_unread (Refused why) = Ignored why
end_unread LacksMemory = Memory

-- the end by the reply of a write
abbrev pub end_written : Reply → RingEnd
end_written (reply.Object id) = Served
end_written (reply.Failure why) = end_failed why
end_written _ = NoTuple

-- the end by the reply of the take, where that is no tuple
abbrev pub end_untaken : Reply → RingEnd
end_untaken (reply.Failure why) = end_failed why
end_untaken _ = NoTuple

-- one call of that block with the front
pub record TellsBlock (place : Place) (c c' : Option (List Record)) (m n : ℕ) (tuple : Tree)
    (b : Back) : Type 0 where
  pub calls : Told c c' n (Says place (block_of tuple) (telling place.uri) b)
  pub later : m ≤ n
  pub caused : Caused place m n (block_of tuple) (telling place.uri) b

-- what is done after the reply of the take, and how that ends
abbrev pub Ends : Place → Reply → Option (List Record) → Option (List Record) → ℕ → ℕ → RingEnd
    → Type 0
Ends place (reply.Value tuple) c c' m n end =
    (b : Back) × TellsBlock place c c' m n tuple b × (end ≡ end_told b)
Ends place r c c' m n end = (c' ≡ c) × (n ≡ m) × (end ≡ end_untaken r)
