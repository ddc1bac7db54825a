-- A session: its requests, their scripts, what is written, and how it ends. docs/SESSIONS.md, Ends.
use Rattle.std.specs.Prelude.{◌≡◌, ◌⊎◌, ℕ, List, [], ⊤, false, Option, None, Some, Err}
use Rattle.drb_packet.specs.declared.request.Limits.{Limits}
use Rattle.drb_packet.specs.Cuts.{cut, at_end}
use Rattle.drb_dispatch.specs.declared.place.Place.{Place}
use Rattle.drb_dispatch.specs.declared.planned.Planned.{Planned}
use Rattle.drb_dispatch.specs.declared.planned.Planned.TheVariants as outcome
use Rattle.drb_dispatch.specs.Plans.{planned}
use Rattle.drb_script.specs.declared.patience.Patience.{Patience}
use Rattle.drb_script.specs.declared.reply.Reply.{Reply}
use Rattle.drb_script.specs.Stands.{Action, Script, Stops}
use Rattle.drb_session.specs.declared.making.Halt.TheVariants as halt
use Rattle.drb_session.specs.declared.end.SessionEnd.{SessionEnd}
use Rattle.drb_session.specs.declared.end.SessionEnd.TheVariants.{Ended, Raised, Refused, ReadFault, WriteFault, Full, Memory}
use Rattle.drb_session.specs.Passes.{Pass}
use Rattle.drb_session.specs.Runs.{Side, Did, RunsTo}
use Rattle.drb_session.specs.Replies.{Replied, within, reply_of}
use Rattle.drb_session.specs.Transcripts.{Answering, Wire, Goes, Transcript}

-- What was planned is done by these actions, and replied so: a call by its script, with the value of the script's
-- reply; and where nothing is asked nothing is done, and the reply is that failure.
abbrev pub Plays : Place → Patience → List ℕ → Planned → List Action → Replied → Type 0
Plays place p name (outcome.Call call) actions replied =
    (reply : Reply) × Script p call actions reply × (replied ≡ reply_of place.uri name reply)
Plays place p name (outcome.Raise exception) actions replied =
    (actions ≡ []) × (replied ≡ within (false, exception))

-- What was done of it where the history was full: the first actions of the script, and the next one is a turn that
-- found something to do.
abbrev pub HaltsFull : Patience → Planned → Pass → List Action → ℕ → Type 0
HaltsFull p (outcome.Call call) new actions turns =
    RunsTo p call new actions (Err (halt.Full turns))
HaltsFull p (outcome.Raise exception) new actions turns = ⊥

-- What was done of it where memory ran out: nothing; or the first actions of the script, perhaps all, and then at
-- most the one turn for what was left behind.
abbrev pub HaltsMemory : Patience → Planned → List Action → Type 0
HaltsMemory p (outcome.Call call) actions = (actions ≡ []) ⊎ Stops p call actions
HaltsMemory p (outcome.Raise exception) actions = actions ≡ []

abbrev pub Halts : Patience → Planned → Pass → SessionEnd → List Action → Type 0
Halts p plan new (Full turns) actions = HaltsFull p plan new actions turns
Halts p plan new Memory actions = HaltsMemory p plan actions
Halts p plan new end actions = ⊥

-- how a server at that place with that patience answers requests
abbrev pub answering : Place → Patience → Answering Pass Action
answering place p = record {
  limits = place.limits;
  serves = λ request actions replied.
      Plays place p request.name.bytes (planned request) actions replied;
  halts = λ new end request actions. Halts p (planned request) new end actions;
}

-- what a session acts on
pub record State : Type 0 where
  pub side : Side
  pub wire : Wire

abbrev pub state : Side → Wire → State
state s w = record { side = s; wire = w }

-- so far: requests that were answered with success
pub record Going (place : Place) (p : Patience) (old new : State) : Type 0 where
  pub actions : List Action
  pub did : Did place old.side new.side actions
  pub goes : Goes (answering place p) old.wire new.wire actions

-- A whole session with its end: exactly these actions were done, and what was read and written is that of a
-- transcript with these actions.
pub record Session (place : Place) (p : Patience) (end : SessionEnd) (old new : State) : Type 0
  where
    pub actions : List Action
    pub did : Did place old.side new.side actions
    pub transcript : Transcript (answering place p) new.side.pass end old.wire new.wire actions

-- one request or the end
abbrev pub ServesOne : Place → Patience → Option SessionEnd → State → State → Type 0
ServesOne place p None old new = Going place p old new
ServesOne place p (Some end) old new = Session place p end old new

-- the bytes are whole requests and nothing more
abbrev pub AreWhole : Limits → List ℕ → Type 0
AreWhole limits bytes = (cut limits bytes).ending ≡ at_end

-- what tells that they are whole, where the input tells its bytes
abbrev pub IsWhole : Limits → Option (List ℕ) → Type 0
IsWhole limits None = ⊥
IsWhole limits (Some bytes) = AreWhole limits bytes

-- the ends of a session over whole requests, without a fault
abbrev pub EndsWhole : SessionEnd → Type 0
EndsWhole Ended = ⊤
EndsWhole Raised = ⊤
EndsWhole (Refused why) = ⊥
EndsWhole ReadFault = ⊥
EndsWhole WriteFault = ⊥
EndsWhole (Full turns) = ⊤
EndsWhole Memory = ⊤
