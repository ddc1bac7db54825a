-- All that `drbts stdio` does: docs/SESSIONS.md, The command.
use Rattle.std.specs.Prelude.{◌≡◌, ℕ, ◌≤◌, ◌⊎◌, List, [], length, None}
use Rattle.std.specs.declared.option.Option.{Option}
use Rattle.drb_outside.specs.Records.{Record}
use Rattle.drb_tree.specs.declared.Code.TheVariants.{Utf8}
use Rattle.drb_packet.specs.declared.request.Limits.{Limits}
use Rattle.rinda_rules.specs.declared.turn.Turn.{Turn}
use Rattle.rinda_rules.specs.Legal.{Legal}
use Rattle.rinda_space.specs.Spaces.{spaced}
use Rattle.drb_dispatch.specs.declared.place.Place.{Place}
use Rattle.drb_script.specs.declared.patience.Patience.TheVariants.{Never}
use Rattle.drb_session.specs.declared.end.SessionEnd.{SessionEnd}
use Rattle.drb_session.specs.declared.end.SessionEnd.TheVariants.{Ended, Raised, Refused, ReadFault, WriteFault, Full, Memory}
use Rattle.drb_session.specs.Passes.{Pass, alone, turns_by}
use Rattle.drb_session.specs.Runs.{side}
use Rattle.drb_session.specs.Transcripts.{Wire}
use Rattle.drb_session.specs.Session.{Session, State, state}
use Rattle.drb_server.specs.Words.{Options}

-- What is told at one moment: what the clock read; the calls of the dialer and how often it failed; and the input and
-- the output.
pub record Moment : Type 0 where
  pub readings : Option (List ℕ)
  pub calls : Option (List Record)
  pub dial_faults : ℕ
  pub wire : Wire

abbrev pub moment : Option (List ℕ) → Option (List Record) → ℕ → Wire → Moment
moment r c n w = record { readings = r; calls = c; dial_faults = n; wire = w }

-- the moment, with what the caller then knows of the space
abbrev pub when : Pass → Moment → State
when p m = state (side p m.readings m.calls m.dial_faults) m.wire

-- the limits of what is read: at most 256 arguments
abbrev pub limits_of : Options → Limits
limits_of o = record { load = o.load_limit; args = 256 }

-- where the server stands
abbrev pub place_of : Options → Place
place_of o = record { uri = record { bytes = o.uri; code = Utf8 }; limits = limits_of o }

-- caller 0, who is alone, after these turns from the empty space on, of which there may be so many
abbrev pub after : List Turn → ℕ → Pass
after turns cap = alone 0 (spaced None turns cap)

-- the status that names the end
abbrev pub status_of : SessionEnd → ℕ
status_of Ended = 0
status_of Raised = 2
status_of (Refused why) = 3
status_of ReadFault = 4
status_of WriteFault = 5
status_of (Full turns) = 6
status_of Memory = 7

-- There is a legal history of caller 0 alone, at most as long as it may be, whose turns are those of a session with
-- the end that the status names. With status 6 it is as long as it may be.
pub record RunsAt (place : Place) (cap status : ℕ) (old new : Moment) : Type 0 where
  pub history : List Turn
  pub legal : Legal history
  pub by_one : turns_by 0 history ≡ history
  pub few : length history ≤ cap
  pub end : SessionEnd
  pub status_is : status ≡ status_of end
  pub session : Session place Never end (when (after [] cap) old) (when (after history cap) new)
  pub full : status ≡ 6 → length history ≡ cap

-- a whole run, with these options
abbrev pub Runs : Options → ℕ → Moment → Moment → Type 0
Runs o status old new = RunsAt (place_of o) o.max_turns status old new

-- the statuses of a run over whole requests, without a fault: 0, 2, 6 and 7
abbrev pub IsWholeStatus : ℕ → Type 0
IsWholeStatus status = (status ≡ 0) ⊎ (status ≡ 2) ⊎ (status ≡ 6) ⊎ (status ≡ 7)
