-- One of many callers of a space: docs/SESSIONS.md, Many callers.
use Rattle.std.specs.Prelude.{◌≡◌, Bool, true, Ok, Err, Some, is_none}
use Rattle.std.specs.declared.result.Result.{Result}
use Rattle.drb_monitor.specs.declared.entered.Entered.{Entered}
use Rattle.drb_monitor.specs.declared.entered.Entered.TheVariants as entered
use Rattle.drb_monitor.specs.Passes.{Site, Knowledge, IsPassOf}
use Rattle.rinda_rules.specs.declared.turn.Turn.{Turn}
use Rattle.rinda_rules.specs.declared.out.Out.{Out}
use Rattle.rinda_space.specs.Entered.{Basis}
use Rattle.rinda_space.specs.declared.turned.Turned.{Turned}
use Rattle.rinda_space.specs.declared.turned.Turned.TheVariants.{Done, Nothing}
use Rattle.rinda_space.specs.declared.turned.TurnError.{TurnError}
use Rattle.drb_session.specs.Passes.{Pass, Lawful}

-- a caller by its pass: it makes turns beside all others of the pass's monitor
abbrev pub shared : Basis → Knowledge Turn Basis → Pass
shared basis pass = record {
  caller = pass.number;
  start = basis.0;
  seen = pass.seen;
  mine = pass.mine;
  known = pass.known;
  cap = basis.1;
  beside = Some pass.monitor;
}

-- the histories start from the empty space
abbrev pub starts_empty : Basis → Bool
starts_empty basis = is_none basis.0

-- A caller may make turns by that pass: it is one of the monitor, whose space began empty, and what it has seen is
-- lawful.
pub record IsReady (monitor : Site Basis) (pass : Knowledge Turn Basis) : Type 0 where
  pub of : IsPassOf monitor pass
  pub empty : starts_empty monitor.basis ≡ true
  pub lawful : Lawful (shared monitor.basis pass)

-- what the space answered, as a caller is told it
abbrev pub turned_of : Result (Entered Out) TurnError → Result Turned TurnError
turned_of (Ok (entered.Done out)) = Ok (Done out)
turned_of (Ok (entered.Nothing turns)) = Ok (Nothing turns)
turned_of (Err error) = Err error
