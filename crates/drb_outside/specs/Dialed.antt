-- The records of a dialer with a list of lines.
use Rattle.std.specs.Prelude.{ℕ, ◌-◌, ◌^◌, List, [], ◌∷◌, ◌++◌, map, take, drop, replicate, Bool, true, false, nat_lt, if◌then◌else◌, None, Some}
use Rattle.std.specs.declared.option.Option.{Option}
use Rattle.drb_outside.specs.declared.lines.Line.{Line}
use Rattle.drb_outside.specs.declared.lines.ScriptDialer.{ScriptDialer}
use Rattle.drb_outside.specs.declared.lines.Dialed.{Dialed}
use Rattle.drb_outside.specs.declared.lines.Dialed.TheVariants as dialed
use Rattle.drb_outside.specs.Records.{Record}
use Rattle.drb_outside.specs.Calls.{peer, refused_at, on_last}

-- the record of a line by how its dial went, as one that isn't up
abbrev pub record_by : Dialed → Line → Record
record_by dialed.No l = refused_at None
record_by dialed.Unkept l = refused_at None
record_by dialed.Refused l = refused_at (Some (peer l.host.items l.port))
record_by dialed.Made l =
    record {
      address = Some (peer l.host.items l.port);
      refused = false;
      sent = l.takes.items;
      received = take l.received l.gives.items;
      gives = drop l.received l.gives.items;
      up = false;
    }

abbrev pub record_of : Line → Record
record_of l = record_by l.dialed l

-- whether it is up
abbrev pub with_up : Bool → Record → Record
with_up up r = record r { up = up }

-- the records of so many lines that were dialled, and of so many dials past the last line; whether the last call is up
abbrev pub calls_by : List Line → ℕ → ℕ → Bool → List Record
calls_by lines used past up =
    on_last (with_up up) (map record_of (take used lines) ++ replicate past (refused_at None))

abbrev pub calls_of : ScriptDialer → List Record
calls_of d = calls_by d.lines.items d.used d.past d.up

-- they are told as long as the dials past the last line can be counted
abbrev pub told_by : ℕ → List Record → Option (List Record)
told_by past calls = if nat_lt past (2 ^ 64 - 1) then Some calls else None

abbrev pub told_calls : ScriptDialer → Option (List Record)
told_calls d = told_by d.past (calls_of d)
