-- A source and a sink over the call that is up.
use Rattle.std.specs.Prelude.{ℕ, List, []}
use Rattle.std.specs.Prelude.{None, Some}
use Rattle.std.specs.declared.option.Option.{Option}
use Rattle.drb_outside.specs.Records.{Record}
use Rattle.drb_outside.specs.Calls.{on_last, last_gives, last_sent, merged, unsent}

-- the source's bytes left: those that the peer of the last call still gives
abbrev pub line_left : Option (List Record) → Option (List ℕ)
line_left None = None
line_left (Some calls) = Some (last_gives calls)

-- what no read changes: all records, but that of the last call the bytes received and those that its peer still gives
-- stand as one list
abbrev pub line_stays : Option (List Record) → List Record
line_stays None = []
line_stays (Some calls) = on_last merged calls

-- the bytes that the sink was given: those that were sent over the last call
abbrev pub line_given : Option (List Record) → Option (List ℕ)
line_given None = None
line_given (Some calls) = Some (last_sent calls)

-- what no write changes: all records, but for the bytes sent over the last call
abbrev pub line_keeps : Option (List Record) → List Record
line_keeps None = []
line_keeps (Some calls) = on_last unsent calls
