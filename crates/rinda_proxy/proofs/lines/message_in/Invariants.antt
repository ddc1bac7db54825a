use Rattle.std.proofs.Common.{◌≡◌, drop}
use Rattle.rinda_proxy.specs.Lines.{message_in as message_in_spec}
use Rattle.rinda_proxy.proofs.lines.message_in.Given as goal

-- the fields that are left have the same message as all of them
abbrev pub invariant-loop-field : goal.invariant-loop-field
invariant-loop-field l = message_in_spec l.fields ≡ message_in_spec (drop l.field-index l.fields)
