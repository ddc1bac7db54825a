use Rattle.std.proofs.Common.{◌≡◌, ◌++◌, drop}
use Rattle.rinda_proxy.specs.Lines.{lines}
use Rattle.rinda_proxy.proofs.lines.lines.Given as goal

-- what is there and the lines that are left are the whole
abbrev pub invariant-loop-value : goal.invariant-loop-value
invariant-loop-value l = l.text.items ++ lines (drop l.value-index l.values) ≡ lines l.values
