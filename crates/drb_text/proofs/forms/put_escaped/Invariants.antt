use Rattle.std.proofs.Common.{◌≡◌, ◌++◌, drop}
use Rattle.drb_text.specs.Shown.{each_escaped}
use Rattle.drb_text.specs.Puts.{Grows}
use Rattle.drb_text.proofs.forms.put_escaped.Given as goal

-- what is there and the bytes that are left are the whole
abbrev pub invariant-loop-byte : goal.invariant-loop-byte
invariant-loop-byte l = record {
  same : l.out.items ++ each_escaped (drop l.byte-index l.bytes) ≡ l.fn.out.items ++ each_escaped l.bytes;
  grows : Grows l.fn.out.items l.out.items;
}
