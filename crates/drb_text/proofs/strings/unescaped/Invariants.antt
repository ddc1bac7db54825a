use Rattle.std.proofs.Common.{◌≡◌, ◌≤◌, length}
use Rattle.drb_text.specs.Strings.{quoted}
use Rattle.drb_text.specs.declared.strings.Escape.TheVariants as escape
use Rattle.drb_text.proofs.Quotes.{all_led}
use Rattle.drb_text.proofs.strings.unescaped.Given as goal

-- the bytes so far, and what is left from that place in an escape on
abbrev pub invariant-loop-first : goal.invariant-loop-first
invariant-loop-first l = record {
  same : quoted escape.Outside l.fn.bytes ≡ all_led l.string.items (quoted l.escape l.rest);
  within : length l.rest ≤ length l.fn.bytes;
}

abbrev pub decreases-loop-first : goal.decreases-loop-first
decreases-loop-first l = length l.rest
