use Rattle.std.proofs.Common.{◌≡◌, ◌≤◌, length, drop}
use Rattle.drb_text.specs.Reading.{expect}
use Rattle.drb_text.proofs.pieces.expect.Given as goal

-- what is left of the word is expected of what is left of the bytes
abbrev pub invariant-loop-byte : goal.invariant-loop-byte
invariant-loop-byte l = record {
  same : expect l.fn.word l.fn.bytes ≡ expect (drop l.byte-index l.word) l.rest;
  within : length l.rest ≤ length l.fn.bytes;
}
