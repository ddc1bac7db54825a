use Rattle.std.proofs.Common.{◌≡◌, drop}
use Rattle.drb_text.specs.Names.{class_len}
use Rattle.drb_text.specs.declared.names.Place.TheVariants as place
use Rattle.drb_text.proofs.Classes.{added}
use Rattle.drb_text.proofs.names.class_len.Given as goal

-- so many bytes, and those that are left from there on
abbrev pub invariant-loop-byte : goal.invariant-loop-byte
invariant-loop-byte l = record {
  same : class_len place.Head l.bytes ≡ added l.byte-index (class_len l.place (drop l.byte-index l.bytes));
  len : l.len ≡ l.byte-index;
}
