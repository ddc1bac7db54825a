use Rattle.std.proofs.Common.{sym, ◌∙◌, subst, IsUtf8}
use Rattle.marshal_read.proofs.Named.{ascii_utf8}
use Rattle.marshal_read.proofs.reader.Reader.module.Goals as goal

pub whole-requires : goal.whole-requires
whole-requires c = subst IsUtf8 (sym c.of.ensures) (ascii_utf8 c.in_ok-s.s.now (sym c.all_ascii.ensures ∙ c.if-not-all_ascii.false))
