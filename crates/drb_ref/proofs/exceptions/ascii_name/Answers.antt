use Rattle.std.proofs.Common.{ap, ◌∙◌, Err}
use Rattle.drb_ref.proofs.Ascii.{ascii-IsUtf8}
use Rattle.drb_ref.proofs.exceptions.ascii_name.Goals as goal

pub unreachable-requires : goal.unreachable-requires
unreachable-requires c = c.of.ensures.not_utf8.0 (c.in-Err-NotUtf8.is ∙ ap Err c.in-Err-NotUtf8.field-0-is) (ascii-IsUtf8 c.args.bytes.now c.requires)
