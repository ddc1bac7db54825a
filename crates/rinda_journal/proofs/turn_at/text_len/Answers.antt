use Rattle.std.proofs.Common.{◌∙◌}
use Rattle.rinda_journal.proofs.Places.{found_text, no_text, after_none}
use Rattle.rinda_journal.proofs.turn_at.text_len.Goals as goal

pub returns-then-starts_with : goal.returns-then-starts_with
returns-then-starts_with c = found_text c.args.turn.now c.args.bytes.now c.as_slice.result.now c.write_turn.new.out.items c.starts_with.result c.len.result c.starts_with.ensures.value c.if-starts_with.true c.as_slice.ensures.value (after_none c.new-text.result.items c.write_turn.new.out.items c.args.turn.now c.new-text.ensures.items c.in-Ok.ensures.written) (c.len.ensures ∙ c.write_turn.new.out.ok.0) c.in-Ok.ensures.has c.in-Ok.ensures.kept

pub returns : goal.returns
returns c = no_text c.args.turn.now c.args.bytes.now c.as_slice.result.now c.write_turn.new.out.items c.starts_with.result c.starts_with.ensures.value c.if-starts_with.false c.as_slice.ensures.value (after_none c.new-text.result.items c.write_turn.new.out.items c.args.turn.now c.new-text.ensures.items c.in-Ok.ensures.written)
