use Rattle.std.specs.Prelude.{option_copied}
use Rattle.drb_server.specs.Named.{named}
use Rattle.drb_server.proofs.Options.{names_none, named_so}
use Rattle.drb_server.proofs.words.Named.take.Goals as goal

pub returns-then-is_word-2 : goal.returns-then-is_word-2
returns-then-is_word-2 c = named_so _ _ _ _ _ _ (c.is_word-else-is_word.ensures.0 c.if-is_word-2.true) c.take_turns.ensures

pub returns-then-is_word-3 : goal.returns-then-is_word-3
returns-then-is_word-3 c = named_so _ _ _ _ _ _ (c.is_word-else-is_word-2.ensures.0 c.if-is_word-3.true) c.take_load.ensures

pub returns-else-is_word-3 : goal.returns-else-is_word-3
returns-else-is_word-3 c = names_none (named (option_copied c.args.self.now.uri) c.args.self.now.turns c.args.self.now.load) c.args.name.now c.args.word.now c.is_word.result c.is_word-else-is_word.result c.is_word-else-is_word-2.result c.is_word.ensures c.is_word-else-is_word.ensures c.is_word-else-is_word-2.ensures c.if-is_word.false c.if-is_word-2.false c.if-is_word-3.false
