use Rattle.std.proofs.Common.{◌∙◌, sym}
use Rattle.std.specs.Prelude.{option_copied}
use Rattle.drb_server.proofs.Options.{load_taken, load_twice}
use Rattle.drb_server.proofs.words.Named.take_load.Goals as goal

pub returns-then-is_some : goal.returns-then-is_some
returns-then-is_some c = load_twice (option_copied c.args.self.now.uri) c.args.self.now.turns c.args.self.now.load c.args.word.now (sym c.is_some.ensures ∙ c.if-is_some.true)

pub returns : goal.returns
returns c = load_taken (option_copied c.args.self.now.uri) c.args.self.now.turns c.args.self.now.load c.args.word.now c.load_in-self.result c.is_some-2.result (sym c.is_some.ensures ∙ c.if-is_some.false) c.load_in-self.ensures.number c.load_in-self.ensures.every c.is_some-2.ensures
