use Rattle.std.proofs.Common.{◌∙◌, sym, refl}
use Rattle.std.specs.Prelude.{option_copied}
use Rattle.drb_server.specs.Named.{named}
use Rattle.drb_server.proofs.Options.{uri_taken, uri_twice, uri_refused}
use Rattle.drb_server.proofs.words.Named.take_uri.Goals as goal

pub returns-then-is_some : goal.returns-then-is_some
returns-then-is_some c = uri_twice c.args.self.now.uri c.args.self.now.turns c.args.self.now.load c.args.word.now (sym c.is_some.ensures ∙ c.if-is_some.true)

pub returns-then-not-is_place : goal.returns-then-not-is_place
returns-then-not-is_place c = uri_refused (named (option_copied c.args.self.now.uri) c.args.self.now.turns c.args.self.now.load) c.args.word.now c.is_place.result c.is_place.ensures c.if-not-is_place.true

pub returns : goal.returns
returns c = uri_taken c.args.self.now.uri c.args.self.now.turns c.args.self.now.load c.args.word.now (sym c.is_some.ensures ∙ c.if-is_some.false) (c.is_place.ensures.0 c.if-not-is_place.false)
