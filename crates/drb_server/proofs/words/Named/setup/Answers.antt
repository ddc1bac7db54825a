use Rattle.std.specs.Prelude.{option_copied}
use Rattle.drb_server.proofs.Options.{set_up}
use Rattle.drb_server.proofs.words.Named.setup.Goals as goal

pub returns : goal.returns
returns c = set_up (option_copied c.args.self.uri) c.args.self.turns c.args.self.load c.uri_of.result.now c.unwrap_or.result c.unwrap_or-2.result c.uri_of.ensures c.unwrap_or.ensures c.unwrap_or-2.ensures
