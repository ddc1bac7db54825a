use Rattle.marshal_read.proofs.Named.{read_leads, plain_symbol_named}
use Rattle.marshal_read.proofs.reader.Reader.plain_symbol_value.Goals as goal

pub symbol_entry-requires : goal.symbol_entry-requires
symbol_entry-requires c = (read_leads (plain_symbol_named c.args.at) c.args.self.now c.plain_symbol.new.self _ c.in_ok-s.ensures.ok c.requires).1
