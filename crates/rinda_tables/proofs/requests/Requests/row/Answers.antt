use Rattle.std.proofs.Common.{◌∙◌, sym}
use Rattle.rinda_tables.proofs.Gone.{row-gone, row-left}
use Rattle.rinda_tables.proofs.requests.Requests.row.Goals as goal

pub returns-then-is_gone : goal.returns-then-is_gone
returns-then-is_gone c = rw (← c.self.view_is) (row-gone (λ r. r.id) c.self.inside.gone.items c.args.id c.self.inside.waits (sym c.is_gone.ensures ∙ c.if-is_gone.true))

pub returns : goal.returns
returns c = rw (← c.self.view_is) (c.row.ensures ∙ row-left (λ r. r.id) c.self.inside.gone.items c.args.id c.self.inside.waits (sym c.is_gone.ensures ∙ c.if-is_gone.false))
