use Rattle.std.proofs.Common.{◌∙◌, ap, position, bytes_eq}
use Rattle.marshal_write.proofs.Keys.{position-map, same_bytes}
use Rattle.marshal_write.proofs.symbols.Symbols.number_of.Goals as goal

pub returns : goal.returns
returns c =
    c.get_index_of.ensures.index ∙ position-map (λ v. v.items) _ (λ t. bytes_eq t c.args.name.now) c.self.inside.names.keys (λ v. same_bytes c.args.name.now v.items) ∙ ap (position (λ t. bytes_eq t c.args.name.now)) c.self.view_is
