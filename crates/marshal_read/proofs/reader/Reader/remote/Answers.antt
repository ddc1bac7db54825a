use Rattle.std.proofs.Common.{◌≡◌, ◌∙◌, Option, ap}
use Rattle.std.proofs.lemmas.Result.{IfOk-weaker}
use Rattle.drb_tree.specs.declared.Remote.{Remote}
use Rattle.drb_tree.specs.declared.Tree.{Tree}
use Rattle.drb_tree.specs.declared.Tree.TheViews.{out-Tree}
use Rattle.drb_value.specs.View.{layer}
use Rattle.marshal_grammar.specs.Trees.{remote_of}
use Rattle.marshal_read.specs.Making.{value_of}
use Rattle.marshal_read.proofs.Remotes.{layer_is}
use Rattle.marshal_read.proofs.reader.Reader.remote.Goals as goal

pub returns : goal.returns
returns c =
    IfOk-weaker c.remote_of-found.result (λ (r : Option Remote). r ≡ remote_of (layer c.value.inside.node)) (λ (r : Option Remote). r ≡ remote_of (out-Tree (value_of c.args.self.now.steps)))
    (λ r e. e ∙ ap remote_of (layer_is c.value.inside.node c.in_ok-value.value c.value.view_is) ∙ ap (λ (z : Tree). remote_of (out-Tree z)) c.in_ok-value.ensures)
    c.remote_of-found.ensures
