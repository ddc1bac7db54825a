use Rattle.std.proofs.Common.{ap, ◌∙◌}
use Rattle.std.proofs.lemmas.Result.{err_from_is_err_and}
use Rattle.drb_tree.specs.declared.Tree.TheViews.{out-Tree}
use Rattle.std.specs.Prelude.{Ok, Err}
use Rattle.drb_packet.specs.Replies.{truth}
use Rattle.drb_packet.proofs.Nodes.{layer_is}
use Rattle.drb_packet.proofs.Chains.{success_stop, success_then, result_stop, result_last}
use Rattle.drb_packet.proofs.reply.read_both.Goals as goal

pub returns-in_err-success-clause-source : goal.returns-in_err-success-clause-source
returns-in_err-success-clause-source g c =
    let p = err_from_is_err_and c.from_residual.result c.from_residual.ensures.1 in
    rw (p.1, p.2) (success_stop c.args.load _ c.in_err-success.ensures.source)

pub returns-in_err-result-clause-source : goal.returns-in_err-result-clause-source
returns-in_err-result-clause-source g c =
    let p = err_from_is_err_and c.from_residual-in_err-result.result c.from_residual-in_err-result.ensures.1 in
    rw (p.1, p.2) (success_then c.args.load c.in_ok-success.success (Err c.in_err-result.field-0.0) c.in_ok-success.ensures.source (result_stop c.args.load (truth (out-Tree c.in_ok-success.success)) _ c.in_err-result.ensures.source))

pub returns-clause-source : goal.returns-clause-source
returns-clause-source g c = success_then c.args.load c.in_ok-success.success (Ok (c.truth_in.result, c.in_ok-result.result)) c.in_ok-success.ensures.source
    (result_last c.args.load c.truth_in.result (truth (out-Tree c.in_ok-success.success)) c.in_ok-result.result (c.truth_in.ensures ∙ ap truth (layer_is c.success.inside.node c.in_ok-success.success c.success.view_is)) c.in_ok-result.ensures.source)
