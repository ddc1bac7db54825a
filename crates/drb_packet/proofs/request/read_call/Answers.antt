use Rattle.std.proofs.lemmas.Result.{err_from_is_err_and}
use Rattle.std.specs.Prelude.{Ok, Err}
use Rattle.drb_packet.proofs.Chains.{request, count_stop, count_then, arguments_stop, arguments_then, block_stop, block_last}
use Rattle.drb_packet.proofs.request.read_call.Goals as goal

pub returns-in_err-count-clause-source : goal.returns-in_err-count-clause-source
returns-in_err-count-clause-source g c =
    let p = err_from_is_err_and c.from_residual.result c.from_residual.ensures.1 in
    rw (p.1, p.2) (count_stop c.args.limits.now c.args.reference c.args.name c.in_err-count.field-0.0 c.in_err-count.ensures.source)

pub returns-in_err-args-clause-source : goal.returns-in_err-args-clause-source
returns-in_err-args-clause-source g c =
    let p = err_from_is_err_and c.from_residual-in_err-args.result c.from_residual-in_err-args.ensures.1 in
    rw (p.1, p.2) (count_then c.args.limits.now c.args.reference c.args.name c.in_ok-count.count (Err c.in_err-args.field-0.0) c.in_ok-count.ensures.source (arguments_stop c.args.limits.now c.args.reference c.args.name c.in_ok-count.count c.in_err-args.field-0.0 c.in_err-args.ensures.source))

pub returns-in_err-block-clause-source : goal.returns-in_err-block-clause-source
returns-in_err-block-clause-source g c =
    let p = err_from_is_err_and c.from_residual-in_err-block.result c.from_residual-in_err-block.ensures.1 in
    rw (p.1, p.2) (count_then c.args.limits.now c.args.reference c.args.name c.in_ok-count.count (Err c.in_err-block.field-0.0) c.in_ok-count.ensures.source (arguments_then c.args.limits.now c.args.reference c.args.name c.in_ok-count.count c.in_ok-args.args (Err c.in_err-block.field-0.0) c.in_ok-args.ensures.source (block_stop c.args.limits.now c.args.reference c.args.name c.in_ok-args.args c.in_err-block.field-0.0 c.in_err-block.ensures.source)))

pub returns-clause-source : goal.returns-clause-source
returns-clause-source g c =
    let r = Ok (request c.args.reference c.args.name c.in_ok-args.args c.in_ok-block.block) in
    count_then c.args.limits.now c.args.reference c.args.name c.in_ok-count.count r c.in_ok-count.ensures.source (arguments_then c.args.limits.now c.args.reference c.args.name c.in_ok-count.count c.in_ok-args.args r c.in_ok-args.ensures.source (block_last c.args.limits.now c.args.reference c.args.name c.in_ok-args.args c.in_ok-block.block c.in_ok-block.ensures.source))
