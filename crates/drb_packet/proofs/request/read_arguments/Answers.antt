use Rattle.std.proofs.Common.{◌<◌, ◌-◌, ◌+◌, length, arith}
use Rattle.std.proofs.lemmas.Result.{err_from_is_err_and}
use Rattle.drb_packet.proofs.Arguments.{changes_stopped, changes_more, changes_memory, left_one, left_some, one_within}
use Rattle.drb_packet.proofs.request.read_arguments.Goals as goal

pub returns-in_err-argument-clause-source : goal.returns-in_err-argument-clause-source
returns-in_err-argument-clause-source g c =
    let lt : length c.loop-alloc.arguments < c.args.count = omega (arith, c.len.ensures, c.loop-alloc-test.true) in
    let p = err_from_is_err_and c.from_residual.result c.from_residual.ensures.1 in
    rw (p.1, p.2) (changes_stopped c.args.load c.args.count (c.args.count - (length c.loop-alloc.arguments + 1)) (c.args.count - length c.loop-alloc.arguments) c.loop-alloc.arguments c.in_err-argument.field-0.0 (left_some c.args.count (length c.loop-alloc.arguments) lt) c.loop-alloc.invariant.comes c.in_err-argument.ensures.source)

pub returns-in_err-push-clause-source : goal.returns-in_err-push-clause-source
returns-in_err-push-clause-source g c =
    let lt : length c.loop-alloc.arguments < c.args.count = omega (arith, c.len.ensures, c.loop-alloc-test.true) in
    let p = err_from_is_err_and c.from_residual-in_err-push.result c.from_residual-in_err-push.ensures.1 in
    rw (p.1, p.2) (changes_memory c.args.load c.args.count (c.args.count - (length c.loop-alloc.arguments + 1)) (c.args.count - length c.loop-alloc.arguments) c.loop-alloc.arguments c.in_ok-argument.argument (left_some c.args.count (length c.loop-alloc.arguments) lt) c.loop-alloc.invariant.comes c.in_ok-argument.ensures.source)

pub loop-alloc-preserved : goal.loop-alloc-preserved
loop-alloc-preserved g c =
    let lt : length c.loop-alloc.arguments < c.args.count = omega (arith, c.len.ensures, c.loop-alloc-test.true) in
    record {
      comes = changes_more c.args.load c.args.count (c.args.count - length c.push.new.self) (c.args.count - length c.loop-alloc.arguments) c.loop-alloc.arguments c.push.new.self c.in_ok-argument.argument (left_one c.args.count c.loop-alloc.arguments c.push.new.self c.in_ok-argument.argument c.in_ok-push.ensures.ok lt) c.in_ok-push.ensures.ok c.loop-alloc.invariant.comes c.in_ok-argument.ensures.source;
      within = one_within c.args.count c.loop-alloc.arguments c.push.new.self c.in_ok-argument.argument c.in_ok-push.ensures.ok lt;
    }
