use Rattle.std.proofs.Common.{◌-◌, ◌∙◌, sym, ap, length, Ok, Err}
use Rattle.std.proofs.lemmas.Result.{err_from_is_err_and}
use Rattle.marshal_read.specs.State.{State}
use Rattle.marshal_read.specs.Making.{added}
use Rattle.marshal_read.proofs.Whole.{so_err, so_done, left_within, so_dump, so_refusal, so_every_dump, so_every_refusal}
use Rattle.marshal_read.proofs.read_dump.Goals as goal

pub returns-in_err-dump-clause-refusal : goal.returns-in_err-dump-clause-refusal
returns-in_err-dump-clause-refusal c =
    let p = err_from_is_err_and c.from_residual-in_err-dump.result c.from_residual-in_err-dump.ensures.1 in
    rw (p.1, p.2) (so_refusal c.args.bytes.now (Err c.in_err-dump.field-0.0) (so_err c.args.bytes.now c.in_ok-reader.reader c.in_err-dump.field-0.0 c.in_ok-reader.ensures c.in_err-dump.ensures.err))

pub returns-in_err-dump-clause-every_dump : goal.returns-in_err-dump-clause-every_dump
returns-in_err-dump-clause-every_dump c =
    let p = err_from_is_err_and c.from_residual-in_err-dump.result c.from_residual-in_err-dump.ensures.1 in
    rw (p.1, p.2) (so_every_dump c.args.bytes.now (Err c.in_err-dump.field-0.0) (so_err c.args.bytes.now c.in_ok-reader.reader c.in_err-dump.field-0.0 c.in_ok-reader.ensures c.in_err-dump.ensures.err))

pub returns-in_err-dump-clause-every_refusal : goal.returns-in_err-dump-clause-every_refusal
returns-in_err-dump-clause-every_refusal c =
    let p = err_from_is_err_and c.from_residual-in_err-dump.result c.from_residual-in_err-dump.ensures.1 in
    rw (p.1, p.2) (so_every_refusal c.args.bytes.now (Err c.in_err-dump.field-0.0) (so_err c.args.bytes.now c.in_ok-reader.reader c.in_err-dump.field-0.0 c.in_ok-reader.ensures c.in_err-dump.ensures.err))

pub overflow_sub-result : goal.overflow_sub-result
overflow_sub-result c = left_within c.args.bytes.now c.in_ok-reader.reader c.dump.new.self (added c.in_ok-reader.reader.steps c.dump.new.self.steps) c.left.result c.in_ok-reader.ensures c.in_ok-dump.ensures.ok c.left.ensures.left

pub returns-clause-dump : goal.returns-clause-dump
returns-clause-dump c =
    so_dump c.args.bytes.now (Ok (c.in_ok-value.value, length c.args.bytes.now - c.left.result))
    (so_done c.args.bytes.now c.in_ok-reader.reader c.dump.new.self (added c.in_ok-reader.reader.steps c.dump.new.self.steps) c.in_ok-value.value c.left.result c.in_ok-reader.ensures c.in_ok-dump.ensures.ok (c.in_ok-value.ensures ∙ ap (λ (s : State). added s.steps c.dump.new.self.steps) (sym c.in_ok-reader.ensures)) c.left.ensures.left)

pub returns-clause-every_dump : goal.returns-clause-every_dump
returns-clause-every_dump c =
    so_every_dump c.args.bytes.now (Ok (c.in_ok-value.value, length c.args.bytes.now - c.left.result))
    (so_done c.args.bytes.now c.in_ok-reader.reader c.dump.new.self (added c.in_ok-reader.reader.steps c.dump.new.self.steps) c.in_ok-value.value c.left.result c.in_ok-reader.ensures c.in_ok-dump.ensures.ok (c.in_ok-value.ensures ∙ ap (λ (s : State). added s.steps c.dump.new.self.steps) (sym c.in_ok-reader.ensures)) c.left.ensures.left)

pub returns-clause-every_refusal : goal.returns-clause-every_refusal
returns-clause-every_refusal c =
    so_every_refusal c.args.bytes.now (Ok (c.in_ok-value.value, length c.args.bytes.now - c.left.result))
    (so_done c.args.bytes.now c.in_ok-reader.reader c.dump.new.self (added c.in_ok-reader.reader.steps c.dump.new.self.steps) c.in_ok-value.value c.left.result c.in_ok-reader.ensures c.in_ok-dump.ensures.ok (c.in_ok-value.ensures ∙ ap (λ (s : State). added s.steps c.dump.new.self.steps) (sym c.in_ok-reader.ensures)) c.left.ensures.left)
