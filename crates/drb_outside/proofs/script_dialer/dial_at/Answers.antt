use Rattle.std.proofs.Common.{get_or}
use Rattle.drb_outside.specs.Calls.{peer}
use Rattle.drb_outside.proofs.Dialing.{line_made, line_failed}
use Rattle.drb_outside.proofs.script_dialer.dial_at.Goals as goal

pub returns-clause-made : goal.returns-clause-made
returns-clause-made c = λ is. ((get_or c.args.lines.now c.args.used c.index-lines-used.result).gives.items, line_made c.args.lines.now c.args.used c.dial.new.self (peer c.args.to.now.host.now c.args.to.now.port) (get_or c.args.lines.now c.args.used c.index-lines-used.result).gives.items c.requires (c.dial.ensures.made is))

pub returns-clause-failed : goal.returns-clause-failed
returns-clause-failed c = λ is. line_failed c.args.lines.now c.args.used c.dial.new.self (peer c.args.to.now.host.now c.args.to.now.port) c.requires (c.dial.ensures.failed is)
