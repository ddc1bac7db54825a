use Rattle.std.proofs.Common.{◌∙◌, ℕ, [], None, ap}
use Rattle.rinda_space.specs.Spaces.{spaced}
use Rattle.drb_server.proofs.Whole.{runs_at, whole_status}
use Rattle.drb_server.proofs.stdio.run_alone.Goals as goal

pub returns-clause-runs : goal.returns-clause-runs
returns-clause-runs g c =
    runs_at c.args.place.now c.args.max_turns c.new-alone.result.caller c.serve_session-end.new.turns.caller c.new-alone.result.space.now c.serve_session-end.new.turns.space.now c.serve_session-end.result c.status_of.result _ _
    c.new-alone.ensures.caller (c.new-alone.ensures.space ∙ c.new-space.ensures ∙ ap (λ (n : ℕ). spaced None [] n) (ap (λ j. j.cap) c.new.ensures))
    c.status_of.ensures.value c.serve_session-end.ensures.lawful c.serve_session-end.ensures.session

pub returns-clause-complete : goal.returns-clause-complete
returns-clause-complete g c whole read write = whole_status c.serve_session-end.result c.status_of.result c.status_of.ensures.value (c.serve_session-end.ensures.complete whole read write)
