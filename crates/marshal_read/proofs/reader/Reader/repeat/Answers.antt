use Rattle.std.proofs.Common.{◌≡◌, ◌++◌, List, length, drop, take, get_or, [], ◌∷◌, ℕ, ap, ◌∙◌, arith, length-append}
use Rattle.marshal_read.specs.declared.steps.Step.{Step}
use Rattle.marshal_read.specs.State.{State}
use Rattle.marshal_read.proofs.Changes.{steps_are}
use Rattle.marshal_read.proofs.Repeated.{repeated, repeated_none}
use Rattle.marshal_read.proofs.reader.Reader.repeat.Goals as goal

pub loop-i-init : goal.loop-i-init
loop-i-init c = ap (λ (ss : List Step). record c.args.self.now { steps = ss }) (repeated_none c.args.self.now.steps c.args.range.0 (omega (arith, c.requires.ordered, c.requires.within)))

pub bounds-as_slice-i : goal.bounds-as_slice-i
bounds-as_slice-i c =
    let e = ap (λ (s : State). s.steps) c.loop-i.invariant in
    omega (arith, c.loop-i-test.true, c.requires.within, ap length (c.as_slice.ensures ∙ steps_are c.self.inside c.loop-i.self c.self.view_is ∙ e), length-append c.args.self.now.steps (drop c.args.range.0 (take c.loop-i.i c.args.self.now.steps)))

pub offset_bounds-as_slice-i : goal.offset_bounds-as_slice-i
offset_bounds-as_slice-i c =
    let e = ap (λ (s : State). s.steps) c.loop-i.invariant in
    omega (arith, c.as_slice.type_inv.0, c.as_slice.type_inv.1, c.loop-i-test.true, c.requires.within, ap length (c.as_slice.ensures ∙ steps_are c.self.inside c.loop-i.self c.self.view_is ∙ e), length-append c.args.self.now.steps (drop c.args.range.0 (take c.loop-i.i c.args.self.now.steps)))

pub loop-i-preserved : goal.loop-i-preserved
loop-i-preserved c =
    let ss = c.args.self.now.steps in
    let inside = c.as_slice.ensures ∙ steps_are c.self.inside c.loop-i.self c.self.view_is ∙ ap (λ (s : State). s.steps) c.loop-i.invariant in
    let at : c.index-as_slice-i.result ≡ get_or (ss ++ drop c.args.range.0 (take c.loop-i.i ss)) c.loop-i.i c.index-as_slice-i.result =
    c.index-as_slice-i.is ∙ ap (λ (ys : List Step). get_or ys c.loop-i.i c.index-as_slice-i.result) inside in
    let more = repeated ss c.args.range.0 c.loop-i.i c.index-as_slice-i.result c.loop-i.auto.i (omega (arith, c.loop-i-test.true, c.requires.within)) at in
    c.in_ok-push.ensures
    ∙ ap (λ (s : State). record s { steps = s.steps ++ (c.in_ok-step.step ∷ []) }) c.loop-i.invariant
    ∙ ap (λ (x : Step). record c.args.self.now { steps = (ss ++ drop c.args.range.0 (take c.loop-i.i ss)) ++ (x ∷ []) }) c.in_ok-step.ensures
    ∙ ap (λ (ys : List Step). record c.args.self.now { steps = ys }) more

pub returns : goal.returns
returns c =
    let e : c.loop-i.i ≡ c.args.range.1 = omega (arith, c.loop-i-test.false, c.loop-i.auto.i-end c.requires.ordered) in
    c.loop-i.invariant ∙ ap (λ (j : ℕ). record c.args.self.now { steps = c.args.self.now.steps ++ drop c.args.range.0 (take j c.args.self.now.steps) }) e
