use Rattle.std.proofs.Common.{[], ◌∷◌, ◌++◌, ℕ, List, ap, ◌∙◌, slice_set}
use Rattle.marshal_read.specs.declared.steps.Step.{Step}
use Rattle.marshal_read.specs.declared.steps.Step.TheVariants as S
use Rattle.marshal_read.proofs.Changes.{replaced}
use Rattle.marshal_read.proofs.steps.keep_other.Goals as goal

pub returns-clause-ok : goal.returns-clause-ok
returns-clause-ok c =
    c.set.ensures
    ∙ ap (λ (ss : List Step). slice_set ss c.len-at.result c.args.step) c.in_ok-keep.ensures.ok
    ∙ ap (λ (n : ℕ). slice_set (c.args.steps.now ++ (S.Nil ∷ [])) n c.args.step) c.len-at.ensures
    ∙ replaced c.args.steps.now S.Nil c.args.step
