use Rattle.std.proofs.Common.{List, All, refl, subst}
use Rattle.std.proofs.lemmas.List.{take_all}
use Rattle.std.proofs.lemmas.List.Elements.{All-more}
use Rattle.drb_tree.specs.declared.Tree.{Tree}
use Rattle.drb_tree.specs.Kept.{Fits}
use Rattle.rinda_journal.proofs.writing.all_fit.Goals as goal

pub loop-value-preserved : goal.loop-value-preserved
loop-value-preserved c = All-more Fits c.args.values.now c.loop-value.value-index c.value-item.result c.loop-value-test.true c.loop-value.invariant (subst Fits c.value-item.is (c.fits.ensures.exact.0 c.if-not-fits.false))

pub returns : goal.returns
returns c = (λ h. subst (λ (vs : List Tree). All Fits vs) (take_all c.loop-value.value-index c.args.values.now c.loop-value-test.false) c.loop-value.invariant, λ h. refl)
