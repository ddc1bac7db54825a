use Rattle.std.proofs.Common.{◌∙◌, ap, sym}
use Rattle.rinda_bag.specs.Wanted.{least_wanted}
use Rattle.rinda_bag.proofs.Searched.{least-under, few-under}
use Rattle.rinda_bag.proofs.bag.Bag.find.Goals as goal

pub returns-in-Some-clause-least : goal.returns-in-Some-clause-least
returns-in-Some-clause-least g c =
    c.find_under.ensures.least
    ∙ least-under c.self.inside.secret c.args.now c.args.free c.args.pattern.now c.in-Some.mark c.self.inside.rows c.self.inside.keys.keys c.self.invariant (ap (λ m. Rattle.rinda_marks.specs.Marks.best m) (sym c.template_marks.ensures) ∙ sym c.best.ensures ∙ c.in-Some.is)
    ∙ ap (least_wanted c.args.now c.args.free c.args.pattern.now) c.self.view_is

pub returns-in-Some-clause-few : goal.returns-in-Some-clause-few
returns-in-Some-clause-few g c = few-under c.self.inside.secret c.args.pattern.now c.in-Some.mark c.self.inside.rows c.self.inside.keys.keys _ _ _ c.self.invariant c.self.view_is c.find_under.ensures.few
