use Rattle.std.proofs.Common.{◌≡◌, ◌∙◌, ap, sym, subst, ℕ, List}
use Rattle.std.specs.Prelude.{IfOk}
use Rattle.rinda_bag.specs.Wanted.{all_wanted}
use Rattle.rinda_bag.proofs.Searched.{all-under}
use Rattle.rinda_bag.proofs.bag.Bag.find_all.Goals as goal

pub returns-in-Some : goal.returns-in-Some
returns-in-Some c = subst (λ (ids : List ℕ). IfOk c.find_all_under.result (λ found. found.items ≡ ids))
    (all-under c.self.inside.secret c.args.now c.args.pattern.now c.in-Some.mark c.self.inside.rows c.self.inside.keys.keys c.self.invariant (ap (λ m. Rattle.rinda_marks.specs.Marks.best m) (sym c.template_marks.ensures) ∙ sym c.best.ensures ∙ c.in-Some.is)
    ∙ ap (all_wanted c.args.now c.args.pattern.now) c.self.view_is)
    c.find_all_under.ensures
