use Rattle.std.proofs.Common.{◌≡◌, ◌++◌, ◌∙◌, ℕ, List, ap, subst}
use Rattle.std.proofs.lemmas.Slice.{pushed}
use Rattle.rinda_notify.specs.Notes.{Standing}
use Rattle.rinda_notify.specs.Undoing.{changed_ids}
use Rattle.rinda_notify.specs.Changed.{NamesChanged}
use Rattle.rinda_notify.proofs.Grown.{names-changed}
use Rattle.rinda_notify.proofs.notes.Notes.changes.Goals as goal

pub returns : goal.returns
returns c =
    let stepped = changed_ids c.self.inside.steps.items in
    let are : c.extend_from_slice.new.self.items ≡ stepped ++ c.self.inside.gone.items =
    pushed c.as_slice.result.now c.in_ok-ids.ensures c.in_ok-extend_from_slice.was c.extend_from_slice.ensures.items
    ∙ ap (λ (gone : List ℕ). stepped ++ gone) c.as_slice.ensures.value
    in
    subst (λ (t : Standing). NamesChanged t c.extend_from_slice.new.self.items) c.self.view_is (names-changed c.self.inside.steps.items c.self.inside.gone.items c.self.inside.rows _ are)
