use Rattle.std.proofs.Common.{◌∙◌, ap, List, [], ◌∷◌, ◌++◌}
use Rattle.rinda_notify.specs.declared.note.Note.{Note}
use Rattle.rinda_notify.proofs.Gone.{on-err, settled-was, view-emptied, view-settled}
use Rattle.rinda_notify.proofs.notes.Notes.load.Goals as goal

pub returns-in_err-add-clause-kept : goal.returns-in_err-add-clause-kept
returns-in_err-add-clause-kept c = on-err _ _ (view-emptied _ _ c.add.new.rows _ c.clear.ensures.items c.sweep.ensures.gone (c.in_err-add.ensures.kept ∙ c.sweep.ensures.rows ∙ ap (λ t. t.ahead) c.self.view_is) ∙ settled-was c.args.self.now c.requires.settled)

pub returns-clause-ok : goal.returns-clause-ok
returns-clause-ok c = rw (c.clear.ensures.items, c.sweep.ensures.gone) (view-settled c.add.new.rows _ (
    c.in_ok-add.ensures.ok
    ∙ ap (λ (rows : List Note). rows ++ c.in_ok-note.note ∷ []) (c.sweep.ensures.rows ∙ ap (λ t. t.ahead) c.self.view_is)
    ∙ ap (λ (n : Note). c.args.self.now.ahead ++ n ∷ []) c.in_ok-note.ensures
    ))
