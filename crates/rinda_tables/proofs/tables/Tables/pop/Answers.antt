use Rattle.std.proofs.Common.{◌∙◌, refl, sym, ap}
use Rattle.std.specs.Option.{option_copied}
use Rattle.drb_ids.specs.Ids.{ended_with}
use Rattle.rinda_rules.specs.declared.object.Last.{Last}
use Rattle.rinda_rules.specs.Queue.{queue}
use Rattle.rinda_notify.specs.declared.note.Popped.{Popped}
use Rattle.rinda_notify.specs.Notes.{left_by}
use Rattle.rinda_tables.specs.Tabled.{ahead_of}
use Rattle.rinda_tables.proofs.HoldingSame.{holds-same}
use Rattle.rinda_tables.proofs.HoldingNoted.{no-note, note-there}
use Rattle.rinda_tables.proofs.HoldingPopped.{popped-event, popped-closed, popped-empty, last-there}
use Rattle.rinda_tables.proofs.tables.Tables.pop.Goals as goal

pub returns-in-None-clause-pops : goal.returns-in-None-clause-pops
returns-in-None-clause-pops c = λ s n nothing h there. no-note _ _ (sym c.note.ensures ∙ ap option_copied c.in-None.is) (note-there s (ahead_of c.args.self.now) c.args.id n h there)

pub returns-in-Event-clause-pops : goal.returns-in-Event-clause-pops
returns-in-Event-clause-pops c = λ s n nothing h there.
    let t = ahead_of c.args.self.now in
    popped-event s t _ c.args.id n nothing c.in-Event.event h there (sym c.in-Event.is ∙ c.in_ok-event.ensures.answer) refl refl refl refl refl
    (c.in_ok-event.ensures.ahead ∙ ap (λ (p : Popped). left_by c.args.id p t.notes) c.in-Event.is) (λ q. refl) (queue n s.events) refl

pub returns-in-Empty-clause-pops : goal.returns-in-Empty-clause-pops
returns-in-Empty-clause-pops c = λ s n nothing h there.
    let t = ahead_of c.args.self.now in
    popped-empty s t _ c.args.id n nothing h there (sym c.in-Empty.is ∙ c.in_ok-event.ensures.answer)
    (holds-same s t _ h refl refl refl refl refl (c.in_ok-event.ensures.ahead ∙ ap (λ (p : Popped). left_by c.args.id p t.notes) c.in-Empty.is) (λ q. refl)) (queue n s.events) refl

pub returns-in_ok-rest-in-Closed-clause-pops : goal.returns-in_ok-rest-in-Closed-clause-pops
returns-in_ok-rest-in-Closed-clause-pops c = λ s n nothing h there.
    let t = ahead_of c.args.self.now in
    popped-closed s t _ c.args.id n nothing h there (sym c.in-Closed.is ∙ c.in_ok-event.ensures.answer) refl refl
    (c.end.ensures.ended ∙ ap (λ (l : Last). ended_with c.args.id l t.ids) (c.last_of-last.ensures ∙ last-there s n c.in-Some.note.now (c.in-Some.ensures ∙ note-there s t c.args.id n h there)))
    refl refl (c.in_ok-event.ensures.ahead ∙ ap (λ (p : Popped). left_by c.args.id p t.notes) c.in-Closed.is) c.in_ok-rest-in-Closed.ensures.still.ahead (queue n s.events) refl
