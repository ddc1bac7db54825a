use Rattle.std.proofs.Common.{◌≡◌, ◌∙◌, Option, Some, refl, sym, ap}
use Rattle.std.specs.Prelude.{map}
use Rattle.rinda_rules.specs.declared.plain.Entry.{Entry}
use Rattle.rinda_rules.specs.Rows.{row_of}
use Rattle.rinda_rules.specs.Phases.{happening_of}
use Rattle.rinda_rules.proofs.Lists.{row_has_id}
use Rattle.rinda_notify.specs.Notes.{told}
use Rattle.rinda_tables.specs.Tabled.{ahead_of}
use Rattle.rinda_tables.proofs.HoldingSame.{value_in, ended-tuple}
use Rattle.rinda_tables.proofs.tables.Tables.end_tuple.Goals as goal

pub returns-clause-becomes : goal.returns-clause-becomes
returns-clause-becomes c = λ s e h there.
    let t = ahead_of c.args.self.now in
    let same = row_has_id (λ (x : Entry). x.id) c.args.id s.tuples e there in
    let row : Some e ≡ Some c.in-Some.row.now = sym there ∙ ap (λ rows. row_of (λ (t : Entry). t.id) c.args.id rows) (sym h.tuples) ∙ sym c.in-Some.ensures in
    ended-tuple s t _ c.args.last e c.args.id h same there refl refl c.end.ensures.ended c.in_ok-take_out.ensures.ahead refl (c.in_ok-raise.ensures.ahead ∙ ap (λ what. map (told what c.in-Some.row.now.value) t.notes) c.happening_of.ensures ∙ ap (λ (o : Option Entry). map (told (happening_of c.args.last) (value_in e.value o)) t.notes) (sym row)) c.in_ok-rest.ensures.still.ahead
