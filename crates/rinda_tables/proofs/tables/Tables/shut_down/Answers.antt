use Rattle.std.proofs.Common.{◌∙◌, refl, sym, ap}
use Rattle.rinda_lease.specs.Stages.{stage_at, is_in}
use Rattle.rinda_tables.specs.Deadlines.{ahead_at, rested, tuple_in}
use Rattle.rinda_tables.specs.Tabled.{ahead_of}
use Rattle.rinda_tables.proofs.HoldingShut.{holds-shut, timed-quiet}
use Rattle.rinda_tables.proofs.tables.Tables.shut_down.Goals as goal

pub returns-clause-becomes : goal.returns-clause-becomes
returns-clause-becomes c = λ s h.
    let t = ahead_of c.args.self.now in
    let d = c.args.self.now.deadlines in
    holds-shut s t _ h refl refl refl refl c.in_ok-shut.ensures.ahead c.in_ok-shut-2.ensures.ahead
    (λ q. c.in_ok-rest_each.ensures.rests q ∙ ap (λ xs. rested (is_in q xs) (tuple_in q t.tuples) (ahead_at d q)) c.deref.ensures.value ∙ ap (λ b. rested b (tuple_in q t.tuples) (ahead_at d q)) (c.in_ok-ids.ensures q ∙ sym (timed-quiet (stage_at d.entries q))))
