use Rattle.std.proofs.Common.{subst}
use Rattle.rinda_rules.specs.Phases.{advanced}
use Rattle.rinda_rules.specs.Steps.{found_by}
use Rattle.rinda_effects.specs.Touches.{Touched}
use Rattle.rinda_effects.proofs.Touching.{found_is_sound}
use Rattle.rinda_space.specs.Begins.{Ends}
use Rattle.rinda_space.proofs.Beginning.{begun-aged, begun-fresh, aged-room}
use Rattle.rinda_space.proofs.Stepping.{is-step}
use Rattle.rinda_space.proofs.making.step.Goals as goal

pub touched_by-touched-requires : goal.touched_by-touched-requires
touched_by-touched-requires c = record { room = aged-room c.args.tables.now c.age.new.self c.requires.begun c.in_ok-age.ensures.becomes c.requires.room }

pub case-requires-clause-room : goal.case-requires-clause-room
case-requires-clause-room c = aged-room c.args.tables.now c.age.new.self c.requires.begun c.in_ok-age.ensures.becomes c.requires.room

pub case-requires-clause-fresh : goal.case-requires-clause-fresh
case-requires-clause-fresh c = begun-fresh c.age.new.self (begun-aged c.args.tables.now c.age.new.self c.requires.begun c.in_ok-age.ensures.becomes c.in_ok-age.ensures.stays c.in_ok-age.ensures.none_added)

pub returns-in-Ok-clause-steps : goal.returns-in-Ok-clause-steps
returns-in-Ok-clause-steps c = λ s at sound settled h.
    let ready = c.in_ok-age.ensures.becomes (advanced s at) h in
    is-step s c.args.caller at c.args.event.now c.in_ok-out.out c.in_ok-out.pick c.in-Ok.picks c.case.new.tables c.end.new.tables sound settled
    (c.in_ok-out.ensures.answers (found_by s at) (found_is_sound s at sound).1 ready)
    (subst (λ (x : Touched). Ends x c.in_ok-out.pick c.case.new.tables c.end.new.tables c.in-Ok.picks) (c.touched_by-touched.ensures (found_by s at) ready) c.in-Ok.ensures.ends)
