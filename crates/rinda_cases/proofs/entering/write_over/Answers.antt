use Rattle.std.proofs.Common.{map, None, refl}
use Rattle.rinda_rules.specs.declared.plain.Happening.TheVariants as happening
use Rattle.rinda_rules.specs.Phases.{raised}
use Rattle.rinda_rules.specs.Cases.{read_by}
use Rattle.rinda_tables.specs.Tabled.{new_entry, with_passed_tuple}
use Rattle.rinda_cases.proofs.entering.write_over.Goals as goal

pub returns-clause-written : goal.returns-clause-written
returns-clause-written c = λ s h.
    let passed = c.in_ok-id.ensures.passed s h in
    let t = new_entry s.next c.args.value.now None None in
    let p = with_passed_tuple s in
    let read = record p { requests = map (read_by c.args.value.now) p.requests } in
    (passed.0, c.in_ok-raise-2.ensures.becomes t refl (raised happening.Write t read) (c.in_ok-raise.ensures.becomes t refl read (c.in_ok-tell.ensures.told p passed.1)))
