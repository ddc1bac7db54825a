use Rattle.std.proofs.lemmas.List.Sorted.{searched}
use Rattle.std.proofs.Common.{◌≡◌, ◌∙◌, false, Err, Ok, ap, arith}
use Rattle.rinda_lease.specs.Stages.{is_in}
use Rattle.rinda_lease.proofs.KeyLists.{climbs, rise, rise_remove, is_in-remove, is_in-between, is_in-never, removed, length-removed}
use Rattle.rinda_lease.proofs.keys.take_out.Goals as goal

pub returns-in-Ok-clause-rise : goal.returns-in-Ok-clause-rise
returns-in-Ok-clause-rise c =
    ap rise (removed c.remove.result _ _ _ _ c.remove.ensures.items c.remove.ensures.variant c.in-Ok.ensures.bound)
    ∙ rise_remove c.args.keys.now.items c.in-Ok.at c.requires

pub returns-in-Ok-clause-keys : goal.returns-in-Ok-clause-keys
returns-in-Ok-clause-keys c q =
    let xs = c.args.keys.now.items in
    let at = searched xs c.args.key (Ok c.in-Ok.at) c.in-Ok.ensures.position (climbs xs c.requires) in
    ap (is_in q) (removed c.remove.result _ _ _ _ c.remove.ensures.items c.remove.ensures.variant c.in-Ok.ensures.bound)
    ∙ is_in-remove q xs c.in-Ok.at c.args.key c.requires at.0 at.1

pub returns-in-Ok-clause-length : goal.returns-in-Ok-clause-length
returns-in-Ok-clause-length c =
    let xs = c.args.keys.now.items in
    let at = searched xs c.args.key (Ok c.in-Ok.at) c.in-Ok.ensures.position (climbs xs c.requires) in
    length-removed c.remove.result xs _ c.in-Ok.at c.args.key _ c.remove.ensures.items c.remove.ensures.variant c.in-Ok.ensures.bound at.0 at.1

pub returns-in_default-clause-keys : goal.returns-in_default-clause-keys
returns-in_default-clause-keys c q =
    let xs = c.args.keys.now.items in
    let at = searched xs c.args.key (Err c.in_default.field-0) c.in_default.ensures.position (climbs xs c.requires) in
    is_in-never q c.args.key xs (is_in-between xs c.in_default.field-0 c.args.key at.1 at.2)

pub returns-in_default-clause-length : goal.returns-in_default-clause-length
returns-in_default-clause-length c =
    let xs = c.args.keys.now.items in
    let at = searched xs c.args.key (Err c.in_default.field-0) c.in_default.ensures.position (climbs xs c.requires) in
    let none : is_in c.args.key xs ≡ false = is_in-between xs c.in_default.field-0 c.args.key at.1 at.2 in
    grind arith
