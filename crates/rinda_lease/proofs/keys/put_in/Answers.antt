use Rattle.std.proofs.lemmas.List.Sorted.{searched}
use Rattle.std.proofs.Common.{◌∙◌, Err, Ok, ap, arith}
use Rattle.std.specs.List.{insert}
use Rattle.rinda_lease.specs.Stages.{is_in}
use Rattle.rinda_lease.proofs.KeyLists.{climbs, rise, rise_insert, is_in-insert, is_in-at, is_in-again, inserted}
use Rattle.rinda_lease.proofs.keys.put_in.Goals as goal

pub returns-in-Err-clause-rise : goal.returns-in-Err-clause-rise
returns-in-Err-clause-rise c =
    let xs = c.args.keys.now.items in
    let at = searched xs c.args.key (Err c.in-Err.at) c.in-Err.ensures.position (climbs xs c.requires.rise) in
    ap rise (inserted c.insert-inserted.result (insert xs c.in-Err.at c.args.key) c.insert-inserted.new.self.items _ _ c.insert-inserted.ensures.items c.insert-inserted.ensures.full (grind (arith, c.requires.room)))
    ∙ rise_insert xs c.in-Err.at c.args.key c.requires.rise at.0 at.1 at.2

pub returns-in-Err-clause-keys : goal.returns-in-Err-clause-keys
returns-in-Err-clause-keys c q =
    let xs = c.args.keys.now.items in
    ap (is_in q) (inserted c.insert-inserted.result (insert xs c.in-Err.at c.args.key) c.insert-inserted.new.self.items _ _ c.insert-inserted.ensures.items c.insert-inserted.ensures.full (grind (arith, c.requires.room)))
    ∙ is_in-insert q xs c.in-Err.at c.args.key

pub returns-in_default-clause-keys : goal.returns-in_default-clause-keys
returns-in_default-clause-keys c q =
    let xs = c.args.keys.now.items in
    let at = searched xs c.args.key (Ok c.in_default.field-0) c.in_default.ensures.position (climbs xs c.requires.rise) in
    is_in-again q c.args.key xs (is_in-at xs c.in_default.field-0 c.args.key at.0 at.1)
