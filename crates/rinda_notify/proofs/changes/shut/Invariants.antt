use Rattle.std.proofs.Common.{◌≡◌, map}
use Rattle.std.specs.Vec.Iter.{into_iter_items}
use Rattle.rinda_effects.specs.Ages.{changed_all}
use Rattle.rinda_notify.specs.Notes.{closed, shut_note}
use Rattle.rinda_notify.specs.Undoing.{undone}
use Rattle.rinda_notify.proofs.changes.shut.Given as goal

-- with those that are left all are closed, and the steps so far lead back
abbrev pub invariant-loop-id : goal.invariant-loop-id
invariant-loop-id l =
    (changed_all (λ n. n.id) (closed l.last) (into_iter_items l.id-iterator) l.rows ≡ map (shut_note l.last) l.fn.rows)
    × (undone l.steps.items l.rows ≡ l.fn.rows)
