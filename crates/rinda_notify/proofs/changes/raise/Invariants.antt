use Rattle.std.proofs.Common.{◌≡◌, map}
use Rattle.std.specs.Vec.Iter.{into_iter_items}
use Rattle.rinda_effects.specs.Ages.{changed_all}
use Rattle.rinda_notify.specs.Notes.{queued, told, event_of}
use Rattle.rinda_notify.specs.Undoing.{undone}
use Rattle.rinda_notify.proofs.changes.raise.Given as goal

-- with those that are left all are told, and the steps so far lead back
abbrev pub invariant-loop-id : goal.invariant-loop-id
invariant-loop-id l =
    (changed_all (λ n. n.id) (queued (event_of l.what l.tuple)) (into_iter_items l.id-iterator) l.rows ≡ map (told l.what l.tuple) l.fn.rows)
    × (undone l.steps.items l.rows ≡ l.fn.rows)
