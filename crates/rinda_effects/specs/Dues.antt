-- Which one row an event's own case may leave due.
use Rattle.std.specs.Prelude.{◌≡◌, ℕ, Bool, true, false, not, ◌&&◌, ◌||◌, ◌==◌, Option, Some, None}
use Rattle.std.specs.List.{list_all}
use Rattle.rinda_rules.specs.declared.event.Event.{Event}
use Rattle.rinda_rules.specs.declared.event.Event.TheVariants.{Submit, Settle, Renew, Notify, Asked}
use Rattle.rinda_rules.specs.declared.plain.Entry.{Entry}
use Rattle.rinda_rules.specs.Space.{Plain, found, is_due_tuple, is_due_request, is_due_notifier}
use Rattle.rinda_rules.specs.Phases.{advanced, aged, age_found, nothing_due}
use Rattle.rinda_rules.specs.Sound.{Sound}
use Rattle.rinda_rules.specs.Cases.{outcome}
use Rattle.rinda_effects.specs.Unserved.{unserved}
use Rattle.rinda_effects.specs.Touches.{Touched, NoRow, ATuple, ARequest, settle_touches}

-- the id of what is touched
abbrev pub id_of : Touched → Option ℕ
id_of NoRow = None
id_of (ATuple id) = Some id
id_of (ARequest id) = Some id

-- The one id whose row may be due after the event's own case: the one that the event names, the tuple that a Settle
-- lets go, and the notifier that a Notify makes.
abbrev pub due_after : Plain → Event → Option ℕ
due_after s (Submit id) = Some id
due_after s (Settle id ok) = id_of (settle_touches ok (found s id))
due_after s (Renew id lease) = Some id
due_after s (Notify event pattern lease) = Some s.next
due_after s (Asked id life) = Some id
due_after s _ = None

abbrev pub is_one : Option ℕ → ℕ → Bool
is_one None id = false
is_one (Some one) id = id == one

-- no row is due, but for the one with that id
abbrev pub due_only : Option ℕ → Plain → Bool
due_only one s =
    list_all (λ t. is_one one t.id || not (is_due_tuple s.clock t)) s.tuples
    && (list_all (λ r. is_one one r.id || not (is_due_request s.clock r)) s.requests
    && list_all (λ n. is_one one n.id || not (is_due_notifier s.clock n)) s.notifiers)

-- Where nothing was due, at most that one row is due after the event's own case.
abbrev pub CaseLeavesOneDue : Type 0
CaseLeavesOneDue = (s : Plain) (caller : ℕ) (event : Event) (choice : Option Entry) →
    nothing_due s ≡ true → due_only (due_after s event) (outcome s caller event choice).after ≡ true

-- Where at most that one row is due, aging changes it alone.
abbrev pub OneAges : Type 0
OneAges = (s : Plain) (id : ℕ) → Sound s → due_only (Some id) s ≡ true →
    aged s ≡ age_found s (found s id)

-- Where nothing is due at the reading, and the event's own case leaves nothing due, the turn doesn't age.
abbrev pub QuietIsUnserved : Type 0
QuietIsUnserved = (s : Plain) (caller at : ℕ) (event : Event) (choice : Option Entry) →
    nothing_due (advanced s at) ≡ true → due_after (advanced s at) event ≡ None →
    unserved s caller at event choice ≡ (outcome (advanced s at) caller event choice).after
