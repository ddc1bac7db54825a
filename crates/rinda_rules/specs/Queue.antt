-- A notifier's queue: a part of the space's one list of events. docs/SPACE.md, Queues.
use Rattle.std.specs.Prelude.{List, take, drop, map, filter}
use Rattle.drb_tree.specs.declared.Tree.{Tree}
use Rattle.rinda_rules.specs.declared.plain.Notifier.{Notifier}
use Rattle.rinda_rules.specs.declared.plain.Hearing.{Hearing}
use Rattle.rinda_rules.specs.declared.plain.Hearing.TheVariants.{Running, Closed}
use Rattle.rinda_rules.specs.declared.plain.Raised.{Raised}
use Rattle.rinda_rules.specs.Space.{hears, event_value}

-- the events before the notifier ended, or all where it runs
abbrev pub until_end : Hearing → List Raised → List Raised
until_end Running events = events
until_end (Closed last until) events = take until events

-- the events from its registration to its end that it hears
abbrev pub heard : Notifier → List Raised → List Raised
heard n events = filter (hears n) (drop n.since (until_end n.state events))

-- what is left of them in its queue: those that were not popped
abbrev pub queue : Notifier → List Raised → List Raised
queue n events = drop n.popped (heard n events)

-- the queue as the values that a caller sees
abbrev pub queue_values : Notifier → List Raised → List Tree
queue_values n events = map event_value (queue n events)
