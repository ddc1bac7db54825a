-- What raising, popping and closing do to the queues of notifiers.
use Rattle.std.specs.Prelude.{◌≡◌, ℕ, ◌+◌, ◌≤◌, true, List, [], ◌∷◌, ◌++◌, length, take, filter, if◌then◌else◌}
use Rattle.drb_tree.specs.declared.Tree.{Tree}
use Rattle.rinda_tuple.specs.declared.tuple.Template.{Template}
use Rattle.rinda_tuple.specs.declared.lease.Lease.{Lease}
use Rattle.rinda_rules.specs.declared.object.Last.{Last}
use Rattle.rinda_rules.specs.declared.plain.Notifier.{Notifier}
use Rattle.rinda_rules.specs.declared.plain.Raised.{Raised}
use Rattle.rinda_rules.specs.Space.{Plain, hears, is_running}
use Rattle.rinda_rules.specs.Queue.{queue}
use Rattle.rinda_rules.specs.Phases.{close_after}
use Rattle.rinda_rules.specs.Cases.{new_notifier}
use Rattle.rinda_rules.specs.Sound.{hears_within}

-- What is raised joins the queue of exactly those notifiers that run and hear it.
abbrev pub RaisedIsQueued : Type 0
RaisedIsQueued = (n : Notifier) (events more : List Raised) →
    hears_within events n ≡ true →
    queue n (events ++ more)
    ≡ queue n events ++ (if is_running n.state then filter (hears n) more else [])

-- A pop takes the first one.
abbrev pub PopDropsOne : Type 0
PopDropsOne = (n : Notifier) (events rest : List Raised) (e : Raised) →
    queue n events ≡ e ∷ rest → queue (record n { popped = n.popped + 1 }) events ≡ rest

-- A notifier that is closed keeps its queue, whatever is raised later.
abbrev pub CloseKeepsQueue : Type 0
CloseKeepsQueue = (n : Notifier) (last : Last) (events later : List Raised) →
    is_running n.state ≡ true → queue (close_after last (length events) n) (events ++ later)
    ≡ queue n events

-- One that is closed after the first so many of what is raised keeps those of them that it hears.
abbrev pub CloseKeepsEarlier : Type 0
CloseKeepsEarlier = (n : Notifier) (last : Last) (events more : List Raised) (k : ℕ) →
    is_running n.state ≡ true → hears_within events n ≡ true → k ≤ length more →
    queue (close_after last (length events + k) n) (events ++ more)
    ≡ queue n events ++ filter (hears n) (take k more)

-- two notifiers that hear the same, have popped as many, and run or were closed alike
pub record SameHearing (n m : Notifier) : Type 0 where
  pub event : m.event ≡ n.event
  pub pattern : m.pattern ≡ n.pattern
  pub since : m.since ≡ n.since
  pub popped : m.popped ≡ n.popped
  pub state : m.state ≡ n.state

-- A lease or a doubt changes no queue.
abbrev pub LeaseKeepsQueue : Type 0
LeaseKeepsQueue = (n m : Notifier) (events : List Raised) → SameHearing n m →
    queue m events ≡ queue n events

-- The queue of a new notifier is empty.
abbrev pub NewQueueIsEmpty : Type 0
NewQueueIsEmpty = (s : Plain) (event : Tree) (pattern : Template) (lease : Lease) →
    queue (new_notifier s event pattern lease) s.events ≡ []
