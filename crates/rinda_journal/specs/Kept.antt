-- What each turn in memory keeps, by its types: docs/JOURNAL.md, Which turns have a text.
use Rattle.std.specs.Prelude.{ℕ, ◌<◌, ◌^◌, IsTrue, All, length}
use Rattle.rinda_tuple.specs.Keys.{all_texts}
use Rattle.rinda_tuple.specs.declared.tuple.Tuple.{Tuple}
use Rattle.rinda_tuple.specs.declared.tuple.Tuple.TheVariants as tuple
use Rattle.rinda_tuple.specs.declared.tuple.Template.{Template}
use Rattle.rinda_tuple.specs.declared.tuple.Template.TheVariants as template
use Rattle.rinda_rules.specs.declared.event.Event.{Event}
use Rattle.rinda_rules.specs.declared.event.Event.TheVariants as event
use Rattle.rinda_rules.specs.declared.out.Out.{Out}
use Rattle.rinda_rules.specs.declared.out.Out.TheVariants as out
use Rattle.rinda_rules.specs.declared.turn.Pick.{Pick}
use Rattle.rinda_rules.specs.declared.turn.Turn.{Turn}

-- an id or a reading of the clock
abbrev pub IsU64 : ℕ → Type 0
IsU64 n = n < 2 ^ 64

-- the keys of a tuple that names its values are texts
abbrev pub TupleKept : Tuple → Type 0
TupleKept (tuple.List items) = Unit {0}
TupleKept (tuple.Named pairs) = IsTrue (all_texts pairs)

-- and so are those of a template
abbrev pub TemplateKept : Template → Type 0
TemplateKept (template.List items) = Unit {0}
TemplateKept (template.Named pairs) = IsTrue (all_texts pairs)

-- an event: its id, its tuple, or its template
abbrev pub EventKept : Event → Type 0
EventKept (event.Write value lease) = TupleKept value
EventKept (event.Reserve kind pattern lease) = TemplateKept pattern
EventKept (event.Submit id) = IsU64 id
EventKept (event.Collect id) = IsU64 id
EventKept (event.Settle id ok) = IsU64 id
EventKept (event.Withdraw id) = IsU64 id
EventKept (event.Cancel id) = IsU64 id
EventKept (event.Renew id lease) = IsU64 id
EventKept (event.Look id) = IsU64 id
EventKept (event.Value id) = IsU64 id
EventKept (event.ReadAll pattern) = TemplateKept pattern
EventKept (event.Notify name pattern lease) = TemplateKept pattern
EventKept (event.Pop id) = IsU64 id
EventKept event.NextAsk = Unit {0}
EventKept (event.Asked id life) = IsU64 id
EventKept event.Tick = Unit {0}
EventKept event.Shut = Unit {0}

-- an answer: its id, or how many tuples it has
abbrev pub OutKept : Out → Type 0
OutKept (out.Entry id) = IsU64 id
OutKept (out.Reserved id) = IsU64 id
OutKept (out.Parked id) = IsU64 id
OutKept (out.Granted id value) = IsU64 id
OutKept (out.All values) = IsU64 (length values)
OutKept (out.Notifier id) = IsU64 id
OutKept (out.Ask id renewer) = IsU64 id
OutKept _ = Unit {0}

-- a pick
pub record PickKept (p : Pick) : Type 0 where
  pub request : IsU64 p.request
  pub tuple : IsU64 p.tuple

-- all of a turn but its values: numbers below 2^64, and keys that are texts
pub record PlainKept (t : Turn) : Type 0 where
  pub caller : IsU64 t.caller
  pub at : IsU64 t.at
  pub event : EventKept t.event
  pub out : OutKept t.out
  pub picks : All PickKept t.picks
