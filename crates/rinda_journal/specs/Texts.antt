-- The text of a turn, and which turns have one: docs/JOURNAL.md.
use Rattle.std.specs.Prelude.{ℕ, ◌≡◌, ◌+◌, ◌≤◌, List, ◌∷◌, ◌++◌, length, drop, All}
use Rattle.drb_tree.specs.declared.Tree.{Tree}
use Rattle.drb_tree.specs.Kept.{WellKept, Ranged, Fits}
use Rattle.drb_packet.specs.Texts.{packets_text}
use Rattle.rinda_rules.specs.declared.out.Out.{Out}
use Rattle.rinda_rules.specs.declared.out.Out.TheVariants as out
use Rattle.rinda_rules.specs.declared.plain.Raised.{Raised}
use Rattle.rinda_rules.specs.declared.turn.Turn.{Turn}
use Rattle.rinda_rules.specs.Space.{event_value}
use Rattle.rinda_journal.specs.Fields.{head_value}
use Rattle.rinda_journal.specs.Heads.{head_fields, turn_values}
use Rattle.rinda_journal.specs.Kept.{TupleKept, PlainKept}

-- what the packets of a turn's text hold: its head, and then its values
abbrev pub turn_parts : Turn → List Tree
turn_parts t = head_value (head_fields t) ∷ turn_values t

-- the text of a turn: a packet for each of these, in the one written spelling
unfoldable pub turn_text : Turn → List ℕ
turn_text t = packets_text (turn_parts t)

-- an event of the rules, as a notifier gives it: the name of what happened, and a tuple
pub record IsEvent (v : Tree) : Type 0 where
  pub raised : Raised
  pub kept : TupleKept raised.tuple
  pub is : v ≡ event_value raised

-- what an answer Event gives is an event of the rules
abbrev pub HoldsEvent : Out → Type 0
HoldsEvent (out.Event value) = IsEvent value
HoldsEvent _ = Unit {0}

-- A turn has a text: its head and each of its values fit into a dump, and an answer Event holds an event of the rules.
pub record HasText (t : Turn) : Type 0 where
  pub fits : All Fits (turn_parts t)
  pub event : HoldsEvent t.out

-- What each turn in memory keeps: its numbers are below 2^64, the keys in its tuples are texts, and its values keep what
-- values keep.
pub record TurnKept (t : Turn) : Type 0 where
  pub plain : PlainKept t
  pub parts : All (λ v. WellKept v × Ranged v) (turn_parts t)

-- the text of the turn begins at the place `at` of the bytes, and the place after it is `n`
pub record TextAt (bytes : List ℕ) (at : ℕ) (t : Turn) (n : ℕ) : Type 0 where
  pub has : HasText t
  pub kept : TurnKept t
  pub after : n ≡ at + length (turn_text t)
  pub within : n ≤ length bytes
  pub here : drop at bytes ≡ turn_text t ++ drop n bytes
