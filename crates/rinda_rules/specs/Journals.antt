-- What a journal holds, and what it holds next. docs/SPACE.md, Histories.
use Rattle.std.specs.Prelude.{ℕ, ◌+◌, ◌≤◌, List, [], ◌∷◌, Option, Some, None, length, vec_len}
use Rattle.std.specs.Vec.{vec_capacity}
use Rattle.std.specs.Global.{Vec}
use Rattle.rinda_rules.specs.declared.event.Event.{Event}
use Rattle.rinda_rules.specs.declared.out.Out.{Out}
use Rattle.rinda_rules.specs.declared.turn.Pick.{Pick}
use Rattle.rinda_rules.specs.declared.turn.Turn.{Turn}

-- A journal as callers see it: its turns, its turns after the next `commit`, and how many it may hold.
pub record Journaled : Type 0 where
  pub turns : List Turn
  pub ahead : List Turn
  pub cap : ℕ

-- no turn is held, and none prepared
abbrev pub empty : ℕ → Journaled
empty cap = record { turns = []; ahead = []; cap = cap }

-- the turn of this caller, at this reading of the clock, with this event, answer and picks
abbrev pub made : ℕ → ℕ → Event → Out → List Pick → Turn
made caller at event out picks =
    record { caller = caller; at = at; event = event; out = out; picks = picks }

-- the turn that was prepared, if one was
abbrev pub prepared : Option Turn → List Turn
prepared None = []
prepared (Some turn) = turn ∷ []

-- the list is within its cap, and has the memory for the turn that was prepared
pub record HasRoom (list : Vec Turn) (next : Option Turn) (cap : ℕ) : Type 0 where
  pub within : vec_len list + length (prepared next) ≤ cap
  pub reserved : vec_len list + length (prepared next) ≤ vec_capacity list
