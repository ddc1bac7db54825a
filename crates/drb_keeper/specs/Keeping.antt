-- What a keeper does by what it owes: docs/SESSIONS.md, The keeper.
use Rattle.std.specs.Prelude.{◌≡◌, ℕ, ◌<◌, Bool, true, false, List, [], ◌∷◌, ◌++◌, length, map, Ok, Err, None, Some}
use Rattle.std.specs.declared.option.Option.{Option}
use Rattle.drb_tree.specs.declared.Remote.{Remote}
use Rattle.drb_packet.specs.declared.request.Limits.{Limits}
use Rattle.drb_back.specs.declared.back.Back.{Back}
use Rattle.drb_back.specs.declared.back.Back.TheVariants as back
use Rattle.rinda_tuple.specs.declared.lease.Life.{Life}
use Rattle.rinda_rules.specs.declared.event.Event.TheVariants as event
use Rattle.rinda_rules.specs.declared.out.Out.{Out}
use Rattle.rinda_rules.specs.declared.out.Out.TheVariants as out
use Rattle.rinda_rules.specs.declared.turn.Turn.{Turn}
use Rattle.rinda_rules.specs.Space.{Plain}
use Rattle.rinda_rules.specs.Legal.{plain_from}
use Rattle.rinda_rules.specs.Phases.{advanced, nothing_due}
use Rattle.rinda_space.specs.Spaces.{StartsAt}
use Rattle.drb_script.specs.Scripts.{life_from}
use Rattle.rinda_space.specs.declared.turned.Turned.TheVariants.{Done, Nothing}
use Rattle.rinda_space.specs.declared.turned.TurnError.{TurnError}
use Rattle.rinda_space.specs.declared.turned.TurnError.TheVariants as turn_error
use Rattle.drb_session.specs.Passes.{Pass, Sees}
use Rattle.drb_session.specs.Clocks.{ReadsAll}
use Rattle.drb_session.specs.Runs.{Side}
use Rattle.drb_keeper.specs.declared.owed.Owed.{Owed}
use Rattle.drb_keeper.specs.declared.owed.Owed.TheVariants.{Call, Turn as Telling}
use Rattle.drb_keeper.specs.declared.owed.KeeperEnd.{KeeperEnd}
use Rattle.drb_keeper.specs.declared.owed.KeeperEnd.TheVariants.{Idle, Asked, Full, Memory}
use Rattle.drb_keeper.specs.Deeds.{Deed, tried, called, DoesAll, ats_of, made_of, saw_of}

-- a turn that failed ends the step so
abbrev pub end_of : TurnError → KeeperEnd
end_of (turn_error.Full turns) = Full turns
end_of turn_error.Memory = Memory

-- the life that a renewer answered; want of memory says nothing
abbrev pub life_told : Back → Option Life
life_told back.Memory = None
life_told b = Some (life_from b)

-- The deeds of a step, what is owed after them, and the end.

-- An Asked is owed: it is made, and nothing is owed; or it fails, and stays owed.
abbrev pub Settles : ℕ → Life → List Deed → Option Owed → KeeperEnd → Type 0
Settles id life (tried at e (Ok (Done o)) ∷ []) after end =
    (e ≡ event.Asked id life) × (after ≡ None) × (end ≡ Asked id)
Settles id life (tried at e (Err error) ∷ []) after end =
    (e ≡ event.Asked id life) × (after ≡ Some (Telling id life)) × (end ≡ end_of error)
Settles id life deeds after end = ⊥

-- The renewer was called and answered this life, which is told; or it said nothing of one.
abbrev pub AsksOn : ℕ → Remote → Option Life → List Deed → Option Owed → KeeperEnd → Type 0
AsksOn id renewer None deeds after end =
    (deeds ≡ []) × (after ≡ Some (Call id renewer)) × (end ≡ Memory)
AsksOn id renewer (Some life) deeds after end = Settles id life deeds after end

-- A call is owed: it is made, and then the Asked of the life that was answered; but for want of memory it stays owed.
abbrev pub Asks : ℕ → Remote → List Deed → Option Owed → KeeperEnd → Type 0
Asks id renewer (called to back ∷ deeds) after end =
    (to ≡ renewer) × AsksOn id renewer (life_told back) deeds after end
Asks id renewer deeds after end = ⊥

-- NextAsk was answered so: the renewer is called; or there is none to call.
abbrev pub LooksOn : Out → List Deed → Option Owed → KeeperEnd → Type 0
LooksOn (out.Ask id renewer) deeds after end = Asks id renewer deeds after end
LooksOn out.NotYet deeds after end = (deeds ≡ []) × (after ≡ None) × (end ≡ Idle)
LooksOn o deeds after end = ⊥

-- NextAsk, and what its answer asks for; or it finds nothing to do, or fails.
abbrev pub LooksNext : List Deed → Option Owed → KeeperEnd → Type 0
LooksNext (tried at e (Ok (Done o)) ∷ deeds) after end =
    (e ≡ event.NextAsk) × LooksOn o deeds after end
LooksNext (tried at e (Ok (Nothing turns)) ∷ deeds) after end =
    (e ≡ event.NextAsk) × (deeds ≡ []) × (after ≡ None) × (end ≡ Idle)
LooksNext (tried at e (Err error) ∷ deeds) after end =
    (e ≡ event.NextAsk) × (deeds ≡ []) × (after ≡ None) × (end ≡ end_of error)
LooksNext deeds after end = ⊥

-- Nothing is owed: a Tick, whether it finds something to do or not, and then NextAsk.
abbrev pub Looks : List Deed → Option Owed → KeeperEnd → Type 0
Looks (tried at e (Ok turned) ∷ deeds) after end = (e ≡ event.Tick) × LooksNext deeds after end
Looks (tried at e (Err error) ∷ deeds) after end =
    (e ≡ event.Tick) × (deeds ≡ []) × (after ≡ None) × (end ≡ end_of error)
Looks deeds after end = ⊥

-- Nothing is owed, and the space is to be shut: a Shut, whether it finds something to do or not, which it doesn't in a
-- space that is shut, and then what is done anyway; or it fails, and that is all.
abbrev pub Shuts : List Deed → Option Owed → KeeperEnd → Type 0
Shuts (tried at e (Ok turned) ∷ deeds) after end = (e ≡ event.Shut) × Looks deeds after end
Shuts (tried at e (Err error) ∷ deeds) after end =
    (e ≡ event.Shut) × (deeds ≡ []) × (after ≡ None) × (end ≡ end_of error)
Shuts deeds after end = ⊥

-- The deeds of a step by what is owed before it, and by whether the space is to be shut. What is owed comes first, and
-- then no Shut is tried. So it was tried exactly where nothing was owed.
abbrev pub Comes : Option Owed → Bool → List Deed → Option Owed → KeeperEnd → Type 0
Comes None true deeds after end = Shuts deeds after end
Comes None false deeds after end = Looks deeds after end
Comes (Some (Call id renewer)) shut deeds after end = Asks id renewer deeds after end
Comes (Some (Telling id life)) shut deeds after end = Settles id life deeds after end

-- A step of a keeper: exactly these deeds, one after the other, are those that are due by what it owes. So its turns
-- are these, and the clock was read once for each try.
pub record Steps (limits : Limits) (shut : Bool) (before after : Option Owed) (old new : Side)
    (end : KeeperEnd) : Type 0 where
  pub deeds : List Deed
  pub comes : Comes before shut deeds after end
  pub does : DoesAll limits deeds old new
  pub turns : List Turn
  pub made : map saw_of turns ≡ made_of deeds
  pub sees : Sees old.pass new.pass turns
  pub reads : ReadsAll old.readings new.readings (ats_of deeds)

-- no row is due at the larger of now and this reading, after the turns that were seen
abbrev pub NoneDue : Pass → ℕ → Type 0
NoneDue p at = (s : Plain) → StartsAt p.start s →
    nothing_due (advanced (plain_from s p.seen) at) ≡ true

-- The clock was read once at least, and where there is room for a further turn no row is due at the larger of the
-- space's now and the last of these readings, from wherever the turns start.
pub record Ages (new : Pass) (r r' : Option (List ℕ)) : Type 0 where
  pub ats : List ℕ
  pub last : ℕ
  pub reads : ReadsAll r r' (ats ++ last ∷ [])
  pub none_due : length new.seen < new.cap → NoneDue new last

-- so it is after each step that memory didn't end
abbrev pub AgesBut : Pass → Option (List ℕ) → Option (List ℕ) → KeeperEnd → Type 0
AgesBut new r r' Memory = Unit {0}
AgesBut new r r' end = Ages new r r'
