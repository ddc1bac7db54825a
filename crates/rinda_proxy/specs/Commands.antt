-- A command from its first request to its status: docs/CLIENT.md, Commands.
use Rattle.std.specs.Prelude.{◌≡◌, ◌↔◌, ◌⊎◌, ℕ, ◌≤◌, List, [], ◌∷◌, ◌++◌, map, Bool, true, false, ⊤, Option, None, Some}
use Rattle.drb_tree.specs.declared.Text.{Text}
use Rattle.drb_tree.specs.declared.Tree.{Tree}
use Rattle.drb_outside.specs.Told.{Told, Rose}
use Rattle.drb_outside.specs.Records.{Record}
use Rattle.drb_packet.specs.declared.request.Limits.{Limits}
use Rattle.drb_packet.specs.Texts.{ask_values, SomeLong}
use Rattle.drb_back.specs.declared.back.Back.{Back}
use Rattle.drb_back.specs.declared.back.Back.TheVariants as back
use Rattle.drb_back.specs.Outgoing.{NamesNone, IsFault, Outgoing, OrMemory}
use Rattle.rinda_proxy.specs.declared.asking.Asking.{Asking}
use Rattle.rinda_proxy.specs.declared.status.Status.{Status}
use Rattle.rinda_proxy.specs.declared.status.Status.TheVariants as status
use Rattle.rinda_proxy.specs.declared.status.Status.TheVariants.{Done, WriteFault, Memory}
use Rattle.rinda_proxy.specs.Statuses.{decided}
use Rattle.rinda_proxy.specs.Requests.{Ask, Asked, asked_as, first_ask, pops_of, pop_of, Pops, popped, Course}
use Rattle.rinda_proxy.specs.Lines.{first_text, pop_texts}

-- A client's dialer and output: the records of the calls and the bytes that were printed, where they are told, and
-- the counts of faults.
pub record Side : Type 0 where
  pub calls : Option (List Record)
  pub call_faults : ℕ
  pub given : Option (List ℕ)
  pub print_faults : ℕ

abbrev pub side : Option (List Record) → ℕ → Option (List ℕ) → ℕ → Side
side c f g p = record { calls = c; call_faults = f; given = g; print_faults = p }

-- no count fell
pub record Later (old new : Side) : Type 0 where
  pub calls : old.call_faults ≤ new.call_faults
  pub prints : old.print_faults ≤ new.print_faults

-- one request, as one outgoing call with that answer
abbrev pub Does : Limits → Asked → List Record → List Record → Type 0
Does limits a old new = Outgoing limits a.ask.to a.ask.name a.ask.args a.back old new

-- the requests, one after the other
abbrev pub DoesAll : Limits → List Asked → List Record → List Record → Type 0
DoesAll limits [] old new = new ≡ old
DoesAll limits (a ∷ more) old new = (between : List Record) × Does limits a old between
    × DoesAll limits more between new

-- Why a request came to its answer, as far as the bytes of the peer don't say so. A bad uri exactly where the uri
-- names no address; too long exactly where a dump of the request is, of a uri that names one; and a fault only where
-- the dialer's count of faults rose.
pub record Causes (before now : ℕ) (a : Asked) : Type 0 where
  pub bad_uri : (a.back ≡ back.BadUri) ↔ NamesNone a.ask.to.uri.bytes
  pub too_long : a.back ≡ back.TooLong → SomeLong (ask_values a.ask.to.id a.ask.name a.ask.args)
  pub every_too_long : (NamesNone a.ask.to.uri.bytes → ⊥) →
      SomeLong (ask_values a.ask.to.id a.ask.name a.ask.args) → OrMemory back.TooLong a.back
  pub fault : IsFault a.back → Rose before now

-- the same, or there was no memory to make the request
abbrev pub Caused : ℕ → ℕ → Asked → Type 0
Caused before now a = (a.back ≡ back.Memory) ⊎ Causes before now a

abbrev pub CausedAll : ℕ → ℕ → List Asked → Type 0
CausedAll before now [] = ⊤
CausedAll before now (a ∷ more) = Caused before now a × CausedAll before now more

-- How a command ends: all was asked and printed; or the output failed; or there was no memory.
pub data End : Type 0 where
  whole : End
  unprinted : End
  lost : End

-- At each end the status is that of the first answer that isn't a value. Where all are values it is `Done` at the
-- first, and `WriteFault` at the second, which comes only where the output's count of faults rose. Want of memory
-- has its own.
abbrev pub EndsAs : End → Bool → List Back → ℕ → ℕ → Status → Type 0
EndsAs whole over backs before now status = (over ≡ true) × (status ≡ decided Done backs)
EndsAs unprinted over backs before now status = Rose before now
    × (status ≡ decided WriteFault backs)
EndsAs lost over backs before now status = status ≡ Memory

-- a front of a text
abbrev pub IsFront : List ℕ → List ℕ → Type 0
IsFront text written = (rest : List ℕ) × (text ≡ written ++ rest)

-- how much of the text is written: all, or a front
abbrev pub Written : End → List ℕ → List ℕ → Type 0
Written whole text written = written ≡ text
Written end text written = IsFront text written

-- A course was taken, and ended with that status. Its requests are the records that were added, each with its answer
-- by the bytes of its peer, and what was printed is the text of these answers.
pub record Takes (course : Course) (limits : Limits) (status : Status) (old new : Side) : Type 0
  where
    pub backs : List Back
    pub comes : course.Comes backs
    pub end : End
    pub ends : EndsAs end (course.is_over backs) backs old.print_faults new.print_faults status
    pub calls : Told old.calls new.calls new.call_faults (DoesAll limits (course.asked backs))
    pub causes : CausedAll old.call_faults new.call_faults (course.asked backs)
    pub output : Told old.given new.given new.print_faults (λ given given'.
        (written : List ℕ) × (given' ≡ given ++ written)
        × Written end (course.printed backs) written)
    pub later : Later old new

-- the requests for events of the notifier that the value names, at most so many
abbrev pub popping : Tree → ℕ → Course
popping v count = record {
  asked = λ backs. map (λ b. asked_as (pop_of v) b) backs;
  Comes = λ backs. Pops count backs;
  is_over = λ backs. popped count backs;
  printed = λ backs. pop_texts backs;
}

-- what a command asks after its first answer: a watcher its events, where that was a value; nothing else

abbrev pub asked_more : Option ℕ → Back → List Back → List Asked
asked_more (Some count) (back.Value v) backs = (popping v count).asked backs
asked_more pops b backs = []

abbrev pub MoreComes : Option ℕ → Back → List Back → Type 0
MoreComes (Some count) (back.Value v) backs = (popping v count).Comes backs
MoreComes pops b backs = backs ≡ []

abbrev pub more_over : Option ℕ → Back → List Back → Bool
more_over (Some count) (back.Value v) backs = (popping v count).is_over backs
more_over pops b backs = true

-- all that a command asks of the server at that uri

abbrev pub all_asked : Text → Asking → List Back → List Asked
all_asked uri a [] = []
all_asked uri a (b ∷ more) = asked_as (first_ask uri a) b ∷ asked_more (pops_of a) b more

abbrev pub AllComes : Asking → List Back → Type 0
AllComes a [] = ⊤
AllComes a (b ∷ more) = MoreComes (pops_of a) b more

abbrev pub all_over : Asking → List Back → Bool
all_over a [] = false
all_over a (b ∷ more) = more_over (pops_of a) b more

abbrev pub all_printed : Asking → List Back → List ℕ
all_printed a [] = []
all_printed a (b ∷ more) = first_text a b ++ pop_texts more

abbrev pub asking : Text → Asking → Course
asking uri a = record {
  asked = λ backs. all_asked uri a backs;
  Comes = λ backs. AllComes a backs;
  is_over = λ backs. all_over a backs;
  printed = λ backs. all_printed a backs;
}

-- A command was done with that status: the one clause of a client.
abbrev pub Asks : Limits → Text → Asking → Status → Side → Side → Type 0
Asks limits uri a status old new = Takes (asking uri a) limits status old new

-- the statuses that come only where the dialer failed, and the one of the output's fault too
abbrev pub FaultsAs : Status → ℕ → ℕ → ℕ → ℕ → Type 0
FaultsAs status.ReadFault before now printed printing = Rose before now
FaultsAs status.DialFault before now printed printing = Rose before now
FaultsAs WriteFault before now printed printing = Rose before now ⊎ Rose printed printing
FaultsAs _ before now printed printing = ⊤
