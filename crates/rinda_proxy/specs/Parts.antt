-- The parts of a command.
use Rattle.std.specs.Prelude.{◌≡◌, ℕ, ◌≤◌, List, ◌++◌, Bool, true, false, Option, None, Some, unwrap_or}
use Rattle.drb_outside.specs.Told.{Told, Rose}
use Rattle.drb_packet.specs.declared.request.Limits.{Limits}
use Rattle.drb_back.specs.declared.back.Back.{Back}
use Rattle.drb_back.specs.declared.back.Back.TheVariants as back
use Rattle.rinda_proxy.specs.declared.asking.Asking.{Asking}
use Rattle.rinda_proxy.specs.declared.status.Status.{Status}
use Rattle.rinda_proxy.specs.declared.status.Status.TheVariants.{Done, WriteFault, Memory}
use Rattle.rinda_proxy.specs.Statuses.{status_of}
use Rattle.rinda_proxy.specs.Requests.{Ask, asked_as, is_last}
use Rattle.rinda_proxy.specs.Lines.{first_text, pop_text}
use Rattle.rinda_proxy.specs.Commands.{Side, Later, Does, Caused, End, whole, unprinted, lost, Written, Takes, popping}

-- how it goes on after an answer that decides this status, or none: None where more may be asked
abbrev pub TellsAs : End → Bool → Option Status → ℕ → ℕ → Option Status → Type 0
TellsAs whole false decided before now result = result ≡ None
TellsAs whole true decided before now result = result ≡ Some (unwrap_or decided Done)
TellsAs unprinted over decided before now result = Rose before now
    × (result ≡ Some (unwrap_or decided WriteFault))
TellsAs lost over decided before now result = result ≡ Some Memory

-- an answer with that text, as far as it was printed
pub record Tells (over : Bool) (decided : Option Status) (text : List ℕ) (result : Option Status)
    (given given' : Option (List ℕ)) (before now : ℕ) : Type 0 where
  pub end : End
  pub ends : TellsAs end over decided before now result
  pub output : Told given given' now (λ given given'.
      (written : List ℕ) × (given' ≡ given ++ written) × Written end text written)
  pub later : before ≤ now

-- one request for an event, with its answer
pub record Step (limits : Limits) (a : Ask) (result : Option Status) (old new : Side) : Type 0 where
  pub back : Back
  pub calls : Told old.calls new.calls new.call_faults (Does limits (asked_as a back))
  pub cause : Caused old.call_faults new.call_faults (asked_as a back)
  pub later : old.call_faults ≤ new.call_faults
  pub tells : Tells (is_last back) (status_of back) (pop_text back) result old.given new.given
      old.print_faults new.print_faults

-- an answer alone, without a further request
pub record Answers (a : Asking) (b : Back) (status : Status) (old new : Side) : Type 0 where
  pub calls : new.calls ≡ old.calls
  pub faults : new.call_faults ≡ old.call_faults
  pub tells : Tells true (status_of b) (first_text a b) (Some status) old.given new.given
      old.print_faults new.print_faults

-- what follows the first answer of a watcher
abbrev pub Follows : Limits → Asking → ℕ → Back → Status → Side → Side → Type 0
Follows limits a count (back.Value v) status old new = Takes (popping v count) limits status old new
Follows limits a count b status old new = Answers a b status old new
