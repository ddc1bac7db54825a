-- The parts of a session's step.
use Rattle.std.specs.Prelude.{◌≡◌, ◌⊎◌, ℕ, List, [], ◌++◌, true, false, ⊤, Ok, Err, None, Some}
use Rattle.std.specs.declared.option.Option.{Option}
use Rattle.std.specs.declared.result.Result.{Result}
use Rattle.drb_outside.specs.Told.{Told}
use Rattle.drb_packet.specs.declared.refusal.PacketRefusal.{PacketRefusal}
use Rattle.drb_dispatch.specs.declared.place.Place.{Place}
use Rattle.drb_dispatch.specs.declared.planned.Planned.{Planned}
use Rattle.drb_script.specs.declared.patience.Patience.{Patience}
use Rattle.drb_script.specs.Stands.{Action}
use Rattle.drb_session.specs.declared.making.Halt.{Halt}
use Rattle.drb_session.specs.declared.making.Halt.TheVariants as halt
use Rattle.drb_session.specs.declared.end.SessionEnd.{SessionEnd}
use Rattle.drb_session.specs.declared.end.SessionEnd.TheVariants.{Raised, Refused, WriteFault, Full, Memory}
use Rattle.drb_session.specs.Passes.{Pass}
use Rattle.drb_session.specs.Runs.{Side, Did}
use Rattle.drb_session.specs.Replies.{Replied, within, text_of, is_told, refusal_text}
use Rattle.drb_session.specs.Transcripts.{LastOut}
use Rattle.drb_session.specs.Session.{Plays, HaltsFull, HaltsMemory}

abbrev pub end_of : Halt → SessionEnd
end_of (halt.Full turns) = Full turns
end_of halt.Memory = Memory

abbrev pub AnswersTo : Place → Patience → List ℕ → Planned → Pass → List Action
    → Result Replied Halt → Type 0
AnswersTo place p name plan new actions (Ok r) = Plays place p name plan actions (within r)
AnswersTo place p name plan new actions (Err (halt.Full turns)) = HaltsFull p plan new actions turns
AnswersTo place p name plan new actions (Err halt.Memory) = HaltsMemory p plan actions

-- what was planned for the method with that name, as far as it came to a reply
pub record Answers (place : Place) (p : Patience) (name : List ℕ) (plan : Planned) (old new : Side)
    (result : Result Replied Halt) : Type 0 where
  pub actions : List Action
  pub did : Did place old new actions
  pub comes : AnswersTo place p name plan new.pass actions result

abbrev pub RepliesTo : Place → Patience → List ℕ → Planned → Pass → List Action → Replied
    → Option SessionEnd → Type 0
RepliesTo place p name plan new actions r None =
    Plays place p name plan actions r × (r.0 ≡ true)
RepliesTo place p name plan new actions r (Some Raised) =
    Plays place p name plan actions r × (r.0 ≡ false)
RepliesTo place p name plan new actions r (Some WriteFault) = Plays place p name plan actions r
RepliesTo place p name plan new actions r (Some (Full turns)) = HaltsFull p plan new actions turns
RepliesTo place p name plan new actions r (Some Memory) =
    HaltsMemory p plan actions ⊎ Plays place p name plan actions r
RepliesTo place p name plan new actions r (Some end) = ⊥

abbrev pub RepliesOut : Option SessionEnd → List ℕ → List ℕ → Type 0
RepliesOut None text written = written ≡ text
RepliesOut (Some Raised) text written = written ≡ text
RepliesOut (Some WriteFault) text written = LastOut WriteFault text written
RepliesOut (Some end) text written = written ≡ []

-- one request with its reply, as far as it was written
pub record Replies (place : Place) (p : Patience) (name : List ℕ) (plan : Planned) (old new : Side)
    (given given' : Option (List ℕ)) (faults : ℕ) (result : Option SessionEnd) : Type 0 where
  pub actions : List Action
  pub reply : Replied
  pub did : Did place old new actions
  pub comes : RepliesTo place p name plan new.pass actions reply result
  pub output : Told given given' faults (λ given given'.
      (written : List ℕ) × (given' ≡ given ++ written) × RepliesOut result (text_of reply) written)

-- what is known of the reply that was written so
abbrev pub WritesTo : Replied → Option SessionEnd → Type 0
WritesTo r None = (within r).0 ≡ true
WritesTo r (Some Raised) = (within r).0 ≡ false
WritesTo r (Some WriteFault) = ⊤
WritesTo r (Some Memory) = ⊤
WritesTo r (Some end) = ⊥

-- the reply, as far as it was written
pub record Writes (r : Replied) (result : Option SessionEnd) (given given' : Option (List ℕ))
    (faults : ℕ) : Type 0 where
  pub is : WritesTo r result
  pub output : Told given given' faults (λ given given'.
      (written : List ℕ) × (given' ≡ given ++ written)
      × RepliesOut result (text_of (within r)) written)

abbrev pub IsRefusal : PacketRefusal → SessionEnd → Type 0
IsRefusal why (Refused r) = r ≡ why
IsRefusal why WriteFault = is_told why ≡ true
IsRefusal why Memory = ⊤
IsRefusal why end = ⊥

-- a refusal of the input, as far as it was answered
pub record Refuses (why : PacketRefusal) (end : SessionEnd) (given given' : Option (List ℕ))
    (faults : ℕ) : Type 0 where
  pub is : IsRefusal why end
  pub output : Told given given' faults (λ given given'.
      (written : List ℕ) × (given' ≡ given ++ written)
      × LastOut end (refusal_text why) written)
