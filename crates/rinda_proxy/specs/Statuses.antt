-- The status of a client's command: docs/CLIENT.md, Statuses.
use Rattle.std.specs.Prelude.{ℕ, List, [], ◌∷◌, Option, None, Some, unwrap_or}
use Rattle.drb_back.specs.declared.back.Back.{Back}
use Rattle.drb_back.specs.declared.back.Back.TheVariants as back
use Rattle.rinda_proxy.specs.declared.status.Status.{Status}
use Rattle.rinda_proxy.specs.declared.status.Status.TheVariants as status

-- the number that the process ends with
abbrev pub number_of : Status → ℕ
number_of status.Done = 0
number_of status.NotAsked = 1
number_of status.Raised = 2
number_of status.NoReply = 3
number_of status.ReadFault = 4
number_of status.WriteFault = 5
number_of status.Memory = 7
number_of status.DialFault = 8

-- the status that an answer decides; a value decides none
abbrev pub status_of : Back → Option Status
status_of (back.Value v) = None
status_of (back.Raised e) = Some status.Raised
status_of back.BadUri = Some status.NotAsked
status_of back.DialFault = Some status.DialFault
status_of back.ReadFault = Some status.ReadFault
status_of back.WriteFault = Some status.WriteFault
status_of back.Cut = Some status.NoReply
status_of (back.Refused why) = Some status.NoReply
status_of back.TooLong = Some status.NotAsked
status_of back.Memory = Some status.Memory

-- the first answer that isn't a value decides; where all are values, it is this one
abbrev pub decided : Status → List Back → Status
decided otherwise [] = otherwise
decided otherwise (b ∷ bs) = unwrap_or (status_of b) (decided otherwise bs)
