-- The statuses of `drbts serve`: docs/SESSIONS.md, The command serve.
use Rattle.std.specs.Prelude.{ℕ}
use Rattle.clap.specs.declared.error.kind.ErrorKind.{ErrorKind}
use Rattle.clap.specs.declared.error.kind.ErrorKind.TheVariants.{DisplayHelp, OutOfMemory}
use Rattle.drb_acl.specs.declared.acl.AclError.{AclError}
use Rattle.drb_acl.specs.declared.acl.AclError.TheVariants as list
use Rattle.drb_serving.specs.declared.settings.Served.{Served}
use Rattle.drb_serving.specs.declared.settings.Served.TheVariants as served
use Rattle.drb_logged.specs.declared.logging.Logged.{Logged}
use Rattle.drb_logged.specs.declared.logging.Logged.TheVariants as logged

-- where clap has a text for the user: help was asked for, or there is no memory, or the words are others
abbrev pub words_status : ErrorKind → ℕ
words_status DisplayHelp = 0
words_status OutOfMemory = 7
words_status _ = 1

-- where the file has no access list
abbrev pub list_status : AclError → ℕ
list_status list.Memory = 7
list_status _ = 1

-- where it has served: nobody will come, the doors failed, or there was no memory
abbrev pub served_status : Served → ℕ
served_status (served.Done turns tuples) = 0
served_status (served.AcceptFault turns tuples) = 8
served_status served.Memory = 7

-- where it has served and written the history: as above, or a turn has no text, or the file failed
abbrev pub logged_status : Logged → ℕ
logged_status (logged.Served s) = served_status s
logged_status (logged.DoesNotFit turn) = 12
logged_status logged.WriteFault = 5
