-- What comes of a request: docs/SESSIONS.md, Dispatch.
use Rattle.std.specs.Prelude.{ℕ, List, length, Option, Result, Ok, Err}
use Rattle.drb_tree.specs.declared.Remote.{Remote}
use Rattle.drb_tree.specs.declared.Tree.{Tree}
use Rattle.drb_packet.specs.declared.request.Request.{Request}
use Rattle.drb_dispatch.specs.declared.call.Call.{Call}
use Rattle.drb_dispatch.specs.declared.fault.Fault.{Fault}
use Rattle.drb_dispatch.specs.declared.planned.Planned.{Planned}
use Rattle.drb_dispatch.specs.declared.planned.Planned.TheVariants as outcome
use Rattle.drb_dispatch.specs.Faults.{exception_by}
use Rattle.drb_dispatch.specs.Checks.{◌>>=◌, method_called}
use Rattle.drb_dispatch.specs.Calls as calls

-- the call that these parts of a request make, or the first check that fails
unfoldable pub judged : Tree → List ℕ → List Tree → Option Remote → Result Call Fault
judged reference name args block = do
  m ← method_called reference name (length args)
  calls.call_of m args block

-- the call of a request, or the first check that it fails
abbrev pub call_of : Request → Result Call Fault
call_of r = judged r.reference r.name.bytes r.args r.block

-- the call, or the exception of the check that failed in a request of this name
abbrev pub planned_from : List ℕ → Result Call Fault → Planned
planned_from name (Ok c) = outcome.Call c
planned_from name (Err f) = outcome.Raise (exception_by name f)

-- what a request is planned as: its call, or the exception of the first check that it fails
abbrev pub planned : Request → Planned
planned r = planned_from r.name.bytes (call_of r)
