-- The exception that each failed check raises: docs/WIRE.md, Exceptions.
use Rattle.std.specs.Prelude.{ℕ, List, ◌++◌, codes}
use Rattle.drb_tree.specs.declared.Tree.{Tree}
use Rattle.drb_ref.specs.declared.causes.Cause.TheVariants as cause
use Rattle.drb_ref.specs.Exceptions.{exception_tree}
use Rattle.drb_ref.specs.Causes.{raised}
use Rattle.drb_dispatch.specs.declared.fault.Fault.{Fault}
use Rattle.drb_dispatch.specs.declared.fault.Fault.TheVariants as fault

-- the class and the text of what is raised where a request of this name fails a check: those of the cause
abbrev pub raised_by : List ℕ → Fault → List ℕ × List ℕ
raised_by name fault.Insecure = raised cause.Insecure
raised_by name fault.NotAnId = raised cause.NotAnId
raised_by name fault.NoMethod = (codes "NoMethodError", codes "no method " ++ name)
raised_by name (fault.WrongCount given least most) = raised (cause.WrongCount given least most)
raised_by name fault.NotATuple = raised cause.NotATuple
raised_by name fault.BadKey = raised cause.BadKey
raised_by name fault.BadPort = raised cause.BadPort

-- that exception
abbrev pub exception_by : List ℕ → Fault → Tree
exception_by name f = exception_tree (raised_by name f).0 (raised_by name f).1
