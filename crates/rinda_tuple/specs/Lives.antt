-- How long an object stays: the deadline that a life gives, and the life that an argument of a request says.
-- docs/SPACE.md, Lives.
use Rattle.std.specs.Prelude.{ℕ, ◌+◌, ◌-◌, ◌*◌, ◌^◌, nat_le, pos, nat_abs, int_le, Option, Some, None, if◌then◌else◌}
use Rattle.drb_tree.specs.declared.Tree.{Tree}
use Rattle.drb_tree.specs.declared.Tree.TheViews.{out-Tree}
use Rattle.drb_tree.specs.declared.Tree.TheOpen.{Tree-F}
use Rattle.rinda_tuple.specs.declared.lease.Life.{Life}
use Rattle.rinda_tuple.specs.declared.lease.Life.TheVariants.{Never, Gone, Seconds}
use Rattle.rinda_tuple.specs.declared.lease.LifeArg.{LifeArg}
use Rattle.rinda_tuple.specs.declared.lease.LifeArg.TheVariants.{Known, Renewer}

-- the last time that a deadline can name, in milliseconds
abbrev pub last_deadline : ℕ
last_deadline = 2 ^ 63 - 1

-- that time, or no deadline where it passes the last one
abbrev pub unless_past : ℕ → Option ℕ
unless_past time = if nat_le time last_deadline then Some time else None

-- the deadline, in milliseconds, that a life gives at the time now; None is no deadline
abbrev pub deadline : Life → ℕ → Option ℕ
deadline Never now = None
deadline Gone now = Some 0
deadline (Seconds s) now = if int_le s (pos 0) then Some now
    else unless_past (now + 1000 * nat_abs s)

-- what a life argument says, by its outermost part
abbrev pub life_at : Tree-F Tree → LifeArg
life_at Tree-F.Nil = Known Never
life_at (Tree-F.Int s) = Known (Seconds s)
life_at (Tree-F.Remote r) = Renewer
life_at _ = Known Gone

-- what a life argument says: nil is never, a number so many seconds, a remote object a renewer, and all else, true among it, is gone
abbrev pub life_of : Tree → LifeArg
life_of v = life_at (out-Tree v)
