-- What a space is that is opened again after it was stopped. docs/SPACE.md, Opening again.
use Rattle.std.specs.Prelude.{false, List, [], ◌∷◌, map, if◌then◌else◌}
use Rattle.rinda_rules.specs.declared.object.Last.TheVariants as last
use Rattle.rinda_rules.specs.declared.object.Doubt.{Doubt}
use Rattle.rinda_rules.specs.declared.object.Doubt.TheVariants.{No, Waiting, Asked}
use Rattle.rinda_rules.specs.declared.plain.Entry.{Entry}
use Rattle.rinda_rules.specs.declared.plain.Request.{Request}
use Rattle.rinda_rules.specs.declared.plain.Notifier.{Notifier}
use Rattle.rinda_rules.specs.Space.{Plain, is_free}
use Rattle.rinda_rules.specs.Phases.{request_ended, aged}
use Rattle.rinda_rules.specs.Cases.{let_go}

-- each of these tuples that is held is let go, one after the other: it is free, or ends where it was marked
abbrev pub all_let_go : List Entry → Plain → Plain
all_let_go [] s = s
all_let_go (t ∷ ts) s = all_let_go ts (if is_free t then s else let_go t s)

-- each of these requests ends, one after the other
abbrev pub all_ended : List Request → Plain → Plain
all_ended [] s = s
all_ended (r ∷ rs) s = all_ended rs (request_ended last.Done r.id s)

-- a renewer that was being asked has to be asked again
abbrev pub doubt_again : Doubt → Doubt
doubt_again No = No
doubt_again Waiting = Waiting
doubt_again Asked = Waiting

abbrev pub tuple_again : Entry → Entry
tuple_again t = record t { doubt = doubt_again t.doubt }

abbrev pub notifier_again : Notifier → Notifier
notifier_again n = record n { doubt = doubt_again n.doubt }

abbrev pub all_doubt_again : Plain → Plain
all_doubt_again s = record
    s { tuples = map tuple_again s.tuples; notifiers = map notifier_again s.notifiers }

-- Nobody who made a request is there any more: what is held is let go, every request ends, what was being asked is
-- asked again, the space is no longer shut, and what is then due ages. Each is done in rising id.
abbrev pub reopened : Plain → Plain
reopened s =
    let free = all_let_go s.tuples s in
    aged (record (all_doubt_again (all_ended free.requests free)) { shut = false })
