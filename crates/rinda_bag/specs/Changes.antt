-- What a change makes of a row, in the words of the rules.
use Rattle.std.specs.Prelude.{None, true}
use Rattle.rinda_rules.specs.declared.plain.Entry.{Entry}
use Rattle.rinda_rules.specs.Phases.{held_by, doubt_tuple}
use Rattle.rinda_rules.specs.Cases.{renewed_tuple, asked_doubt}
use Rattle.rinda_bag.specs.declared.change.Standing.{Standing}
use Rattle.rinda_bag.specs.declared.change.Change.{Change}
use Rattle.rinda_bag.specs.declared.change.Change.TheVariants as change

-- held by nobody
abbrev pub let_go : Entry → Entry
let_go t = record t { holder = None }

-- canceled while it is held
abbrev pub marked : Entry → Entry
marked t = record t { marked = true }

-- its renewer is being asked, if it waited for that
abbrev pub asked : Entry → Entry
asked t = record t { doubt = asked_doubt t.doubt }

-- all that can change of it is this
abbrev pub stood : Standing → Entry → Entry
stood st t = record t {
  deadline = st.deadline;
  renewer = st.renewer;
  holder = st.holder;
  marked = st.marked;
  doubt = st.doubt;
}

abbrev pub changed_by : Change → Entry → Entry
changed_by (change.Hold request) t = held_by request t
changed_by change.Release t = let_go t
changed_by change.Mark t = marked t
changed_by (change.Renew deadline renewer) t = renewed_tuple deadline renewer t
changed_by change.Doubt t = doubt_tuple t
changed_by change.Ask t = asked t
changed_by (change.Stand standing) t = stood standing t
