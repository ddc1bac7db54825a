-- Which answers each event may have, and when an event is nothing.
use Rattle.std.specs.Prelude.{◌≡◌, ℕ, Bool, true, false, ◌&&◌, ◌||◌, List, Option}
use Rattle.rinda_rules.specs.declared.event.Event.{Event}
use Rattle.rinda_rules.specs.declared.event.Event.TheVariants.{Write, Reserve, Submit, Collect, Settle, Withdraw, Cancel, Renew, Look, Value, ReadAll, Notify, Pop, NextAsk, Asked, Tick, Shut}
use Rattle.rinda_rules.specs.declared.out.Out.{Out}
use Rattle.rinda_rules.specs.declared.out.Out.TheVariants as out
use Rattle.rinda_rules.specs.declared.turn.Pick.{Pick}
use Rattle.rinda_rules.specs.declared.plain.Entry.{Entry}
use Rattle.rinda_rules.specs.Space.{Plain}
use Rattle.rinda_rules.specs.Phases.{advanced, nothing_due}
use Rattle.rinda_rules.specs.Cases.{outcome}
use Rattle.rinda_rules.specs.Steps.{Step}
use Rattle.rinda_rules.specs.Nothing.{is_nothing}
use Rattle.rinda_rules.specs.Sound.{Sound, is_kept_answer}

-- Answers of an id that names no object which the event is for.

-- the id was never minted, or its object ended too long ago
abbrev pub is_gone : Out → Bool
is_gone out.Recycled = true
is_gone out.Unknown = true
is_gone _ = false

-- the same, or the object is of another kind or state, or another caller's
abbrev pub is_refusal : Out → Bool
is_refusal out.WrongKind = true
is_refusal o = is_gone o

-- Answers of each event, but for these.

abbrev pub write_answers : Out → Bool
write_answers (out.Entry id) = true
write_answers out.Shut = true
write_answers _ = false

abbrev pub reserve_answers : Out → Bool
reserve_answers (out.Reserved id) = true
reserve_answers out.Shut = true
reserve_answers _ = false

abbrev pub submit_answers : Out → Bool
submit_answers (out.Parked id) = true
submit_answers (out.Granted id value) = true
submit_answers o = is_kept_answer o

abbrev pub collect_answers : Out → Bool
collect_answers out.NotYet = true
collect_answers (out.Granted id value) = true
collect_answers o = is_kept_answer o

abbrev pub plain_answers : Out → Bool
plain_answers out.Plain = true
plain_answers _ = false

-- of a request: it ends at once, or as a Collect; of a notifier: as a Pop that doesn't wait
abbrev pub withdraw_answers : Out → Bool
withdraw_answers out.Plain = true
withdraw_answers out.WouldWait = true
withdraw_answers (out.Granted id value) = true
withdraw_answers (out.Event value) = true
withdraw_answers out.Closed = true
withdraw_answers o = is_kept_answer o

abbrev pub look_answers : Out → Bool
look_answers (out.State flags) = true
look_answers _ = false

abbrev pub value_answers : Out → Bool
value_answers (out.Answer value) = true
value_answers _ = false

abbrev pub read_all_answers : Out → Bool
read_all_answers (out.All values) = true
read_all_answers _ = false

abbrev pub notify_answers : Out → Bool
notify_answers (out.Notifier id) = true
notify_answers out.Shut = true
notify_answers _ = false

abbrev pub pop_answers : Out → Bool
pop_answers (out.Event value) = true
pop_answers out.NotYet = true
pop_answers out.Closed = true
pop_answers out.Expired = true
pop_answers _ = false

abbrev pub next_ask_answers : Out → Bool
next_ask_answers (out.Ask id renewer) = true
next_ask_answers out.NotYet = true
next_ask_answers _ = false

abbrev pub shut_answers : Out → Bool
shut_answers out.Plain = true
shut_answers out.NotYet = true
shut_answers _ = false

-- the event may be answered so
abbrev pub may_answer : Event → Out → Bool
may_answer (Write value lease) o = write_answers o
may_answer (Reserve kind pattern lease) o = reserve_answers o
may_answer (Submit id) o = submit_answers o || is_refusal o
may_answer (Collect id) o = collect_answers o || is_refusal o
may_answer (Settle id ok) o = plain_answers o || is_refusal o
may_answer (Withdraw id) o = withdraw_answers o || is_refusal o
may_answer (Cancel id) o = plain_answers o || is_gone o
may_answer (Renew id lease) o = plain_answers o || is_gone o
may_answer (Look id) o = look_answers o || is_gone o
may_answer (Value id) o = value_answers o || is_refusal o
may_answer (ReadAll pattern) o = read_all_answers o
may_answer (Notify event pattern lease) o = notify_answers o
may_answer (Pop id) o = pop_answers o || is_refusal o
may_answer NextAsk o = next_ask_answers o
may_answer (Asked id life) o = plain_answers o || is_gone o
may_answer Tick o = plain_answers o
may_answer Shut o = shut_answers o

-- In a sound space, an event's own case answers so, whatever match it picks.
abbrev pub CaseAnswers : Type 0
CaseAnswers = (s : Plain) (caller : ℕ) (event : Event) (choice : Option Entry) →
    Sound s → may_answer event (outcome s caller event choice).out ≡ true

-- So does a step.
abbrev pub StepAnswers : Type 0
StepAnswers = (s : Plain) (caller at : ℕ) (event : Event) (out : Out) (picks : List Pick)
    (s' : Plain) →
    Sound s → Step s caller at event out picks s' → may_answer event out ≡ true

-- When an event is nothing.

abbrev pub is_tick : Event → Bool
is_tick Tick = true
is_tick _ = false

abbrev pub is_not_yet : Out → Bool
is_not_yet out.NotYet = true
is_not_yet _ = false

-- An event is nothing exactly where no row is due at the larger of now and the reading, and it is a Tick or its own
-- case answers NotYet.
abbrev pub NothingIsNotYet : Type 0
NothingIsNotYet = (s : Plain) (caller at : ℕ) (event : Event) (choice : Option Entry) →
    Sound s →
    is_nothing s caller at event
    ≡ (nothing_due (advanced s at)
    && (is_tick event || is_not_yet (outcome (advanced s at) caller event choice).out))
