-- What the head of a turn's text says, and which values follow it: docs/JOURNAL.md, Events, and Answers.
use Rattle.std.specs.Prelude.{ℕ, List, [], ◌∷◌, ◌++◌, length, Option, Some, None, codes, bytes_eq, if◌then◌else◌}
use Rattle.drb_tree.specs.declared.Remote.{Remote}
use Rattle.drb_tree.specs.declared.Tree.{Tree}
use Rattle.drb_tree.specs.declared.Tree.TheViews.{out-Tree}
use Rattle.drb_tree.specs.declared.Tree.TheOpen.{Tree-F}
use Rattle.drb_tree.specs.Trees.{list_tree, hash_tree, remote_tree}
use Rattle.rinda_tuple.specs.declared.tuple.Template.{Template}
use Rattle.rinda_tuple.specs.declared.tuple.Template.TheVariants as template
use Rattle.rinda_tuple.specs.Tuples.{value_of}
use Rattle.rinda_rules.specs.declared.event.Event.{Event}
use Rattle.rinda_rules.specs.declared.event.Event.TheVariants as event
use Rattle.rinda_rules.specs.declared.out.Out.{Out}
use Rattle.rinda_rules.specs.declared.out.Out.TheVariants as out
use Rattle.rinda_rules.specs.declared.turn.Pick.{Pick}
use Rattle.rinda_rules.specs.declared.turn.Turn.{Turn}
use Rattle.rinda_journal.specs.declared.field.Field.{Field}
use Rattle.rinda_journal.specs.declared.field.Field.TheVariants.{Truth, Word}
use Rattle.rinda_journal.specs.declared.word.Word.{Word as Name}
use Rattle.rinda_journal.specs.declared.word.Word.TheVariants as word
use Rattle.rinda_journal.specs.Fields.{number, life_field, told, kind_word}

-- a template as a value: a list, or a hash without default
unfoldable pub template_value : Template → Tree
template_value (template.List items) = list_tree items
template_value (template.Named pairs) = hash_tree pairs None

-- who renews, if somebody is there
abbrev pub renewer_values : Option Remote → List Tree
renewer_values None = []
renewer_values (Some renewer) = remote_tree renewer ∷ []

-- a name and an id
abbrev pub named : Name → ℕ → List Field
named w id = Word w ∷ number id ∷ []

-- Events.

-- the name of an event and its plain fields
abbrev pub event_fields : Event → List Field
event_fields (event.Write value lease) =
    Word word.Write ∷ life_field lease.life ∷ told lease.renewer ∷ []
event_fields (event.Reserve kind pattern lease) =
    Word word.Reserve ∷ Word (kind_word kind) ∷ life_field lease.life ∷ told lease.renewer ∷ []
event_fields (event.Submit id) = named word.Submit id
event_fields (event.Collect id) = named word.Collect id
event_fields (event.Settle id ok) = Word word.Settle ∷ number id ∷ Truth ok ∷ []
event_fields (event.Withdraw id) = named word.Withdraw id
event_fields (event.Cancel id) = named word.Cancel id
event_fields (event.Renew id lease) =
    Word word.Renew ∷ number id ∷ life_field lease.life ∷ told lease.renewer ∷ []
event_fields (event.Look id) = named word.Look id
event_fields (event.Value id) = named word.Value id
event_fields (event.ReadAll pattern) = Word word.ReadAll ∷ []
event_fields (event.Notify name pattern lease) =
    Word word.Notify ∷ life_field lease.life ∷ told lease.renewer ∷ []
event_fields (event.Pop id) = named word.Pop id
event_fields event.NextAsk = Word word.NextAsk ∷ []
event_fields (event.Asked id life) = Word word.Asked ∷ number id ∷ life_field life ∷ []
event_fields event.Tick = Word word.Tick ∷ []
event_fields event.Shut = Word word.Shut ∷ []

-- the values of an event, in the order of its fields
abbrev pub event_values : Event → List Tree
event_values (event.Write value lease) = value_of value ∷ renewer_values lease.renewer
event_values (event.Reserve kind pattern lease) =
    template_value pattern ∷ renewer_values lease.renewer
event_values (event.Renew id lease) = renewer_values lease.renewer
event_values (event.ReadAll pattern) = template_value pattern ∷ []
event_values (event.Notify name pattern lease) =
    name ∷ template_value pattern ∷ renewer_values lease.renewer
event_values _ = []

-- Answers.

-- what happened, by its name
abbrev pub happened : List ℕ → Name
happened name =
    if bytes_eq name (codes "write") then word.Write
    else if bytes_eq name (codes "take") then word.Take
    else word.Delete

-- and by the text that names it
abbrev pub text_word : Tree-F Tree → Name
text_word (Tree-F.Text t) = happened t.bytes
text_word _ = word.Delete

-- what happened in an event of the rules, the first of its two items
abbrev pub raised_word : Tree-F Tree → Name
raised_word (Tree-F.List (what ∷ tuple ∷ [])) = text_word (out-Tree what)
raised_word _ = word.Delete

-- the tuple of an event of the rules, the second of its two items
abbrev pub raised_tuple : Tree → Tree-F Tree → Tree
raised_tuple v (Tree-F.List (what ∷ tuple ∷ [])) = tuple
raised_tuple v _ = v

-- the name of an answer and its plain fields
abbrev pub out_fields : Out → List Field
out_fields (out.Entry id) = named word.Entry id
out_fields (out.Reserved id) = named word.Reserved id
out_fields (out.Answer value) = Word word.Answer ∷ []
out_fields (out.Parked id) = named word.Parked id
out_fields (out.Granted id value) = named word.Granted id
out_fields (out.All values) = Word word.All ∷ number (length values) ∷ []
out_fields (out.Notifier id) = named word.Notifier id
out_fields (out.Event value) = Word word.Event ∷ Word (raised_word (out-Tree value)) ∷ []
out_fields out.Closed = Word word.Closed ∷ []
out_fields out.Expired = Word word.Expired ∷ []
out_fields out.Canceled = Word word.Canceled ∷ []
out_fields out.WouldWait = Word word.WouldWait ∷ []
out_fields out.NotYet = Word word.NotYet ∷ []
out_fields (out.State flags) =
    Word word.State ∷ Truth flags.alive ∷ Truth flags.expired ∷ Truth flags.canceled ∷ []
out_fields (out.Ask id renewer) = named word.Ask id
out_fields out.Plain = Word word.Plain ∷ []
out_fields out.Recycled = Word word.Recycled ∷ []
out_fields out.Unknown = Word word.Unknown ∷ []
out_fields out.WrongKind = Word word.WrongKind ∷ []
out_fields out.Shut = Word word.Shut ∷ []

-- the values of an answer; of an event its tuple alone
abbrev pub out_values : Out → List Tree
out_values (out.Answer value) = value ∷ []
out_values (out.Granted id value) = value ∷ []
out_values (out.All values) = values
out_values (out.Event value) = raised_tuple value (out-Tree value) ∷ []
out_values (out.Ask id renewer) = remote_tree renewer ∷ []
out_values _ = []

-- Turns.

-- the request and the tuple of each pick
abbrev pub picks_fields : List Pick → List Field
picks_fields [] = []
picks_fields (pick ∷ picks) = number pick.request ∷ number pick.tuple ∷ picks_fields picks

-- the caller, the reading, the event, the answer and the picks
abbrev pub head_fields : Turn → List Field
head_fields t = number t.caller ∷ number t.at
    ∷ (event_fields t.event ++ (out_fields t.out ++ picks_fields t.picks))

-- the values that follow the head, those of the event before those of the answer
abbrev pub turn_values : Turn → List Tree
turn_values t = event_values t.event ++ out_values t.out
