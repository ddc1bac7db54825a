-- Which turn the values of packets tell, piece by piece in the order of docs/JOURNAL.md, The head.
use Rattle.std.specs.Prelude.{ℕ, zero, suc, ◌^◌, pos, Bool, true, false, List, [], ◌∷◌, Option, Some, None, nat_lt, if◌then◌else◌}
use Rattle.drb_tree.specs.declared.Remote.{Remote}
use Rattle.drb_tree.specs.declared.Tree.{Tree}
use Rattle.drb_tree.specs.declared.Tree.TheViews.{out-Tree}
use Rattle.drb_tree.specs.declared.Tree.TheOpen.{Tree-F}
use Rattle.drb_tree.specs.Trees.{list_tree}
use Rattle.rinda_tuple.specs.Tuples.{Parts, Items, Pairs, OtherKey, Other, parts_of}
use Rattle.rinda_tuple.specs.declared.lease.Life.{Life}
use Rattle.rinda_tuple.specs.declared.lease.Life.TheVariants.{Never, Gone, Seconds}
use Rattle.rinda_tuple.specs.declared.lease.Lease.{Lease}
use Rattle.rinda_tuple.specs.declared.tuple.Tuple.{Tuple}
use Rattle.rinda_tuple.specs.declared.tuple.Tuple.TheVariants as tuple
use Rattle.rinda_tuple.specs.declared.tuple.Template.{Template}
use Rattle.rinda_tuple.specs.declared.tuple.Template.TheVariants as template
use Rattle.rinda_rules.specs.declared.event.Event.{Event}
use Rattle.rinda_rules.specs.declared.event.Event.TheVariants as event
use Rattle.rinda_rules.specs.declared.event.Kind.{Kind}
use Rattle.rinda_rules.specs.declared.event.Kind.TheVariants as kind
use Rattle.rinda_rules.specs.declared.out.Out.{Out}
use Rattle.rinda_rules.specs.declared.out.Out.TheVariants as out
use Rattle.rinda_rules.specs.declared.plain.Happening.{Happening}
use Rattle.rinda_rules.specs.declared.plain.Happening.TheVariants as happening
use Rattle.rinda_rules.specs.declared.turn.Pick.{Pick}
use Rattle.rinda_rules.specs.declared.turn.Turn.{Turn}
use Rattle.rinda_rules.specs.Space.{text_of}
use Rattle.rinda_journal.specs.declared.field.Field.{Field}
use Rattle.rinda_journal.specs.declared.field.Field.TheVariants as field
use Rattle.rinda_journal.specs.declared.word.Word.{Word}
use Rattle.rinda_journal.specs.declared.word.Word.TheVariants as word
use Rattle.rinda_journal.specs.Words.{word_named}
use Rattle.rinda_journal.specs.Parsers.{Left, Parser, gives, fails, given, ◌>>=◌}
use Rattle.rinda_journal.specs.Streams.{stream}

-- Fields.

-- the name that a symbol is
abbrev pub word_field : Option Word → Option Field
word_field None = None
word_field (Some w) = Some (field.Word w)

-- the field that a value is
abbrev pub field_at : Tree-F Tree → Option Field
field_at Tree-F.Nil = Some field.Nil
field_at (Tree-F.Bool b) = Some (field.Truth b)
field_at (Tree-F.Int i) = Some (field.Number i)
field_at (Tree-F.Sym s) = word_field (word_named s)
field_at _ = None

-- a field before others, where all are there
abbrev pub before : Option Field → Option (List Field) → Option (List Field)
before None fs = None
before (Some f) None = None
before (Some f) (Some fs) = Some (f ∷ fs)

-- the fields that these values are
abbrev pub fields_in : List Tree → Option (List Field)
fields_in [] = Some []
fields_in (v ∷ vs) = before (field_at (out-Tree v)) (fields_in vs)

-- the fields of a head, which is a list
abbrev pub fields_at : Tree-F Tree → Option (List Field)
fields_at (Tree-F.List vs) = fields_in vs
fields_at _ = None

-- the next field
abbrev pub field_first : List Field → List Tree → Option (Field × Left)
field_first [] values = None
field_first (f ∷ fs) values = Some (f, record { fields = fs; values = values })

abbrev pub next_field : Parser Field
next_field left = field_first left.fields left.values

-- the next value
abbrev pub value_first : List Field → List Tree → Option (Tree × Left)
value_first fields [] = None
value_first fields (v ∷ vs) = Some (v, record { fields = fields; values = vs })

abbrev pub next_value : Parser Tree
next_value left = value_first left.fields left.values

-- a number below 2^64
abbrev pub number_in : Field → Option ℕ
number_in (field.Number (pos n)) = if nat_lt n (2 ^ 64) then Some n else None
number_in _ = None

abbrev pub truth_in : Field → Option Bool
truth_in (field.Truth b) = Some b
truth_in _ = None

abbrev pub word_in : Field → Option Word
word_in (field.Word w) = Some w
word_in _ = None

abbrev pub life_in : Field → Option Life
life_in field.Nil = Some Never
life_in (field.Truth true) = Some Gone
life_in (field.Number s) = Some (Seconds s)
life_in _ = None

abbrev pub kind_in : Word → Option Kind
kind_in word.Read = Some kind.Read
kind_in word.Take = Some kind.Take
kind_in word.Move = Some kind.Move
kind_in _ = None

abbrev pub happening_in : Word → Option Happening
happening_in word.Write = Some happening.Write
happening_in word.Take = Some happening.Take
happening_in word.Delete = Some happening.Delete
happening_in _ = None

abbrev pub next_number : Parser ℕ
next_number = do
  f ← next_field
  given (number_in f)

abbrev pub next_truth : Parser Bool
next_truth = do
  f ← next_field
  given (truth_in f)

abbrev pub next_word : Parser Word
next_word = do
  f ← next_field
  given (word_in f)

abbrev pub next_life : Parser Life
next_life = do
  f ← next_field
  given (life_in f)

abbrev pub next_kind : Parser Kind
next_kind = do
  w ← next_word
  given (kind_in w)

abbrev pub next_happening : Parser Happening
next_happening = do
  w ← next_word
  given (happening_in w)

-- Values.

-- the tuple, or the template, of these parts
abbrev pub tuple_in : Parts → Option Tuple
tuple_in (Items items) = Some (tuple.List items)
tuple_in (Pairs pairs) = Some (tuple.Named pairs)
tuple_in OtherKey = None
tuple_in Other = None

abbrev pub template_in : Parts → Option Template
template_in (Items items) = Some (template.List items)
template_in (Pairs pairs) = Some (template.Named pairs)
template_in OtherKey = None
template_in Other = None

abbrev pub remote_in : Tree-F Tree → Option Remote
remote_in (Tree-F.Remote r) = Some r
remote_in _ = None

abbrev pub next_tuple : Parser Tuple
next_tuple = do
  v ← next_value
  given (tuple_in (parts_of v))

abbrev pub next_template : Parser Template
next_template = do
  v ← next_value
  given (template_in (parts_of v))

abbrev pub next_remote : Parser Remote
next_remote = do
  v ← next_value
  given (remote_in (out-Tree v))

-- the renewer, where it was told that one is there
abbrev pub renewer_if : Bool → Parser (Option Remote)
renewer_if false = gives None
renewer_if true = do
  r ← next_remote
  gives (Some r)

-- so many values
abbrev pub values_of : ℕ → Parser (List Tree)
values_of zero = gives []
values_of (suc n) = do
  v ← next_value
  vs ← values_of n
  gives (v ∷ vs)

-- Events.

abbrev pub write_event : Parser Event
write_event = do
  l ← next_life
  b ← next_truth
  t ← next_tuple
  r ← renewer_if b
  gives (event.Write t (record { life = l; renewer = r }))

-- a template, and the lease of this life
abbrev pub pattern_and_lease : Life → Bool → Parser (Template × Lease)
pattern_and_lease l b = do
  t ← next_template
  r ← renewer_if b
  gives (t, record { life = l; renewer = r })

abbrev pub reserve_event : Parser Event
reserve_event = do
  k ← next_kind
  l ← next_life
  b ← next_truth
  p ← pattern_and_lease l b
  gives (event.Reserve k p.0 p.1)

abbrev pub settle_event : Parser Event
settle_event = do
  id ← next_number
  ok ← next_truth
  gives (event.Settle id ok)

abbrev pub renew_event : Parser Event
renew_event = do
  id ← next_number
  l ← next_life
  b ← next_truth
  r ← renewer_if b
  gives (event.Renew id (record { life = l; renewer = r }))

abbrev pub read_all_event : Parser Event
read_all_event = do
  t ← next_template
  gives (event.ReadAll t)

abbrev pub notify_event : Parser Event
notify_event = do
  l ← next_life
  b ← next_truth
  v ← next_value
  p ← pattern_and_lease l b
  gives (event.Notify v p.0 p.1)

abbrev pub asked_event : Parser Event
asked_event = do
  id ← next_number
  l ← next_life
  gives (event.Asked id l)

-- the event of one id that this makes
abbrev pub by_id : {A : Type 0} → (ℕ → A) → Parser A
by_id f = do
  id ← next_number
  gives (f id)

-- the event of that name that has an id alone
abbrev pub id_event : Word → Parser Event
id_event word.Submit = by_id (λ id. event.Submit id)
id_event word.Collect = by_id (λ id. event.Collect id)
id_event word.Withdraw = by_id (λ id. event.Withdraw id)
id_event word.Cancel = by_id (λ id. event.Cancel id)
id_event word.Look = by_id (λ id. event.Look id)
id_event word.Value = by_id (λ id. event.Value id)
id_event word.Pop = by_id (λ id. event.Pop id)
id_event _ = fails

-- the event of that name
abbrev pub event_named : Word → Parser Event
event_named word.Write = write_event
event_named word.Reserve = reserve_event
event_named word.Settle = settle_event
event_named word.Renew = renew_event
event_named word.ReadAll = read_all_event
event_named word.Notify = notify_event
event_named word.Asked = asked_event
event_named word.NextAsk = gives event.NextAsk
event_named word.Tick = gives event.Tick
event_named word.Shut = gives event.Shut
event_named w = id_event w

unfoldable pub next_event : Parser Event
next_event = do
  w ← next_word
  event_named w

-- Answers.

abbrev pub answer_out : Parser Out
answer_out = do
  v ← next_value
  gives (out.Answer v)

abbrev pub granted_out : Parser Out
granted_out = do
  id ← next_number
  v ← next_value
  gives (out.Granted id v)

abbrev pub all_out : Parser Out
all_out = do
  n ← next_number
  vs ← values_of n
  gives (out.All vs)

-- the name of what happened, as a text, and what follows
abbrev pub event_out : Parser Out
event_out = do
  what ← next_happening
  v ← next_value
  gives (out.Event (list_tree (text_of what ∷ v ∷ [])))

abbrev pub state_out : Parser Out
state_out = do
  alive ← next_truth
  expired ← next_truth
  canceled ← next_truth
  gives (out.State (record { alive = alive; expired = expired; canceled = canceled }))

abbrev pub ask_out : Parser Out
ask_out = do
  id ← next_number
  r ← next_remote
  gives (out.Ask id r)

-- the answer of that name that has an id alone
abbrev pub id_out : Word → Parser Out
id_out word.Entry = by_id (λ id. out.Entry id)
id_out word.Reserved = by_id (λ id. out.Reserved id)
id_out word.Parked = by_id (λ id. out.Parked id)
id_out word.Notifier = by_id (λ id. out.Notifier id)
id_out _ = fails

-- the answer of that name
abbrev pub out_named : Word → Parser Out
out_named word.Answer = answer_out
out_named word.Granted = granted_out
out_named word.All = all_out
out_named word.Event = event_out
out_named word.State = state_out
out_named word.Ask = ask_out
out_named word.Closed = gives out.Closed
out_named word.Expired = gives out.Expired
out_named word.Canceled = gives out.Canceled
out_named word.WouldWait = gives out.WouldWait
out_named word.NotYet = gives out.NotYet
out_named word.Plain = gives out.Plain
out_named word.Recycled = gives out.Recycled
out_named word.Unknown = gives out.Unknown
out_named word.WrongKind = gives out.WrongKind
out_named word.Shut = gives out.Shut
out_named w = id_out w

unfoldable pub next_out : Parser Out
next_out = do
  w ← next_word
  out_named w

-- Picks.

-- a pick of these two ids, where both are there
abbrev pub pick_of : Option ℕ → Option ℕ → Option Pick
pick_of None t = None
pick_of (Some r) None = None
pick_of (Some r) (Some t) = Some (record { request = r; tuple = t })

-- a pick before others, where all are there
abbrev pub pick_before : Option Pick → Option (List Pick) → Option (List Pick)
pick_before None ps = None
pick_before (Some p) None = None
pick_before (Some p) (Some ps) = Some (p ∷ ps)

-- the picks that the last fields are, two fields each
abbrev pub picks_in : List Field → Option (List Pick)
picks_in [] = Some []
picks_in (a ∷ []) = None
picks_in (a ∷ b ∷ fs) = pick_before (pick_of (number_in a) (number_in b)) (picks_in fs)

-- Turns.

-- an answer, and the picks that the fields behind it are
abbrev pub with_picks : Out → Option (List Pick) → Option (Out × List Pick)
with_picks o None = None
with_picks o (Some picks) = Some (o, picks)

abbrev pub picks_then : Option (Out × Left) → Option (Out × List Pick)
picks_then None = None
picks_then (Some r) = with_picks r.0 (picks_in r.1.fields)

unfoldable pub ended : Left → Option (Out × List Pick)
ended left = picks_then (next_out left)

-- the caller, the reading and the event
abbrev pub next_begun : Parser (ℕ × ℕ × Event)
next_begun = do
  caller ← next_number
  at ← next_number
  e ← next_event
  gives (caller, at, e)

-- the turn that begins and ends so
abbrev pub turn_with : ℕ × ℕ × Event → Option (Out × List Pick) → Option Turn
turn_with b None = None
turn_with b (Some e) =
    Some (record { caller = b.0; at = b.1; event = b.2; out = e.0; picks = e.1 })

abbrev pub turn_then : Option ((ℕ × ℕ × Event) × Left) → Option Turn
turn_then None = None
turn_then (Some r) = turn_with r.0 (ended r.1)

-- the turn of these fields and values
unfoldable pub turn_left : Left → Option Turn
turn_left left = turn_then (next_begun left)

-- the turn of a head's fields and the values that follow
abbrev pub turn_by : Option (List Field) → List Tree → Option Turn
turn_by None values = None
turn_by (Some fields) values = turn_left (record { fields = fields; values = values })

-- the turn that these values tell, the head first
abbrev pub turn_of : List Tree → Option Turn
turn_of [] = None
turn_of (head ∷ values) = turn_by (fields_at (out-Tree head)) values

-- the turn that bytes tell, if they are a text
unfoldable pub turn_in : List ℕ → Option Turn
turn_in bytes = turn_of (stream bytes)
