-- The names in the head of a turn's text: docs/JOURNAL.md, The head.
use Rattle.std.specs.Prelude.{ℕ, List, [], ◌∷◌, Option, Some, None, codes, bytes_eq, if◌then◌else◌}
use Rattle.rinda_journal.specs.declared.word.Word.{Word}
use Rattle.rinda_journal.specs.declared.word.Word.TheVariants as word

-- the name as it is spelled
abbrev pub name_of : Word → List ℕ
name_of word.Write = codes "write"
name_of word.Reserve = codes "reserve"
name_of word.Submit = codes "submit"
name_of word.Collect = codes "collect"
name_of word.Settle = codes "settle"
name_of word.Withdraw = codes "withdraw"
name_of word.Cancel = codes "cancel"
name_of word.Renew = codes "renew"
name_of word.Look = codes "look"
name_of word.Value = codes "value"
name_of word.ReadAll = codes "read_all"
name_of word.Notify = codes "notify"
name_of word.Pop = codes "pop"
name_of word.NextAsk = codes "next_ask"
name_of word.Asked = codes "asked"
name_of word.Tick = codes "tick"
name_of word.Shut = codes "shut"
name_of word.Entry = codes "entry"
name_of word.Reserved = codes "reserved"
name_of word.Answer = codes "answer"
name_of word.Parked = codes "parked"
name_of word.Granted = codes "granted"
name_of word.All = codes "all"
name_of word.Notifier = codes "notifier"
name_of word.Event = codes "event"
name_of word.Closed = codes "closed"
name_of word.Expired = codes "expired"
name_of word.Canceled = codes "canceled"
name_of word.WouldWait = codes "would_wait"
name_of word.NotYet = codes "not_yet"
name_of word.State = codes "state"
name_of word.Ask = codes "ask"
name_of word.Plain = codes "plain"
name_of word.Recycled = codes "recycled"
name_of word.Unknown = codes "unknown"
name_of word.WrongKind = codes "wrong_kind"
name_of word.Read = codes "read"
name_of word.Take = codes "take"
name_of word.Move = codes "move"
name_of word.Delete = codes "delete"

-- the first of these words that the bytes spell
abbrev pub first_named : List ℕ → List Word → Option Word
first_named bytes [] = None
first_named bytes (w ∷ ws) = if bytes_eq (name_of w) bytes then Some w else first_named bytes ws

-- all words
abbrev pub all_words : List Word
all_words =
    word.Write ∷ word.Reserve ∷ word.Submit ∷ word.Collect ∷ word.Settle ∷ word.Withdraw ∷
    word.Cancel ∷ word.Renew ∷ word.Look ∷ word.Value ∷ word.ReadAll ∷ word.Notify ∷ word.Pop ∷
    word.NextAsk ∷ word.Asked ∷ word.Tick ∷ word.Shut ∷ word.Entry ∷ word.Reserved ∷
    word.Answer ∷ word.Parked ∷ word.Granted ∷ word.All ∷ word.Notifier ∷ word.Event ∷
    word.Closed ∷ word.Expired ∷ word.Canceled ∷ word.WouldWait ∷ word.NotYet ∷ word.State ∷
    word.Ask ∷ word.Plain ∷ word.Recycled ∷ word.Unknown ∷ word.WrongKind ∷ word.Read ∷
    word.Take ∷ word.Move ∷ word.Delete ∷ []

-- the word that the bytes spell
unfoldable pub word_named : List ℕ → Option Word
word_named bytes = first_named bytes all_words
