-- A name is read as the word that it spells.
use Rattle.std.proofs.Common.{◌≡◌, refl}
use Rattle.std.specs.Prelude.{Some}
use Rattle.rinda_journal.specs.declared.word.Word.{Word}
use Rattle.rinda_journal.specs.declared.word.Word.TheVariants as word
use Rattle.rinda_journal.specs.Words.{name_of, word_named}

pub word_again : (w : Word) → word_named (name_of w) ≡ Some w
unfolding word_named
word_again word.Write = refl
word_again word.Reserve = refl
word_again word.Submit = refl
word_again word.Collect = refl
word_again word.Settle = refl
word_again word.Withdraw = refl
word_again word.Cancel = refl
word_again word.Renew = refl
word_again word.Look = refl
word_again word.Value = refl
word_again word.ReadAll = refl
word_again word.Notify = refl
word_again word.Pop = refl
word_again word.NextAsk = refl
word_again word.Asked = refl
word_again word.Tick = refl
word_again word.Shut = refl
word_again word.Entry = refl
word_again word.Reserved = refl
word_again word.Answer = refl
word_again word.Parked = refl
word_again word.Granted = refl
word_again word.All = refl
word_again word.Notifier = refl
word_again word.Event = refl
word_again word.Closed = refl
word_again word.Expired = refl
word_again word.Canceled = refl
word_again word.WouldWait = refl
word_again word.NotYet = refl
word_again word.State = refl
word_again word.Ask = refl
word_again word.Plain = refl
word_again word.Recycled = refl
word_again word.Unknown = refl
word_again word.WrongKind = refl
word_again word.Read = refl
word_again word.Take = refl
word_again word.Move = refl
word_again word.Delete = refl
