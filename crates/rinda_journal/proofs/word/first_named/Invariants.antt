use Rattle.std.proofs.Common.{◌≡◌, drop}
use Rattle.rinda_journal.specs.Words.{first_named}
use Rattle.rinda_journal.proofs.word.first_named.Given as goal

-- the words that are left have the same answer as all of them
abbrev pub invariant-loop-word : goal.invariant-loop-word
invariant-loop-word l = first_named l.bytes l.words ≡ first_named l.bytes (drop l.word-index l.words)
