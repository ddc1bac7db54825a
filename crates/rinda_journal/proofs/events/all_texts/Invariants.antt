use Rattle.std.proofs.Common.{◌≡◌, drop}
use Rattle.rinda_tuple.specs.Keys.{all_texts as all_texts_spec}
use Rattle.rinda_journal.proofs.events.all_texts.Given as goal

-- the pairs that are left have the same answer as all of them
abbrev pub invariant-loop-pair : goal.invariant-loop-pair
invariant-loop-pair l = all_texts_spec l.pairs ≡ all_texts_spec (drop l.pair-index l.pairs)
