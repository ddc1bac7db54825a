use Rattle.std.proofs.Common.{◌≡◌, ◌∙◌, sym, length, arith}
use Rattle.rinda_counted.proofs.Counting.{length-turns_of, turns_of-push}
use Rattle.rinda_counted.proofs.counted.CountedJournal.prepare.Goals as goal

pub returns-then-self-clause-full : goal.returns-then-self-clause-full
returns-then-self-clause-full c = rw (← c.self.view_is) (length-turns_of _ _ _ _ _ _ _ c.self.invariant ∙ c.if-self.true)

pub returns-clause-ahead : goal.returns-clause-ahead
returns-clause-ahead c = rw (← c.self.view_is, c.and-self-inside.ensures, c.and-self-inside-2.ensures) (turns_of-push _ _ _ _ _ _ _ _ _ c.self.invariant)

pub returns-clause-below : goal.returns-clause-below
returns-clause-below c = rw (← c.self.view_is) (omega (arith, length-turns_of _ _ _ _ _ _ _ c.self.invariant, c.self.invariant.within))
