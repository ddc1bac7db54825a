-- What an id names, as the code has it.
use Rattle.rinda_rules.specs.Space as rules
use Rattle.rinda_audit.specs.declared.found.Found.{Found}
use Rattle.rinda_audit.specs.declared.found.Found.TheVariants.{TheTuple, TheRequest, TheNotifier, HasEnded, IsRecycled, IsUnknown}

abbrev pub seen : Found → rules.Found
seen (TheTuple t) = rules.TheTuple t
seen (TheRequest r) = rules.TheRequest r
seen (TheNotifier n) = rules.TheNotifier n
seen (HasEnded kind last) = rules.HasEnded kind last
seen IsRecycled = rules.IsRecycled
seen IsUnknown = rules.IsUnknown
