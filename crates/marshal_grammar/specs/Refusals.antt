-- The numbers of the reasons: docs/MARSHAL.md, Refusals.
use Rattle.std.specs.Prelude.{ℕ}
use Rattle.marshal_grammar.specs.declared.refusal.Why.{Why}
use Rattle.marshal_grammar.specs.declared.refusal.Why.TheVariants as why

-- the number of a reason, in the order of the document's table
abbrev pub number_of : Why → ℕ
number_of why.Short = 1
number_of why.Version = 2
number_of (why.BadType b) = 3
number_of why.Encoding = 4
number_of why.BigInteger = 5
number_of why.Length = 6
number_of why.SymbolLink = 7
number_of why.ObjectLink = 8
number_of why.Cyclic = 9
number_of why.DuplicateKey = 10
number_of why.TooManyPairs = 11
number_of why.TooDeep = 12
number_of why.TooManyNodes = 13
number_of why.BadReference = 14
number_of why.Name = 15
