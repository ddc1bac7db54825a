-- What a caller knows of a bag one of whose tuples is lent.
use Rattle.std.specs.Prelude.{◌≡◌, List}
use Rattle.rinda_tuple.specs.declared.tuple.Tuple.{Tuple}
use Rattle.rinda_rules.specs.declared.plain.Entry.{Entry}
use Rattle.rinda_marks.specs.Marks.{marks_of}
use Rattle.rinda_bag.specs.declared.lent.Lent.{Lent}
use Rattle.rinda_bag.specs.Lending.{IsLoanOf}

-- of the bag of these rows that tuple is lent
abbrev pub IsLoan : List Entry → Tuple → Lent → Type 0
IsLoan rows tuple lent = IsLoanOf rows tuple lent.id lent.secret lent.marks lent.rows

-- the tuple has the marks of the one that is lent
abbrev pub HasItsMarks : Lent → Tuple → Type 0
HasItsMarks lent tuple = lent.marks ≡ marks_of lent.secret tuple
