-- What a reader's error says.
use Rattle.std.specs.Prelude.{◌≡◌, Err}
use Rattle.marshal_grammar.specs.declared.refusal.Refusal.{Refusal}
use Rattle.marshal_grammar.specs.Grammar.{Grammar}
use Rattle.marshal_grammar.specs.Reading.{Read, read}
use Rattle.marshal_read.specs.declared.error.ReadError.{ReadError}
use Rattle.marshal_read.specs.declared.error.ReadError.TheVariants as error
use Rattle.marshal_read.specs.declared.error.Stop.{Stop}
use Rattle.marshal_read.specs.declared.error.Stop.TheVariants as stop
use Rattle.marshal_read.specs.State.{State}

-- reading met this refusal, unless memory ran out
abbrev pub Fails : {A : Type 0} → ReadError → Read A → Type 0
Fails error.Memory r = Unit {0}
Fails (error.Refused f) r = r ≡ Err f

-- what a piece of the grammar gives from here
abbrev pub read_at : {A : Type 0} → Grammar A → State → Read A
read_at g s = read g s.seen s.rest

-- the error of a stop, after this refusal
abbrev pub error_of : Stop → Refusal → ReadError
error_of stop.Memory f = error.Memory
error_of stop.Refused f = error.Refused f
