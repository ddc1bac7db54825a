use Rattle.marshal_grammar.proofs.Answering.{some_answer, never_both, one_dump, one_refusal}
use Rattle.marshal_grammar.proofs.laws.one_answer.Goals as goal

pub returns : goal.returns
returns c = record { some = some_answer; exclusive = never_both; dump = one_dump; refusal = one_refusal }
