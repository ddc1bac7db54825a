use Rattle.std.proofs.Common.{map, string_bytes, refl}
use Rattle.drb_server.specs.Words.{Means}
use Rattle.drb_server.specs.Words.{options as set}
use Rattle.drb_server.proofs.Whole.{for_read, for_none, words_read}
use Rattle.drb_server.proofs.stdio.stdio_run.Goals as goal

pub returns-in-Some-clause-words : goal.returns-in-Some-clause-words
returns-in-Some-clause-words g c = words_read (Means (map (λ w. string_bytes w) c.args.words.now)) (set c.in-Some.setup.uri.now c.in-Some.setup.max_turns c.in-Some.setup.load_limit) c.run.result c.in-Some.ensures c.run.ensures.other

pub returns-in-Some-clause-runs : goal.returns-in-Some-clause-runs
returns-in-Some-clause-runs g c = for_read (Means (map (λ w. string_bytes w) c.args.words.now)) _ (set c.in-Some.setup.uri.now c.in-Some.setup.max_turns c.in-Some.setup.load_limit) c.in-Some.ensures c.run.ensures.runs

pub returns-in-Some-clause-complete : goal.returns-in-Some-clause-complete
returns-in-Some-clause-complete g c = for_read (Means (map (λ w. string_bytes w) c.args.words.now)) _ (set c.in-Some.setup.uri.now c.in-Some.setup.max_turns c.in-Some.setup.load_limit) c.in-Some.ensures c.run.ensures.complete

pub returns-in-None-clause-words : goal.returns-in-None-clause-words
returns-in-None-clause-words g c = ((λ e. for_none (Means (map (λ w. string_bytes w) c.args.words.now)) (λ o. ⊥) c.in-None.ensures), (λ none. refl))

pub returns-in-None-clause-runs : goal.returns-in-None-clause-runs
returns-in-None-clause-runs g c = for_none (Means (map (λ w. string_bytes w) c.args.words.now)) _ c.in-None.ensures

pub returns-in-None-clause-complete : goal.returns-in-None-clause-complete
returns-in-None-clause-complete g c = for_none (Means (map (λ w. string_bytes w) c.args.words.now)) _ c.in-None.ensures
