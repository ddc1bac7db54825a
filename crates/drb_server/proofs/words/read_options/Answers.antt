use Rattle.std.proofs.Common.{◌≡◌, ◌∷◌, ◌∙◌, [], ap, map, string_bytes, None, option_copied}
use Rattle.drb_server.specs.Words.{Options}
use Rattle.drb_server.specs.Words.{options as set}
use Rattle.drb_server.specs.Named.{named, Sets}
use Rattle.drb_server.proofs.Options.{left_alone, stop_at, all_read, none_is, none_given, some_given, empty_is}
use Rattle.drb_server.proofs.words.read_options.Goals as goal

pub returns-in_err-word : goal.returns-in_err-word
returns-in_err-word c =
    let one : c.loop-name.rest.now ≡ c.in-Some.name.now ∷ [] = c.in-Some.ensures.cases.0 ∙ ap (λ q. c.in-Some.name.now ∷ q) (empty_is c.in-Some.behind.now c.in_err-word.ensures.cases) in
    none_given (λ x. set x.uri.now x.max_turns x.load_limit) c.from_residual.result (λ o. Sets (map (λ w. string_bytes w) c.args.words.now) (named None None None) o) c.from_residual.ensures
    (left_alone (λ w. string_bytes w) (named None None None) (named (option_copied c.loop-name.named.uri) c.loop-name.named.turns c.loop-name.named.load) c.args.words.now c.loop-name.rest.now c.in-Some.name.now one c.loop-name.invariant)

pub returns-then-not-take : goal.returns-then-not-take
returns-then-not-take c =
    let two : c.loop-name.rest.now ≡ c.in-Some.name.now ∷ c.in_ok-word.word.now ∷ c.in_ok-word.after.now = c.in-Some.ensures.cases.0 ∙ ap (λ q. c.in-Some.name.now ∷ q) c.in_ok-word.ensures.cases.0 in
    none_is (λ o. Sets (map (λ w. string_bytes w) c.args.words.now) (named None None None) o)
    (stop_at (λ w. string_bytes w) (named None None None) (named (option_copied c.loop-name.named.uri) c.loop-name.named.turns c.loop-name.named.load) (named (option_copied c.take.new.self.uri) c.take.new.self.turns c.take.new.self.load) c.args.words.now c.loop-name.rest.now c.in_ok-word.after.now c.in-Some.name.now c.in_ok-word.word.now c.as_str.result.now c.as_str-in-Some.result.now c.take.result two c.as_str.ensures.value c.as_str-in-Some.ensures.value c.take.ensures c.if-not-take.true c.loop-name.invariant)

pub returns : goal.returns
returns c =
    some_given (set c.setup.result.uri.now c.setup.result.max_turns c.setup.result.load_limit) (λ o. Sets (map (λ w. string_bytes w) c.args.words.now) (named None None None) o) (λ o. Sets [] (named (option_copied c.loop-name.named.uri) c.loop-name.named.turns c.loop-name.named.load) o)
    (all_read (λ w. string_bytes w) (named None None None) (named (option_copied c.loop-name.named.uri) c.loop-name.named.turns c.loop-name.named.load) c.args.words.now c.loop-name.rest.now (empty_is c.loop-name.rest.now c.in_default.ensures.cases) c.loop-name.invariant)
    c.setup.ensures
