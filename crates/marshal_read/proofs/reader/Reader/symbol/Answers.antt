use denote.Ref.{Bor}
use Rattle.std.specs.Option.{option_copied}
use Rattle.std.proofs.Common.{refl, ap, Ok, ℕ, List, Option, ◌≡◌, ◌+◌, ◌-◌, ◌∙◌, reverse, arith, length}
use Rattle.marshal_grammar.specs.Symbols.{symbol}
use Rattle.marshal_read.specs.Rounds.{outcome}
use Rattle.marshal_read.proofs.Rounds.{goes_on}
use Rattle.marshal_read.proofs.reader.Reader.symbol.Goals as goal

pub loop-init : goal.loop-init
unfolding symbol
loop-init c =
    let k : length c.args.self.now.rest + 1 ≡ c.left-end.result + 1 - 0 = omega arith in
    record { steps = refl; same = rw (c.new-waiting.ensures, ← k) refl }

pub loop-preserved : goal.loop-preserved
loop-preserved c = record {
  steps = c.in_ok-s.ensures.kept ∙ c.loop.invariant.steps;
  same = c.loop.invariant.same ∙ goes_on (c.left-end.result + 1) c.loop.counter (reverse c.loop.waiting) (reverse c.symbol_round.new.waiting) c.loop.self c.symbol_round.new.self c.loop-test.true (c.in_ok-s.ensures.ok ∙ ap (λ (o : Option (Bor (List ℕ))). Ok (outcome (option_copied o) (reverse c.symbol_round.new.waiting), c.symbol_round.new.self.seen, c.symbol_round.new.self.rest)) c.in_default.is);
}
