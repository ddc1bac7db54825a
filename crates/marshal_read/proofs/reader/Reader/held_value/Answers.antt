use Rattle.std.proofs.Common.{◌≡◌, sym, ap, ◌∙◌, drop}
use Rattle.drb_tree.specs.declared.Remote.{Remote}
use Rattle.marshal_read.specs.declared.steps.Raw.{Raw}
use Rattle.marshal_read.specs.declared.references.Held.TheVariants as H
use Rattle.marshal_grammar.specs.Trees.{remote}
use Rattle.marshal_grammar.specs.Values as V
use Rattle.marshal_read.specs.declared.steps.Step.TheVariants as S
use Rattle.marshal_read.specs.State.{State}
use Rattle.marshal_read.specs.Fails.{read_at}
use Rattle.marshal_read.proofs.Holding.{held_one, held_read, leaf_read, remote_held}
use Rattle.marshal_read.proofs.reader.Reader.held_value.Goals as goal

pub whole_from-requires-clause-makes : goal.whole_from-requires-clause-makes
whole_from-requires-clause-makes c =
    let e : c.args.held ≡ H.Other c.in_ok-raw-in-Other.raw.class c.in_ok-raw-in-Other.raw.bytes = c.in-Other.is ∙ ap (λ (r : Raw). H.Other r.class r.bytes) (sym c.in_ok-raw-in-Other.ensures) in
    held_one c.args.held (H.Other c.in_ok-raw-in-Other.raw.class c.in_ok-raw-in-Other.raw.bytes) (drop c.args.start c.args.self.now.steps) c.args.n e c.requires.foreign c.requires.fields

pub returns-in_ok-raw-in-Other-clause-ok : goal.returns-in_ok-raw-in-Other-clause-ok
returns-in_ok-raw-in-Other-clause-ok c =
    let e : c.args.held ≡ H.Other c.in_ok-raw-in-Other.raw.class c.in_ok-raw-in-Other.raw.bytes = c.in-Other.is ∙ ap (λ (r : Raw). H.Other r.class r.bytes) (sym c.in_ok-raw-in-Other.ensures) in
    held_read c.whole_from.result c.args.held (H.Other c.in_ok-raw-in-Other.raw.class c.in_ok-raw-in-Other.raw.bytes) (drop c.args.start c.args.self.now.steps) c.args.n c.args.self.now c.whole_from.new.self e c.requires.foreign c.requires.fields c.whole_from.ensures.ok

pub returns-in_ok-push-in-Remote-clause-ok : goal.returns-in_ok-push-in-Remote-clause-ok
returns-in_ok-push-in-Remote-clause-ok c =
    let r = c.in_ok-remote-in-Remote.remote in
    let e : c.args.held ≡ H.Remote r = c.in-Remote.is ∙ ap (λ (x : Remote). H.Remote x) (sym c.in_ok-remote-in-Remote.ensures) in
    remote_held c.whole.result c.args.held r (drop c.args.start c.args.self.now.steps) c.args.n c.args.self.now c.push.new.self c.whole.new.self e c.requires.fields
    (ap (λ (z : State). read_at (V.whole (remote r)) z) c.in_ok-push-in-Remote.ensures)
    (leaf_read c.whole.result (read_at (V.whole (remote r)) c.push.new.self) c.push.new.self c.whole.new.self (S.Remote r) tt c.whole.ensures.ok c.whole.ensures.steps)
