use Rattle.std.proofs.Common.{◌∙◌, sym, arith}
use Rattle.std.proofs.lemmas.Bool.Decides.{nat_tests}
use Rattle.rinda_rules.specs.Journals.{made}
use Rattle.rinda_space.specs.Spaces.{spaced, start_of}
use Rattle.rinda_space.proofs.Turning.{says, is-legal, stands-on, same-space, forgotten, short-so, nothing-so, refused-so, made-so}
use Rattle.rinda_space.proofs.space.Space.turn.Goals as goal

pub returns-then-is_nothing-clause-turns : goal.returns-then-is_nothing-clause-turns
returns-then-is_nothing-clause-turns g c =
    let v = spaced (start_of c.self.inside.start.items) (g.J.Journal.turns c.self.inside.journal) (g.J.Journal.cap c.self.inside.journal) in
    nothing-so v c.args.self.now c.args.caller c.args.at c.args.event c.len-turns.result c.self.view_is
    (λ s is. says v c.self.inside.room c.self.inside.changed.items c.self.inside.tables c.args.caller c.args.at c.args.event c.is_nothing.result c.self.invariant c.is_nothing.ensures s is ∙ c.if-is_nothing.true) c.len-turns.ensures

pub returns-then-turns-self-clause-turns : goal.returns-then-turns-self-clause-turns
returns-then-turns-self-clause-turns g c =
    let v = spaced (start_of c.self.inside.start.items) (g.J.Journal.turns c.self.inside.journal) (g.J.Journal.cap c.self.inside.journal) in
    refused-so v (g.J.Journal.turns c.refusal-refused.new.journal) (g.J.Journal.cap c.refusal-refused.new.journal) c.args.self.now c.args.caller c.args.at c.args.event c.len-turns.result c.refusal-refused.result c.error_of.result c.self.view_is
    (λ s is. says v c.self.inside.room c.self.inside.changed.items c.self.inside.tables c.args.caller c.args.at c.args.event c.is_nothing.result c.self.invariant c.is_nothing.ensures s is ∙ c.if-is_nothing.false) c.len-turns.ensures
    c.refusal-refused.ensures.full c.refusal-refused.ensures.turns c.refusal-refused.ensures.cap c.error_of.ensures

pub invariant_of-self-in-Ok : goal.invariant_of-self-in-Ok
invariant_of-self-in-Ok g c =
    let v = spaced (start_of c.self.inside.start.items) (g.J.Journal.turns c.self.inside.journal) (g.J.Journal.cap c.self.inside.journal) in
    same-space v.start (g.J.Journal.ahead c.make-made.new.journal) (g.J.Journal.turns c.commit-in-Ok.new.self) v.cap (g.J.Journal.cap c.commit-in-Ok.new.self) c.self.inside.room c.in-Ok.changed.items c.commit.new.self
    (stands-on v c.self.inside.room c.self.inside.changed.items c.in-Ok.changed.items (g.J.Journal.ahead c.make-made.new.journal) c.self.inside.tables c.make-made.new.tables c.commit.new.self c.args.caller c.args.at c.args.event c.in-Ok.out c.self.invariant
    (λ s is. says v c.self.inside.room c.self.inside.changed.items c.self.inside.tables c.args.caller c.args.at c.args.event c.is_nothing.result c.self.invariant c.is_nothing.ensures s is ∙ c.if-is_nothing.false) c.in-Ok.ensures.list c.in-Ok.ensures.made c.commit.ensures.settles c.commit.ensures.unadded) c.commit-in-Ok.ensures.turns (c.commit-in-Ok.ensures.cap ∙ c.in-Ok.ensures.cap)

pub invariant_of-self-in-Err : goal.invariant_of-self-in-Err
invariant_of-self-in-Err g c =
    let v = spaced (start_of c.self.inside.start.items) (g.J.Journal.turns c.self.inside.journal) (g.J.Journal.cap c.self.inside.journal) in
    same-space v.start v.turns (g.J.Journal.turns c.make-made.new.journal) v.cap (g.J.Journal.cap c.make-made.new.journal) c.self.inside.room c.self.inside.changed.items c.forget.new.self
    (forgotten v c.self.inside.room c.self.inside.changed.items c.self.inside.tables c.make-made.new.tables c.forget.new.self c.self.invariant c.in-Err.ensures.list c.forget.ensures.settles c.forget.ensures.unadded) c.in-Err.ensures.turns c.in-Err.ensures.cap

pub returns-in-Ok-clause-legal : goal.returns-in-Ok-clause-legal
returns-in-Ok-clause-legal g c =
    let v = spaced (start_of c.self.inside.start.items) (g.J.Journal.turns c.self.inside.journal) (g.J.Journal.cap c.self.inside.journal) in
    is-legal (spaced v.start (g.J.Journal.turns c.commit-in-Ok.new.self) (g.J.Journal.cap c.commit-in-Ok.new.self)) c.self.inside.room c.in-Ok.changed.items c.commit.new.self
    (same-space v.start (g.J.Journal.ahead c.make-made.new.journal) (g.J.Journal.turns c.commit-in-Ok.new.self) v.cap (g.J.Journal.cap c.commit-in-Ok.new.self) c.self.inside.room c.in-Ok.changed.items c.commit.new.self
    (stands-on v c.self.inside.room c.self.inside.changed.items c.in-Ok.changed.items (g.J.Journal.ahead c.make-made.new.journal) c.self.inside.tables c.make-made.new.tables c.commit.new.self c.args.caller c.args.at c.args.event c.in-Ok.out c.self.invariant
    (λ s is. says v c.self.inside.room c.self.inside.changed.items c.self.inside.tables c.args.caller c.args.at c.args.event c.is_nothing.result c.self.invariant c.is_nothing.ensures s is ∙ c.if-is_nothing.false) c.in-Ok.ensures.list c.in-Ok.ensures.made c.commit.ensures.settles c.commit.ensures.unadded) c.commit-in-Ok.ensures.turns (c.commit-in-Ok.ensures.cap ∙ c.in-Ok.ensures.cap))
    (short-so v.turns (g.J.Journal.ahead c.make-made.new.journal) (g.J.Journal.turns c.commit-in-Ok.new.self) (made c.args.caller c.args.at c.args.event c.in-Ok.out c.in-Ok.ensures.made.picks) c.len-turns.result c.self.inside.room c.commit-in-Ok.ensures.turns c.in-Ok.ensures.made.prepared c.len-turns.ensures
    (grind (arith, nat_tests, c.if-turns-self.false)) c.self.invariant.fits)

pub returns-in-Ok-clause-turns : goal.returns-in-Ok-clause-turns
returns-in-Ok-clause-turns g c =
    let v = spaced (start_of c.self.inside.start.items) (g.J.Journal.turns c.self.inside.journal) (g.J.Journal.cap c.self.inside.journal) in
    made-so v (g.J.Journal.ahead c.make-made.new.journal) (g.J.Journal.turns c.commit-in-Ok.new.self) (g.J.Journal.cap c.commit-in-Ok.new.self) c.args.self.now c.self.inside.tables c.make-made.new.tables c.args.caller c.args.at c.args.event c.in-Ok.out c.in-Ok.changed.items c.self.view_is
    (λ s is. says v c.self.inside.room c.self.inside.changed.items c.self.inside.tables c.args.caller c.args.at c.args.event c.is_nothing.result c.self.invariant c.is_nothing.ensures s is ∙ c.if-is_nothing.false) c.in-Ok.ensures.made c.commit-in-Ok.ensures.turns (c.commit-in-Ok.ensures.cap ∙ c.in-Ok.ensures.cap)

pub returns-in-Err-clause-turns : goal.returns-in-Err-clause-turns
returns-in-Err-clause-turns g c =
    let v = spaced (start_of c.self.inside.start.items) (g.J.Journal.turns c.self.inside.journal) (g.J.Journal.cap c.self.inside.journal) in
    refused-so v (g.J.Journal.turns c.make-made.new.journal) (g.J.Journal.cap c.make-made.new.journal) c.args.self.now c.args.caller c.args.at c.args.event c.len-turns.result c.in-Err.refused c.error_of-in-Err.result c.self.view_is
    (λ s is. says v c.self.inside.room c.self.inside.changed.items c.self.inside.tables c.args.caller c.args.at c.args.event c.is_nothing.result c.self.invariant c.is_nothing.ensures s is ∙ c.if-is_nothing.false) c.len-turns.ensures
    c.in-Err.ensures.full c.in-Err.ensures.turns c.in-Err.ensures.cap c.error_of-in-Err.ensures
