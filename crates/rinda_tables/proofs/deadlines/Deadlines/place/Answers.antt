use Rattle.std.proofs.Common.{◌∙◌, ap, sym, refl}
use Rattle.rinda_lease.specs.declared.stage.Stage.TheVariants.{Timed, Asked}
use Rattle.rinda_tables.specs.Deadlines.{quiet}
use Rattle.rinda_tables.proofs.Stages.{staged-placed, comes, becomes-twice}
use Rattle.rinda_tables.proofs.deadlines.Deadlines.place.Goals as goal

pub invariant_of-self-in-Still : goal.invariant_of-self-in-Still
invariant_of-self-in-Still c = rw (c.push_reserved.ensures.items, c.reserve.ensures.items) (staged-placed c.args.id c.args.stage Asked c.self.inside.steps.items c.self.inside.leases c.stand.new.self (becomes-twice c.args.id (Timed 0) c.args.stage c.self.inside.leases c.set.new.self c.stand.new.self c.in_ok-set-in-Still.ensures.set c.stand.ensures) c.requires refl c.self.invariant)

pub returns-in_ok-set-in-Still-clause-placed : goal.returns-in_ok-set-in-Still-clause-placed
returns-in_ok-set-in-Still-clause-placed c = rw (← c.self.view_is, c.push_reserved.ensures.items, c.reserve.ensures.items) (comes c.args.id c.args.stage Asked c.self.inside.steps.items c.self.inside.leases c.stand.new.self (becomes-twice c.args.id (Timed 0) c.args.stage c.self.inside.leases c.set.new.self c.stand.new.self c.in_ok-set-in-Still.ensures.set c.stand.ensures) (sym (ap quiet (sym c.stage.ensures ∙ c.in-Still.is))))

pub returns-in_default : goal.returns-in_default
returns-in_default c = record {
  placed = rw (← c.self.view_is, c.push_reserved-in_default.ensures.items, c.reserve.ensures.items) (comes c.args.id c.args.stage c.stage.result c.self.inside.steps.items c.self.inside.leases c.stand-in_default.new.self c.stand-in_default.ensures (ap quiet c.stage.ensures));
  kept = tt;
}
