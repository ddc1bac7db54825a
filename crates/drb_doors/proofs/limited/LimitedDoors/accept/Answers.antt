use Rattle.std.proofs.Common.{◌∙◌, ap, Ok}
use Rattle.drb_doors.proofs.Limiting.{one_comes, none_comes}
use Rattle.drb_doors.proofs.limited.LimitedDoors.accept.Goals as goal

pub returns-in-Some-clause-guests : goal.returns-in-Some-clause-guests
returns-in-Some-clause-guests g c = one_comes _ _ _ _ _ _ _ _ c.is_used_up.ensures c.if-is_used_up.false c.one_fewer-self.ensures (c.in_ok-guest.was ∙ ap Ok c.in-Some.is) c.accept.ensures.guests

pub returns-in-None-clause-guests : goal.returns-in-None-clause-guests
returns-in-None-clause-guests g c = none_comes _ _ _ _ _ (c.in_ok-guest.was ∙ ap Ok c.in-None.is) c.accept.ensures.guests
