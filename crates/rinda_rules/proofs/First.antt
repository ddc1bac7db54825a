-- The first turn of a space.
use Rattle.std.proofs.Common.{ℕ, [], ◌∷◌, None, refl}
use Rattle.rinda_tuple.specs.declared.tuple.Tuple.{Tuple}
use Rattle.rinda_tuple.specs.declared.lease.Life.TheVariants.{Never}
use Rattle.rinda_rules.specs.declared.event.Event.TheVariants.{Write}
use Rattle.rinda_rules.specs.declared.out.Out.TheVariants.{Entry}
use Rattle.rinda_rules.specs.declared.turn.Turn.{Turn}
use Rattle.rinda_rules.specs.Phases.{aged}
use Rattle.rinda_rules.specs.Legal.{Legal}

-- the write of a tuple for ever, as the first turn
abbrev pub first_write : ℕ → ℕ → Tuple → Turn
first_write caller at value = record { caller = caller; at = at; event = Write value (record { life = Never; renewer = None }); out = Entry 1; picks = [] }

-- it is legal, whoever writes whatever tuple at whatever time
pub first_write_is_legal : (caller at : ℕ) (value : Tuple) → Legal (first_write caller at value ∷ [])
unfolding aged
first_write_is_legal caller at value = (record { something = refl; step = (refl, (refl, refl)); settled = record { nobody = refl; not_due = refl; kept = refl; closed = refl } }, tt)
