-- The row whose renewer is asked next, as the code has it. docs/SPACE.md, Cases.
use Rattle.std.specs.Prelude.{List, [], ◌∷◌, Option, Some, None}
use Rattle.rinda_rules.specs.Cases as rules
use Rattle.rinda_rules.specs.Cases.{earlier}
use Rattle.rinda_audit.specs.declared.asking.Asking.{Asking}

abbrev pub best_seen : Option Asking → Option rules.Asking
best_seen None = None
best_seen (Some a) = Some (record { id = a.id; renewer = a.renewer })

-- the least of them and of that one
abbrev pub least_onto : List rules.Asking → Option rules.Asking → Option rules.Asking
least_onto [] best = best
least_onto (a ∷ rest) best = Some (earlier a (least_onto rest best))
