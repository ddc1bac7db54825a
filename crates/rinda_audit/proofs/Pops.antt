-- What is popped from a queue, by its first event.
use Rattle.std.proofs.Common.{◌≡◌, ◌+◌, List, [], ◌∷◌, Some, None, refl, ap}
use Rattle.std.specs.Prelude.{option_map}
use Rattle.drb_tree.specs.declared.Tree.{Tree}
use Rattle.rinda_rules.specs.declared.out.Out.{Out}
use Rattle.rinda_rules.specs.declared.out.Out.TheVariants as out
use Rattle.rinda_rules.specs.declared.plain.Notifier.{Notifier}
use Rattle.rinda_rules.specs.declared.plain.Raised.{Raised}
use Rattle.rinda_rules.specs.Space.{Plain, event_value}
use Rattle.rinda_rules.specs.Phases.{with_notifier}
use Rattle.rinda_rules.specs.Cases.{answers, pop_queue, pop_empty}
use Rattle.rinda_audit.specs.Replays.{first}

pub pop_some : (s : Plain) (n : Notifier) (nothing : Out) (q : List Raised) (v : Tree) → Some v ≡ option_map event_value (first q) → pop_queue s n nothing q ≡ answers (with_notifier n.id (λ n. record n { popped = n.popped + 1 }) s) (out.Event v)
pop_some s n nothing [] v e = cc
pop_some s n nothing (x ∷ q) v e = let d : event_value x ≡ v = cc in ap (λ (w : Tree). answers (with_notifier n.id (λ n. record n { popped = n.popped + 1 }) s) (out.Event w)) d

pub pop_none : (s : Plain) (n : Notifier) (nothing : Out) (q : List Raised) → None ≡ option_map event_value (first q) → pop_queue s n nothing q ≡ pop_empty s n nothing n.state
pop_none s n nothing [] e = refl
pop_none s n nothing (x ∷ q) e = cc
