use Rattle.rinda_effects.proofs.Forming.{tuple_is_served_so}
use Rattle.rinda_effects.proofs.serving.tuple_is_served_so.Goals as goal

pub returns : goal.returns
returns c s t picks s' h here serve = tuple_is_served_so s t picks s' h.sound.numbered h.only here serve
