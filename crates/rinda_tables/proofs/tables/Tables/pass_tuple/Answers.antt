use Rattle.std.proofs.Common.{◌∙◌, refl, ap}
use Rattle.drb_ids.specs.Ids.{ended_with}
use Rattle.rinda_rules.specs.declared.object.Last.TheVariants as last
use Rattle.rinda_tables.specs.Tabled.{ahead_of}
use Rattle.rinda_tables.proofs.HoldingPopped.{passed-tuple}
use Rattle.rinda_tables.proofs.tables.Tables.pass_tuple.Goals as goal

pub returns-clause-passed : goal.returns-clause-passed
returns-clause-passed c = λ s h. passed-tuple s (ahead_of c.args.self.now) _ c.in_ok-id.id h c.in_ok-id.ensures.id refl refl (c.end.ensures.ended ∙ ap (λ i. ended_with c.in_ok-id.id last.Expired i) c.in_ok-id.ensures.minted) refl refl refl (λ q. refl)
