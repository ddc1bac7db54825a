use Rattle.std.proofs.Common.{refl, ap}
use Rattle.rinda_tables.specs.Tabled.{list_of}
use Rattle.rinda_tables.proofs.HoldingSame.{holds-same}
use Rattle.rinda_tables.proofs.tables.Tables.forget.Goals as goal

pub returns-clause-settles : goal.returns-clause-settles
returns-clause-settles c = record {
  ahead = λ s h. holds-same s (list_of c.args.self.now) _ h refl refl (ap (λ x. x.ahead) c.forget.ensures) (ap (λ x. x.ahead) c.forget-2.ensures) (ap (λ x. x.ahead) c.forget-3.ensures) (ap (λ x. x.ahead) c.forget-4.ensures) c.forget-5.ensures.ahead;
  list = λ s h. holds-same s (list_of c.args.self.now) _ h refl refl (ap (λ x. x.list) c.forget.ensures) (ap (λ x. x.list) c.forget-2.ensures) (ap (λ x. x.list) c.forget-3.ensures) (ap (λ x. x.list) c.forget-4.ensures) c.forget-5.ensures.list;
}
